-- The laws of `specs/Rules.antt`, a case each: this crate's proofs cite them, and so do those above it. Assumes nothing.
use Rattle.std.specs.Prelude.{None, Option, Some}
use mathlib.Core.Path.{◌≡◌, refl, sym, ap, subst, ◌∙◌}
use Prim.Native.Nat.{ℕ, ◌+◌, ◌-◌, ◌*◌, ◌≤◌, ◌<◌}
use native.Mathlib.Omega.{arith}
use mathlib.Core.Bool.{Bool, true, false, not, ◌&&◌}
use mathlib.Core.List.{List, [], ◌∷◌, ◌++◌}
use native.Mathlib.Nat.{add-sub_cancel_left}
use lib.ListN.{length, take, drop, set, length-append, length-set}
use lib.Dec.{eqb}
use borrow.Author.Tests.{eq-eqb, ne_eqb}
use borrow.Rule.Slice.PartMut.{put_mid}
use Rattle.bluebook.specs.Layouts.{lv, lv_if, there}
use Rattle.refusal.specs.Answer.{gives, refuses, map_answer, also, Test}
use Rattle.refusal.proofs.Laws.{gives_same, also_refused, also_passed, also_both, also_mapped, limit_in, limit_passed}
use Rattle.splice.specs.Laid.{laid, same_bytes}
use Rattle.splice.specs.Writing.{Wrote}
use Rattle.splice.proofs.Laws.{laid_cons, laid_over, laid_behind, laid_none}
use Rattle.splice.proofs.Writing.{room_for_in, room_for_out, wrote, wrote_not, wrote_refused, wrote_passed}
use Rattle.lv.specs.Rules.{part_of, span_test, size_test}
use Rattle.lv.specs.Rules as lvs
use Rattle.lv.specs.declared.Lv.{Lv}
use Rattle.lv.proofs.Laws.{size_test_in, size_test_passed, span_test_in, span_test_passed, Sound, sound, write_test_passed, part_of_in, length-part_of}
use Rattle.action.specs.Rules.{code_of, due_of}
use Rattle.filestore_base.specs.Meaning.{Filed, kind_of, is_there, part_if, meaning, parts_of, value_of, filed_tlv}
use Rattle.filestore_base.specs.Rules.{size_if, span_if, len_if, due_test, parts_test, len_of, length_test, build_test, len_value, len_full, spans_test, write_test, write_base, same_if, same_octet, same_parts, same_base, FitsIf}
use Rattle.filestore_base.specs.declared.FilestoreTlvBase.{FilestoreTlvBase}

-- ---- single tests

pub size_if_passed : (s : Option Lv) → gives tt ≡ size_if s → len_if s ≤ 256
size_if_passed (Some l) e = omega (arith, size_test_passed l e)
size_if_passed None e = omega arith

-- the answer behind a test that was passed
pub behind : {a b t : Test} → gives tt ≡ a → t ≡ b → t ≡ also a b
behind {a} {b} p e = e ∙ sym (also_passed a b p)

-- ---- building

-- what is known of parts that passed
pub record Parts (b : FilestoreTlvBase) : Type 0 where
  pub first : b.first_name.len ≤ 255
  pub second : gives tt ≡ size_if b.second_name
  pub message : gives tt ≡ size_if b.message
  pub due : gives tt ≡ due_test (due_of b.action_code) b.second_name
  pub low : b.low_bits ≤ 15

module _ (b : FilestoreTlvBase) where
  pub parts : gives tt ≡ parts_test b → Parts b
  unfolding parts_test
  parts e =
      let p = also_both (size_test b.first_name) _ tt e in
      let q = also_both (size_if b.second_name) _ tt p.1 in
      let r = also_both (size_if b.message) _ tt q.1 in
      let s = also_both (due_test (due_of b.action_code) b.second_name) _ tt r.1 in
      record { first = size_test_passed b.first_name p.0; second = q.0; message = r.0; due = s.0; low = limit_passed 9 15 b.low_bits s.1 }

  pub parts_passed : Parts b → gives tt ≡ parts_test b
  unfolding parts_test
  parts_passed p = sym (rw (size_test_in b.first_name p.first, ← p.second, ← p.message, ← p.due, limit_in 9 15 b.low_bits p.low))

  pub build_test_refused : (n : ℕ) (vs : List ℕ) → refuses n vs ≡ parts_test b → refuses n vs ≡ build_test b
  unfolding build_test
  build_test_refused n vs e = also_refused (parts_test b) (length_test (len_of b)) n vs e

  pub build_test_length : gives tt ≡ parts_test b → build_test b ≡ length_test (len_of b)
  unfolding build_test
  build_test_length e = also_passed (parts_test b) (length_test (len_of b)) e

  pub built : gives tt ≡ build_test b → (gives tt ≡ parts_test b) × (len_of b ≤ 255)
  unfolding build_test
  built e =
      let p = also_both (parts_test b) (length_test (len_of b)) tt e in
      (p.0, limit_passed 5 255 (len_of b) p.1)

  pub build_passed : Parts b → len_of b ≤ 255 → gives tt ≡ build_test b
  build_passed p h = sym (build_test_length (parts_passed p) ∙ limit_in 5 255 (len_of b) h)

  pub len_value_refused : (n : ℕ) (vs : List ℕ) → refuses n vs ≡ build_test b → refuses n vs ≡ len_value b
  unfolding len_value
  len_value_refused n vs e = also_refused (build_test b) (gives (len_of b)) n vs e

  pub len_value_passed : gives tt ≡ build_test b → len_value b ≡ gives (len_of b)
  unfolding len_value
  len_value_passed e = also_passed (build_test b) (gives (len_of b)) e

  -- the whole is two bytes more
  pub len_full_passed : gives tt ≡ build_test b → len_full b ≡ gives (len_of b + 2)
  unfolding len_full
  len_full_passed e = also_passed (build_test b) (gives (len_of b + 2)) e

  pub len_full_is : len_full b ≡ map_answer (λ n. n + 2) (len_value b)
  unfolding len_full len_value
  len_full_is = also_mapped (build_test b) (λ n. n + 2) (gives (len_of b))

  pub len_value_gives : (n : ℕ) → gives n ≡ len_value b → n ≤ 255
  unfolding len_value
  len_value_gives n e =
      let p = also_both (build_test b) (gives (len_of b)) n e in
      omega (arith, (built p.0).1, gives_same n (len_of b) p.1)

-- ---- spans

-- a second name, or a message, that may be written
abbrev pub SoundIf : Option Lv → List ℕ → Type 0
SoundIf (Some l) src = gives tt ≡ lvs.write_test l src
SoundIf None src = Unit {0}

pub sound_if : (s : Option Lv) (src : List ℕ) → gives tt ≡ size_if s → gives tt ≡ span_if s src → SoundIf s src
sound_if (Some l) src p q = write_test_passed l src (size_test_passed l p) (span_test_passed l src q)
sound_if None src p q = tt

-- it takes the bytes that its length says
pub length_if : (s : Option Lv) (src : List ℕ) → gives tt ≡ span_if s src → length (lv_if (part_if s src)) ≡ len_if s
length_if (Some l) src e = omega (arith, length-part_of l src (span_test_passed l src e))
length_if None src e = refl

pub fits_if : (s : Option Lv) (src : List ℕ) (at n : ℕ) → SoundIf s src → at + len_if s ≤ n → FitsIf s src at n
fits_if (Some l) src at n h k = (h, k)
fits_if None src at n h k = tt

-- what is known of one that is there and fits
pub fits : (s : Option Lv) (l : Lv) (src : List ℕ) (at n : ℕ) → s ≡ Some l → FitsIf s src at n → Sound l src × (at + (l.len + 1) ≤ n)
fits s l src at n e h =
    let f : FitsIf (Some l) src at n = subst (λ (x : Option Lv). FitsIf x src at n) e h in
    (sound l src f.0, f.1)

-- what is there is laid as an LV, the length byte and then the value, and what is absent changes nothing
pub put_there : (s : Option Lv) (l : Lv) (src old new : List ℕ) (at : ℕ) → s ≡ Some l → FitsIf s src at (length old)
    → new ≡ take (l.start + l.len - l.start) (drop l.start src)
    → put_mid (at + 1) (at + 1 + l.len - (at + 1)) (set old at l.len) new ≡ laid at (lv_if (part_if s src)) old
put_there s l src old new at e h w =
    let f = fits s l src at (length old) e h in
    let d = set old at l.len in
    let p : new ≡ part_of l src = w ∙ rw add-sub_cancel_left (sym (part_of_in l src f.0.inside)) in
    let n : l.len ≡ length (part_of l src) = sym f.0.size in
    ap (put_mid (at + 1) (at + 1 + l.len - (at + 1)) d) p
    ∙ (λ i. put_mid (at + 1) (at + 1 + n i - (at + 1)) (set old at (n i)) (part_of l src))
    ∙ laid_over (at + 1) (part_of l src) (set old at (length (part_of l src)))
    ∙ laid_cons at (length (part_of l src)) (part_of l src) old (omega (arith, f.1, n))
    ∙ ap (λ (x : Option Lv). laid at (lv_if (part_if x src)) old) (sym e)

pub put_absent : (s : Option Lv) (src old : List ℕ) (at : ℕ) → s ≡ None → old ≡ laid at (lv_if (part_if s src)) old
put_absent s src old at e = sym (ap (λ (x : Option Lv). laid at (lv_if (part_if x src)) old) e ∙ laid_none at old)

pub there_if : (s : Option Lv) (src : List ℕ) → there (part_if s src) ≡ is_there s
there_if (Some l) src = refl
there_if None src = refl

pub record Spans (b : FilestoreTlvBase) (bs : List ℕ) : Type 0 where
  pub first : b.first_name.start + b.first_name.len ≤ length bs
  pub second : gives tt ≡ span_if b.second_name bs
  pub message : gives tt ≡ span_if b.message bs

module _ (b : FilestoreTlvBase) (bs : List ℕ) where
  pub spans : gives tt ≡ spans_test b bs → Spans b bs
  unfolding spans_test
  spans e =
      let p = also_both (span_test b.first_name bs) _ tt e in
      let q = also_both (span_if b.second_name bs) _ tt p.1 in
      record { first = span_test_passed b.first_name bs p.0; second = q.0; message = q.1 }

  pub spans_passed : Spans b bs → gives tt ≡ spans_test b bs
  unfolding spans_test
  spans_passed s = sym (rw (span_test_in b.first_name bs s.first, ← s.second, ← s.message))

  -- the value's length is that of its parts
  pub length-value : Spans b bs → length (value_of (meaning b bs)) ≡ len_of b
  length-value s =
      omega (
        arith,
        length-append (part_of b.first_name bs ++ lv_if (part_if b.second_name bs)) (lv_if (part_if b.message bs)),
        length-append (part_of b.first_name bs) (lv_if (part_if b.second_name bs)),
        length-part_of b.first_name bs s.first,
        length_if b.second_name bs s.second,
        length_if b.message bs s.message,
      )

-- ---- writing

-- what is known of what may be written
pub record Writable (b : FilestoreTlvBase) (src : List ℕ) : Type 0 where
  pub built : gives tt ≡ build_test b
  pub whole : Parts b
  pub size : len_of b ≤ 255
  pub spans : Spans b src

pub writable : (b : FilestoreTlvBase) (src : List ℕ) → gives tt ≡ write_test b src → Writable b src
unfolding write_test
writable b src e =
    let p = also_both (build_test b) (spans_test b src) tt e in
    let q = built b p.0 in
    record { built = p.0; whole = parts b q.0; size = q.1; spans = spans b src p.1 }

pub write_test_is : (b : FilestoreTlvBase) (src : List ℕ) → also (build_test b) (spans_test b src) ≡ write_test b src
unfolding write_test
write_test_is b src = refl

pub write_passed : (b : FilestoreTlvBase) (src : List ℕ) → gives tt ≡ build_test b → Spans b src → gives tt ≡ write_test b src
write_passed b src e s = spans_passed b src s ∙ sym (also_passed (build_test b) (spans_test b src) e) ∙ write_test_is b src

module _ (b : FilestoreTlvBase) (src old : List ℕ) where
  pub write_base_refused : (n : ℕ) (vs : List ℕ) → refuses n vs ≡ write_test b src → Wrote 0 (write_base b src (length old)) (refuses n vs) old old
  unfolding write_base
  write_base_refused n vs e = wrote_refused 0 old (write_test b src) _ n vs e

  module _ (fine : gives tt ≡ write_test b src) where
    pub length-tlv : length (filed_tlv (meaning b src)) ≡ len_of b + 2
    length-tlv = omega (arith, length-value b src (writable b src fine).spans)

    pub write_base_small : (n : ℕ) → n ≡ len_of b → length old < n + 2 → Wrote 0 (write_base b src (length old)) (refuses 2 (length old ∷ (n + 2) ∷ [])) old old
    unfolding write_base
    write_base_small n e h =
        let k : length (filed_tlv (meaning b src)) ≡ n + 2 = length-tlv ∙ ap (λ (j : ℕ). j + 2) (sym e) in
        wrote_passed fine
        (wrote_not 0 old _ 2 (length old ∷ (n + 2) ∷ [])
        (sym (room_for_out (length old) (filed_tlv (meaning b src)) (omega arith) ∙ ap (λ (j : ℕ). refuses 2 (length old ∷ j ∷ [])) k)))

    -- names and message laid one behind the other
    pub parts_laid : (at next : ℕ) (d₁ d₂ d₃ : List ℕ) → len_of b + 2 ≤ length old → at ≡ b.first_name.len + 4 → next ≡ at + len_if b.second_name
        → d₁ ≡ laid 3 (lv (part_of b.first_name src)) old → d₂ ≡ laid at (lv_if (part_if b.second_name src)) d₁ → d₃ ≡ laid next (lv_if (part_if b.message src)) d₂
        → d₃ ≡ laid 3 (parts_of (meaning b src)) old
    parts_laid at next d₁ d₂ d₃ room a n e₁ e₂ e₃ =
        let s = (writable b src fine).spans in
        let v = lv (part_of b.first_name src) in
        let x = lv_if (part_if b.second_name src) in
        let y = lv_if (part_if b.message src) in
        let lv-is = length-part_of b.first_name src s.first in
        let lx = length_if b.second_name src s.second in
        let ly = length_if b.message src s.message in
        let p : at ≡ 3 + length v = omega (arith, lv-is) in
        let q : next ≡ 3 + length (v ++ x) = omega (arith, lv-is, lx, length-append v x) in
        e₃ ∙ ap (laid next y) (e₂ ∙ ap (laid at x) e₁ ∙ ap (λ (k : ℕ). laid k x (laid 3 v old)) p ∙ laid_behind 3 v x old (omega (arith, lv-is, lx)))
        ∙ ap (λ (k : ℕ). laid k y (laid 3 (v ++ x) old)) q ∙ laid_behind 3 (v ++ x) y old (omega (arith, lv-is, lx, ly, length-append v x))

    -- the head stored, which is three bytes, and the parts laid behind it
    pub write_base_room : (n : ℕ) (head new : List ℕ) → len_of b + 2 ≤ length old → n ≡ len_of b
        → head ≡ set (set (set old 0 (kind_of (is_there b.message))) 1 (len_of b)) 2 (code_of b.action_code * 16 + b.low_bits)
        → new ≡ laid 3 (parts_of (meaning b src)) head → Wrote 0 (write_base b src (length old)) (gives (n + 2)) old new
    unfolding write_base
    write_base_room n head new room en eh e =
        let m = meaning b src in
        let t = kind_of (is_there b.message) in
        let l = len_of b in
        let o = code_of b.action_code * 16 + b.low_bits in
        let v = length-value b src (writable b src fine).spans in
        let k : length (set old 0 t) ≡ length old = length-set old 0 t in
        let j : length (set (set old 0 t) 1 l) ≡ length old = length-set (set old 0 t) 1 l ∙ k in
        wrote_passed fine
        (wrote 0 old _ (filed_tlv m) new (n + 2) (room_for_in (length old) (filed_tlv m) (omega (arith, length-tlv))) (ap (λ (j : ℕ). j + 2) en ∙ sym length-tlv)
        (e ∙ ap (laid 3 (parts_of m)) eh
        ∙ laid_cons 2 o (parts_of m) (set (set old 0 t) 1 l) (omega (arith, v, j))
        ∙ laid_cons 1 l (o ∷ parts_of m) (set old 0 t) (omega (arith, v, k))
        ∙ laid_cons 0 t (l ∷ o ∷ parts_of m) old (omega (arith, v))
        ∙ (λ i. laid 0 (ap kind_of (sym (there_if b.message src)) i ∷ sym v i ∷ o ∷ parts_of m) old)))

-- ---- comparing

pub same_if_absent : (s : Option Lv) (bs : List ℕ) → not (is_there s) ≡ same_if None (part_if s bs)
same_if_absent (Some l) bs = refl
same_if_absent None bs = refl

module _ (b c : FilestoreTlvBase) where
  pub same_octet_on : code_of b.action_code ≡ code_of c.action_code → eqb b.low_bits c.low_bits ≡ same_octet b c
  unfolding same_octet
  same_octet_on e = rw (eq-eqb _ _ e)

  pub same_octet_off : (code_of b.action_code ≡ code_of c.action_code → ⊥) → false ≡ same_octet b c
  unfolding same_octet
  same_octet_off e = rw (ne_eqb _ _ e)

module _ (m n : Filed) where
  pub same_parts_first : same_bytes m.first n.first ≡ false → false ≡ same_parts m n
  unfolding same_parts
  same_parts_first e = rw e

  pub same_parts_second : same_bytes m.first n.first ≡ true → same_if m.second n.second ≡ false → false ≡ same_parts m n
  unfolding same_parts
  same_parts_second e f = rw (e, f)

  pub same_parts_message : same_bytes m.first n.first ≡ true → same_if m.second n.second ≡ true → same_if m.message n.message ≡ same_parts m n
  unfolding same_parts
  same_parts_message e f = rw (e, f)

module _ (b : FilestoreTlvBase) (x : List ℕ) (c : FilestoreTlvBase) (y : List ℕ) where
  pub same_base_refused : (n : ℕ) (vs : List ℕ) → refuses n vs ≡ also (spans_test b x) (spans_test c y) → refuses n vs ≡ same_base b x c y
  unfolding same_base
  same_base_refused n vs e = also_refused _ _ n vs e

  pub same_base_is : gives tt ≡ also (spans_test b x) (spans_test c y) → same_base b x c y ≡ gives (same_octet b c && same_parts (meaning b x) (meaning c y))
  unfolding same_base
  same_base_is e = also_passed _ _ e

  module _ (e : gives tt ≡ also (spans_test b x) (spans_test c y)) where
    pub same_base_octet : same_octet b c ≡ false → gives false ≡ same_base b x c y
    same_base_octet f = ap (λ (t : Bool). gives (t && same_parts (meaning b x) (meaning c y))) (sym f) ∙ sym (same_base_is e)

    pub same_base_parts : (t : Bool) → same_octet b c ≡ true → same_parts (meaning b x) (meaning c y) ≡ t → gives t ≡ same_base b x c y
    same_base_parts t f g = (λ i. gives (sym f i && sym g i)) ∙ sym (same_base_is e)
