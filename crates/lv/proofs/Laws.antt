-- The laws of `specs/Rules.antt`, a case each: this crate's proofs cite them, and so do those above it. Assumes nothing.
use mathlib.Core.Path.{◌≡◌, refl, sym, ap, subst, ◌∙◌}
use Prim.Native.Nat.{ℕ, suc, ◌+◌, ◌-◌, ◌≤◌, ◌<◌}
use native.Mathlib.Omega.{arith}
use native.Mathlib.Nat.{sub-zero}
use native.Mathlib.Numerals.{add-one}
use mathlib.Core.List.{List, [], ◌∷◌}
use lib.ListN.{length, take, drop, get_or, set, length-drop}
use lib.Seq.{length-take-le, take-length, slice, slice-cons, length-slice}
use lib.Dec.{leb}
use borrow.Author.Tests.{le-leb, lt-leb, leb-true}
use Rattle.bluebook.specs.Layouts.{lv}
use Rattle.refusal.specs.Answer.{Answer, gives, refuses, short_at, map_answer, also, RefusedBy, place_test}
use Rattle.refusal.specs.Reader.{took}
use Rattle.refusal.proofs.Laws.{also_passed, also_refused, also_both, also_assoc, pick_passed, refused_pick, limit_in, limit_over, limit_passed, place_test_in, place_test_out, place_test_passed}
use Rattle.splice.specs.Laid.{laid, same_bytes}
use Rattle.splice.specs.Writing.{room_for, Wrote}
use Rattle.splice.proofs.Laws.{laid_cons}
use Rattle.splice.proofs.Writing.{room_for_in, room_for_out, room_at_there, wrote, wrote_not, wrote_refused, wrote_passed, wrote_laid}
use Rattle.lv.specs.Rules.{span, part_of, span_test, size_test, new_lv, len_full, take_lv, read_lv, read_lv_at, write_test, write_lv, write_lv_at, same_lv}
use Rattle.lv.specs.declared.Lv.{Lv}

-- ---- a span of a buffer

module _ (l : Lv) (bs : List ℕ) where
  pub part_of_in : l.start + l.len ≤ length bs → part_of l bs ≡ take l.len (drop l.start bs)
  unfolding part_of
  part_of_in h = simp (le-leb _ _ h)

  pub part_of_out : length bs < l.start + l.len → part_of l bs ≡ []
  unfolding part_of
  part_of_out h = simp (lt-leb _ _ h)

  pub length-part_of : l.start + l.len ≤ length bs → length (part_of l bs) ≡ l.len
  length-part_of h =
      ap length (part_of_in h) ∙ length-take-le l.len (drop l.start bs) (omega (arith, length-drop l.start bs))

  pub span_test_in : l.start + l.len ≤ length bs → span_test l bs ≡ gives tt
  unfolding span_test
  span_test_in h = simp (le-leb _ _ h)

  pub span_test_out : length bs < l.start + l.len → span_test l bs ≡ refuses 15 (l.start ∷ [])
  unfolding span_test
  span_test_out h = simp (lt-leb _ _ h)

  pub span_test_passed : gives tt ≡ span_test l bs → l.start + l.len ≤ length bs
  unfolding span_test
  span_test_passed e = leb-true _ _ (pick_passed (leb (l.start + l.len) (length bs)) 15 (l.start ∷ []) e)

-- ---- building

pub size_test_in : (l : Lv) → l.len ≤ 255 → size_test l ≡ gives tt
unfolding size_test
size_test_in l h = limit_in 4 255 l.len h

pub size_test_over : (l : Lv) → 255 < l.len → size_test l ≡ refuses 4 (l.len ∷ [])
unfolding size_test
size_test_over l h = limit_over 4 255 l.len h

pub size_test_passed : (l : Lv) → gives tt ≡ size_test l → l.len ≤ 255
unfolding size_test
size_test_passed l e = limit_passed 4 255 l.len e

pub new_lv_in : (start len : ℕ) → len ≤ 255 → new_lv start len ≡ gives (span start len)
unfolding new_lv
new_lv_in start len h = rw (size_test_in (span start len) h)

pub new_lv_over : (start len : ℕ) → 255 < len → new_lv start len ≡ refuses 4 (len ∷ [])
unfolding new_lv
new_lv_over start len h = rw (size_test_over (span start len) h)

pub len_full_in : (l : Lv) → l.len ≤ 255 → len_full l ≡ gives (l.len + 1)
unfolding len_full
len_full_in l h = rw (size_test_in l h)

pub len_full_over : (l : Lv) → 255 < l.len → len_full l ≡ refuses 4 (l.len ∷ [])
unfolding len_full
len_full_over l h = rw (size_test_over l h)

-- ---- reading

module _ (at : ℕ) where
  pub take_lv_none : (bs : List ℕ) → length bs < 1 → take_lv at bs ≡ short_at at 0 1
  unfolding take_lv
  take_lv_none [] h = refl
  take_lv_none (x ∷ bs) h = absurd (omega arith)

  pub take_lv_short : (x : ℕ) (bs : List ℕ) → length bs < x → take_lv at (x ∷ bs) ≡ short_at at (length (x ∷ bs)) (x + 1)
  unfolding take_lv
  take_lv_short x bs k = simp (lt-leb x (length bs) k)

  pub take_lv_whole : (x : ℕ) (bs : List ℕ) → x ≤ length bs → take_lv at (x ∷ bs) ≡ gives (took (take x bs) (drop x bs))
  unfolding take_lv
  take_lv_whole x bs k = simp (le-leb x (length bs) k)

  -- its only refusal is 1
  pub take_lv_refusals : (P : ℕ → Type 0) → P 1 → (bs : List ℕ) → RefusedBy P (take_lv at bs)
  unfolding take_lv
  take_lv_refusals P one [] = one
  take_lv_refusals P one (len ∷ bs) = refused_pick P (leb len (length bs)) _ _ tt one

-- ---- reading at a place

module _ (bs : List ℕ) (at end : ℕ) where
  pub read_lv_at_end : length bs < end → read_lv_at bs at end ≡ refuses 15 (end ∷ [])
  unfolding read_lv_at
  read_lv_at_end h = rw (place_test_out end (length bs) h)

  module _ (inner : end ≤ length bs) where
    pub read_lv_at_at : end < at → read_lv_at bs at end ≡ refuses 15 (at ∷ [])
    unfolding read_lv_at
    read_lv_at_at h = rw (place_test_in end (length bs) inner, place_test_out at end h)

    pub read_lv_at_in : at ≤ end → read_lv_at bs at end ≡ map_answer (λ t. span (at + 1) (length t.got)) (take_lv at (slice at end bs))
    unfolding read_lv_at
    read_lv_at_in h = rw (place_test_in end (length bs) inner, place_test_in at end h)

    pub read_lv_at_none : at ≤ end → end - at < 1 → read_lv_at bs at end ≡ short_at at (end - at) 1
    read_lv_at_none h k =
        let z : 0 ≡ end - at = omega arith in
        read_lv_at_in h ∙ ap (map_answer _) (take_lv_none at (slice at end bs) (omega (arith, length-slice at end bs inner))) ∙ ap (λ (n : ℕ). short_at at n 1) z

    pub read_lv_at_short : at < end → end - at < get_or bs at 0 + 1 → read_lv_at bs at end ≡ short_at at (end - at) (get_or bs at 0 + 1)
    read_lv_at_short h k =
        let s = slice-cons at end bs 0 h inner in
        let n = length-slice at end bs inner in
        read_lv_at_in (omega arith)
        ∙ ap (map_answer _)
        (ap (take_lv at) s
        ∙ take_lv_short at (get_or bs at 0) (slice (suc at) end bs) (omega (arith, ap length s))
        ∙ ap (λ (m : ℕ). short_at at m (get_or bs at 0 + 1)) (sym (ap length s) ∙ n))

    pub read_lv_at_whole : at < end → get_or bs at 0 + 1 ≤ end - at → read_lv_at bs at end ≡ gives (span (at + 1) (get_or bs at 0))
    read_lv_at_whole h k =
        let s = slice-cons at end bs 0 h inner in
        let n = length-slice at end bs inner in
        let j : get_or bs at 0 ≤ length (slice (suc at) end bs) = omega (arith, ap length s) in
        read_lv_at_in (omega arith)
        ∙ ap (map_answer _) (ap (take_lv at) s ∙ take_lv_whole at (get_or bs at 0) (slice (suc at) end bs) j)
        ∙ ap (λ (m : ℕ). gives (span (at + 1) m)) (length-take-le (get_or bs at 0) (slice (suc at) end bs) j)

-- what is given was read between places of the buffer
pub read_lv_at_places : (bs : List ℕ) (at end : ℕ) (l : Lv) → read_lv_at bs at end ≡ gives l → (at ≤ end) × (end ≤ length bs)
unfolding read_lv_at
read_lv_at_places bs at end l e =
    let a = also_both (place_test end (length bs)) _ l (sym e) in
    let b = also_both (place_test at end) _ l a.1 in
    (place_test_passed at end b.0, place_test_passed end (length bs) a.0)

-- all of a buffer
pub read_lv_at_all : (bs : List ℕ) → read_lv_at bs 0 (length bs) ≡ read_lv bs
unfolding read_lv
read_lv_at_all bs = read_lv_at_in bs 0 (length bs) (omega arith) (omega arith) ∙ rw take-length

-- ---- writing

pub write_test_is : (l : Lv) (src : List ℕ) → write_test l src ≡ also (size_test l) (span_test l src)
unfolding write_test
write_test_is l src = refl

-- what is known of a span that may be written
pub record Sound (l : Lv) (src : List ℕ) : Type 0 where
  pub small : l.len ≤ 255
  pub inside : l.start + l.len ≤ length src
  pub size : length (part_of l src) ≡ l.len

pub sound : (l : Lv) (src : List ℕ) → gives tt ≡ write_test l src → Sound l src
sound l src e =
    let b = also_both (size_test l) (span_test l src) tt (e ∙ write_test_is l src) in
    let k = span_test_passed l src b.1 in
    record { small = size_test_passed l b.0; inside = k; size = length-part_of l src k }

pub write_test_passed : (l : Lv) (src : List ℕ) → l.len ≤ 255 → l.start + l.len ≤ length src → gives tt ≡ write_test l src
write_test_passed l src h k = sym (write_test_is l src ∙ rw (size_test_in l h, span_test_in l src k))

-- the writer to a slice is the writer at its front
pub write_lv_at_front : (l : Lv) (src : List ℕ) (n : ℕ) → write_lv_at l src 0 n ≡ write_lv l src n
unfolding write_test write_lv write_lv_at
write_lv_at_front l src n = rw (place_test_in 0 n (omega arith), sub-zero n) (sym (also_assoc (size_test l) (span_test l src) _))

-- where it may be written and the place is there, the room decides
pub write_lv_at_there : (l : Lv) (src : List ℕ) (at n : ℕ) → gives tt ≡ write_test l src → at ≤ n → write_lv_at l src at n ≡ room_for (n - at) (lv (part_of l src))
unfolding write_lv_at
write_lv_at_there l src at n fine there =
    let b = also_both (size_test l) (span_test l src) tt (fine ∙ write_test_is l src) in
    rw (← b.0, place_test_in at n there, ← b.1)

module _ (l : Lv) (src old : List ℕ) (at : ℕ) where
  pub write_lv_at_size : (n : ℕ) (vs : List ℕ) → refuses n vs ≡ size_test l → Wrote at (write_lv_at l src at (length old)) (refuses n vs) old old
  unfolding write_lv_at
  write_lv_at_size n vs e = wrote_refused at old (size_test l) _ n vs e

  module _ (small : gives tt ≡ size_test l) where
    pub write_lv_at_past : length old < at → Wrote at (write_lv_at l src at (length old)) (refuses 15 (at ∷ [])) old old
    unfolding write_lv_at
    write_lv_at_past h = wrote_passed small (wrote_refused at old (place_test at (length old)) _ 15 (at ∷ []) (sym (place_test_out at (length old) h)))

    pub write_lv_at_span : at ≤ length old → (n : ℕ) (vs : List ℕ) → refuses n vs ≡ span_test l src → Wrote at (write_lv_at l src at (length old)) (refuses n vs) old old
    unfolding write_lv_at
    write_lv_at_span h n vs e = wrote_passed small (wrote_passed (sym (place_test_in at (length old) h)) (wrote_refused at old (span_test l src) _ n vs e))

  module _ (fine : gives tt ≡ write_test l src) (there : at ≤ length old) (v : List ℕ) (part : v ≡ part_of l src) where
    pub write_lv_at_small : length old - at < length v + 1 → Wrote at (write_lv_at l src at (length old)) (refuses 2 ((length old - at) ∷ (length v + 1) ∷ [])) old old
    write_lv_at_small h =
        wrote_not at old _ 2 ((length old - at) ∷ (length v + 1) ∷ [])
        (sym (write_lv_at_there l src at (length old) fine there ∙ rw (← part) (room_for_out (length old - at) (lv v) (omega (arith, add-one (length v))) ∙ rw add-one)))

    pub write_lv_at_room : (new : List ℕ) → length v + 1 ≤ length old - at → new ≡ laid (at + 1) v (set old at (length v)) → Wrote at (write_lv_at l src at (length old)) (gives (length v + 1)) old new
    write_lv_at_room new h e =
        wrote at old _ (lv v) new (length v + 1) (write_lv_at_there l src at (length old) fine there ∙ rw (← part) (room_for_in (length old - at) (lv v) (omega arith))) (add-one (length v))
        (e ∙ laid_cons at (length v) v old (omega arith))

-- for a writer above: where the span may be written and there is room, the LV is laid
pub write_lv_at_laid : (l : Lv) (src old new : List ℕ) (at : ℕ) {told : Answer ℕ} → gives tt ≡ write_test l src → at + (l.len + 1) ≤ length old
    → Wrote at (write_lv_at l src at (length old)) told old new → new ≡ laid at (lv (part_of l src)) old
write_lv_at_laid l src old new at {told} fine h w =
    wrote_laid at (lv (part_of l src)) old new (omega (arith, (sound l src fine).size))
    (subst (λ (x : Answer (List ℕ)). Wrote at x told old new)
    (write_lv_at_there l src at (length old) fine (omega arith) ∙ sym (room_at_there at (length old) (lv (part_of l src)) (omega arith))) w)

-- ---- comparing

module _ (l : Lv) (a : List ℕ) (m : Lv) (b : List ℕ) where
  pub same_lv_refused : (n : ℕ) (vs : List ℕ) → refuses n vs ≡ also (span_test l a) (span_test m b) → refuses n vs ≡ same_lv l a m b
  unfolding same_lv
  same_lv_refused n vs e = also_refused _ _ n vs e

  pub same_lv_passed : gives tt ≡ also (span_test l a) (span_test m b) → same_lv l a m b ≡ gives (same_bytes (part_of l a) (part_of m b))
  unfolding same_lv
  same_lv_passed e = also_passed _ _ e
