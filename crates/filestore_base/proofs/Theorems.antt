-- WHAT THE RULES OF BUILDING, WRITING AND COMPARING MEAN, for requests and responses at once: what is written is the layout of what is meant,
-- exactly where it can be, and `Same` is equality of meanings. Assumes nothing.
use Rattle.lv.specs.declared.Lv.{Lv}
use Rattle.std.specs.Prelude.{None, Option, Some}
use mathlib.Core.Path.{◌≡◌, refl, sym, ap, subst, ◌∙◌}
use Prim.Native.Nat.{ℕ, ◌+◌, ◌≤◌}
use native.Mathlib.Omega.{arith}
use mathlib.Core.Logic.{◌↔◌}
use mathlib.Core.Bool.{Bool, true, false, ◌&&◌, true≢false, false≢true}
use mathlib.Core.List.{List, []}
use lib.ListN.{length}
use lib.Dec.{eqb}
use borrow.Author.Tests.{eq-eqb, eqb-true}
use Rattle.bluebook.specs.Layouts.{there}
use Rattle.refusal.specs.Answer.{gives, also}
use Rattle.refusal.proofs.Laws.{gives_same, gives_or_refuses, also_both, also_passed}
use Rattle.splice.specs.Laid.{same_bytes}
use Rattle.splice.proofs.Laws.{same_equal}
use Rattle.splice.proofs.Writing.{gives_room}
use Rattle.lv.proofs.Laws.{size_test_in}
use Rattle.action.specs.Rules.{due_of}
use Rattle.filestore_base.specs.Meaning.{Filed, filed, is_there, meaning, filed_tlv}
use Rattle.filestore_base.specs.Rules.{size_if, len_if, due_test, len_of, build_test, len_full, spans_test, write_test, write_base, same_if, same_octet, same_parts, same_base}
use Rattle.filestore_base.specs.declared.FilestoreTlvBase.{FilestoreTlvBase}
use Rattle.filestore_base.proofs.Laws.{parts, built, build_passed, Spans, spans, spans_passed, writable, write_passed, length-tlv, len_full_passed, same_base_is}

-- ---- BUILDING: a second name exactly where the action has one, a status of four bits, and a value of at most 255 bytes

pub record Buildable (b : FilestoreTlvBase) : Type 0 where
  pub due : is_there b.second_name ≡ due_of b.action_code
  pub low : b.low_bits ≤ 15
  pub size : len_of b ≤ 255

due_there : (d : Bool) (s : Option Lv) → gives tt ≡ due_test d s → is_there s ≡ d
due_there true (Some l) e = refl
due_there true None e = absurd (gives_or_refuses tt 6 [] e)
due_there false (Some l) e = absurd (gives_or_refuses tt 8 [] e)
due_there false None e = refl

there_due : (d : Bool) (s : Option Lv) → is_there s ≡ d → gives tt ≡ due_test d s
there_due true (Some l) e = refl
there_due true None e = absurd (false≢true e)
there_due false (Some l) e = absurd (true≢false e)
there_due false None e = refl

small_if : (s : Option Lv) → len_if s ≤ 256 → gives tt ≡ size_if s
small_if (Some l) h = sym (size_test_in l (omega arith))
small_if None h = refl

pub builds : (b : FilestoreTlvBase) → (gives tt ≡ build_test b) ↔ Buildable b
builds b = (
  λ e.
      let p = built b e in
      let q = parts b p.0 in
      record { due = due_there (due_of b.action_code) b.second_name q.due; low = q.low; size = p.1 },
  λ h.
      build_passed b (record {
        first = omega (arith, h.size);
        second = small_if b.second_name (omega (arith, h.size));
        message = small_if b.message (omega (arith, h.size));
        due = there_due (due_of b.action_code) b.second_name h.due;
        low = h.low;
      })
      h.size,
)

-- ---- WRITING: the layout of what is meant, exactly where it can be built, its spans lie in the source, and there is room

pub record Writes (b : FilestoreTlvBase) (src : List ℕ) (n : ℕ) (bs : List ℕ) : Type 0 where
  pub buildable : Buildable b
  pub inside : Spans b src
  pub room : length (filed_tlv (meaning b src)) ≤ n
  pub bytes : bs ≡ filed_tlv (meaning b src)

pub writes : (b : FilestoreTlvBase) (src : List ℕ) (n : ℕ) (bs : List ℕ) → (write_base b src n ≡ gives bs) ↔ Writes b src n bs
unfolding write_base
writes b src n bs = (
  λ e.
      let g = (gives_room (write_test b src) n (filed_tlv (meaning b src)) bs).0 e in
      let w = writable b src g.0 in
      record { buildable = (builds b).0 w.built; inside = w.spans; room = g.1; bytes = g.2 },
  λ h. (gives_room (write_test b src) n (filed_tlv (meaning b src)) bs).1 (write_passed b src ((builds b).1 h.buildable) h.inside, h.room, h.bytes),
)

-- the same with the layout in other words
pub writes_as : (b : FilestoreTlvBase) (src : List ℕ) (n : ℕ) (bs layout : List ℕ) → filed_tlv (meaning b src) ≡ layout
    → (write_base b src n ≡ gives bs) ↔ (Buildable b × Spans b src × (length layout ≤ n) × (bs ≡ layout))
writes_as b src n bs layout e = (
  λ g.
      let w = (writes b src n bs).0 g in
      (w.buildable, w.inside, subst (λ (l : List ℕ). length l ≤ n) e w.room, w.bytes ∙ e),
  λ h.
      (writes b src n bs).1 (record { buildable = h.0; inside = h.1; room = subst (λ (l : List ℕ). length l ≤ n) (sym e) h.2; bytes = h.3 ∙ sym e }),
)

-- the length told is the length written
pub written_length : (b : FilestoreTlvBase) (src : List ℕ) (n : ℕ) (bs : List ℕ) → write_base b src n ≡ gives bs → len_full b ≡ gives (length bs)
written_length b src n bs e =
    let w = (writes b src n bs).0 e in
    let k : len_of b + 2 ≡ length bs = sym (ap length w.bytes ∙ length-tlv b src [] (write_passed b src ((builds b).1 w.buildable) w.inside)) in
    len_full_passed b ((builds b).1 w.buildable) ∙ ap gives k

-- ---- COMPARING: `Same` says that all spans lie in their buffers and that the meanings are equal

both : (p q : Bool) → p && q ≡ true → (p ≡ true) × (q ≡ true)
both true q e = (refl, e)
both false q e = absurd (false≢true e)

same_if_lem : (x y : Option (List ℕ)) → (same_if x y ≡ true) ↔ (x ≡ y)
same_if_lem (Some v) (Some w) = (λ e. ap Some ((same_equal v w).0 e), λ e. (same_equal v w).1 (some_same v w e))
  where
    some_same : (v w : List ℕ) → Some v ≡ Some w → v ≡ w
    some_same v w e = cc
same_if_lem (Some v) None = (λ e. absurd (false≢true e), λ e. absurd (true≢false (ap there e)))
same_if_lem None (Some w) = (λ e. absurd (false≢true e), λ e. absurd (false≢true (ap there e)))
same_if_lem None None = (λ e. refl, λ e. refl)

module _ (b : FilestoreTlvBase) (x : List ℕ) (c : FilestoreTlvBase) (y : List ℕ) where
  m : Filed
  m = meaning b x

  n : Filed
  n = meaning c y

  compared : (same_octet b c && same_parts (meaning b x) (meaning c y) ≡ true) ↔ (meaning b x ≡ meaning c y)
  unfolding same_octet same_parts m n
  compared = (only, made)
    where
      only : same_octet b c && same_parts m n ≡ true → m ≡ n
      only e =
          let p = both (same_octet b c) (same_parts m n) e in
          let q = both (eqb m.action n.action) (eqb m.low n.low) p.0 in
          let r = both (same_bytes m.first n.first && same_if m.second n.second) (same_if m.message n.message) p.1 in
          let s = both (same_bytes m.first n.first) (same_if m.second n.second) r.0 in
          λ i. filed (eqb-true m.action n.action q.0 i) (eqb-true m.low n.low q.1 i) ((same_equal m.first n.first).0 s.0 i)
          ((same_if_lem m.second n.second).0 s.1 i) ((same_if_lem m.message n.message).0 r.1 i)

      made : m ≡ n → same_octet b c && same_parts m n ≡ true
      made e =
          rw (
            eq-eqb m.action n.action (ap (λ (f : Filed). f.action) e),
            eq-eqb m.low n.low (ap (λ (f : Filed). f.low) e),
            (same_equal m.first n.first).1 (ap (λ (f : Filed). f.first) e),
            (same_if_lem m.second n.second).1 (ap (λ (f : Filed). f.second) e),
            (same_if_lem m.message n.message).1 (ap (λ (f : Filed). f.message) e),
          )

  pub same_means : (same_base b x c y ≡ gives true) ↔ (Spans b x × Spans c y × (meaning b x ≡ meaning c y))
  unfolding same_base
  same_means = (
    λ e.
        let p = also_both (also (spans_test b x) (spans_test c y)) (gives (same_octet b c && same_parts (meaning b x) (meaning c y))) true (sym e) in
        let q = also_both (spans_test b x) (spans_test c y) tt p.0 in
        (spans b x q.0, spans c y q.1, compared.0 (sym (gives_same true _ p.1))),
    λ h.
        same_base_is b x c y (spans_passed c y h.1 ∙ sym (also_passed (spans_test b x) (spans_test c y) (spans_passed b x h.0)))
        ∙ ap gives (compared.1 h.2),
  )
