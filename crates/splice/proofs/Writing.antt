-- The laws of `Wrote`: every writer of the library is proved by these, and by what it lays down. Assumes nothing.
use mathlib.Core.Path.{◌≡◌, refl, sym, ap, ◌∙◌}
use Prim.Native.Nat.{ℕ, ◌+◌, ◌-◌, ◌≤◌, ◌<◌}
use native.Mathlib.Omega.{arith}
use mathlib.Core.Logic.{◌↔◌}
use mathlib.Core.Bool.{Bool, true, false}
use mathlib.Core.List.{List, [], ◌∷◌, ◌++◌}
use lib.Dec.{leb}
use lib.ListN.{length, drop}
use borrow.Author.Tests.{le-leb, lt-leb, leb-true, leb-false}
use Rattle.refusal.specs.Answer.{Answer, gives, refuses, map_answer, also, Test}
use Rattle.refusal.specs.Told.{told}
use Rattle.refusal.specs.declared.Refusal.{Refusal}
use Rattle.std.specs.Prelude.{Result, Ok, Err, IsOk}
use Rattle.refusal.proofs.Laws.{gives_same, gives_or_refuses, mapped_by, also_passed, also_refused, also_both, place_test_in, place_test_out}
use Rattle.refusal.proofs.Once.{one_told}
use Rattle.splice.specs.Laid.{laid}
use Rattle.splice.specs.Writing.{room_for, room_at, leaves, Wrote}
use Rattle.splice.proofs.Laws.{laid_front, laid_all}

-- ---- room

pub room_for_in : (n : ℕ) (bs : List ℕ) → length bs ≤ n → room_for n bs ≡ gives bs
unfolding room_for
room_for_in n bs h = simp (le-leb _ _ h)

pub room_for_out : (n : ℕ) (bs : List ℕ) → n < length bs → room_for n bs ≡ refuses 2 (n ∷ length bs ∷ [])
unfolding room_for
room_for_out n bs h = simp (lt-leb _ _ h)

pub room_at_past : (at n : ℕ) (bs : List ℕ) → n < at → room_at at n bs ≡ refuses 15 (at ∷ [])
unfolding room_at
room_at_past at n bs h = rw (place_test_out at n h)

pub room_at_there : (at n : ℕ) (bs : List ℕ) → at ≤ n → room_at at n bs ≡ room_for (n - at) bs
unfolding room_at
room_at_there at n bs h = rw (place_test_in at n h)

-- ---- a writer that tests, sees to the room, and lays its bytes down

module _ (at : ℕ) (old : List ℕ) where
  -- a refusal, and no byte changed
  pub wrote_not : (out : Answer (List ℕ)) (n : ℕ) (vs : List ℕ) → refuses n vs ≡ out → Wrote at out (refuses n vs) old old
  wrote_not out n vs e = record { answer = rw (← e); bytes = rw (← e) }

  -- the bytes, laid
  pub wrote : (out : Answer (List ℕ)) (bs new : List ℕ) (k : ℕ) → out ≡ gives bs → k ≡ length bs → new ≡ laid at bs old → Wrote at out (gives k) old new
  wrote out bs new k e h g = record { answer = rw (e, h); bytes = rw e g }

  -- a test refuses
  pub wrote_refused : (test : Test) (out : Answer (List ℕ)) (n : ℕ) (vs : List ℕ) → refuses n vs ≡ test → Wrote at (also test out) (refuses n vs) old old
  wrote_refused test out n vs e = wrote_not (also test out) n vs (also_refused test out n vs e)

-- the same contract, where the test is passed
pub wrote_passed : {at : ℕ} {test : Test} {out : Answer (List ℕ)} {told : Answer ℕ} {old new : List ℕ} → gives tt ≡ test → Wrote at out told old new → Wrote at (also test out) told old new
wrote_passed {at} {test} {out} {told} {old} {new} e w =
    rw (also_passed test out e) w

-- where there is room, the bytes are laid
pub wrote_laid : (at : ℕ) (bs old new : List ℕ) {told : Answer ℕ} → at + length bs ≤ length old → Wrote at (room_at at (length old) bs) told old new → new ≡ laid at bs old
wrote_laid at bs old new h w =
    w.bytes
    ∙ ap (λ (a : Answer (List ℕ)). leaves at a old) (room_at_there at (length old) bs (omega arith) ∙ room_for_in (length old - at) bs (omega arith))

-- bytes as long as the buffer are all that it holds then
pub wrote_all : (bs old new : List ℕ) {told : Answer ℕ} → length bs ≡ length old → Wrote 0 (room_at 0 (length old) bs) told old new → new ≡ bs
wrote_all bs old new h w = wrote_laid 0 bs old new (omega arith) w ∙ laid_all bs old h

-- where there is room, no refusal comes
pub never_refused : (at : ℕ) (bs old new : List ℕ) {n : ℕ} {vs : List ℕ} → at + length bs ≤ length old → Wrote at (room_at at (length old) bs) (refuses n vs) old new → ⊥
never_refused at bs old new {n} {vs} h w =
    gives_or_refuses (length bs) n vs (ap (map_answer length) (sym (room_at_there at (length old) bs (omega arith) ∙ room_for_in (length old - at) bs (omega arith))) ∙ sym w.answer)

pub surely_written : (at : ℕ) (bs old new : List ℕ) (r : Result ℕ Refusal) → at + length bs ≤ length old → Wrote at (room_at at (length old) bs) (told r) old new → IsOk r
surely_written at bs old new (Ok k) h w = refl
surely_written at bs old new (Err e) h w = absurd (never_refused at bs old new h w)

-- ---- what a writer gives that tests and then sees to the room: its bytes, exactly where the test is passed and there is room

pub gives_room : (test : Test) (n : ℕ) (bytes bs : List ℕ) → (also test (room_for n bytes) ≡ gives bs) ↔ ((gives tt ≡ test) × (length bytes ≤ n) × (bs ≡ bytes))
gives_room test n bytes bs = (only, made)
  where
    room : (t : Bool) → leb (length bytes) n ≡ t → gives bs ≡ room_for n bytes → (length bytes ≤ n) × (bs ≡ bytes)
    room true p e = (leb-true _ _ p, gives_same bs bytes (e ∙ room_for_in n bytes (leb-true _ _ p)))
    room false p e = absurd (gives_or_refuses bs 2 (n ∷ length bytes ∷ []) (e ∙ room_for_out n bytes (leb-false _ _ p)))

    only : also test (room_for n bytes) ≡ gives bs → (gives tt ≡ test) × (length bytes ≤ n) × (bs ≡ bytes)
    only e =
        let b = also_both test (room_for n bytes) bs (sym e) in
        let r = room (leb (length bytes) n) refl b.1 in
        (b.0, r.0, r.1)

    made : (gives tt ≡ test) × (length bytes ≤ n) × (bs ≡ bytes) → also test (room_for n bytes) ≡ gives bs
    made h = also_passed test (room_for n bytes) h.0 ∙ room_for_in n bytes h.1 ∙ ap gives (sym h.2)

-- and what such a writer leaves: its bytes, then the old rest
pub record Left (test : Test) (bs old new : List ℕ) : Type 0 where
  pub passed : gives tt ≡ test
  pub room : length bs ≤ length old
  pub bytes : new ≡ bs ++ drop (length bs) old

pub left_by : (test : Test) (bs old new : List ℕ) (k : ℕ) → Wrote 0 (also test (room_for (length old) bs)) (gives k) old new → Left test bs old new
left_by test bs old new k w =
    let m = mapped_by length (also test (room_for (length old) bs)) k (sym w.answer) in
    let g = (gives_room test (length old) bs m.0).0 m.1 in
    record {
      passed = g.0;
      room = g.1;
      bytes = w.bytes ∙ ap (λ (a : Answer (List ℕ)). leaves 0 a old) (m.1 ∙ ap gives g.2) ∙ laid_front bs old;
    }

-- ---- ONE ANSWER, AND ONE BUFFER

pub one_wrote : (at : ℕ) (out : Answer (List ℕ)) (old : List ℕ) (a b : Result ℕ Refusal) (new new' : List ℕ)
    → Wrote at out (told a) old new → Wrote at out (told b) old new' → (a ≡ b) × (new ≡ new')
one_wrote at out old a b new new' p q = (one_told (map_answer length out) a b p.answer q.answer, p.bytes ∙ sym q.bytes)
