-- What every writer of the library owes.
use Rattle.std.specs.Prelude.{◌≡◌, ℕ, ◌-◌, List, [], ◌∷◌, length, leb}
use Rattle.refusal.specs.Answer.{Answer, gives, refuses, pick, map_answer, also, place_test}
use Rattle.splice.specs.Laid.{laid}

-- the bytes, where a buffer of n bytes has room for them: else 2 with n and how many are needed
unfoldable pub room_for : ℕ → List ℕ → Answer (List ℕ)
room_for n bytes = pick (leb (length bytes) n) (gives bytes) (refuses 2 (n ∷ length bytes ∷ []))

-- the same from a place on: 15 where that is past the end, then as in the part of the buffer that starts there
unfoldable pub room_at : ℕ → ℕ → List ℕ → Answer (List ℕ)
room_at at n bytes = also (place_test at n) (room_for (n - at) bytes)

-- what a lent buffer holds after a writer's answer: the bytes given lie over it from the place `at` on; a refusal changes nothing
abbrev pub leaves : ℕ → Answer (List ℕ) → List ℕ → List ℕ
leaves at (gives vs) old = laid at vs old
leaves at (refuses n vs) old = old

-- a writer answers how many bytes it wrote, or its refusal, and the buffer is what that leaves
pub record Wrote (at : ℕ) (out : Answer (List ℕ)) (told : Answer ℕ) (old new : List ℕ) : Type 0 where
  pub answer : told ≡ map_answer length out
  pub bytes : new ≡ leaves at out old
