-- Unsigned numbers, most significant byte first, and what each call answers, for all arguments. The bytes of a number are bluebook's `be_bytes`.
use Rattle.std.specs.Prelude.{ℕ, ◌+◌, ◌*◌, ◌^◌, List, [], ◌∷◌, length, leb, ltb}
use Rattle.refusal.specs.Answer.{Answer, gives, refuses, pick, Test}

-- the number acc, with the bytes behind it
unfoldable pub be_from : ℕ → List ℕ → ℕ
be_from acc [] = acc
be_from acc (b ∷ bs) = be_from (acc * 256 + b) bs

-- the number of the bytes
abbrev pub of_be : List ℕ → ℕ
of_be bs = be_from 0 bs

-- READING: 5 with their number where the bytes are more than 8
unfoldable pub read_be : List ℕ → Answer ℕ
read_be bs = pick (leb (length bs) 8) (gives (of_be bs)) (refuses 5 (length bs ∷ []))

-- 5 with the width where it is over 8, then 10 with it where the number does not fit
unfoldable pub number_test : ℕ → ℕ → Test
number_test x width = pick (leb width 8) (pick (ltb x (256 ^ width)) (gives tt) (refuses 10 (width ∷ []))) (refuses 5 (width ∷ []))
