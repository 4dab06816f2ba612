-- The notation of bytes: an `x`, then pieces with a `.` between them. A piece is one or more pairs of hexadecimal digits, and behind them, where the
-- piece stands several times, `*COUNT`.
use Rattle.std.specs.Prelude.{◌≡◌, ℕ, zero, suc, ◌+◌, ◌*◌, Bool, true, false, cond, ◌&&◌, List, [], ◌∷◌, ◌++◌, length, take, drop, eqb, leb, Option, Some, None}
use Rattle.std.specs.List.{slice_split}
use Rattle.test_text.specs.Text.{digit, before, decimal_of}

-- What a text says: its bytes, or None where it is not in the notation.

-- what two texts say together
unfoldable pub then : Option (List ℕ) → Option (List ℕ) → Option (List ℕ)
then None m = None
then (Some k) None = None
then (Some k) (Some l) = Some (k ++ l)

-- whether a text is in the notation
unfoldable pub is_bytes : Option (List ℕ) → Bool
is_bytes None = false
is_bytes (Some l) = true

-- two hexadecimal digits
unfoldable pub pair_of : ℕ → ℕ → Option (List ℕ)
pair_of a b = cond (leb (digit a) 15 && leb (digit b) 15) (Some ((digit a * 16 + digit b) ∷ [])) None

unfoldable pub pairs_of : List ℕ → Option (List ℕ)
pairs_of [] = Some []
pairs_of (a ∷ []) = None
pairs_of (a ∷ b ∷ s) = then (pair_of a b) (pairs_of s)

-- the same so many times
unfoldable pub times_of : ℕ → Option (List ℕ) → Option (List ℕ)
times_of zero m = Some []
times_of (suc n) m = then m (times_of n m)

-- the same as often as a count says
unfoldable pub counted : Option ℕ → Option (List ℕ) → Option (List ℕ)
counted None m = None
counted (Some n) None = None
counted (Some n) (Some l) = times_of n (Some l)

-- the count that stands behind a piece's pairs, with its * in front; without one the piece stands once
unfoldable pub count_of : List ℕ → Option ℕ
count_of [] = Some 1
count_of (star ∷ s) = decimal_of s

-- a piece, with so many bytes before its * (42)
unfoldable pub piece_at : ℕ → List ℕ → Option (List ℕ)
piece_at n s = cond (eqb n 0) None (counted (count_of (drop n s)) (pairs_of (take n s)))

unfoldable pub piece_of : List ℕ → Option (List ℕ)
piece_of s = piece_at (before 42 s) s

unfoldable pub all_of : List (List ℕ) → Option (List ℕ)
all_of [] = Some []
all_of (s ∷ ss) = then (piece_of s) (all_of ss)

-- pieces with a . (46) between them
unfoldable pub pieces_of : List ℕ → Option (List ℕ)
pieces_of s = all_of (slice_split (λ b. eqb b 46) s)

-- an x (120) alone, or with pieces behind it
unfoldable pub bytes_of : List ℕ → Option (List ℕ)
bytes_of [] = None
bytes_of (x ∷ []) = cond (eqb x 120) (Some []) None
bytes_of (x ∷ b ∷ s) = cond (eqb x 120) (pieces_of (b ∷ s)) None

-- the bytes l laid over a buffer from the place `at` on
unfoldable pub laid : ℕ → List ℕ → List ℕ → List ℕ
laid at l old = take at old ++ (l ++ drop (at + length l) old)

-- what reading leaves, by whether there is room: the place behind the bytes, and the bytes in the buffer; or None, and then only the length of the
-- buffer is promised
unfoldable pub LeftIf : Bool → List ℕ → ℕ → List ℕ → Option ℕ → List ℕ → Type 0
LeftIf true l at old r new = (r ≡ Some (at + length l)) × (new ≡ laid at l old)
LeftIf false l at old r new = (r ≡ None) × (length new ≡ length old)

-- what reading bytes into a buffer from the place `at` on answers and leaves
unfoldable pub Left : Option (List ℕ) → ℕ → List ℕ → Option ℕ → List ℕ → Type 0
Left None at old r new = (r ≡ None) × (length new ≡ length old)
Left (Some l) at old r new = LeftIf (leb (at + length l) (length old)) l at old r new
