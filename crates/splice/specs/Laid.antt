-- Bytes laid over bytes, and bytes compared.
use Rattle.std.specs.Prelude.{ℕ, ◌+◌, Bool, true, false, ◌&&◌, List, [], ◌∷◌, ◌++◌, length, take, drop, eqb}

-- d with vs over its bytes from the place `at` on: what is before them and what is behind them stays
unfoldable pub laid : ℕ → List ℕ → List ℕ → List ℕ
laid at vs d = take at d ++ vs ++ drop (at + length vs) d

-- whether two lists hold the same bytes, one by one
unfoldable pub same_bytes : List ℕ → List ℕ → Bool
same_bytes [] [] = true
same_bytes [] (y ∷ b) = false
same_bytes (x ∷ a) [] = false
same_bytes (x ∷ a) (y ∷ b) = eqb x y && same_bytes a b
