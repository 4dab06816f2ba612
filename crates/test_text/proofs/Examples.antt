-- The definitions at work on texts as they stand in the inputs, and at their edges: each is computed. Assumes nothing.
use Rattle.std.proofs.Common.{Some, None}
use mathlib.Core.Path.{◌≡◌, refl}
use Prim.Native.Nat.{ℕ}
use Prim.Native.Char.{code}
use Prim.Native.String.{String, [] as []ˢ, ◌∷◌ as ◌∷ˢ◌}
use mathlib.Core.Bool.{true, false}
use mathlib.Core.List.{List, [], ◌∷◌}
use Rattle.test_text.specs.Text.{
  before,
  digit,
  line_at,
  next_line,
  no_case,
  stands_for,
  of_row,
  digits,
  number,
  number_on,
  decimal_of,
  sum_on,
  sum_of,
}
use Rattle.test_text.specs.Notation.{then, pair_of, pairs_of, times_of, counted, count_of, piece_at, piece_of, all_of, pieces_of, bytes_of}

abbrev ascii : String → List ℕ
ascii []ˢ = []
ascii (c ∷ˢ s) = code c ∷ ascii s

-- lines: `a`, an empty one, and `#b` without a line end
text : List ℕ
text = 97 ∷ 10 ∷ 10 ∷ 35 ∷ 98 ∷ []

lines : (line_at 0 text ≡ 97 ∷ []) × (line_at 2 text ≡ []) × (line_at 3 text ≡ 35 ∷ 98 ∷ []) × (line_at 5 text ≡ []) × (line_at 9 text ≡ [])
unfolding text line_at before
lines = (refl, refl, refl, refl, refl)

places : (next_line 0 text ≡ 2) × (next_line 2 text ≡ 3) × (next_line 3 text ≡ 5) × (next_line 5 text ≡ 5) × (next_line 9 text ≡ 9)
unfolding text next_line before
places = (refl, refl, refl, refl, refl)

cases : (no_case [] ≡ true) × (no_case (ascii "# no case") ≡ true) × (no_case (ascii "lv.value #") ≡ false)
unfolding no_case
cases = (refl, refl, refl)

rows : (of_row (ascii "lv.value AOX") (ascii "lv.value NNX") ≡ true) × (of_row (ascii "lv.value OAX") (ascii "lv.value AAX") ≡ false) × (of_row (ascii "lv T") (ascii "lv F") ≡ true) × (of_row (ascii "lv F") (ascii "lv T") ≡ false) × (of_row (ascii "lv") (ascii "lv ") ≡ false)
unfolding of_row stands_for
rows = (refl, refl, refl, refl, refl)

decimals : (decimal_of (ascii "0255") ≡ Some 255) × (decimal_of [] ≡ None) × (decimal_of (ascii "1a") ≡ None) × (decimal_of (ascii "18446744073709551615") ≡ Some 18446744073709551615) × (decimal_of (ascii "18446744073709551616") ≡ None)
unfolding decimal_of number_on number digits digit
decimals = (refl, refl, refl, refl, refl)

sums : (sum_of 4294967291 [] ≡ 0) × (sum_of 1 (0 ∷ 7 ∷ []) ≡ 66314)
unfolding sum_of sum_on
sums = (refl, refl)

said : (bytes_of (ascii "x") ≡ Some []) × (bytes_of (ascii "x05.00*3") ≡ Some (5 ∷ 0 ∷ 0 ∷ 0 ∷ [])) × (bytes_of (ascii "x0501aA.0500*2") ≡ Some (5 ∷ 1 ∷ 170 ∷ 5 ∷ 0 ∷ 5 ∷ 0 ∷ [])) × (bytes_of (ascii "x05.00*0.ff") ≡ Some (5 ∷ 255 ∷ []))
unfolding bytes_of pieces_of all_of piece_of piece_at count_of counted times_of pairs_of pair_of then before digit decimal_of number_on number digits
said = (refl, refl, refl, refl)

unsaid : (bytes_of [] ≡ None) × (bytes_of (ascii "05") ≡ None) × (bytes_of (ascii "x0") ≡ None) × (bytes_of (ascii "x05.") ≡ None) × (bytes_of (ascii "x*3") ≡ None) × (bytes_of (ascii "x05*") ≡ None) × (bytes_of (ascii "x0g*0") ≡ None) × (bytes_of (ascii "x05*2*2") ≡ None)
unfolding bytes_of pieces_of all_of piece_of piece_at count_of counted times_of pairs_of pair_of then before digit decimal_of number_on number digits
unsaid = (refl, refl, refl, refl, refl, refl, refl, refl)
