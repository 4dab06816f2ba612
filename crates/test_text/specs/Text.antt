-- What the steps on text answer.
use Rattle.std.specs.Prelude.{ℕ, ◌+◌, ◌-◌, ◌*◌, ◌%◌, Bool, true, false, cond, ◌&&◌, ◌||◌, List, [], ◌∷◌, length, take, drop, eqb, leb, ltb, Option, Some, None}

-- the number of a hexadecimal digit, 0 to 9, a to f or A to F; 16 for any other byte
unfoldable pub digit : ℕ → ℕ
digit x =
    cond (leb 48 x && leb x 57)
    (x - 48)
    (cond (leb 97 x && leb x 102) (x - 87) (cond (leb 65 x && leb x 70) (x - 55) 16))

-- the same, or None for a byte that is no hexadecimal digit
abbrev pub nibble_of : ℕ → Option ℕ
nibble_of x = cond (leb (digit x) 15) (Some (digit x)) None

-- the bytes from `start` up to `end`, none where they pass the end of s
unfoldable pub stretch : ℕ → ℕ → List ℕ → List ℕ
stretch start end s = cond (leb end (length s)) (take (end - start) (drop start s)) []

-- how many bytes stand before the first x; all of them where there is no x
unfoldable pub before : ℕ → List ℕ → ℕ
before x [] = 0
before x (b ∷ bs) = cond (eqb b x) 0 (before x bs + 1)

-- ---- LINES, each ends with the byte 10 or with the text

-- the line that begins at a place, without its line end
unfoldable pub line_at : ℕ → List ℕ → List ℕ
line_at at s = take (before 10 (drop at s)) (drop at s)

-- where the line that begins at a place ends
abbrev pub end_at : ℕ → List ℕ → ℕ
end_at at s = at + before 10 (drop at s)

-- the place behind that line and its line end, if it has one
unfoldable pub next_line : ℕ → List ℕ → ℕ
next_line at s = cond (ltb (end_at at s) (length s)) (end_at at s + 1) (end_at at s)

-- an empty line, or one that begins with a #
unfoldable pub no_case : List ℕ → Bool
no_case [] = true
no_case (b ∷ bs) = eqb b 35

-- ---- ROWS

-- whether a row's byte stands for a key's: N (78) for O (79) and A (65) too, O for A too, F (70) for T (84) too
unfoldable pub stands_for : ℕ → ℕ → Bool
stands_for r k =
    eqb r k || (eqb r 78 && (eqb k 79 || eqb k 65)) || (eqb r 79 && eqb k 65) || (eqb r 70 && eqb k 84)

-- whether a row stands for a key, byte by byte
unfoldable pub of_row : List ℕ → List ℕ → Bool
of_row [] [] = true
of_row [] (r ∷ rs) = false
of_row (k ∷ ks) [] = false
of_row (k ∷ ks) (r ∷ rs) = stands_for r k && of_row ks rs

-- ---- DECIMAL NUMBERS

-- the largest usize
abbrev pub largest : ℕ
largest = 18446744073709551615

-- whether every byte is a decimal digit
unfoldable pub digits : List ℕ → Bool
digits [] = true
digits (b ∷ bs) = leb (digit b) 9 && digits bs

-- the number x with decimal digits behind its own
unfoldable pub number : ℕ → List ℕ → ℕ
number x [] = x
number x (b ∷ bs) = number (x * 10 + digit b) bs

-- what decimal digits behind those of x say, where all are digits and the number is no larger than a usize
unfoldable pub number_on : ℕ → List ℕ → Option ℕ
number_on x s = cond (digits s && leb (number x s) largest) (Some (number x s)) None

-- one digit behind those of x
abbrev pub with_digit : ℕ → ℕ → Option ℕ
with_digit x b = number_on x (b ∷ [])

-- decimal digits, one or more
unfoldable pub decimal_of : List ℕ → Option ℕ
decimal_of [] = None
decimal_of (b ∷ bs) = number_on 0 (b ∷ bs)

-- ---- A CHECKSUM

-- the checksum x with more bytes
unfoldable pub sum_on : ℕ → List ℕ → ℕ
sum_on x [] = x
sum_on x (b ∷ bs) = sum_on ((x * 257 + b + 1) % 4294967291) bs

unfoldable pub sum_of : ℕ → List ℕ → ℕ
sum_of x s = sum_on (x % 4294967291) s
