-- The cases of `specs/Text.antt` that the functions cite. Assumes nothing.
use Rattle.std.proofs.Common.{Option, Some, None}
use mathlib.Core.Path.{◌≡◌, refl, sym, ap, ◌∙◌}
use Prim.Native.Nat.{ℕ, suc, ◌+◌, ◌-◌, ◌*◌, ◌%◌, ◌≤◌, ◌<◌}
use native.Mathlib.Omega.{arith}
use native.Mathlib.Numerals.{add-one}
use mathlib.Core.List.{List, [], ◌∷◌}
use mathlib.Core.Bool.{Bool, true, false, cond, ◌&&◌, and-false}
use lib.ListN.{length, take, drop, get_or, drop_of_length-le, length-drop}
use lib.Seq.{drop-cons, take-nil}
use lib.Dec.{eqb, leb, ltb}
use Rattle.std.specs.List.{list_all, zip, position_or_len}
use Rattle.std.specs.Option.{unwrap_or}
use Rattle.std.proofs.lemmas.List.Recursion.{is_position_or_len}
use borrow.Author.Tests.{le-leb, lt-leb, lt-ltb, le-ltb, leb-true, leb-false, ltb-true, ltb-false}
use Rattle.test_text.specs.Text.{
  digit,
  nibble_of,
  stretch,
  before,
  line_at,
  end_at,
  next_line,
  no_case,
  stands_for,
  of_row,
  largest,
  digits,
  number,
  number_on,
  with_digit,
  decimal_of,
  sum_on,
}

-- ---- A DIGIT

-- what the answer of `nibble` says of the digit
pub nibble_some : (x d : ℕ) → nibble_of x ≡ Some d → (digit x ≡ d) × (d ≤ 15)
nibble_some x d = go (leb (digit x) 15) refl where
  go : (t : Bool) → leb (digit x) 15 ≡ t → cond t (Some (digit x)) None ≡ Some d → (digit x ≡ d) × (d ≤ 15)
  go true e h =
      let z : digit x ≡ d = cc in
      let k : digit x ≤ 15 = leb-true _ _ e in
      (z, omega arith)
  go false e h = let z : ◌≡◌ {A = ℕ} 0 1 = cc in absurd (omega arith)

pub nibble_none : (x : ℕ) → nibble_of x ≡ None → 15 < digit x
nibble_none x = go (leb (digit x) 15) refl where
  go : (t : Bool) → leb (digit x) 15 ≡ t → cond t (Some (digit x)) None ≡ None → 15 < digit x
  go true e h = let z : ◌≡◌ {A = ℕ} 0 1 = cc in absurd (omega arith)
  go false e h = leb-false _ _ e

-- ---- A PART

pub stretch_out : (start end : ℕ) (s : List ℕ) → length s < end → stretch start end s ≡ []
unfolding stretch
stretch_out start end s h = simp (lt-leb end (length s) h)

pub stretch_in : (start end : ℕ) (s : List ℕ) → end ≤ length s → stretch start end s ≡ take (end - start) (drop start s)
unfolding stretch
stretch_in start end s h = simp (le-leb end (length s) h)

-- ---- THE PLACE OF A BYTE, from a place on

pub before_end : (x i : ℕ) (s : List ℕ) → length s ≤ i → before x (drop i s) ≡ 0
unfolding before
before_end x i s h = rw (drop_of_length-le s {i = i} h)

pub before_within : (x : ℕ) (s : List ℕ) → before x s ≤ length s
unfolding before
before_within x [] = omega arith
before_within x (b ∷ bs) = go (eqb b x) (before_within x bs) where
  go : (t : Bool) → before x bs ≤ length bs → cond t 0 (before x bs + 1) ≤ suc (length bs)
  go true h = omega arith
  go false h = omega arith

-- it is the first place at which the byte is, or the length
before_first : (x : ℕ) (s : List ℕ) → before x s ≡ position_or_len (λ b. eqb b x) s
unfolding before
before_first x = is_position_or_len (before x) (λ b. eqb b x) refl (λ b bs. ap (λ (n : ℕ). cond (eqb b x) 0 n) (omega arith))

pub before_found : (x : ℕ) (s : List ℕ) (r : Option ℕ)
    → r ≡ cond (ltb (position_or_len (λ b. eqb b x) s) (length s)) (Some (position_or_len (λ b. eqb b x) s)) None → unwrap_or r (length s) ≡ before x s
before_found x s r e =
    ap (λ (o : Option ℕ). unwrap_or o (length s)) e
    ∙ ap (λ (n : ℕ). unwrap_or (cond (ltb n (length s)) (Some n) None) (length s)) (sym (before_first x s))
    ∙ go (ltb (before x s) (length s)) refl where
      go : (t : Bool) → ltb (before x s) (length s) ≡ t → unwrap_or (cond t (Some (before x s)) None) (length s) ≡ before x s
      go true h = refl
      go false h =
          let k : length s ≤ before x s = ltb-false _ _ h in
          let m = before_within x s in
          omega arith

pub before_from : (x i : ℕ) (s : List ℕ) → i ≤ length s → i + before x (drop i s) ≤ length s
before_from x i s h = omega (arith, before_within x (drop i s), length-drop i s)

-- the part up to it
pub stretch_before : (x i : ℕ) (s : List ℕ) → i ≤ length s → stretch i (i + before x (drop i s)) s ≡ take (before x (drop i s)) (drop i s)
stretch_before x i s h =
    let n : i + before x (drop i s) - i ≡ before x (drop i s) = omega arith in
    stretch_in i (i + before x (drop i s)) s (before_from x i s h) ∙ ap (λ (k : ℕ). take k (drop i s)) n

pub stretch_front : (x : ℕ) (s : List ℕ) → stretch 0 (before x s) s ≡ take (before x s) s
stretch_front x s =
    let n : before x s - 0 ≡ before x s = omega arith in
    stretch_in 0 (before x s) s (before_within x s) ∙ ap (λ (k : ℕ). take k s) n

-- ---- LINES

pub line_in : (at : ℕ) (s : List ℕ) → stretch at (end_at at s) s ≡ line_at at s
unfolding line_at
line_in at s = go (leb at (length s)) refl where
  go : (t : Bool) → leb at (length s) ≡ t → stretch at (end_at at s) s ≡ line_at at s
  go true e = stretch_before 10 at s (leb-true _ _ e)
  go false e =
      let h : length s < at = leb-false _ _ e in
      stretch_out at (end_at at s) s (omega arith) ∙ sym (ap (λ (l : List ℕ). take (before 10 (drop at s)) l) (drop_of_length-le s {i = at} (omega arith)) ∙ take-nil (before 10 (drop at s)))

pub next_ended : (at : ℕ) (s : List ℕ) → end_at at s < length s → next_line at s ≡ end_at at s + 1
unfolding next_line
next_ended at s h = simp (lt-ltb (end_at at s) (length s) h)

pub next_last : (at : ℕ) (s : List ℕ) → length s ≤ end_at at s → next_line at s ≡ end_at at s
unfolding next_line
next_last at s h = simp (le-ltb (end_at at s) (length s) h)

-- A loop over lines ends: the next line begins behind a place in the text, and no further than at the text's end.
pub next_line_moves : (at : ℕ) (s : List ℕ) → at < length s → (at < next_line at s) × (next_line at s ≤ length s)
next_line_moves at s h = go (ltb (end_at at s) (length s)) refl where
  go : (t : Bool) → ltb (end_at at s) (length s) ≡ t → (at < next_line at s) × (next_line at s ≤ length s)
  go true e = let k : end_at at s < length s = ltb-true _ _ e in rw (next_ended at s k) (omega arith, omega arith)
  go false e =
      let k : length s ≤ end_at at s = ltb-false _ _ e in
      let m : end_at at s ≤ length s = before_from 10 at s (omega arith) in
      rw (next_last at s k) (omega arith, m)

pub no_case_none : (s : List ℕ) → length s ≡ 0 → no_case s ≡ true
unfolding no_case
no_case_none [] h = refl
no_case_none (b ∷ bs) h = absurd (omega arith)

pub no_case_first : (s : List ℕ) → (length s ≡ 0 → ⊥) → no_case s ≡ eqb (get_or s 0 0) 35
unfolding no_case
no_case_first [] h = absurd (h refl)
no_case_first (b ∷ bs) h = refl

-- ---- ROWS

-- a row and a key of one length, pair by pair
pub row_zip : (k r : List ℕ) → length k ≡ length r → list_all (λ (p : ℕ × ℕ). stands_for p.1 p.0) (zip k r) ≡ of_row k r
unfolding of_row
row_zip [] [] h = refl
row_zip [] (r ∷ rs) h = absurd (omega arith)
row_zip (k ∷ ks) [] h = absurd (omega arith)
row_zip (k ∷ ks) (r ∷ rs) h = ap (λ (b : Bool). stands_for r k && b) (row_zip ks rs (omega arith))

pub row_lengths : (k r : List ℕ) → (length k ≡ length r → ⊥) → of_row k r ≡ false
unfolding of_row
row_lengths [] [] h = absurd (h refl)
row_lengths [] (r ∷ rs) h = refl
row_lengths (k ∷ ks) [] h = refl
row_lengths (k ∷ ks) (r ∷ rs) h = rw (row_lengths ks rs (λ e. h (omega arith))) (and-false (stands_for r k))

-- ---- DECIMAL NUMBERS

number_grows : (x : ℕ) (s : List ℕ) → x ≤ number x s
unfolding number
number_grows x [] = omega arith
number_grows x (b ∷ bs) = omega (arith, number_grows (x * 10 + digit b) bs)

number_bad : (x b : ℕ) (s : List ℕ) → 9 < digit b → number_on x (b ∷ s) ≡ None
unfolding number_on digits
number_bad x b s h = simp (lt-leb (digit b) 9 h)

number_on_lem : (x b : ℕ) (s : List ℕ) → digit b ≤ 9 → number_on x (b ∷ s) ≡ number_on (x * 10 + digit b) s
unfolding number_on digits number
number_on_lem x b s h = simp (le-leb (digit b) 9 h)

number_large : (x : ℕ) (s : List ℕ) → largest < x → number_on x s ≡ None
unfolding number_on
number_large x s h = rw (lt-leb (number x s) largest (omega (arith, number_grows x s)), and-false (digits s))

pub number_end : (x : ℕ) → x ≤ largest → number_on x [] ≡ Some x
unfolding number_on digits number
number_end x h = simp (le-leb x largest h)

pub digit_bad : (x b : ℕ) → 9 < digit b → with_digit x b ≡ None
digit_bad x b h = number_bad x b [] h

pub digit_large : (x b : ℕ) → largest < x * 10 + digit b → digit b ≤ 9 → with_digit x b ≡ None
digit_large x b h k = number_on_lem x b [] k ∙ number_large _ [] h

pub digit_on : (x b : ℕ) → x * 10 + digit b ≤ largest → digit b ≤ 9 → with_digit x b ≡ Some (x * 10 + digit b)
digit_on x b h k = number_on_lem x b [] k ∙ number_end _ h

-- One digit after the other gives what all of them give.
pub number_step : (x b y : ℕ) (s : List ℕ) → with_digit x b ≡ Some y → (y ≤ largest) × (number_on x (b ∷ s) ≡ number_on y s)
number_step x b y s e = go (leb (digit b) 9) refl (leb (x * 10 + digit b) largest) refl where
  go : (t : Bool) → leb (digit b) 9 ≡ t → (u : Bool) → leb (x * 10 + digit b) largest ≡ u → (y ≤ largest) × (number_on x (b ∷ s) ≡ number_on y s)
  go false p u q =
      let n : with_digit x b ≡ None = digit_bad x b (leb-false _ _ p) in
      let z : ◌≡◌ {A = ℕ} 0 1 = cc in
      absurd (omega arith)
  go true p false q =
      let n : with_digit x b ≡ None = digit_large x b (leb-false _ _ q) (leb-true _ _ p) in
      let z : ◌≡◌ {A = ℕ} 0 1 = cc in
      absurd (omega arith)
  go true p true q =
      let n : with_digit x b ≡ Some (x * 10 + digit b) = digit_on x b (leb-true _ _ q) (leb-true _ _ p) in
      let z : x * 10 + digit b ≡ y = cc in
      let f : x * 10 + digit b ≤ largest = leb-true _ _ q in
      (omega arith, number_on_lem x b s (leb-true _ _ p) ∙ ap (λ (n : ℕ). number_on n s) z)

pub number_stop : (x b : ℕ) (s : List ℕ) → with_digit x b ≡ None → number_on x (b ∷ s) ≡ None
number_stop x b s e = go (leb (digit b) 9) refl (leb (x * 10 + digit b) largest) refl where
  go : (t : Bool) → leb (digit b) 9 ≡ t → (u : Bool) → leb (x * 10 + digit b) largest ≡ u → number_on x (b ∷ s) ≡ None
  go false p u q = number_bad x b s (leb-false _ _ p)
  go true p false q = number_on_lem x b s (leb-true _ _ p) ∙ number_large _ s (leb-false _ _ q)
  go true p true q =
      let n : with_digit x b ≡ Some (x * 10 + digit b) = digit_on x b (leb-true _ _ q) (leb-true _ _ p) in
      let z : ◌≡◌ {A = ℕ} 0 1 = cc in
      absurd (omega arith)

pub decimal_none : (s : List ℕ) → length s ≡ 0 → decimal_of s ≡ None
unfolding decimal_of
decimal_none [] h = refl
decimal_none (b ∷ bs) h = absurd (omega arith)

pub decimal_some : (s : List ℕ) → (length s ≡ 0 → ⊥) → decimal_of s ≡ number_on 0 s
unfolding decimal_of
decimal_some [] h = absurd (h refl)
decimal_some (b ∷ bs) h = refl

pub number_at : (x i : ℕ) (s : List ℕ) → i < length s → number_on x (drop i s) ≡ number_on x (get_or s i 0 ∷ drop (i + 1) s)
number_at x i s h = rw (drop-cons s i 0 h, add-one i)

pub number_past : (x i : ℕ) (s : List ℕ) → length s ≤ i → x ≤ largest → number_on x (drop i s) ≡ Some x
number_past x i s h k = rw (drop_of_length-le s {i = i} h) (number_end x k)

-- ---- A CHECKSUM

pub sum_end : (x i : ℕ) (s : List ℕ) → length s ≤ i → sum_on x (drop i s) ≡ x
unfolding sum_on
sum_end x i s h = rw (drop_of_length-le s {i = i} h)

pub sum_at : (x i : ℕ) (s : List ℕ) → i < length s → sum_on x (drop i s) ≡ sum_on ((x * 257 + get_or s i 0 + 1) % 4294967291) (drop (i + 1) s)
unfolding sum_on
sum_at x i s h = rw (drop-cons s i 0 h, add-one i)
