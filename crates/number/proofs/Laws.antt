-- The laws of big-endian numbers. Assumes nothing.
use mathlib.Core.Path.{◌≡◌, refl, sym, ap, ◌∙◌}
use Prim.Native.Nat.{ℕ, zero, suc, ◌+◌, ◌-◌, ◌*◌, ◌/◌, ◌%◌, ◌^◌, ◌≤◌, ◌<◌}
use native.Mathlib.Omega.{arith}
use lib.Pow.{pow_pos, pow-add}
use native.Mathlib.Nat.{div-eq_of_lt, div-lt_iff_lt-mul, zero-add, add-zero, one-mul, pow-suc, add-suc}
use mathlib.Core.List.{List, [], ◌∷◌, ◌++◌, append_assoc, append-nil}
use lib.ListN.{length, take, drop, replicate, length-replicate, length-append, drop_of_length-le}
use lib.Seq.{drop-append-le, take_all}
use mathlib.Core.Bool.{Bool, true, false}
use lib.Dec.{leb, ltb}
use borrow.Author.Tests.{le-leb, lt-leb, lt-ltb, le-ltb, leb-true, leb-false, ltb-true}
use Rattle.std.specs.Int.{w64, from_be_bytes, to_be_bytes}
use Rattle.std.proofs.lemmas.Nat.{from_be_bytes-to_be_bytes_8}
use Rattle.bluebook.specs.Layouts.{Octets, be_bytes}
use Rattle.refusal.specs.Answer.{gives, refuses, pick, Test}
use Rattle.refusal.proofs.Laws.{gives_or_refuses}
use Rattle.splice.specs.Laid.{laid}
use Rattle.splice.proofs.Laws.{laid_is}
use Rattle.number.specs.Rules.{be_from, of_be, read_be, number_test}

-- ---- what they mean

-- zeros in front do not count
zeros_before : (m n : ℕ) (v : List ℕ) → of_be (take m (replicate n 0) ++ v) ≡ of_be v
unfolding be_from
zeros_before zero n v = refl
zeros_before (suc m) zero v = refl
zeros_before (suc m) (suc n) v = zeros_before m n v

-- bytes laid over the last of zeros have their own number
pub of_be_behind : (m n : ℕ) (v : List ℕ) → m + length v ≡ n → of_be (laid m v (replicate n 0)) ≡ of_be v
of_be_behind m n v e =
    let z : List ℕ = replicate n 0 in
    let d : drop (m + length v) z ≡ [] = drop_of_length-le z {i = m + length v} (omega (arith, length-replicate {A = ℕ} n 0)) in
    ap of_be (laid_is m v z ∙ ap (λ (r : List ℕ). take m z ++ v ++ r) d ∙ append-nil (take m z ++ v)) ∙ zeros_before m n v

be_from_snoc : (xs : List ℕ) (acc b : ℕ) → be_from acc (xs ++ (b ∷ [])) ≡ be_from acc xs * 256 + b
unfolding be_from
be_from_snoc [] acc b = refl
be_from_snoc (x ∷ xs) acc b = be_from_snoc xs (acc * 256 + x) b

-- a number that fits k bytes is read back from them
pub be_back : (k x : ℕ) → x < 256 ^ k → of_be (be_bytes k x) ≡ x
unfolding be_from be_bytes
be_back zero x h = omega arith
be_back (suc k) x h =
    let l : x / 256 < 256 ^ k = omega (arith, pow-suc 256 k) in
    be_from_snoc (be_bytes k (x / 256)) 0 (x % 256) ∙ rw (be_back k (x / 256) l) (omega arith)

-- a number of k bytes, and bytes behind it: the number that they make together has all these bytes, and fits them
be_on : (k x : ℕ) (bs : List ℕ) → Octets bs → x < 256 ^ k → (be_bytes (k + length bs) (be_from x bs) ≡ be_bytes k x ++ bs) × (be_from x bs < 256 ^ (k + length bs))
unfolding be_from be_bytes
be_on k x [] o h = rw add-zero (sym (append-nil (be_bytes k x)), h)
be_on k x (b ∷ bs) o h =
    let l : b < 256 = o 0 in
    let q : (x * 256 + b) / 256 ≡ x = omega arith in
    let r : (x * 256 + b) % 256 ≡ b = omega arith in
    let n : suc k + length bs ≡ k + suc (length bs) = omega arith in
    let ih = be_on (suc k) (x * 256 + b) bs (λ i. o (suc i)) (omega (arith, pow-suc 256 k)) in
    rw (← n) (ih.0 ∙ rw (q, r) (append_assoc (be_bytes k x) (b ∷ []) bs), ih.1)

-- bytes are those of their number, which fits them
pub be_forth : (bs : List ℕ) → Octets bs → (be_bytes (length bs) (of_be bs) ≡ bs) × (of_be bs < 256 ^ length bs)
unfolding be_bytes
be_forth bs o = rw zero-add at (be_on 0 0 bs o (omega arith))

pub length_be : (k x : ℕ) → length (be_bytes k x) ≡ k
unfolding be_bytes
length_be zero x = refl
length_be (suc k) x = length-append (be_bytes k (x / 256)) (x % 256 ∷ []) ∙ omega (arith, length_be k (x / 256))

-- 8 bytes, as the library's own conversions have them

pub of_be_eight : (bs : List ℕ) → length bs ≡ 8 → from_be_bytes w64 bs ≡ of_be bs
unfolding be_from
of_be_eight [] e = absurd (omega arith)
of_be_eight (a ∷ []) e = absurd (omega arith)
of_be_eight (a ∷ b ∷ []) e = absurd (omega arith)
of_be_eight (a ∷ b ∷ c ∷ []) e = absurd (omega arith)
of_be_eight (a ∷ b ∷ c ∷ d ∷ []) e = absurd (omega arith)
of_be_eight (a ∷ b ∷ c ∷ d ∷ f ∷ []) e = absurd (omega arith)
of_be_eight (a ∷ b ∷ c ∷ d ∷ f ∷ g ∷ []) e = absurd (omega arith)
of_be_eight (a ∷ b ∷ c ∷ d ∷ f ∷ g ∷ h ∷ []) e = absurd (omega arith)
of_be_eight (a ∷ b ∷ c ∷ d ∷ f ∷ g ∷ h ∷ i ∷ []) e = omega arith
of_be_eight (a ∷ b ∷ c ∷ d ∷ f ∷ g ∷ h ∷ i ∷ j ∷ bs) e = absurd (omega arith)

octets_eight : (x : ℕ) → Octets (to_be_bytes w64 x)
octets_eight x zero = omega arith
octets_eight x (suc zero) = omega arith
octets_eight x (suc (suc zero)) = omega arith
octets_eight x (suc (suc (suc zero))) = omega arith
octets_eight x (suc (suc (suc (suc zero)))) = omega arith
octets_eight x (suc (suc (suc (suc (suc zero))))) = omega arith
octets_eight x (suc (suc (suc (suc (suc (suc zero)))))) = omega arith
octets_eight x (suc (suc (suc (suc (suc (suc (suc zero))))))) = omega arith
octets_eight x (suc (suc (suc (suc (suc (suc (suc (suc k)))))))) = omega arith

pub be_bytes_eight : (x : ℕ) → x < 2 ^ 64 → to_be_bytes w64 x ≡ be_bytes 8 x
be_bytes_eight x h =
    let e : of_be (to_be_bytes w64 x) ≡ x = sym (of_be_eight (to_be_bytes w64 x) refl) ∙ from_be_bytes-to_be_bytes_8 x h in
    sym (be_forth (to_be_bytes w64 x) (octets_eight x)).0 ∙ ap (be_bytes 8) e

-- a number's last k bytes are its bytes behind the first m of m + k
pub be_bytes_drop : (m k x : ℕ) → drop m (be_bytes (m + k) x) ≡ be_bytes k x
unfolding be_bytes
be_bytes_drop m zero x = drop_of_length-le (be_bytes (m + 0) x) {i = m} (omega (arith, length_be (m + 0) x))
be_bytes_drop m (suc k) x =
    rw (add-suc m k)
    (drop-append-le m (be_bytes (m + k) (x / 256)) (x % 256 ∷ []) (omega (arith, length_be (m + k) (x / 256)))
    ∙ ap (λ (r : List ℕ). r ++ (x % 256 ∷ [])) (be_bytes_drop m k (x / 256)))

-- ---- what may be read, and what may be written

pub read_be_in : (bs : List ℕ) → length bs ≤ 8 → read_be bs ≡ gives (of_be bs)
unfolding read_be
read_be_in bs h = simp (le-leb _ _ h)

pub read_be_over : (bs : List ℕ) → 8 < length bs → read_be bs ≡ refuses 5 (length bs ∷ [])
unfolding read_be
read_be_over bs h = simp (lt-leb _ _ h)

-- 8 bits a byte
bits : (w : ℕ) → 256 ^ w ≡ 2 ^ (8 * w)
bits zero = refl
bits (suc w) =
    let n : 8 * w + 8 ≡ 8 * suc w = omega arith in
    pow-suc 256 w ∙ ap (λ (k : ℕ). k * 256) (bits w) ∙ sym (pow-add 2 (8 * w) 8) ∙ ap (λ (k : ℕ). 2 ^ k) n

pub number_test_wide : (x w : ℕ) → 8 < w → number_test x w ≡ refuses 5 (w ∷ [])
unfolding number_test
number_test_wide x w h = simp (lt-leb _ _ h)

pub number_test_in : (x w : ℕ) → w ≤ 8 → x < 256 ^ w → number_test x w ≡ gives tt
unfolding number_test
number_test_in x w h k = simp (le-leb _ _ h, lt-ltb _ _ k)

-- a number fits exactly where nothing is left of it behind w bytes
pub number_test_large : (x w : ℕ) → w < 8 → (x / 2 ^ (8 * w) ≡ 0 → ⊥) → number_test x w ≡ refuses 10 (w ∷ [])
unfolding number_test
number_test_large x w h e = simp (le-leb w 8 (omega arith), le-ltb x (256 ^ w) (rw (bits w) large))
  where
    large : 2 ^ (8 * w) ≤ x
    large = go (leb (2 ^ (8 * w)) x) refl
      where
        go : (t : Bool) → leb (2 ^ (8 * w)) x ≡ t → 2 ^ (8 * w) ≤ x
        go true p = leb-true _ _ p
        go false p = absurd (e (div-eq_of_lt (leb-false _ _ p)))

pub number_test_fits : (x w : ℕ) → w < 8 → x / 2 ^ (8 * w) ≡ 0 → number_test x w ≡ gives tt
number_test_fits x w h e = number_test_in x w (omega arith) (rw (bits w) small)
  where
    small : x < 2 ^ (8 * w)
    small = rw one-mul at ((div-lt_iff_lt-mul (pow_pos (8 * w))).0 below)
      where
        below : x / 2 ^ (8 * w) < 1
        below = omega arith

-- and all of 64 bits fit in 8 bytes
pub number_test_eight : (x w : ℕ) → w ≡ 8 → x < 2 ^ 64 → number_test x w ≡ gives tt
number_test_eight x w e h = number_test_in x w (omega arith) (rw e (omega arith))

pub record Fits (x w : ℕ) : Type 0 where
  pub width : w ≤ 8
  pub below : x < 256 ^ w

pub number_test_passed : (x w : ℕ) → gives tt ≡ number_test x w → Fits x w
unfolding number_test
number_test_passed x w e = go (leb w 8) refl (ltb x (256 ^ w)) refl e
  where
    go : (a : Bool) → leb w 8 ≡ a → (b : Bool) → ltb x (256 ^ w) ≡ b → ◌≡◌ {A = Test} (gives tt) (pick a (pick b (gives tt) (refuses 10 (w ∷ []))) (refuses 5 (w ∷ []))) → Fits x w
    go true p true q e = record { width = leb-true _ _ p; below = ltb-true _ _ q }
    go true p false q e = absurd (gives_or_refuses tt 10 (w ∷ []) e)
    go false p b q e = absurd (gives_or_refuses tt 5 (w ∷ []) e)

-- the last k of a number's 8 bytes
pub last_bytes : (x k : ℕ) (b : List ℕ) → k ≤ 8 → b ≡ be_bytes 8 x → take (8 - (8 - k)) (drop (8 - k) b) ≡ be_bytes k x
last_bytes x k b h e =
    let n : 8 - k + k ≡ 8 = omega arith in
    let g : drop (8 - k) b ≡ be_bytes k x = ap (drop (8 - k)) (e ∙ ap (λ (j : ℕ). be_bytes j x) (sym n)) ∙ be_bytes_drop (8 - k) k x in
    ap (take (8 - (8 - k))) g ∙ take_all (8 - (8 - k)) (be_bytes k x) (omega (arith, length_be k x))
