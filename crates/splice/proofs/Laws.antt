-- The laws of bytes laid over bytes, and of bytes compared. Callers cite these, and do not open the definitions. Assumes nothing.
use mathlib.Core.Path.{◌≡◌, refl, sym, ap, ◌∙◌}
use Prim.Native.Nat.{ℕ, suc, ◌+◌, ◌*◌, ◌-◌, ◌≤◌}
use native.Mathlib.Omega.{arith}
use native.Mathlib.Nat.{zero-add}
use native.Mathlib.Numerals.{add-one}
use mathlib.Core.Logic.{◌↔◌}
use mathlib.Core.Bool.{Bool, true, false, ◌&&◌}
use mathlib.Core.List.{List, [], ◌∷◌, ◌++◌, append_assoc, append-nil}
use lib.ListN.{length, take, drop, set, length-append, length-drop, take-append-drop, drop_of_length-le}
use lib.Seq.{take-suc-set, take-take, take-length, drop-set-lt, take-append-le, drop-append-le, drop-append-add, drop-drop, length-take-le}
use lib.Dec.{eqb}
use borrow.Author.Tests.{eq-eqb, eqb-true}
use borrow.Rule.Slice.PartMut.{put_mid}
use Rattle.std.specs.Cmp.Lexicographic.{pointwise}
use Rattle.splice.specs.Laid.{laid, same_bytes}

-- ---- laid

pub laid_is : (at : ℕ) (vs d : List ℕ) → laid at vs d ≡ take at d ++ vs ++ drop (at + length vs) d
unfolding laid
laid_is at vs d = refl

-- over the front: the bytes, then the old rest
pub laid_front : (vs d : List ℕ) → laid 0 vs d ≡ vs ++ drop (length vs) d
laid_front vs d = laid_is 0 vs d ∙ rw zero-add

-- what is as long as d covers it
pub laid_all : (vs d : List ℕ) → length vs ≡ length d → laid 0 vs d ≡ vs
laid_all vs d h =
    laid_front vs d ∙ ap (λ (r : List ℕ). vs ++ r) (drop_of_length-le d {i = length vs} (omega arith)) ∙ append-nil vs

-- no bytes change nothing
pub laid_none : (at : ℕ) (d : List ℕ) → laid at [] d ≡ d
laid_none at d =
    let n : at + 0 ≡ at = omega arith in
    laid_is at [] d ∙ (λ i. append-nil (take at d) i ++ drop (n i) d) ∙ take-append-drop at d

pub length-laid : (at : ℕ) (vs d : List ℕ) → at + length vs ≤ length d → length (laid at vs d) ≡ length d
length-laid at vs d h =
    ap length (laid_is at vs d)
    ∙ omega
    (arith, length-append (take at d ++ vs) (drop (at + length vs) d), length-append (take at d) vs, length-take-le at d (omega arith), length-drop (at + length vs) d)

-- a byte stored, and bytes laid behind it: together they are laid from the byte on
pub laid_cons : (at x : ℕ) (vs d : List ℕ) → at + 1 + length vs ≤ length d → laid (at + 1) vs (set d at x) ≡ laid at (x ∷ vs) d
laid_cons at x vs d h =
    laid_is (at + 1) vs (set d at x)
    ∙ (λ i. ((ap (λ (n : ℕ). take n (set d at x)) (add-one at) ∙ take-suc-set d at x (omega arith)) i ++ vs) ++ drop-set-lt (at + 1 + length vs) d at x (omega arith) i)
    ∙ (λ i. append_assoc (take at d) (x ∷ []) vs i ++ drop (n i) d)
    ∙ sym (laid_is at (x ∷ vs) d)
  where
    n : at + 1 + length vs ≡ at + suc (length vs)
    n = omega arith

-- bytes laid at the front of a part that is lent, from p up to e, are laid over the whole from p on
pub laid_part : (p e : ℕ) (vs d : List ℕ) → length vs ≤ length (take (e - p) (drop p d)) → put_mid p (e - p) d (laid 0 vs (take (e - p) (drop p d))) ≡ laid p vs d
laid_part p e vs d h =
    ap (put_mid p (e - p) d) (laid_front vs part)
    ∙ ap (λ (l : List ℕ). take p d ++ l) (append_assoc vs (drop (length vs) part) behind ∙ ap (λ (l : List ℕ). vs ++ l) rest)
    ∙ sym (laid_is p vs d ∙ append_assoc (take p d) vs (drop (p + length vs) d))
  where
    part : List ℕ
    part = take (e - p) (drop p d)

    behind : List ℕ
    behind = drop (e - p) (drop p d)

    rest : drop (length vs) part ++ behind ≡ drop (p + length vs) d
    rest = sym (drop-append-le (length vs) part behind h) ∙ ap (drop (length vs)) (take-append-drop (e - p) (drop p d)) ∙ drop-drop (length vs) p d

-- bytes laid behind bytes: together they are laid from the first on
pub laid_behind : (at : ℕ) (p vs d : List ℕ) → at + length p + length vs ≤ length d → laid (at + length p) vs (laid at p d) ≡ laid at (p ++ vs) d
laid_behind at p vs d h =
    let q : List ℕ = take at d ++ p in
    let lq : length q ≡ at + length p = omega (arith, length-append (take at d) p, length-take-le at d (omega arith)) in
    let e : laid at p d ≡ q ++ drop (at + length p) d = laid_is at p d in
    let t : take (at + length p) (q ++ drop (at + length p) d) ≡ q =
    take-append-le (at + length p) q (drop (at + length p) d) (omega arith) ∙ ap (λ (k : ℕ). take k q) (sym lq) ∙ take-length q in
    let u : drop (at + length p + length vs) (q ++ drop (at + length p) d) ≡ drop (at + length p + length vs) d =
    ap (λ (k : ℕ). drop (k + length vs) (q ++ drop (at + length p) d)) (sym lq) ∙ drop-append-add q (drop (at + length p) d) (length vs) ∙ drop-drop (length vs) (at + length p) d in
    let n : at + length p + length vs ≡ at + length (p ++ vs) = omega (arith, length-append p vs) in
    ap (laid (at + length p) vs) e
    ∙ laid_is (at + length p) vs (q ++ drop (at + length p) d)
    ∙ (λ i. (t i ++ vs) ++ u i)
    ∙ (λ i. append_assoc (take at d) p vs i ++ drop (n i) d)
    ∙ sym (laid_is at (p ++ vs) d)

-- bytes that are copied over a part that is lent, from `at` on and as long as they are, are laid from there on
pub laid_over : (at : ℕ) (vs d : List ℕ) → put_mid at (at + length vs - at) d vs ≡ laid at vs d
laid_over at vs d =
    let n : at + (at + length vs - at) ≡ at + length vs = omega arith in
    ap (λ (r : List ℕ). take at d ++ (vs ++ r)) (drop-drop (at + length vs - at) at d ∙ ap (λ (k : ℕ). drop k d) n)
    ∙ sym (laid_is at vs d ∙ append_assoc (take at d) vs (drop (at + length vs) d))

-- ---- same_bytes

-- ---- same_bytes

-- it says exactly whether two lists are equal
pub same_equal : (a b : List ℕ) → (same_bytes a b ≡ true) ↔ (a ≡ b)
unfolding same_bytes
same_equal a b = (to a b, λ e. rw (← e) (self a))
  where
    self : (a : List ℕ) → same_bytes a a ≡ true
    self [] = refl
    self (x ∷ a) = simp (eq-eqb x x refl) (self a)

    to : (a b : List ℕ) → same_bytes a b ≡ true → a ≡ b
    to [] [] e = refl
    to [] (y ∷ b) e = let z : ◌≡◌ {A = ℕ} 0 1 = cc in absurd (omega arith)
    to (x ∷ a) [] e = let z : ◌≡◌ {A = ℕ} 0 1 = cc in absurd (omega arith)
    to (x ∷ a) (y ∷ b) e = go (eqb x y) refl e (to a b)
      where
        go : (t : Bool) → eqb x y ≡ t → t && same_bytes a b ≡ true → (same_bytes a b ≡ true → a ≡ b) → x ∷ a ≡ y ∷ b
        go true p e ih = λ i. eqb-true x y p i ∷ ih e i
        go false p e ih = let z : ◌≡◌ {A = ℕ} 0 1 = cc in absurd (omega arith)

-- lists of different lengths are not the same
pub same_lengths : (a b : List ℕ) → (length a ≡ length b → ⊥) → same_bytes a b ≡ false
unfolding same_bytes
same_lengths [] [] h = absurd (h refl)
same_lengths [] (y ∷ b) h = refl
same_lengths (x ∷ a) [] h = refl
same_lengths (x ∷ a) (y ∷ b) h = go (eqb x y) (same_lengths a b (λ e. h (ap suc e)))
  where
    go : (t : Bool) → same_bytes a b ≡ false → t && same_bytes a b ≡ false
    go true ih = ih
    go false ih = refl

-- it is what `==` says of two slices of bytes
pub same_pointwise : (a b : List ℕ) → same_bytes a b ≡ pointwise eqb a b
unfolding same_bytes
same_pointwise [] [] = refl
same_pointwise [] (y ∷ b) = refl
same_pointwise (x ∷ a) [] = refl
same_pointwise (x ∷ a) (y ∷ b) = ap (λ (s : Bool). eqb x y && s) (same_pointwise a b)

-- the first k of two lists of one length, and then all behind their first m, where m is at most k
module _ (a b : List ℕ) (k m : ℕ) (n : length a ≡ length b) (h : m ≤ k) where
  pub same_first : same_bytes (take k a) (take k b) ≡ false → same_bytes a b ≡ false
  same_first e = go (same_bytes a b) refl
    where
      go : (t : Bool) → same_bytes a b ≡ t → same_bytes a b ≡ false
      go true p = let z : ◌≡◌ {A = Bool} true false = sym ((same_equal (take k a) (take k b)).1 (ap (take k) ((same_equal a b).0 p))) ∙ e in cc
      go false p = p

  pub same_last : same_bytes (take k a) (take k b) ≡ true → same_bytes a b ≡ same_bytes (drop m a) (drop m b)
  same_last e = go (same_bytes (drop m a) (drop m b)) refl
    where
      front : take m a ≡ take m b
      front = sym (take-take m k a h) ∙ ap (take m) ((same_equal (take k a) (take k b)).0 e) ∙ take-take m k b h

      go : (t : Bool) → same_bytes (drop m a) (drop m b) ≡ t → same_bytes a b ≡ same_bytes (drop m a) (drop m b)
      go true p =
          (same_equal a b).1 (sym (take-append-drop m a) ∙ (λ i. front i ++ (same_equal (drop m a) (drop m b)).0 p i) ∙ take-append-drop m b) ∙ sym p
      go false p = back (same_bytes a b) refl ∙ sym p
        where
          back : (t : Bool) → same_bytes a b ≡ t → same_bytes a b ≡ false
          back true q = let z : ◌≡◌ {A = Bool} true false = sym ((same_equal (drop m a) (drop m b)).1 (ap (drop m) ((same_equal a b).0 q))) ∙ p in cc
          back false q = q

-- two lists of one length, of which p and q are the first w
module _ (w : ℕ) (a b p q : List ℕ) (n : length a ≡ length b) (hp : p ≡ take w a) (hq : q ≡ take w b) where
  front : same_bytes (take w a) (take w b) ≡ pointwise eqb p q
  front = (λ i. same_bytes (sym hp i) (sym hq i)) ∙ same_pointwise p q

  pub differ_front : pointwise eqb p q ≡ false → same_bytes a b ≡ false
  differ_front e = same_first a b w 0 n (omega arith) (front ∙ e)

  -- and r and s the last w, which lie behind no more than w
  pub alike_front : (r s : List ℕ) → r ≡ drop (length a - w) a → s ≡ drop (length b - w) b → length a ≤ 2 * w → pointwise eqb p q ≡ true
      → pointwise eqb r s ≡ same_bytes a b
  alike_front r s hr hs h e =
      sym (same_pointwise r s)
      ∙ (λ i. same_bytes (hr i) ((hs ∙ ap (λ (k : ℕ). drop (k - w) b) (sym n)) i))
      ∙ sym (same_last a b w (length a - w) n (omega arith) (front ∙ e))
