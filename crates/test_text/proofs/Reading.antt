-- The cases of `specs/Notation.antt`, and how what is left by one text after another is what both leave. Assumes nothing.
use Rattle.std.proofs.Common.{Option, Some, None}
use mathlib.Core.Path.{◌≡◌, refl, sym, ap, subst, ◌∙◌}
use Prim.Native.Nat.{ℕ, ◌+◌, ◌-◌, ◌*◌, ◌%◌, ◌≤◌, ◌<◌}
use native.Mathlib.Omega.{arith}
use native.Mathlib.Nat.{zero-add}
use native.Mathlib.Numerals.{add-one}
use mathlib.Core.Bool.{Bool, true, false, cond, ◌&&◌, and-false, and_assoc}
use mathlib.Core.List.{List, [], ◌∷◌, ◌++◌, append_assoc}
use lib.ListN.{length, take, drop, get_or, set, drop_of_length-le, length-drop, length-append, length-take, take-append-drop}
use lib.Seq.{drop-cons, drop-drop, drop-append-le, take_at, drop_at, set_split}
use lib.Dec.{eqb, leb}
use lib.Pointwise.{pointwise}
use borrow.Rule.Slice.PartMut.{put_mid, same_len_mid}
use borrow.Author.Tests.{le-leb, lt-leb, ne_eqb, leb-true, leb-false}
use Rattle.std.specs.List.{list_all, slice_split}
use Rattle.std.specs.Option.{is_some}
use Rattle.test_text.specs.Text.{digit, nibble_of, before, decimal_of}
use Rattle.test_text.specs.Notation.{
  then,
  is_bytes,
  pair_of,
  pairs_of,
  times_of,
  counted,
  count_of,
  piece_at,
  piece_of,
  all_of,
  pieces_of,
  bytes_of,
  laid,
  LeftIf,
  Left,
}

-- ---- WHAT IS LEFT

pub left_not : (m : Option (List ℕ)) (at : ℕ) (old : List ℕ) (r : Option ℕ) (new : List ℕ) → m ≡ None → r ≡ None → length new ≡ length old → Left m at old r new
unfolding Left
left_not m at old r new e f h = rw e (f, h)

module _ (l : List ℕ) (at : ℕ) (old : List ℕ) (r : Option ℕ) (new : List ℕ) where
  pub left_full : length old < at + length l → r ≡ None → length new ≡ length old → Left (Some l) at old r new
  unfolding Left LeftIf
  left_full h f k = rw (lt-leb (at + length l) (length old) h) (f, k)

  pub left_these : at + length l ≤ length old → r ≡ Some (at + length l) → new ≡ laid at l old → Left (Some l) at old r new
  unfolding Left LeftIf
  left_these h f k = rw (le-leb (at + length l) (length old) h) (f, k)

pub left_as : (m o : Option (List ℕ)) (at : ℕ) (old : List ℕ) (r : Option ℕ) (new : List ℕ) → m ≡ o → Left o at old r new → Left m at old r new
left_as m o at old r new e h = subst (λ (x : Option (List ℕ)). Left x at old r new) (sym e) h

-- What Some and None say.
pub record Had (m : Option (List ℕ)) (at : ℕ) (old : List ℕ) (n : ℕ) (new : List ℕ) : Type 0 where
  pub bytes : List ℕ
  pub said : m ≡ Some bytes
  pub room : at + length bytes ≤ length old
  pub place : n ≡ at + length bytes
  pub holds : new ≡ laid at bytes old

pub left_is : (m : Option (List ℕ)) (at : ℕ) (old : List ℕ) (n : ℕ) (new : List ℕ) → Left m at old (Some n) new → Had m at old n new
unfolding Left LeftIf
left_is None at old n new h = let e = h.0 in let z : ◌≡◌ {A = ℕ} 0 1 = cc in absurd (omega arith)
left_is (Some l) at old n new h = go (leb (at + length l) (length old)) refl h where
  go : (t : Bool) → leb (at + length l) (length old) ≡ t → LeftIf t l at old (Some n) new → Had (Some l) at old n new
  go true e g =
      let f = g.0 in
      record { bytes = l; said = refl; room = leb-true _ _ e; place = cc; holds = g.1 }
  go false e g = let f = g.0 in let z : ◌≡◌ {A = ℕ} 0 1 = cc in absurd (omega arith)

pub record Refused (m : Option (List ℕ)) (at : ℕ) (old : List ℕ) (new : List ℕ) : Type 0 where
  pub full : (l : List ℕ) → m ≡ Some l → length old < at + length l
  pub size : length new ≡ length old

pub left_no : (m : Option (List ℕ)) (at : ℕ) (old : List ℕ) (new : List ℕ) → Left m at old None new → Refused m at old new
unfolding Left LeftIf
left_no None at old new h =
    record { full = λ l e. (let z : ◌≡◌ {A = ℕ} 0 1 = cc in absurd (omega arith)); size = h.1 }
left_no (Some l) at old new h = go (leb (at + length l) (length old)) refl h where
  go : (t : Bool) → leb (at + length l) (length old) ≡ t → LeftIf t l at old None new → Refused (Some l) at old new
  go true e g = let f = g.0 in let z : ◌≡◌ {A = ℕ} 0 1 = cc in absurd (omega arith)
  go false e g =
      let h : length old < at + length l = leb-false _ _ e in
      record {
        full = λ k f. (let q : l ≡ k = cc in let w : length l ≡ length k = ap length q in omega arith);
        size = g.1;
      }

laid_length : (at : ℕ) (l old : List ℕ) → at + length l ≤ length old → length (laid at l old) ≡ length old
unfolding laid
laid_length at l old h = simp (length-append, length-take, length-drop) (omega arith)

-- Some n: n is no less than the place, and the buffer holds so many bytes and is as long as before.
pub left_within : (m : Option (List ℕ)) (at : ℕ) (old : List ℕ) (n : ℕ) (new : List ℕ) → Left m at old (Some n) new → (at ≤ n) × (n ≤ length new) × (length new ≡ length old)
left_within m at old n new h =
    let d = left_is m at old n new h in
    let e : length new ≡ length old = ap length d.holds ∙ laid_length at d.bytes old d.room in
    let f : n ≡ at + length d.bytes = d.place in
    let g : at + length d.bytes ≤ length old = d.room in
    (omega arith, omega arith, e)

-- What a caller needs to lend the first n bytes of its buffer.
pub read_fits : (m : Option (List ℕ)) (at : ℕ) (old : List ℕ) (r : Option ℕ) (new : List ℕ) (n : ℕ) → Left m at old r new → r ≡ Some n → (n ≤ length new) × (length new ≡ length old)
read_fits m at old r new n h e =
    let w = left_within m at old n new (subst (λ (x : Option ℕ). Left m at old x new) e h) in
    (w.1, w.2)

-- In every case the buffer is as long as before.
pub left_length : (m : Option (List ℕ)) (at : ℕ) (old : List ℕ) (r : Option ℕ) (new : List ℕ) → Left m at old r new → length new ≡ length old
left_length m at old (Some n) new h = (left_within m at old n new h).2
left_length m at old None new h = (left_no m at old new h).size

-- One answer only, and where it is Some one buffer.
pub one_left : (m : Option (List ℕ)) (at : ℕ) (old : List ℕ) (r q : Option ℕ) (new mew : List ℕ) → Left m at old r new → Left m at old q mew → (r ≡ q) × ((n : ℕ) → r ≡ Some n → new ≡ mew)
unfolding Left LeftIf
one_left None at old r q new mew h g =
    let e = h.0 in
    (h.0 ∙ sym g.0, λ n f. (let z : ◌≡◌ {A = ℕ} 0 1 = cc in absurd (omega arith)))
one_left (Some l) at old r q new mew h g = go (leb (at + length l) (length old)) h g where
  go : (t : Bool) → LeftIf t l at old r new → LeftIf t l at old q mew → (r ≡ q) × ((n : ℕ) → r ≡ Some n → new ≡ mew)
  go true h g = (h.0 ∙ sym g.0, λ n f. h.1 ∙ sym g.1)
  go false h g =
      let e = h.0 in
      (h.0 ∙ sym g.0, λ n f. (let z : ◌≡◌ {A = ℕ} 0 1 = cc in absurd (omega arith)))

-- ---- ONE TEXT BEHIND ANOTHER

laid_as : (at : ℕ) (l old : List ℕ) → laid at l old ≡ take at old ++ (l ++ drop (at + length l) old)
unfolding laid
laid_as at l old = refl

laid_none : (at : ℕ) (old : List ℕ) → old ≡ laid at [] old
unfolding laid
laid_none at old = let e : at + 0 ≡ at = omega arith in rw e (sym (take-append-drop at old))

pub left_none : (at : ℕ) (old : List ℕ) → at ≤ length old → Left (Some []) at old (Some at) old
left_none at old h = left_these [] at old (Some at) old (omega arith) (ap Some (omega arith)) (laid_none at old)

module _ (at : ℕ) (k l old : List ℕ) (h : at + length k + length l ≤ length old) where
  laid_head : length (take at old ++ k) ≡ at + length k
  laid_head = simp (length-append, length-take) (omega arith)

  laid_split : laid at k old ≡ (take at old ++ k) ++ drop (at + length k) old
  unfolding laid
  laid_split = sym (append_assoc (take at old) k (drop (at + length k) old))

  laid_front : take (at + length k) (laid at k old) ≡ take at old ++ k
  laid_front = rw laid_split (take_at (take at old ++ k) (drop (at + length k) old) (at + length k) laid_head)

  laid_behind : drop (at + length k + length l) (laid at k old) ≡ drop (at + length (k ++ l)) old
  laid_behind =
      sym (drop-drop (length l) (at + length k) (laid at k old))
      ∙ ap (drop (length l)) (ap (drop (at + length k)) laid_split ∙ drop_at (take at old ++ k) (drop (at + length k) old) (at + length k) laid_head)
      ∙ drop-drop (length l) (at + length k) old
      ∙ ap (λ (n : ℕ). drop n old) ends where
        ends : at + length k + length l ≡ at + length (k ++ l)
        ends = simp length-append (omega arith)

  laid_twice : laid (at + length k) l (laid at k old) ≡ laid at (k ++ l) old
  laid_twice =
      laid_as (at + length k) l (laid at k old) ∙ simp (laid_front, laid_behind, laid_as at (k ++ l) old, append_assoc)

behind : (k : List ℕ) (o : Option (List ℕ)) (at : ℕ) (old : List ℕ) (r : Option ℕ) (new : List ℕ) → at + length k ≤ length old → Left o (at + length k) (laid at k old) r new → Left (then (Some k) o) at old r new
unfolding Left LeftIf then
behind k None at old r new h g = (g.0, g.1 ∙ laid_length at k old h)
behind k (Some l) at old r new h g = go (leb (at + length k + length l) (length (laid at k old))) refl g where
  size : length (laid at k old) ≡ length old
  size = laid_length at k old h

  sum : length (k ++ l) ≡ length k + length l
  sum = length-append k l

  go : (t : Bool) → leb (at + length k + length l) (length (laid at k old)) ≡ t → LeftIf t l (at + length k) (laid at k old) r new → Left (Some (k ++ l)) at old r new
  go true e f =
      let w : at + length k + length l ≤ length (laid at k old) = leb-true _ _ e in
      let n : at + length k + length l ≡ at + length (k ++ l) = omega (arith, sum) in
      left_these (k ++ l) at old r new (omega (arith, sum, size)) (f.0 ∙ ap Some n) (f.1 ∙ laid_twice at k l old (omega (arith, size)))
  go false e f =
      let w : length (laid at k old) < at + length k + length l = leb-false _ _ e in
      left_full (k ++ l) at old r new (omega (arith, sum, size)) f.0 (f.1 ∙ size)

moved : (o : Option (List ℕ)) (n p : ℕ) (mid old : List ℕ) (r : Option ℕ) (new : List ℕ) → n ≡ p → mid ≡ old → Left o n mid r new → Left o p old r new
moved o n p mid old r new e f h = rw (e, f) at h

pub left_then : (m o : Option (List ℕ)) (at : ℕ) (old : List ℕ) (n : ℕ) (mid : List ℕ) (r : Option ℕ) (new : List ℕ) → Left m at old (Some n) mid → Left o n mid r new → Left (then m o) at old r new
left_then m o at old n mid r new h g =
    let d = left_is m at old n mid h in
    let f = moved o n (at + length d.bytes) mid (laid at d.bytes old) r new d.place d.holds g in
    subst (λ (x : Option (List ℕ)). Left (then x o) at old r new) (sym d.said) (behind d.bytes o at old r new d.room f)

pub left_stop : (m o : Option (List ℕ)) (at : ℕ) (old new : List ℕ) → Left m at old None new → Left (then m o) at old None new
unfolding Left then
left_stop None o at old new h = h
left_stop (Some k) None at old new h = (refl, (left_no (Some k) at old new h).size)
left_stop (Some k) (Some l) at old new h =
    let d = left_no (Some k) at old new h in
    let w : length old < at + length k = d.full k refl in
    left_full (k ++ l) at old None new (omega (arith, length-append k l)) refl d.size

-- ---- A PART OF A BUFFER, from a place on to its end: what is left in the part is left in the buffer, from that place on

module _ (n : ℕ) (buf s : List ℕ) (h : n ≤ length buf) where
  abbrev part : List ℕ
  part = take (length buf - n) (drop n buf)

  abbrev whole : List ℕ
  whole = put_mid n (length buf - n) buf s

  part_size : length part ≡ length buf - n
  part_size = simp (length-take, length-drop) (omega arith)

  laid_part : (l : List ℕ) → length l ≤ length part → put_mid n (length buf - n) buf (laid 0 l part) ≡ laid n l buf
  laid_part l k =
      ap (put_mid n (length buf - n) buf) (laid_as 0 l part ∙ rw zero-add)
      ∙ ap (λ (x : List ℕ). take n buf ++ x) (append_assoc l (drop (length l) part) behind_part ∙ ap (λ (x : List ℕ). l ++ x) rest)
      ∙ sym (laid_as n l buf)
    where
      behind_part : List ℕ
      behind_part = drop (length buf - n) (drop n buf)

      rest : drop (length l) part ++ behind_part ≡ drop (n + length l) buf
      rest = sym (drop-append-le (length l) part behind_part k) ∙ ap (drop (length l)) (take-append-drop (length buf - n) (drop n buf)) ∙ drop-drop (length l) n buf

  left_part : (m : Option (List ℕ)) (p : ℕ) → Left m 0 part (Some p) s → Left m n buf (Some (n + p)) whole
  left_part m p g =
      let d = left_is m 0 part p s g in
      let r = d.room in
      let q = d.place in
      let z = part_size in
      left_as m (Some d.bytes) n buf (Some (n + p)) whole d.said
      (left_these d.bytes n buf (Some (n + p)) whole (omega arith) (ap Some (omega arith)) (ap (put_mid n (length buf - n) buf) d.holds ∙ laid_part d.bytes (omega arith)))

  left_part_no : (m : Option (List ℕ)) → Left m 0 part None s → Left m n buf None whole
  left_part_no m g = go m (left_no m 0 part s g) where
    go : (m : Option (List ℕ)) → Refused m 0 part s → Left m n buf None whole
    go None d = left_not None n buf None whole refl refl (same_len_mid n (length buf - n) buf s d.size)
    go (Some l) d =
        let f : length part < 0 + length l = d.full l refl in
        let z = part_size in
        left_full l n buf None whole (omega arith) refl (same_len_mid n (length buf - n) buf s d.size)

-- ---- LOOPS: what the rest of a text leaves from here on, the whole text leaves from the place `at` on

pub record Reads (rest : Option (List ℕ)) (n : ℕ) (buf : List ℕ) (all : Option (List ℕ)) (at : ℕ) (old : List ℕ) : Type 0 where
  pub place : n ≤ length buf
  pub size : length buf ≡ length old
  pub leaves : (r : Option ℕ) (new : List ℕ) → Left rest n buf r new → Left all at old r new

pub reads_start : (m o : Option (List ℕ)) (at : ℕ) (old : List ℕ) → at ≤ length old → m ≡ o → Reads m at old o at old
reads_start m o at old h e =
    record {
      place = h;
      size = refl;
      leaves = λ r new g. subst (λ (x : Option (List ℕ)). Left x at old r new) e g;
    }

module _ (rest : Option (List ℕ)) (n : ℕ) (buf : List ℕ) (all : Option (List ℕ)) (at : ℕ) (old : List ℕ) (i : Reads rest n buf all at old) where
  -- the rest is a text and what is behind it, and the text was read into what is behind the bytes so far
  module _ (m : Option (List ℕ)) (p : ℕ) (s : List ℕ) (h : Left m 0 (take (length buf - n) (drop n buf)) (Some p) s) where
    pub reads_within : n + p ≤ length buf
    reads_within =
        let w = left_within m n buf (n + p) _ (left_part n buf s i.place m p h) in
        let u = w.1 in
        let z = w.2 in
        omega arith

    pub reads_on : (o : Option (List ℕ)) → rest ≡ then m o → Reads o (n + p) (put_mid n (length buf - n) buf s) all at old
    reads_on o e =
        let g = left_part n buf s i.place m p h in
        let w = left_within m n buf (n + p) _ g in
        record {
          place = w.1;
          size = w.2 ∙ i.size;
          leaves = λ q new k. i.leaves q new (subst (λ (x : Option (List ℕ)). Left x n buf q new) (sym e) (left_then m o n buf (n + p) _ q new g k));
        }

  -- the text was refused, and so the whole is
  pub reads_stop : (m o : Option (List ℕ)) (r : Option ℕ) (s : List ℕ) → rest ≡ then m o → Left m 0 (take (length buf - n) (drop n buf)) None s → r ≡ None → Left all at old r (put_mid n (length buf - n) buf s)
  reads_stop m o r s e h f =
      let new : List ℕ = put_mid n (length buf - n) buf s in
      let g = left_stop m o n buf new (left_part_no n buf s i.place m h) in
      subst (λ (x : Option ℕ). Left all at old x new) (sym f) (i.leaves None new (subst (λ (x : Option (List ℕ)). Left x n buf None new) (sym e) g))

  -- the rest is not in the notation
  pub reads_not : rest ≡ None → Left all at old None buf
  reads_not e = i.leaves None buf (left_not rest n buf None buf e refl refl)

  -- nothing is left
  pub reads_end : rest ≡ Some [] → Left all at old (Some n) buf
  reads_end e = i.leaves (Some n) buf (subst (λ (x : Option (List ℕ)). Left x n buf (Some n) buf) (sym e) (left_none n buf i.place))

-- ---- PAIRS OF DIGITS

pub pair_high : (a b : ℕ) → 15 < digit a → pair_of a b ≡ None
unfolding pair_of
pair_high a b h = simp (lt-leb (digit a) 15 h)

pub pair_low : (a b : ℕ) → 15 < digit b → pair_of a b ≡ None
unfolding pair_of
pair_low a b h = rw (lt-leb (digit b) 15 h, and-false (leb (digit a) 15))

pub pair_both : (a b : ℕ) → digit a ≤ 15 → digit b ≤ 15 → pair_of a b ≡ Some ((digit a * 16 + digit b) ∷ [])
unfolding pair_of
pair_both a b h k = simp (le-leb (digit a) 15 h, le-leb (digit b) 15 k)

pub set-laid : (at v : ℕ) (old : List ℕ) → at < length old → set old at v ≡ laid at (v ∷ []) old
set-laid at v old h = set_split old at v h ∙ sym (laid_as at (v ∷ []) old ∙ rw (add-one at))

pub pairs_end : (s : List ℕ) → length s ≡ 0 → pairs_of s ≡ Some []
unfolding pairs_of
pairs_end [] h = refl
pairs_end (a ∷ s) h = absurd (omega arith)

pub pairs_odd : (s : List ℕ) → length s ≡ 1 → pairs_of s ≡ None
unfolding pairs_of
pairs_odd [] h = absurd (omega arith)
pairs_odd (a ∷ []) h = refl
pairs_odd (a ∷ b ∷ s) h = absurd (omega arith)

pub pairs_at : (s f b : List ℕ) → (f ≡ take 2 s) × (b ≡ drop 2 s) × (length b + 2 ≡ length s) → pairs_of s ≡ then (pair_of (get_or f 0 0) (get_or f 1 0)) (pairs_of b)
unfolding pairs_of
pairs_at [] f b h = absurd (omega (arith, h.2))
pairs_at (x ∷ []) f b h = absurd (omega (arith, h.2))
pairs_at (x ∷ y ∷ s) f b h = rw (h.0, h.1) refl

is_then : (m o : Option (List ℕ)) → is_bytes (then m o) ≡ (is_bytes m && is_bytes o)
unfolding is_bytes then
is_then None o = refl
is_then (Some k) None = refl
is_then (Some k) (Some l) = refl

-- the digits alone tell whether texts of an even length are pairs
abbrev pub is_digit : ℕ → Bool
is_digit x = is_some (nibble_of x)

is_pair : (a b : ℕ) → is_bytes (pair_of a b) ≡ (is_digit a && is_digit b)
unfolding is_bytes pair_of
is_pair a b = go (leb (digit a) 15) (leb (digit b) 15) where
  go : (t u : Bool) → is_bytes (cond (t && u) (Some ((digit a * 16 + digit b) ∷ [])) None) ≡ (is_some (cond t (Some (digit a)) None) && is_some (cond u (Some (digit b)) None))
  go true true = refl
  go true false = refl
  go false u = refl

pub pairs_all : (s : List ℕ) → length s % 2 ≡ 0 → list_all is_digit s ≡ is_bytes (pairs_of s)
unfolding is_bytes pairs_of
pairs_all [] h = refl
pairs_all (a ∷ []) h = absurd (omega arith)
pairs_all (a ∷ b ∷ s) h =
    rw (is_then (pair_of a b) (pairs_of s), is_pair a b, ← pairs_all s (omega arith)) (sym (and_assoc (is_digit a) (is_digit b) (list_all is_digit s)))

pub pairs_not : (s : List ℕ) → (length s % 2 ≡ 0 → ⊥) → is_bytes (pairs_of s) ≡ false
unfolding is_bytes pairs_of
pairs_not [] h = absurd (h refl)
pairs_not (a ∷ []) h = refl
pairs_not (a ∷ b ∷ s) h =
    rw (is_then (pair_of a b) (pairs_of s), pairs_not s (λ e. h (omega arith))) (and-false (is_bytes (pair_of a b)))

-- ---- A PIECE

pub times_none : (n : ℕ) (m : Option (List ℕ)) → n ≡ 0 → times_of n m ≡ Some []
unfolding times_of
times_none n m e = rw e

pub times_on : (n k : ℕ) (m : Option (List ℕ)) → n ≡ k + 1 → times_of n m ≡ then m (times_of k m)
unfolding times_of
times_on n k m e = rw (e, add-one k)

pub count_none : (i : ℕ) (s : List ℕ) → length s ≤ i → count_of (drop i s) ≡ Some 1
unfolding count_of
count_none i s h = rw (drop_of_length-le s {i = i} h)

pub count_some : (i : ℕ) (s : List ℕ) → i < length s → count_of (drop i s) ≡ decimal_of (drop (i + 1) s)
unfolding count_of
count_some i s h = rw (drop-cons s i 0 h, add-one i)

true_not_false : ◌≡◌ {A = Bool} true false → ⊥
true_not_false e = let z : ◌≡◌ {A = ℕ} 0 1 = cc in omega arith

counted_not : (r : Option ℕ) (m : Option (List ℕ)) → is_bytes m ≡ false → counted r m ≡ None
unfolding counted is_bytes
counted_not None m e = refl
counted_not (Some n) None e = refl
counted_not (Some n) (Some l) e = absurd (true_not_false e)

counted_is : (n : ℕ) (m : Option (List ℕ)) → is_bytes m ≡ true → counted (Some n) m ≡ times_of n m
unfolding counted is_bytes
counted_is n None e = absurd (true_not_false (sym e))
counted_is n (Some l) e = refl

pub piece_empty : (s : List ℕ) → before 42 s ≡ 0 → piece_of s ≡ None
unfolding piece_of piece_at
piece_empty s e = rw e

module _ (s : List ℕ) (h : before 42 s ≡ 0 → ⊥) where
  piece_some : piece_of s ≡ counted (count_of (drop (before 42 s) s)) (pairs_of (take (before 42 s) s))
  unfolding piece_of piece_at
  piece_some = rw (ne_eqb (before 42 s) 0 h)

  pub piece_not : is_bytes (pairs_of (take (before 42 s) s)) ≡ false → piece_of s ≡ None
  piece_not e = piece_some ∙ counted_not (count_of (drop (before 42 s) s)) (pairs_of (take (before 42 s) s)) e

  pub piece_uncounted : count_of (drop (before 42 s) s) ≡ None → piece_of s ≡ None
  unfolding counted
  piece_uncounted e = piece_some ∙ ap (λ (r : Option ℕ). counted r (pairs_of (take (before 42 s) s))) e

  pub piece_counted : (n : ℕ) → is_bytes (pairs_of (take (before 42 s) s)) ≡ true → count_of (drop (before 42 s) s) ≡ Some n → piece_of s ≡ times_of n (pairs_of (take (before 42 s) s))
  piece_counted n k e =
      piece_some
      ∙ ap (λ (r : Option ℕ). counted r (pairs_of (take (before 42 s) s))) e
      ∙ counted_is n (pairs_of (take (before 42 s) s)) k

-- ---- PIECES

-- the texts between the bytes 46
abbrev pub texts : List ℕ → List (List ℕ)
texts s = slice_split (λ b. eqb b 46) s

-- what the texts from a place on say
pub pieces_start : (s : List ℕ) → all_of (drop 0 (texts s)) ≡ pieces_of s
unfolding pieces_of
pieces_start s = refl

pub pieces_at : (i j : ℕ) (ss : List (List ℕ)) (p : List ℕ) → (i < length ss) × (p ≡ get_or ss i p) → j ≡ i + 1 → all_of (drop i ss) ≡ then (piece_of p) (all_of (drop j ss))
unfolding all_of
pieces_at i j ss p h e = rw (e, drop-cons ss i p h.0, add-one i, ← h.1) refl

pub pieces_end : (i : ℕ) (ss : List (List ℕ)) → length ss ≤ i → all_of (drop i ss) ≡ Some []
unfolding all_of
pieces_end i ss h = rw (drop_of_length-le ss {i = i} h)

-- ---- THE WHOLE TEXT, whether it begins with an x, and the part p behind that

abbrev pub begins_x : List ℕ → Bool
begins_x s = pointwise eqb (take 1 s) (120 ∷ [])

with_x : (x : ℕ) → (eqb x 120 && true) ≡ true → eqb x 120 ≡ true
with_x x h = go (eqb x 120) h where
  go : (t : Bool) → (t && true) ≡ true → t ≡ true
  go true k = refl
  go false k = k

pub bytes_other : (s : List ℕ) → begins_x s ≡ false → bytes_of s ≡ None
unfolding bytes_of
bytes_other [] h = refl
bytes_other (x ∷ []) h = go (eqb x 120) h where
  go : (t : Bool) → (t && true) ≡ false → cond {A = Option (List ℕ)} t (Some []) None ≡ None
  go true k = absurd (true_not_false k)
  go false k = refl
bytes_other (x ∷ b ∷ s) h = go (eqb x 120) h where
  go : (t : Bool) → (t && true) ≡ false → cond t (pieces_of (b ∷ s)) None ≡ None
  go true k = absurd (true_not_false k)
  go false k = refl

pub bytes_x : (s p : List ℕ) → begins_x s ≡ true → p ≡ drop 1 s → length p ≡ 0 → bytes_of s ≡ Some []
unfolding bytes_of
bytes_x [] p h e k = absurd (true_not_false (sym h))
bytes_x (x ∷ []) p h e k = rw (with_x x h)
bytes_x (x ∷ b ∷ s) p h e k = absurd (omega (arith, ap length e))

pub bytes_pieces : (s p : List ℕ) → begins_x s ≡ true → p ≡ drop 1 s → (length p ≡ 0 → ⊥) → bytes_of s ≡ pieces_of p
unfolding bytes_of
bytes_pieces [] p h e k = absurd (k (ap length e))
bytes_pieces (x ∷ []) p h e k = absurd (k (ap length e))
bytes_pieces (x ∷ b ∷ s) p h e k = rw (with_x x h, e)
