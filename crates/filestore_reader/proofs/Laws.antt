-- The laws of the readers inside (`specs/Inner.antt`), and how the readers of `specs/Rules.antt` are made of them. Assumes nothing.
use Rattle.std.specs.Prelude.{None, Option, Some}
use mathlib.Core.Path.{◌≡◌, refl, sym, ap, ◌∙◌}
use Prim.Native.Nat.{ℕ, zero, suc, ◌+◌, ◌-◌, ◌/◌, ◌%◌, ◌≤◌, ◌<◌}
use native.Mathlib.Omega.{arith}
use mathlib.Core.Bool.{Bool, true, false}
use mathlib.Core.List.{List, [], ◌∷◌}
use lib.ListN.{length, take, drop, get_or, drop_of_length-le}
use Rattle.std.proofs.lemmas.List.{length-take}
use lib.Seq.{slice, slice-cons, slice_empty, length-slice, length-take-le, take-length}
use lib.Dec.{ltb}
use borrow.Author.Tests.{lt-ltb, le-ltb, ltb-true, ltb-false, ne_eqb}
use Rattle.bluebook.specs.Layouts.{actions, second_present, lv, lv_if}
use Rattle.refusal.specs.Answer.{Answer, gives, refuses, short_at, map_answer, and_then, also, Test}
use Rattle.refusal.specs.Reader.{Took, took, Reader, Exactly}
use Rattle.refusal.proofs.Laws.{mapped_by, map_answer_refused, map_answer_map_answer}
use Rattle.refusal.proofs.Readers.{rest_at}
use Rattle.lv.specs.Rules.{span, take_lv, read_lv_at}
use Rattle.lv.specs.declared.Lv.{Lv}
use Rattle.lv.proofs.Laws.{read_lv_at_in, read_lv_at_none}
use Rattle.lv.proofs.Theorems.{exactly_lv}
use Rattle.tlv.specs.Rules.{take_of, len_of_type}
use Rattle.tlv.proofs.Theorems as tlvs
use Rattle.action.specs.Rules.{code_of, action_at, action_of, due_of}
use Rattle.action.specs.declared.FilestoreActionCode.{FilestoreActionCode}
use Rattle.action.proofs.Laws.{code_back, action_of_known, action_of_none}
use Rattle.filestore_base.specs.Meaning.{Filed, filed, kind_of, base_of, second_at, end_of}
use Rattle.filestore_base.specs.declared.FilestoreTlvBase.{FilestoreTlvBase}
use Rattle.filestore_reader.specs.Rules.{take_octet, take_if, take_second, take_value, take_filed, found_of, found, read_base, status_listed, listed_test, strict_test, strict_base}
use Rattle.filestore_reader.specs.Inner.{read_if_at, read_second_at, end_if, with_message, read_message_at, read_behind, read_names, read_value}
use Rattle.filestore_reader.specs.declared.Found.{Found}
use Rattle.filestore_reader.proofs.Exact.{exactly_if, exactly_second, exactly_filed}

-- ---- an LV that is there or not, at a place

module _ (bs : List ℕ) (at end : ℕ) where
  pub read_if_at_not : read_if_at bs at end false ≡ gives None
  unfolding read_if_at take_if
  read_if_at_not = refl

  pub read_if_at_lv : at ≤ end → end ≤ length bs → read_if_at bs at end true ≡ map_answer Some (read_lv_at bs at end)
  unfolding read_if_at take_if
  read_if_at_lv h k =
      map_answer_map_answer (λ t. second_at at t.got) (λ t. took (Some t.got) t.rest) (take_lv at (slice at end bs))
      ∙ sym (map_answer_map_answer Some (λ t. span (at + 1) (length t.got)) (take_lv at (slice at end bs)))
      ∙ ap (map_answer Some) (sym (read_lv_at_in bs at end k h))

  -- where nothing is left
  nothing : end ≤ at → slice at end bs ≡ []
  nothing h = drop_of_length-le (take end bs) {i = at} (omega (arith, length-take end bs))

  pub read_if_at_none : end ≤ at → read_if_at bs at end true ≡ short_at at 0 1
  unfolding read_if_at take_if take_lv
  read_if_at_none h = rw (nothing h)

  pub read_second_at_not : read_second_at bs at end false ≡ gives None
  unfolding read_second_at take_second take_if
  read_second_at_not = refl

  pub read_second_at_none : end ≤ at → read_second_at bs at end true ≡ refuses 6 []
  unfolding read_second_at take_second
  read_second_at_none h = rw (nothing h)

  pub read_second_at_lv : at < end → end ≤ length bs → read_second_at bs at end true ≡ read_if_at bs at end true
  unfolding read_second_at read_if_at take_second
  read_second_at_lv h k = rw (slice-cons at end bs 0 h k)

-- what is known where a reader of an LV that may be absent has found s at a place
pub record Behind (read : Reader (Option (List ℕ))) (bs : List ℕ) (at end : ℕ) (s : Option Lv) : Type 0 where
  pub value : Option (List ℕ)
  pub is : s ≡ second_at at value
  pub place : end_if at s ≡ at + length (lv_if value)
  pub inside : end_if at s ≤ end
  pub taken : read (slice at end bs) ≡ gives (took value (slice (end_if at s) end bs))

place_of_lem : (at : ℕ) (v : Option (List ℕ)) → end_if at (second_at at v) ≡ at + length (lv_if v)
place_of_lem at (Some v) = omega arith
place_of_lem at None = omega arith

pub behind : {read : Reader (Option (List ℕ))} {ok : Option (List ℕ) → Type 0} → Exactly read ok lv_if → (bs : List ℕ) (at end : ℕ) (s : Option Lv) → at ≤ end → end ≤ length bs
    → map_answer (λ t. second_at at t.got) (read (slice at end bs)) ≡ gives s → Behind read bs at end s
behind {read} tie bs at end s h k e =
    let m = mapped_by (λ t. second_at at t.got) (read (slice at end bs)) s e in
    let t = m.0 in
    let r = rest_at bs (lv_if t.got) t.rest at end h k (tie.only (slice at end bs) t m.1).1 in
    let p : end_if at s ≡ at + length (lv_if t.got) = ap (end_if at) (sym m.2) ∙ place_of_lem at t.got in
    record {
      value = t.got;
      is = sym m.2;
      place = p;
      inside = omega (arith, r.0);
      taken = m.1 ∙ ap (λ (l : List ℕ). gives (took t.got l)) (r.1 ∙ ap (λ (n : ℕ). slice n end bs) (sym p));
    }

module _ (bs : List ℕ) (at end : ℕ) (h : at ≤ end) (k : end ≤ length bs) where
  pub behind_if : (d : Bool) (s : Option Lv) → gives s ≡ read_if_at bs at end d → Behind (take_if d at) bs at end s
  unfolding read_if_at
  behind_if d s e = behind (exactly_if d at) bs at end s h k (sym e)

  pub behind_second : (d : Bool) (s : Option Lv) → gives s ≡ read_second_at bs at end d → Behind (take_second d at) bs at end s
  unfolding read_second_at
  behind_second d s e = behind (exactly_second d at) bs at end s h k (sym e)

  -- ---- the message

  pub read_message_at_refused : (names : FilestoreTlvBase) (d : Bool) (n : ℕ) (vs : List ℕ) → refuses n vs ≡ read_if_at bs at end d → refuses n vs ≡ read_message_at bs at end names d
  unfolding read_if_at read_message_at
  read_message_at_refused names d n vs e = ap (map_answer _) (map_answer_refused (λ t. second_at at t.got) (take_if d at (slice at end bs)) n vs e)

  pub read_message_at_found : (names : FilestoreTlvBase) (d : Bool) (s : Option Lv) → gives s ≡ read_if_at bs at end d
      → gives (found_of (with_message names s) (end - end_if at s)) ≡ read_message_at bs at end names d
  unfolding read_message_at
  read_message_at_found names d s e =
      let b = behind_if d s e in
      let n : end - end_if at s ≡ length (slice (end_if at s) end bs) = sym (length-slice (end_if at s) end bs k) in
      (λ i. gives (found_of (with_message names (b.is i)) (n i)))
      ∙ sym (ap (map_answer (λ t. found_of (with_message names (second_at at t.got)) (length t.rest))) b.taken)

-- ---- behind the first name

module _ (bs : List ℕ) (end : ℕ) (a : FilestoreActionCode) (low : ℕ) (f : Lv) (d : Bool) (h : end_of f ≤ end) (k : end ≤ length bs) where
  -- the value found, with what the message's reader took
  abbrev with_second : Option (List ℕ) → Took (Option (List ℕ)) → Found
  with_second s t = found_of (base_of a low f (second_at (end_of f) s) (second_at (end_of f + length (lv_if s)) t.got)) (length t.rest)

  pub read_behind_refused : (n : ℕ) (vs : List ℕ) → refuses n vs ≡ read_second_at bs (end_of f) end (due_of a) → refuses n vs ≡ read_behind bs end a low f d
  unfolding read_second_at read_behind
  read_behind_refused n vs e =
      ap (λ (x : Answer (Took (Option (List ℕ)))). and_then x (λ s. map_answer (with_second s.got) (take_if d (end_of f + length (lv_if s.got)) s.rest)))
      (map_answer_refused (λ t. second_at (end_of f) t.got) (take_second (due_of a) (end_of f) (slice (end_of f) end bs)) n vs e)

  pub read_behind_second : (s : Option Lv) → gives s ≡ read_second_at bs (end_of f) end (due_of a)
      → read_message_at bs (end_if (end_of f) s) end (base_of a low f s None) d ≡ read_behind bs end a low f d
  unfolding read_message_at read_behind
  read_behind_second s e =
      let b = behind_second bs (end_of f) end h k (due_of a) s e in
      (λ i. map_answer (λ (t : Took (Option (List ℕ))). found_of (base_of a low f (b.is i) (second_at (b.place i) t.got)) (length t.rest)) (take_if d (b.place i) (slice (end_if (end_of f) s) end bs)))
      ∙ sym (ap (λ (x : Answer (Took (Option (List ℕ)))). and_then x (λ s. map_answer (with_second s.got) (take_if d (end_of f + length (lv_if s.got)) s.rest))) b.taken)

-- ---- behind the first byte

pub read_names_is : (bs : List ℕ) (end : ℕ) (a : FilestoreActionCode) (low : ℕ) (d : Bool) → and_then (read_lv_at bs 3 end) (λ f. read_behind bs end a low f d) ≡ read_names bs end a low d
unfolding read_names
read_names_is bs end a low d = refl

-- no first name, whatever the action
pub read_names_none : (bs : List ℕ) (end : ℕ) (a : FilestoreActionCode) (low : ℕ) (d : Bool) → end ≡ 3 → end ≤ length bs → read_names bs end a low d ≡ short_at 3 0 1
read_names_none bs end a low d e k =
    let z : end - 3 ≡ 0 = omega arith in
    sym (read_names_is bs end a low d)
    ∙ ap (λ (y : Answer Lv). and_then y (λ f. read_behind bs end a low f d)) (read_lv_at_none bs 3 end k (omega arith) (omega arith) ∙ ap (λ (n : ℕ). short_at 3 n 1) z)

-- ---- the value

module _ (bs : List ℕ) (end : ℕ) (d : Bool) where
  pub read_value_none : end ≡ 2 → read_value bs end d ≡ short_at 2 0 1
  unfolding read_value take_value take_octet
  read_value_none e = rw (e, slice_empty 2 bs)

  module _ (h : 2 < end) (k : end ≤ length bs) where
    abbrev o : ℕ
    o = get_or bs 2 0

    abbrev a : FilestoreActionCode
    a = action_at (o / 16)

    -- the value, once the second name and the message are read from what stands behind the first name
    tail : List ℕ → List ℕ → Answer (Took Filed)
    tail v rest = and_then (take_second (second_present (o / 16)) (4 + length v) rest) (λ s. map_answer (λ m. took (filed (o / 16) (o % 16) v s.got m.got) m.rest) (take_if d (4 + length v + length (lv_if s.got)) s.rest))

    tail_is : (v : List ℕ) (x : Answer (Took (Option (List ℕ))))
        → map_answer found (and_then x (λ s. map_answer (λ m. took (filed (o / 16) (o % 16) v s.got m.got) m.rest) (take_if d (4 + length v + length (lv_if s.got)) s.rest)))
        ≡ and_then x (λ s. map_answer (λ t. found_of (base_of a (o % 16) (span 4 (length v)) (second_at (4 + length v) s.got) (second_at (4 + length v + length (lv_if s.got)) t.got)) (length t.rest)) (take_if d (4 + length v + length (lv_if s.got)) s.rest))
    tail_is v (refuses n vs) = refl
    tail_is v (gives s) = map_answer_map_answer found (λ m. took (filed (o / 16) (o % 16) v s.got m.got) m.rest) (take_if d (4 + length v + length (lv_if s.got)) s.rest)

    known : o / 16 < length actions → read_value bs end d ≡ read_names bs end a (o % 16) d
    unfolding read_value take_value take_octet read_names read_behind tail
    known q =
        ap (λ (l : List ℕ). map_answer found (take_value d l)) (slice-cons 2 end bs 0 h k)
        ∙ simp (lt-ltb (o / 16) (length actions) q)
        (go (take_lv 3 (slice 3 end bs)) refl)
      where
        go : (x : Answer (Took (List ℕ))) → take_lv 3 (slice 3 end bs) ≡ x
            → map_answer found (and_then x (λ f. tail f.got f.rest)) ≡ and_then (read_lv_at bs 3 end) (λ f. read_behind bs end a (o % 16) f d)
        go (refuses n vs) e = sym (ap (λ (y : Answer Lv). and_then y (λ f. read_behind bs end a (o % 16) f d)) (read_lv_at_in bs 3 end k (omega arith) ∙ ap (map_answer _) e))
        go (gives t) e =
            let v = t.got in
            let r = rest_at bs (lv v) t.rest 3 end (omega arith) k ((exactly_lv 3).only (slice 3 end bs) t e).1 in
            let n : 3 + length (lv v) ≡ 4 + length v = omega arith in
            let s : t.rest ≡ slice (4 + length v) end bs = r.1 ∙ ap (λ (m : ℕ). slice m end bs) n in
            let w : second_present (o / 16) ≡ due_of a = ap second_present (sym (code_back (o / 16) q)) in
            ap (λ (l : List ℕ). map_answer found (tail v l)) s
            ∙ tail_is v (take_second (second_present (o / 16)) (4 + length v) (slice (4 + length v) end bs))
            ∙ ap (λ (b : Bool). and_then (take_second b (4 + length v) (slice (4 + length v) end bs)) (λ s. map_answer (λ t. found_of (base_of a (o % 16) (span 4 (length v)) (second_at (4 + length v) s.got) (second_at (4 + length v + length (lv_if s.got)) t.got)) (length t.rest)) (take_if d (4 + length v + length (lv_if s.got)) s.rest))) w
            ∙ sym (ap (λ (y : Answer Lv). and_then y (λ f. read_behind bs end a (o % 16) f d)) (read_lv_at_in bs 3 end k (omega arith) ∙ ap (map_answer _) e))

    none_such : length actions ≤ o / 16 → read_value bs end d ≡ refuses 7 (o / 16 ∷ [])
    unfolding read_value take_value take_octet
    none_such q = ap (λ (l : List ℕ). map_answer found (take_value d l)) (slice-cons 2 end bs 0 h k) ∙ simp (le-ltb (o / 16) (length actions) q)

    -- what the first byte's action answers, and then the names
    pub read_value_octet : read_value bs end d ≡ and_then (action_of (o / 16)) (λ a. read_names bs end a (o % 16) d)
    read_value_octet = go (ltb (o / 16) (length actions)) refl
      where
        go : (t : Bool) → ltb (o / 16) (length actions) ≡ t → read_value bs end d ≡ and_then (action_of (o / 16)) (λ a. read_names bs end a (o % 16) d)
        go true p = let q = ltb-true _ _ p in known q ∙ sym (ap (λ (x : Answer FilestoreActionCode). and_then x (λ a. read_names bs end a (o % 16) d)) (action_of_known (o / 16) q))
        go false p = let q = ltb-false _ _ p in none_such q ∙ sym (ap (λ (x : Answer FilestoreActionCode). and_then x (λ a. read_names bs end a (o % 16) d)) (action_of_none (o / 16) q))

  -- the value's first byte alone: where its action is known, the first name is missing
  pub read_value_nameless : (a : FilestoreActionCode) → end ≡ 3 → end ≤ length bs → gives a ≡ action_of (get_or bs 2 0 / 16) → read_value bs end d ≡ short_at 3 0 1
  read_value_nameless a e k g =
      let low = get_or bs 2 0 % 16 in
      read_value_octet (omega arith) k
      ∙ ap (λ (x : Answer FilestoreActionCode). and_then x (λ (b : FilestoreActionCode). read_names bs end b low d)) (sym g)
      ∙ read_names_none bs end a low d e k

-- ---- the whole TLV

module _ (d : Bool) (bs : List ℕ) where
  pub read_base_refused : (n : ℕ) (vs : List ℕ) → refuses n vs ≡ len_of_type (kind_of d) bs → refuses n vs ≡ read_base d bs
  unfolding read_base len_of_type
  read_base_refused n vs e = rw (← map_answer_refused (λ (v : Took (List ℕ)). 2 + length v.got) (take_of (kind_of d) bs) n vs e)

  -- of its bytes alone
  pub read_base_value : (end : ℕ) → gives end ≡ len_of_type (kind_of d) bs → read_value (take end bs) (length (take end bs)) d ≡ read_base d bs
  unfolding read_base read_value
  read_base_value end e =
      rw (take-length, (tlvs.found (kind_of d) bs end (sym e)).taken)
      (sym (map_answer_map_answer (λ (t : Took (Took Filed)). found t.got) (λ t. took t (drop end bs)) (take_value d (slice 2 end bs))))

-- ---- strict reading

pub listed_test_first : (a s : ℕ) → s < 4 → listed_test a s ≡ gives tt
unfolding listed_test status_listed
listed_test_first a zero h = refl
listed_test_first a (suc zero) h = refl
listed_test_first a (suc (suc zero)) h = refl
listed_test_first a (suc (suc (suc zero))) h = refl
listed_test_first a (suc (suc (suc (suc s)))) h = absurd (omega arith)

pub listed_test_last : (a s : ℕ) → s ≡ 15 → listed_test a s ≡ gives tt
unfolding listed_test status_listed
listed_test_last a s e = rw e

pub listed_test_off : (a s : ℕ) → 4 ≤ s → (s ≡ 15 → ⊥) → listed_test a s ≡ refuses 13 (s ∷ [])
unfolding listed_test status_listed
listed_test_off a s h e =
    simp (ne_eqb s 0 (λ p. omega arith), ne_eqb s 1 (λ p. omega arith), ne_eqb s 2 (λ p. omega arith), ne_eqb s 3 (λ p. omega arith), ne_eqb s 15 e)

-- strict reading is plain reading, and then a test of what was found
abbrev pub strictly : Bool → Found → Answer Found
strictly d f = also (strict_test d (code_of f.base.action_code) f.base.low_bits f.left) (gives f)

pub strict_base_is : (d : Bool) (bs : List ℕ) → and_then (read_base d bs) (strictly d) ≡ strict_base d bs
unfolding read_base strict_base
strict_base_is d bs = go (take_filed d bs) refl
  where
    passed : (t : Took (Took Filed)) (x : Test) → also x (gives (found t.got)) ≡ map_answer (λ (u : Took (Took Filed)). found u.got) (also x (gives t))
    passed t (gives tt) = refl
    passed t (refuses n vs) = refl

    go : (x : Answer (Took (Took Filed))) → take_filed d bs ≡ x
        → and_then (map_answer (λ t. found t.got) x) (strictly d)
        ≡ map_answer (λ t. found t.got) (and_then x (λ t. also (strict_test d t.got.got.action t.got.got.low (length t.got.rest)) (gives t)))
    go (refuses n vs) e = refl
    go (gives t) e =
        let m = t.got.got in
        let ok = ((exactly_filed d).only bs t e).0 in
        ap (λ (n : ℕ). also (strict_test d n m.low (length t.got.rest)) (gives (found t.got))) (code_back m.action ok.named.known)
        ∙ passed t (strict_test d m.action m.low (length t.got.rest))
