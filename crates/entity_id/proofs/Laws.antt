-- The laws of `specs/Rules.antt`, a case each: this crate's proofs cite them, and so do those above it. Assumes nothing.
use mathlib.Core.Path.{◌≡◌, refl, sym, ap, ◌∙◌}
use Prim.Native.Nat.{ℕ, ◌+◌, ◌-◌, ◌≤◌, ◌<◌}
use native.Mathlib.Omega.{arith}
use mathlib.Core.Bool.{Bool, true, false, ◌||◌}
use mathlib.Core.List.{List, [], ◌∷◌}
use lib.ListN.{length, take, drop, get_or, set, length-set}
use lib.Seq.{length-take-le}
use lib.Dec.{eqb, leb}
use borrow.Author.Tests.{le-leb, lt-leb, leb-true, eq-eqb, ne_eqb, eqb-true}
use Rattle.bluebook.specs.Layouts.{entity_id, be_bytes, Entity, entity}
use Rattle.refusal.specs.Answer.{Answer, gives, refuses, short_at, map_answer, also}
use Rattle.refusal.specs.Reader.{Took, took}
use Rattle.refusal.proofs.Laws.{gives_same, gives_or_refuses, mapped_by, also_refused, also_passed, also_both, pick_passed}
use Rattle.splice.specs.Laid.{laid}
use Rattle.splice.specs.Writing.{room_at, leaves, Wrote}
use Rattle.splice.proofs.Laws.{laid_cons}
use Rattle.splice.proofs.Writing.{room_for_in, room_for_out, room_at_there, wrote, gives_room}
use Rattle.number.specs.Rules.{of_be, read_be, number_test}
use Rattle.number.proofs.Laws.{read_be_in, number_test_passed, number_test_in, length_be}
use Rattle.lv.specs.Rules.{span, part_of, span_test}
use Rattle.lv.proofs.Laws.{span_test_passed, length-part_of}
use Rattle.tlv.specs.Kinds.{byte_of, is_standard}
use Rattle.tlv.specs.Rules.{tlv_of}
use Rattle.tlv.specs.declared.Tlv.{Tlv}
use Rattle.tlv.specs.declared.TlvTypeField.{TlvTypeField}
use Rattle.entity_id.specs.Rules.{entity_of, numbered, label, width_ok, width_test, entity_test, new_entity, len_entity, EntityOk, head_test, type_test, value_test, take_entity, read_entity, label_test, of_tlv, write_test, write_entity, room_test, tlv_entity, MadeTlv}

-- ---- widths

-- the two laws that look at them
pub width_bounds : (w : ℕ) → width_ok w ≡ true → (1 ≤ w) × (w ≤ 8)
unfolding width_ok
width_bounds w h = go (eqb w 1) refl (eqb w 2) refl (eqb w 4) refl (eqb w 8) refl h
  where
    go : (a : Bool) → eqb w 1 ≡ a → (b : Bool) → eqb w 2 ≡ b → (c : Bool) → eqb w 4 ≡ c → (d : Bool) → eqb w 8 ≡ d → a || b || c || d ≡ true → (1 ≤ w) × (w ≤ 8)
    go true p b q c r d s e = let k = eqb-true w 1 p in (omega arith, omega arith)
    go false p true q c r d s e = let k = eqb-true w 2 q in (omega arith, omega arith)
    go false p false q true r d s e = let k = eqb-true w 4 r in (omega arith, omega arith)
    go false p false q false r true s e = let k = eqb-true w 8 s in (omega arith, omega arith)
    go false p false q false r false s e = let z : ◌≡◌ {A = ℕ} 0 1 = cc in absurd (omega arith)

pub width_none : (w : ℕ) → (w ≡ 1 → ⊥) → (w ≡ 2 → ⊥) → (w ≡ 4 → ⊥) → (w ≡ 8 → ⊥) → width_ok w ≡ false
unfolding width_ok
width_none w a b c d = simp (ne_eqb w 1 a, ne_eqb w 2 b, ne_eqb w 4 c, ne_eqb w 8 d)

pub width_test_in : (w : ℕ) → width_ok w ≡ true → width_test w ≡ gives tt
unfolding width_test
width_test_in w h = rw h

pub width_test_other : (w : ℕ) → width_ok w ≡ false → width_test w ≡ refuses 5 (w ∷ [])
unfolding width_test
width_test_other w h = rw h

pub width_test_passed : (w : ℕ) → gives tt ≡ width_test w → width_ok w ≡ true
unfolding width_test
width_test_passed w e = pick_passed (width_ok w) 5 (w ∷ []) e

-- bytes of a width are read
pub read_first : (w : ℕ) (v : List ℕ) → w ≤ length v → w ≤ 8 → read_be (take w v) ≡ gives (of_be (take w v))
read_first w v h k = read_be_in (take w v) (omega (arith, length-take-le w v h))

-- ---- building

pub entity_test_is : (e : Entity) → entity_test e ≡ also (width_test e.width) (number_test e.number e.width)
unfolding entity_test
entity_test_is e = refl

-- the test is passed exactly by what can be built
pub entity_test_passed : (e : Entity) → gives tt ≡ entity_test e → EntityOk e
entity_test_passed e p =
    let b = also_both (width_test e.width) (number_test e.number e.width) tt (p ∙ entity_test_is e) in
    record { wide = width_test_passed e.width b.0; fits = (number_test_passed e.number e.width b.1).below }

pub entity_test_ok : (e : Entity) → EntityOk e → gives tt ≡ entity_test e
entity_test_ok e h =
    sym (entity_test_is e ∙ rw (width_test_in e.width h.wide, number_test_in e.number e.width (width_bounds e.width h.wide).1 h.fits))

-- and so its width is at most 8
pub entity_test_short : (e : Entity) → gives tt ≡ entity_test e → e.width ≤ 8
entity_test_short e p = (width_bounds e.width (entity_test_passed e p).wide).1

module _ (e : Entity) where
  pub new_entity_passed : gives tt ≡ entity_test e → new_entity e ≡ gives e
  unfolding new_entity
  new_entity_passed h = also_passed (entity_test e) (gives e) h

  pub len_entity_passed : gives tt ≡ entity_test e → len_entity e ≡ gives (e.width + 2)
  unfolding len_entity
  len_entity_passed h = also_passed (entity_test e) (gives (e.width + 2)) h

-- ---- the tests of reading

pub head_test_in : (n : ℕ) → 2 ≤ n → head_test n ≡ gives tt
unfolding head_test
head_test_in n h = simp (le-leb _ _ h)

pub head_test_small : (n : ℕ) → n < 2 → head_test n ≡ refuses 2 (n ∷ 2 ∷ [])
unfolding head_test
head_test_small n h = simp (lt-leb _ _ h)

pub head_test_passed : (n : ℕ) → gives tt ≡ head_test n → 2 ≤ n
unfolding head_test
head_test_passed n e = leb-true _ _ (pick_passed (leb 2 n) 2 (n ∷ 2 ∷ []) e)

pub type_test_in : (b : ℕ) → b ≡ entity_id → type_test b ≡ gives tt
unfolding type_test
type_test_in b h = simp (eq-eqb _ _ h)

pub type_test_other : (b : ℕ) → (b ≡ entity_id → ⊥) → type_test b ≡ refuses 3 (b ∷ entity_id ∷ [])
unfolding type_test
type_test_other b h = simp (ne_eqb _ _ h)

pub type_test_passed : (b : ℕ) → gives tt ≡ type_test b → b ≡ entity_id
unfolding type_test
type_test_passed b e = eqb-true _ _ (pick_passed (eqb b entity_id) 3 (b ∷ entity_id ∷ []) e)

pub value_test_in : (n len : ℕ) → len + 2 ≤ n → value_test n len ≡ gives tt
unfolding value_test
value_test_in n len h = simp (le-leb _ _ h)

pub value_test_short : (n len : ℕ) → n < len + 2 → value_test n len ≡ short_at 0 n (len + 2)
unfolding value_test
value_test_short n len h = simp (lt-leb _ _ h)

pub value_test_passed : (n len : ℕ) → gives tt ≡ value_test n len → len + 2 ≤ n
unfolding value_test
value_test_passed n len e = leb-true _ _ (pick_passed (leb (len + 2) n) 1 (n ∷ (len + 2) ∷ 0 ∷ []) e)

-- ---- reading

module _ (bs : List ℕ) (head : gives tt ≡ head_test (length bs)) (type : gives tt ≡ type_test (get_or bs 0 0)) (wide : gives tt ≡ width_test (get_or bs 1 0)) where
  pub read_entity_short : length bs < get_or bs 1 0 + 2 → read_entity bs ≡ short_at 0 (length bs) (get_or bs 1 0 + 2)
  unfolding read_entity take_entity
  read_entity_short h = rw (← head, ← type, ← wide, value_test_short (length bs) (get_or bs 1 0) h)

  pub take_entity_whole : get_or bs 1 0 + 2 ≤ length bs → take_entity bs ≡ gives (took (numbered (take (get_or bs 1 0) (drop 2 bs))) (drop (get_or bs 1 0 + 2) bs))
  unfolding take_entity
  take_entity_whole h = rw (← head, ← type, ← wide, value_test_in (length bs) (get_or bs 1 0) h)

  pub read_entity_whole : get_or bs 1 0 + 2 ≤ length bs → read_entity bs ≡ gives (numbered (take (get_or bs 1 0) (drop 2 bs)))
  unfolding read_entity
  read_entity_whole h = ap (map_answer (λ t. t.got)) (take_entity_whole h)

-- what is taken passed every test
pub record Taken (bs : List ℕ) (t : Took Entity) : Type 0 where
  pub head : 2 ≤ length bs
  pub type : get_or bs 0 0 ≡ entity_id
  pub wide : width_ok (get_or bs 1 0) ≡ true
  pub whole : get_or bs 1 0 + 2 ≤ length bs
  pub is : t ≡ took (numbered (take (get_or bs 1 0) (drop 2 bs))) (drop (get_or bs 1 0 + 2) bs)

pub take_entity_given : (bs : List ℕ) (t : Took Entity) → take_entity bs ≡ gives t → Taken bs t
unfolding take_entity
take_entity_given bs t e =
    let a = also_both (head_test (length bs)) _ t (sym e) in
    let b = also_both (type_test (get_or bs 0 0)) _ t a.1 in
    let c = also_both (width_test (get_or bs 1 0)) _ t b.1 in
    let d = also_both (value_test (length bs) (get_or bs 1 0)) _ t c.1 in
    record {
      head = head_test_passed (length bs) a.0;
      type = type_test_passed (get_or bs 0 0) b.0;
      wide = width_test_passed (get_or bs 1 0) c.0;
      whole = value_test_passed (length bs) (get_or bs 1 0) d.0;
      is = gives_same t _ d.1;
    }

-- ---- from a generic TLV

module _ (f : TlvTypeField) where
  pub label_test_standard : is_standard f ≡ true → label_test f ≡ type_test (byte_of f)
  unfolding label_test
  label_test_standard h = rw h

  pub label_test_custom : is_standard f ≡ false → label_test f ≡ refuses 3 (byte_of f ∷ entity_id ∷ [])
  unfolding label_test
  label_test_custom h = rw h

module _ (t : Tlv) (bs : List ℕ) where
  pub of_tlv_passed : gives tt ≡ label_test t.tlv_type_field → gives tt ≡ width_test t.lv.len → gives tt ≡ span_test t.lv bs → of_tlv t bs ≡ gives (numbered (part_of t.lv bs))
  unfolding of_tlv
  of_tlv_passed fine wide inside = rw (← fine, ← wide, ← inside)

-- what is known of a TLV that passed: its value is all there, and as long as a width
pub record Held (t : Tlv) (bs : List ℕ) (e : Entity) : Type 0 where
  pub fine : gives tt ≡ label_test t.tlv_type_field
  pub wide : width_ok t.lv.len ≡ true
  pub inside : t.lv.start + t.lv.len ≤ length bs
  pub size : length (part_of t.lv bs) ≡ t.lv.len
  pub is : e ≡ numbered (part_of t.lv bs)

pub of_tlv_given : (t : Tlv) (bs : List ℕ) (e : Entity) → of_tlv t bs ≡ gives e → Held t bs e
unfolding of_tlv
of_tlv_given t bs e p =
    let a = also_both (label_test t.tlv_type_field) _ e (sym p) in
    let b = also_both (width_test t.lv.len) _ e a.1 in
    let c = also_both (span_test t.lv bs) _ e b.1 in
    let i = span_test_passed t.lv bs c.0 in
    record { fine = a.0; wide = width_test_passed t.lv.len b.0; inside = i; size = length-part_of t.lv bs i; is = gives_same e _ c.1 }

-- ---- an entity ID made of a width and a number is that of the bytes that have them

pub numbered_by : (v : List ℕ) {w x : ℕ} → length v ≡ w → x ≡ of_be v → entity_of w x ≡ numbered v
numbered_by v n e = λ i. entity_of (sym n i) (e i)

-- and so is one whose number `value_of` told
pub record Valued (v : List ℕ) (w x : ℕ) : Type 0 where
  pub wide : gives tt ≡ width_test w
  pub is : entity_of w x ≡ numbered v

pub valued : (v : List ℕ) {w x : ℕ} → length v ≡ w → gives x ≡ also (width_test (length v)) (gives (of_be v)) → Valued v w x
valued v {x = x} n e =
    let b = also_both (width_test (length v)) (gives (of_be v)) x e in
    record { wide = b.0 ∙ ap width_test n; is = numbered_by v n (gives_same _ _ b.1) }

pub value_not_refused : (v : List ℕ) {w n : ℕ} {vs : List ℕ} → length v ≡ w → gives tt ≡ width_test w → refuses n vs ≡ also (width_test (length v)) (gives (of_be v)) → ⊥
value_not_refused v {n = n} {vs = vs} k h e = gives_or_refuses (of_be v) n vs (sym (e ∙ also_passed (width_test (length v)) (gives (of_be v)) (h ∙ sym (ap width_test k))))

-- ---- writing

pub length-entity : (e : Entity) → length (entity e) ≡ e.width + 2
length-entity e = omega (arith, length_be e.width e.number)

pub write_test_is : (e : Entity) (n : ℕ) → write_test e n ≡ also (entity_test e) (head_test n)
unfolding write_test
write_test_is e n = refl

pub write_test_ok : (e : Entity) (n : ℕ) → EntityOk e → 2 ≤ n → gives tt ≡ write_test e n
write_test_ok e n h k = sym (write_test_is e n ∙ rw (← entity_test_ok e h, head_test_in n k))

pub write_test_passed : (e : Entity) (n : ℕ) → gives tt ≡ write_test e n → EntityOk e
write_test_passed e n h = entity_test_passed e (also_both (entity_test e) (head_test n) tt (h ∙ write_test_is e n)).0

module _ (e : Entity) (n : ℕ) where
  pub write_entity_refused : (k : ℕ) (vs : List ℕ) → refuses k vs ≡ entity_test e → refuses k vs ≡ write_entity e n
  unfolding write_entity write_test
  write_entity_refused k vs h = rw (← h)

  pub write_entity_width : width_ok e.width ≡ false → refuses 5 (e.width ∷ []) ≡ write_entity e n
  write_entity_width h = write_entity_refused _ _ (also_refused (width_test e.width) _ _ _ (sym (width_test_other e.width h)) ∙ sym (entity_test_is e))

  module _ (fine : gives tt ≡ entity_test e) where
    pub write_entity_small : n < e.width + 2 → write_entity e n ≡ also (head_test n) (refuses 2 (n ∷ (e.width + 2) ∷ []))
    unfolding write_entity write_test
    write_entity_small h =
        rw (← fine) (ap (also (head_test n)) (room_for_out n (entity e) (omega (arith, length-entity e)) ∙ ap (λ (k : ℕ). refuses 2 (n ∷ k ∷ [])) (length-entity e)))

    pub write_entity_room : e.width + 2 ≤ n → write_entity e n ≡ gives (entity e)
    unfolding write_entity write_test
    write_entity_room h = rw (← fine, head_test_in n (omega arith)) (room_for_in n (entity e) (omega (arith, length-entity e)))

-- what is known where something is written
pub record Writable (e : Entity) (n : ℕ) : Type 0 where
  pub ok : EntityOk e
  pub short : e.width ≤ 8
  pub room : e.width + 2 ≤ n
  pub gives_it : write_entity e n ≡ gives (entity e)

pub writable : (e : Entity) (n : ℕ) (bs : List ℕ) → write_entity e n ≡ gives bs → Writable e n
unfolding write_entity
writable e n bs h =
    let g = (gives_room (write_test e n) n (entity e) bs).0 h in
    let o = write_test_passed e n g.0 in
    record {
      ok = o;
      short = (width_bounds e.width o.wide).1;
      room = omega (arith, length-entity e, g.1);
      gives_it = h ∙ ap gives g.2;
    }

-- what `room_test` tells: that it can be written, or what room there is
pub told_writable : (e : Entity) (n : ℕ) → gives tt ≡ room_test e n → Writable e n
told_writable e n h =
    let m = mapped_by (λ _. tt) (write_entity e n) tt (sym h) in
    writable e n m.0 m.1

-- what was written could be
pub wrote_writable : (e : Entity) (old : List ℕ) {new : List ℕ} {k : ℕ} → Wrote 0 (write_entity e (length old)) (gives k) old new → Writable e (length old)
wrote_writable e old {k = k} w =
    let m = mapped_by length (write_entity e (length old)) k (sym w.answer) in
    writable e (length old) m.0 m.1

pub room_test_small : (e : Entity) (n : ℕ) → gives tt ≡ entity_test e → gives tt ≡ head_test n → n < e.width + 2 → room_test e n ≡ refuses 2 (n ∷ (e.width + 2) ∷ [])
room_test_small e n fine head h = ap (map_answer (λ _. tt)) (write_entity_small e n fine h ∙ also_passed (head_test n) _ head)

pub room_test_in : (e : Entity) (n : ℕ) → gives tt ≡ entity_test e → e.width + 2 ≤ n → room_test e n ≡ gives tt
room_test_in e n fine h = ap (map_answer (λ _. tt)) (write_entity_room e n fine h)

-- a number that fits is laid down by `number::write`, wherever there is room for it
pub number_out : (e : Entity) (at n : ℕ) → EntityOk e → at + e.width ≤ n → also (number_test e.number e.width) (room_at at n (be_bytes e.width e.number)) ≡ gives (be_bytes e.width e.number)
number_out e at n h k =
    let v = be_bytes e.width e.number in
    let l : length v ≡ e.width = length_be e.width e.number in
    also_passed (number_test e.number e.width) (room_at at n v) (sym (number_test_in e.number e.width (width_bounds e.width h.wide).1 h.fits))
    ∙ room_at_there at n v (omega arith)
    ∙ room_for_in (n - at) v (omega arith)

module _ (e : Entity) (at : ℕ) (old new : List ℕ) (h : EntityOk e) (k : at + e.width ≤ length old) where
  pub number_laid : {told : Answer ℕ} → Wrote at (also (number_test e.number e.width) (room_at at (length old) (be_bytes e.width e.number))) told old new → new ≡ laid at (be_bytes e.width e.number) old
  number_laid w = w.bytes ∙ ap (λ (a : Answer (List ℕ)). leaves at a old) (number_out e at (length old) h k)

  pub number_not_refused : {n : ℕ} {vs : List ℕ} → Wrote at (also (number_test e.number e.width) (room_at at (length old) (be_bytes e.width e.number))) (refuses n vs) old new → ⊥
  number_not_refused {n} {vs} w = gives_or_refuses _ n vs (sym (w.answer ∙ ap (map_answer length) (number_out e at (length old) h k)))

module _ (e : Entity) (old : List ℕ) where
  pub wrote_entity : (new : List ℕ) → Writable e (length old) → new ≡ laid 2 (be_bytes e.width e.number) (set (set old 0 entity_id) 1 e.width) → Wrote 0 (write_entity e (length old)) (gives (e.width + 2)) old new
  wrote_entity new h k =
      let v = be_bytes e.width e.number in
      let n : length v ≡ e.width = length_be e.width e.number in
      wrote 0 old (write_entity e (length old)) (entity e) new (e.width + 2) h.gives_it (sym (length-entity e))
      (k
      ∙ laid_cons 1 e.width v (set old 0 entity_id) (omega (arith, length-set old 0 entity_id))
      ∙ laid_cons 0 entity_id (e.width ∷ v) old (omega arith)
      ∙ ap (λ (w : ℕ). laid 0 (entity_id ∷ w ∷ v) old) (sym n))

  pub made_tlv : (told : Answer Tlv) (new : List ℕ) → Writable e (length old) → told ≡ gives (tlv_of label (span 2 e.width)) → new ≡ laid 2 (be_bytes e.width e.number) old → MadeTlv e told old new
  unfolding tlv_entity
  made_tlv told new h t k = record { answer = rw h.gives_it t; bytes = rw h.gives_it k }
