-- What both a request and a response need, so that each can say in the standard's words what was found (`Exact.antt`, `Theorems.antt`), and that
-- what may be written from octets is what the standard allows. Assumes nothing.
use Rattle.std.specs.Prelude.{None, Option, Some}
use mathlib.Core.Path.{◌≡◌, refl, sym, ap, subst, ◌∙◌}
use Prim.Native.Nat.{ℕ, zero, suc, ◌+◌, ◌*◌, ◌≤◌, ◌<◌}
use native.Mathlib.Omega.{arith}
use mathlib.Core.Logic.{◌↔◌}
use mathlib.Core.Bool.{Bool}
use mathlib.Core.List.{List, [], ◌∷◌, ◌++◌}
use lib.ListN.{length, length-append}
use Rattle.bluebook.specs.Layouts.{Octets, Value, lv, lv_if}
use Rattle.refusal.specs.Answer.{Answer, gives, refuses, map_answer, also, Test}
use Rattle.refusal.specs.Reader.{Took, took, Reader, Exactly, Begins, reworded}
use Rattle.refusal.proofs.Laws.{gives_same, also_both, mapped_by}
use Rattle.splice.proofs.Writing.{gives_room}
use Rattle.lv.specs.Rules.{part_of}
use Rattle.lv.specs.declared.Lv.{Lv}
use Rattle.lv.proofs.Laws.{part_of_in, span_test_passed}
use Rattle.lv.proofs.Theorems.{octets_part}
use Rattle.action.specs.Rules.{code_of}
use Rattle.filestore_base.specs.Meaning.{Filed, is_there, part_if, value_of, filed_tlv, meaning}
use Rattle.filestore_base.specs.Rules.{span_if, write_test, write_base}
use Rattle.filestore_base.specs.declared.FilestoreTlvBase.{FilestoreTlvBase}
use Rattle.filestore_base.proofs.Laws.{length-value, writable}
use Rattle.filestore_base.proofs.Theorems.{builds}
use Rattle.filestore_reader.specs.Rules.{take_filed, read_base}
use Rattle.filestore_reader.specs.declared.Found.{Found}
use Rattle.filestore_reader.proofs.Exact.{FiledOk, exactly_filed}
use Rattle.filestore_reader.proofs.Theorems.{selected, filed_ok}

-- a call that tells where the things lie that a reader took
pub placed_by : {M N Q : Type 0} {read : Reader M} {ok : M → Type 0} {layout : M → List ℕ} → Exactly read ok layout
    → (to : M → N) (place : N → Q) (near : M → Found) (far : Found → Q) → ((m : M) → ok m → far (near m) ≡ place (to m)) → (bs : List ℕ)
    → map_answer far (map_answer (λ t. near t.got) (read bs)) ≡ map_answer (λ t. place t.got) (reworded to read bs)
placed_by {M} {N} {Q} {read} tie to place near far e bs = go (read bs) refl
  where
    go : (x : Answer (Took M)) → read bs ≡ x → map_answer far (map_answer (λ t. near t.got) x) ≡ map_answer (λ t. place t.got) (map_answer (λ t. took (to t.got) t.rest) x)
    go (gives t) g = ap gives (e t.got (tie.only bs t g).0)
    go (refuses n vs) g = refl

-- where an answer is z exactly if B holds, an answer that equals it is z exactly if B holds
pub by_iff : {A B : Type 0} {x y z : Answer A} → x ≡ y → (y ≡ z) ↔ B → (x ≡ z) ↔ B
by_iff e a = (λ g. a.0 (sym e ∙ g), λ h. e ∙ a.1 h)

-- what a builder gives is what it was handed, and passes the test
pub built_by : {A : Type 0} (test : A → Test) (q r : A) → also (test q) (gives q) ≡ gives r → (q ≡ r) × (gives tt ≡ test r)
built_by test q r e =
    let p = also_both (test q) (gives q) r (sym e) in
    let s : q ≡ r = sym (gives_same r q p.1) in
    (s, p.0 ∙ ap test s)

-- what was read selects what stands there: the buffer begins with the layout of what the call's answer means in it, beside what the call does not
-- tell
pub selected_by : {N S Q : Type 0} {ok : N × S → Type 0} {layout : N × S → List ℕ} (d : Bool) (said : Filed → N) (beside : Took Filed → S)
    → Exactly (reworded (λ t. (said t.got, beside t)) (take_filed d)) ok layout
    → (far : Found → Q) (meant : Q → List ℕ → N) → ((f : Found) (bs : List ℕ) → meant (far f) bs ≡ said (meaning f.base bs))
    → (bs : List ℕ) (q : Q) → map_answer far (read_base d bs) ≡ gives q → (s : S) × Begins ok layout bs (meant q bs, s)
selected_by {N} {S} {Q} {ok} {layout} d said beside tie far meant m bs q e =
    let f = mapped_by far (read_base d bs) q e in
    let w = selected d bs f.0 f.1 in
    let t : Took Filed = took w.meant w.left in
    let g : take_filed d bs ≡ gives (took t w.rest) = ap (take_filed d) w.split ∙ (exactly_filed d).accepts t w.rest w.fine in
    let o = tie.only bs (took (said w.meant, beside t) w.rest) (ap (map_answer (λ t. took (said t.got.got, beside t.got) t.rest)) g) in
    let p : said w.meant ≡ meant q bs = ap said (sym w.selects) ∙ sym (m f.0 bs) ∙ ap (λ (x : Q). meant x bs) f.2 in
    (beside t, subst (λ (n : N). Begins ok layout bs (n, beside t)) p (record { fine = o.0; rest = w.rest; split = o.1 }))

-- ---- WHAT MAY BE WRITTEN FROM OCTETS is what the standard allows: octets, at most 255 in the value

octets_behind : (x : ℕ) (v : List ℕ) → x < 256 → Octets v → Octets (x ∷ v)
octets_behind x v h o zero = h
octets_behind x v h o (suc k) = o k

octets_both : (v w : List ℕ) → Octets v → Octets w → Octets (v ++ w)
octets_both [] w o p = p
octets_both (x ∷ v) w o p = octets_behind x (v ++ w) (o 0) (octets_both v w (λ k. o (suc k)) p)

module _ (src : List ℕ) (o : Octets src) where
  octets_lv : (l : Lv) → l.start + l.len ≤ length src → length (part_of l src) ≤ 255 → Octets (lv (part_of l src))
  octets_lv l h n = octets_behind (length (part_of l src)) (part_of l src) (omega arith) (subst Octets (sym (part_of_in l src h)) (octets_part src l.start l.len o))

  octets_if : (s : Option Lv) → gives tt ≡ span_if s src → length (lv_if (part_if s src)) ≤ 256 → Octets (lv_if (part_if s src))
  octets_if (Some l) e n = octets_lv l (span_test_passed l src e) (omega arith)
  octets_if None e n = λ k. omega arith

  pub allowed : (b : FilestoreTlvBase) → gives tt ≡ write_test b src → FiledOk (is_there b.message) (meaning b src) × Value (value_of (meaning b src))
  allowed b e =
      let w = writable b src e in
      let ok = filed_ok b src ((builds b).0 w.built) in
      let f = lv (part_of b.first_name src) in
      let s = lv_if (part_if b.second_name src) in
      let x = lv_if (part_if b.message src) in
      let n : length (value_of (meaning b src)) ≤ 255 = omega (arith, length-value b src w.spans, w.size) in
      let i = length-append f s in
      let j = length-append (f ++ s) x in
      let p = octets_lv b.first_name w.spans.first (omega (arith, i, j)) in
      let q = octets_if b.second_name w.spans.second (omega (arith, i, j)) in
      let r = octets_if b.message w.spans.message (omega (arith, i, j)) in (
        ok,
        record {
          octets = octets_behind (code_of b.action_code * 16 + b.low_bits) (f ++ s ++ x) (omega (arith, ok.named.known, ok.low)) (octets_both (f ++ s) x (octets_both f s p q) r);
          short = n;
        },
      )

-- what was written passed the tests of writing
pub written_by : (b : FilestoreTlvBase) (src : List ℕ) (n : ℕ) (bs : List ℕ) → write_base b src n ≡ gives bs → gives tt ≡ write_test b src
unfolding write_base
written_by b src n bs e = ((gives_room (write_test b src) n (filed_tlv (meaning b src)) bs).0 e).0
