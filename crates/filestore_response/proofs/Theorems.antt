-- WHAT THE RULES OF RESPONSES MEAN, against the standard's layout. What responses share with requests is proved once, in filestore_base and
-- filestore_reader; here it is said of responses in the standard's own terms. Assumes nothing.
use Rattle.lv.specs.declared.Lv.{Lv}
use Rattle.std.specs.Prelude.{None, Option, Some}
use mathlib.Core.Path.{◌≡◌, refl, sym, ap, subst, ◌∙◌}
use Prim.Native.Nat.{ℕ, ◌+◌, ◌≤◌, ◌<◌}
use native.Mathlib.Omega.{arith}
use mathlib.Core.Logic.{◌↔◌}
use mathlib.Core.Bool.{true, false≢true}
use mathlib.Core.List.{List, [], ◌++◌, append-nil}
use lib.ListN.{length, drop}
use Rattle.bluebook.specs.Layouts.{Octets, Named, there, Response, response, response_value, Responded, tlv, filestore_response}
use Rattle.refusal.specs.Answer.{gives, map_answer, ShortBy}
use Rattle.refusal.specs.Reader.{Took, took, Exactly, Begins}
use Rattle.refusal.proofs.Laws.{mapped_by, map_answer_map_answer, short_map}
use Rattle.refusal.proofs.Readers.{answers, exactly_reworded, exactly_as}
use Rattle.splice.specs.Writing.{Wrote}
use Rattle.lv.specs.Rules.{span, part_of}
use Rattle.lv.proofs.Laws.{part_of_in}
use Rattle.action.specs.Rules.{code_of}
use Rattle.tlv.specs.Short.{ShortTlv}
use Rattle.filestore_base.specs.Meaning.{Filed, filed, base_of, bytes_if, is_there, part_if, second_at, meaning, filed_tlv}
use Rattle.filestore_base.specs.Rules.{len_of, build_test, write_test, write_base, same_base}
use Rattle.filestore_base.specs.declared.FilestoreTlvBase.{FilestoreTlvBase}
use Rattle.filestore_base.proofs.Laws.{Spans}
use Rattle.filestore_base.proofs.Theorems as bases
use Rattle.filestore_reader.specs.Rules.{take_value, found, read_base, status_listed, strict_base}
use Rattle.filestore_reader.specs.declared.Found.{Found}
use Rattle.filestore_reader.proofs.Exact.{exactly_filed}
use Rattle.filestore_reader.proofs.Said.{placed_by, by_iff, built_by, selected_by, allowed, written_by}
use Rattle.filestore_reader.proofs.Theorems as readers
use Rattle.filestore_response.specs.Meaning.{response_meant, response_filed, response_placed, slack_response, response_said, take_response, take_strict_response}
use Rattle.filestore_response.specs.Rules.{response_base, message_in, response_in, new_response, read_response, strict_response}
use Rattle.filestore_response.specs.declared.FilestoreResponseTlv.{FilestoreResponseTlv}

-- ---- a response has a message

present : (s : Option (List ℕ)) → there s ≡ true → Some (bytes_if s) ≡ s
present (Some v) e = refl
present None e = absurd (false≢true e)

-- ---- SLACK: where there is none, the layout is the standard's

pub no_slack_response : (r : Response) → slack_response (r, []) ≡ response r
no_slack_response r = ap (tlv filestore_response) (append-nil (response_value r))

-- ---- PLAIN READING takes exactly the standard's responses with slack

pub record ResponseOk (r : Response) : Type 0 where
  pub named : Named r.action r.second
  pub status : r.status < 16

pub exactly_response : Exactly take_response (λ p. ResponseOk p.0) slack_response
exactly_response =
    exactly_as
    (exactly_reworded (exactly_filed true) (λ t. (response_said t.got, t.rest)) (λ p. took (response_filed p.0) p.1)
    (λ t h. λ i. took (filed t.got.action t.got.low t.got.first t.got.second (present t.got.message h.message i)) t.rest)
    (λ p. refl))
    (λ p _. refl)
    (λ p h. record { named = h.named; status = h.low })
    (λ p h. record { named = h.named; low = h.status; message = refl })

-- ---- STRICT READING takes exactly the standard's responses with a listed status

pub record ListedOk (r : Response) : Type 0 where
  pub fine : ResponseOk r
  pub listed : status_listed r.action r.status ≡ true

pub exactly_strict_response : Exactly take_strict_response ListedOk response
exactly_strict_response =
    exactly_as
    (exactly_reworded (readers.exactly_strict true) (λ t. response_said t.got) (λ r. took (response_filed r) [])
    (λ t h.
    let n = readers.no_slack true t.got t.rest h.1 in
    λ i. took (filed t.got.action t.got.low t.got.first t.got.second (present t.got.message h.0.message i)) (sym n.0 i))
    (λ r. refl))
    (λ r _. no_slack_response r)
    (λ r h. record { fine = record { named = h.0.named; status = h.0.low }; listed = (readers.no_slack true (response_filed r) [] h.1).1 })
    (λ r h.
    (record { named = h.fine.named; low = h.fine.status; message = refl }, readers.slack_none true (response_filed r) [] (refl, h.listed)))

-- ---- THE IFF THAT A REVIEWER READS: a call accepts exactly where the buffer begins with such a layout, whatever is behind

response_placed_lem : (t : Took Filed) → there t.got.message ≡ true → response_in (found t) ≡ response_placed (response_said t.got)
response_placed_lem t h =
    let m = t.got in
    ap (λ (s : Option (List ℕ)). response_in (found (took (filed m.action m.low m.first m.second s) t.rest))) (sym (present m.message h))

pub reads_response : (bs : List ℕ) (q : FilestoreResponseTlv)
    → (read_response bs ≡ gives q) ↔ ((p : Response × List ℕ) × Begins (λ p. ResponseOk p.0) slack_response bs p × (q ≡ response_placed p.0))
unfolding read_response read_base
reads_response bs q =
    by_iff (placed_by (exactly_filed true) (λ t. (response_said t.got, t.rest)) (λ p. response_placed p.0) found response_in (λ t h. response_placed_lem t h.message) bs)
    (answers exactly_response (λ p. response_placed p.0) bs q)

pub strictly_reads_response : (bs : List ℕ) (q : FilestoreResponseTlv)
    → (strict_response bs ≡ gives q) ↔ ((m : Response) × Begins ListedOk response bs m × (q ≡ response_placed m))
unfolding strict_response strict_base
strictly_reads_response bs q =
    by_iff (placed_by (readers.exactly_strict true) (λ t. response_said t.got) response_placed found response_in (λ t h. response_placed_lem t h.0.message) bs)
    (answers exactly_strict_response response_placed bs q)

-- what was read selects what stands there
pub selected_response : (bs : List ℕ) (q : FilestoreResponseTlv) → read_response bs ≡ gives q → (left : List ℕ) × Begins (λ p. ResponseOk p.0) slack_response bs (response_meant q bs, left)
unfolding read_response
selected_response bs q e = selected_by true response_said (λ t. t.rest) exactly_response response_in response_meant meant_in bs q e
  where
    message_in_lem : (s : Option Lv) (bs : List ℕ) → part_of (message_in s) bs ≡ bytes_if (part_if s bs)
    message_in_lem (Some l) bs = refl
    message_in_lem None bs = part_of_in (span 0 0) bs (omega arith)

    meant_in : (f : Found) (bs : List ℕ) → response_meant (response_in f) bs ≡ response_said (meaning f.base bs)
    meant_in f bs =
        let m = meaning f.base bs in
        λ i. record { action = m.action; status = m.low; first = m.first; second = m.second; message = message_in_lem f.base.message bs i }

-- ---- WRITING: exactly the standard's bytes, exactly where they can be built, the spans lie in the source, and there is room

pub response_layout : (q : FilestoreResponseTlv) (src : List ℕ) → filed_tlv (meaning (response_base q) src) ≡ response (response_meant q src)
response_layout q src = refl

pub writes_response : (q : FilestoreResponseTlv) (src : List ℕ) (n : ℕ) (bs : List ℕ)
    → (write_base (response_base q) src n ≡ gives bs)
    ↔ (bases.Buildable (response_base q) × Spans (response_base q) src × (length (response (response_meant q src)) ≤ n) × (bs ≡ response (response_meant q src)))
writes_response q src n bs = bases.writes_as (response_base q) src n bs (response (response_meant q src)) (response_layout q src)

-- ---- READ AFTER WRITE: the same meaning, `Same`, by the plain reader and by the strict one

pub record ResponseBack (q : FilestoreResponseTlv) (src new : List ℕ) : Type 0 where
  pub read : read_response new ≡ gives (response_placed (response_meant q src))
  pub strict : status_listed (code_of q.action_code) q.status_code ≡ true → strict_response new ≡ gives (response_placed (response_meant q src))
  pub means : response_meant (response_placed (response_meant q src)) new ≡ response_meant q src
  pub same : same_base (response_base q) src (response_base (response_placed (response_meant q src))) new ≡ gives true

pub read_back_response : (q : FilestoreResponseTlv) (src old new : List ℕ) (k : ℕ) → Wrote 0 (write_base (response_base q) src (length old)) (gives k) old new → ResponseBack q src new
unfolding read_response
read_back_response q src old new k w =
    let b = readers.read_back (response_base q) src old new k w in
    let ok = readers.back_ok (response_base q) src old new k w in
    record {
      read = ap (map_answer response_in) b.read;
      strict = λ h.
          (strictly_reads_response new (response_placed (response_meant q src))).1
          (response_meant q src, record { fine = record { fine = record { named = ok.named; status = ok.low }; listed = h }; rest = drop (len_of (response_base q) + 2) old; split = b.bytes }, refl);
      means = ap response_said b.means;
      same = b.same;
    }

-- ---- what a builder or a reader gave passes the building tests, and what was read or written from octets is the standard's

pub built_response : (q r : FilestoreResponseTlv) → new_response q ≡ gives r → (q ≡ r) × (gives tt ≡ build_test (response_base r))
unfolding new_response
built_response q r e = built_by (λ x. build_test (response_base x)) q r e

pub read_response_writable : (bs : List ℕ) (q : FilestoreResponseTlv) → Octets bs → read_response bs ≡ gives q → gives tt ≡ write_test (response_base q) bs
unfolding read_response
read_response_writable bs q o e =
    let f = mapped_by response_in (read_base true bs) q e in
    let w = readers.selected true bs f.0 f.1 in
    let b : f.0.base ≡ response_base (response_in f.0) = there_is f.0.base (ap (λ (x : Found). is_there x.base.message) w.is ∙ placed_there _ w.meant.message w.fine.message) in
    subst (λ (x : FilestoreResponseTlv). gives tt ≡ write_test (response_base x) bs) f.2
    (subst (λ (x : FilestoreTlvBase). gives tt ≡ write_test x bs) b (readers.read_writable true bs f.0 o f.1))
  where
    there_is : (b : FilestoreTlvBase) → is_there b.message ≡ true → b ≡ base_of b.action_code b.low_bits b.first_name b.second_name (Some (message_in b.message))
    there_is b h = ap (base_of b.action_code b.low_bits b.first_name b.second_name) (go b.message h)
      where
        go : (s : Option Lv) → is_there s ≡ true → s ≡ Some (message_in s)
        go (Some l) h = refl
        go None h = absurd (false≢true h)

    placed_there : (at : ℕ) (s : Option (List ℕ)) → there s ≡ true → is_there (second_at at s) ≡ true
    placed_there at (Some v) h = refl
    placed_there at None h = h

responded : (q : FilestoreResponseTlv) (src : List ℕ) → Octets src → gives tt ≡ write_test (response_base q) src → Responded (response_meant q src)
responded q src o e =
    let a = allowed src o (response_base q) e in
    record { named = a.0.named; status = a.0.low; value = a.1 }

pub read_responded : (bs : List ℕ) (q : FilestoreResponseTlv) → Octets bs → read_response bs ≡ gives q → Responded (response_meant q bs)
read_responded bs q o e = responded q bs o (read_response_writable bs q o e)

pub written_responded : (q : FilestoreResponseTlv) (src : List ℕ) (n : ℕ) (bs : List ℕ) → Octets src → write_base (response_base q) src n ≡ gives bs → Responded (response_meant q src)
written_responded q src n bs o e = responded q src o (written_by (response_base q) src n bs e)

-- ---- COMPARING: `Same` is equality of meanings, `filestore_base`'s same-means, in the standard's words

pub same_responses : (q : FilestoreResponseTlv) (x : List ℕ) (r : FilestoreResponseTlv) (y : List ℕ)
    → (same_base (response_base q) x (response_base r) y ≡ gives true) ↔ (Spans (response_base q) x × Spans (response_base r) y × (response_meant q x ≡ response_meant r y))
same_responses q x r y =
    let s = bases.same_means (response_base q) x (response_base r) y in
    (λ e. (let h = s.0 e in (h.0, h.1, ap response_said h.2)), λ h. s.1 (h.0, h.1, ap response_filed h.2))

-- ---- A WHOLE TLV is read the same, refusals included, whatever stands behind it

pub response_alone : (v rest : List ℕ) → read_response (tlv filestore_response v ++ rest) ≡ map_answer (λ t. response_in (found t)) (take_value true v)
unfolding read_response
response_alone v rest = ap (map_answer response_in) (readers.read_alone true v rest) ∙ map_answer_map_answer response_in found (take_value true v)

-- ---- WHERE IT RAN SHORT: at 0 where the TLV is not whole, else at the part of its value that ran short

pub response_runs_short : (bs : List ℕ) → ShortBy (ShortTlv bs) (read_response bs)
unfolding read_response
response_runs_short bs = short_map response_in (read_base true bs) (readers.base_runs_short true bs)

pub strict_response_runs_short : (bs : List ℕ) → ShortBy (ShortTlv bs) (strict_response bs)
unfolding strict_response
strict_response_runs_short bs = short_map response_in (strict_base true bs) (readers.strict_runs_short true bs)
