-- What crosses the boundary to C: how a struct holds an answer of document 01, and which values of the library stand for what C hands in.
use Rattle.std.specs.Prelude.{◌≡◌, ℕ, ◌+◌, ◌-◌, List, [], ◌∷◌, length, get_or, eqb, None, Option, Some}
use Rattle.bluebook.specs.Layouts.{Entity}
use Rattle.refusal.specs.Answer.{Answer, gives, refuses, pick, map_answer, and_then}
use Rattle.splice.specs.Writing.{leaves}
use Rattle.lv.specs.Rules.{span}
use Rattle.lv.specs.declared.Lv.{Lv}
use Rattle.tlv.specs.Kinds.{byte_of}
use Rattle.tlv.specs.Rules.{tlv_of}
use Rattle.tlv.specs.declared.Tlv.{Tlv}
use Rattle.tlv.specs.declared.TlvTypeField.TheVariants.{Custom}
use Rattle.entity_id.specs.Rules.{entity_of}
use Rattle.action.specs.Rules.{code_of, action_of}
use Rattle.action.specs.declared.FilestoreActionCode.{FilestoreActionCode}
use Rattle.action.specs.declared.FilestoreActionCode.TheVariants.{CreateFile}
use Rattle.filestore_base.specs.Rules.{write_base}
use Rattle.filestore_request.specs.Rules.{request_of as aRequest, request_base}
use Rattle.filestore_request.specs.declared.FilestoreRequestTlv.{FilestoreRequestTlv}
use Rattle.filestore_response.specs.Rules.{response_of as aResponse, response_base}
use Rattle.filestore_response.specs.declared.FilestoreResponseTlv.{FilestoreResponseTlv}
use Rattle.walk.specs.Rules.{Standing, found, ended, Summed}
use Rattle.walk.specs.declared.End.{End}
use Rattle.walk.specs.declared.End.TheVariants.{Whole, Cut}
use Rattle.kind.specs.Rules.{Name, request, response, entity, other}
use Rattle.cabi.specs.declared.Numbered.{Numbered}
use Rattle.cabi.specs.declared.Span.{Span}
use Rattle.cabi.specs.declared.WrittenAnswer.{WrittenAnswer}
use Rattle.cabi.specs.declared.LvAnswer.{LvAnswer}
use Rattle.cabi.specs.declared.TlvAnswer.{TlvAnswer}
use Rattle.cabi.specs.declared.EntityAnswer.{EntityAnswer}
use Rattle.cabi.specs.declared.Request.{Request}
use Rattle.cabi.specs.declared.RequestAnswer.{RequestAnswer}
use Rattle.cabi.specs.declared.Response.{Response}
use Rattle.cabi.specs.declared.ResponseAnswer.{ResponseAnswer}
use Rattle.cabi.specs.declared.StepAnswer.{StepAnswer}
use Rattle.cabi.specs.declared.NextAnswer.{NextAnswer}
use Rattle.cabi.specs.declared.SummaryAnswer.{SummaryAnswer}
use Rattle.cabi.specs.declared.KindAnswer.{KindAnswer}

-- ---- A REFUSAL: its number and its values, 0 for each that it does not carry; number 0 where nothing is refused

abbrev pub numbered : ℕ → List ℕ → Numbered
numbered n vs = record { number = n; first = get_or vs 0 0; second = get_or vs 1 0; third = get_or vs 2 0 }

abbrev pub refusal : {A : Type 0} → Answer A → Numbered
refusal (gives a) = numbered 0 []
refusal (refuses n vs) = numbered n vs

-- ---- ANSWERS: a struct has the refusal, and behind it what is given; where nothing is given, all of that is 0 (a step in two registers is otherwise)

-- what is given, or z where nothing is
abbrev pub or_else : {A : Type 0} → A → Answer A → A
or_else z (gives a) = a
or_else z (refuses n vs) = z

-- `out` makes the struct from the refusal and what is given; z stands in where nothing is, and all that it makes of z is 0
abbrev pub crossed : {A T : Type 0} → (Numbered → A → T) → A → Answer A → T
crossed out z a = out (refusal a) (or_else z a)

-- how many bytes were written
abbrev pub written_out : Numbered → ℕ → WrittenAnswer
written_out n bytes = record { refusal = n; bytes = bytes }

abbrev pub written_answer : Answer ℕ → WrittenAnswer
written_answer = crossed written_out 0

-- what a writer for C owes: it answers how many bytes it wrote, or its refusal, and the buffer is what that leaves
pub record Sent (out : Answer (List ℕ)) (told : WrittenAnswer) (old new : List ℕ) : Type 0 where
  pub answer : told ≡ written_answer (map_answer length out)
  pub bytes : new ≡ leaves 0 out old

-- an LV, a TLV, an entity ID

abbrev pub no_span : Lv
no_span = span 0 0

abbrev pub span_of : Lv → Span
span_of l = record { start = l.start; len = l.len }

abbrev pub lv_out : Numbered → Lv → LvAnswer
lv_out n l = record { refusal = n; value = span_of l }

abbrev pub lv_answer : Answer Lv → LvAnswer
lv_answer = crossed lv_out no_span

abbrev pub tlv_out : Numbered → Tlv → TlvAnswer
tlv_out n t = record { refusal = n; tlv_type = byte_of t.tlv_type_field; value = span_of t.lv }

abbrev pub no_tlv : Tlv
no_tlv = tlv_of (Custom 0) no_span

abbrev pub tlv_answer : Answer Tlv → TlvAnswer
tlv_answer = crossed tlv_out no_tlv

abbrev pub entity_out : Numbered → Entity → EntityAnswer
entity_out n e = record { refusal = n; width = e.width; value = e.number }

abbrev pub entity_answer : Answer Entity → EntityAnswer
entity_answer = crossed entity_out (entity_of 0 0)

-- a request and a response: a second name is a number, 1 where it is there, and its span

abbrev pub has_second : Option Lv → ℕ
has_second (Some l) = 1
has_second None = 0

abbrev pub second_span : Option Lv → Span
second_span (Some l) = span_of l
second_span None = span_of no_span

abbrev pub request_of : FilestoreRequestTlv → Request
request_of q = record {
  action = code_of q.action_code;
  has_second = has_second q.second_name;
  first_name = span_of q.first_name;
  second_name = second_span q.second_name;
}

abbrev pub requested : Numbered → Request → RequestAnswer
requested n q = record { refusal = n; request = q }

abbrev pub request_out : Numbered → FilestoreRequestTlv → RequestAnswer
request_out n q = requested n (request_of q)

abbrev pub no_request : FilestoreRequestTlv
no_request = aRequest CreateFile no_span None

abbrev pub request_answer : Answer FilestoreRequestTlv → RequestAnswer
request_answer = crossed request_out no_request

abbrev pub response_of : FilestoreResponseTlv → Response
response_of q = record {
  action = code_of q.action_code;
  status = q.status_code;
  has_second = has_second q.second_name;
  first_name = span_of q.first_name;
  second_name = second_span q.second_name;
  filestore_message = span_of q.filestore_message;
}

abbrev pub responded : Numbered → Response → ResponseAnswer
responded n q = record { refusal = n; response = q }

abbrev pub response_out : Numbered → FilestoreResponseTlv → ResponseAnswer
response_out n q = responded n (response_of q)

abbrev pub no_response : FilestoreResponseTlv
no_response = aResponse CreateFile 0 no_span None no_span

abbrev pub response_answer : Answer FilestoreResponseTlv → ResponseAnswer
response_answer = crossed response_out no_response

-- what stands at a place. 0 is a record: `value` is the span of its value, and `next` the place behind it. 1 is the whole end, and 2 the cut one: `value`
-- is the span of the bytes that are left there, and `next` the place of the end.

abbrev pub step_by : Numbered → ℕ → ℕ → Lv → ℕ → StepAnswer
step_by n what kind value next = record { refusal = n; what = what; tlv_type = kind; value = span_of value; next = next }

abbrev pub step_out : Numbered → Standing → StepAnswer
step_out n (found r next) = step_by n 0 r.tlv_type r.value next
step_out n (ended (Whole place)) = step_by n 1 0 (span place 0) place
step_out n (ended (Cut place behind)) = step_by n 2 0 (span place behind) place

abbrev pub no_step : Standing
no_step = found (record { place = 0; tlv_type = 0; value = no_span }) 0

abbrev pub step_answer : Answer Standing → StepAnswer
step_answer = crossed step_out no_step

-- the same in two registers: without the span, and without a refusal's values. 3 is a refusal, and its number stands behind.

abbrev pub next_by : ℕ → ℕ → ℕ → ℕ → NextAnswer
next_by next kind what number = record { next = next; tlv_type = kind; what = what; refusal = number }

abbrev pub next_answer : Answer Standing → NextAnswer
next_answer (gives (found r next)) = next_by next r.tlv_type 0 0
next_answer (gives (ended (Whole place))) = next_by place 0 1 0
next_answer (gives (ended (Cut place behind))) = next_by place 0 2 0
next_answer (refuses n vs) = next_by 0 0 3 n

-- what a step at the place p of n bytes tells, from two registers: a record's value starts behind the type and length bytes and ends at the next
-- place, and a stump ends with the bytes. 14 carries n, and 15 carries p.
abbrev pub step_of : ℕ → ℕ → NextAnswer → StepAnswer
step_of n p x =
    pick (eqb x.what 0) (step_by (numbered 0 []) 0 x.tlv_type (span (p + 2) (x.next - (p + 2))) x.next)
    (pick (eqb x.what 1) (step_by (numbered 0 []) 1 0 (span x.next 0) x.next)
    (pick (eqb x.what 2) (step_by (numbered 0 []) 2 0 (span x.next (n - x.next)) x.next)
    (step_by (numbered x.refusal (pick (eqb x.refusal 14) n p ∷ [])) 0 0 no_span 0)))

-- a summary: the number of records, the place of the end, and how many bytes stand behind it

abbrev pub place_of : End → ℕ
place_of (Whole place) = place
place_of (Cut place behind) = place

abbrev pub behind_of : End → ℕ
behind_of (Whole place) = 0
behind_of (Cut place behind) = behind

abbrev pub summary_out : Numbered → Summed → SummaryAnswer
summary_out n s = record { refusal = n; count = s.count; place = place_of s.end; behind = behind_of s.end }

abbrev pub no_summary : Summed
no_summary = record { count = 0; end = Whole 0 }

abbrev pub summary_answer : Answer Summed → SummaryAnswer
summary_answer = crossed summary_out no_summary

-- a kind

abbrev pub kind_code : Name → ℕ
kind_code request = 0
kind_code response = 1
kind_code entity = 2
kind_code other = 3

abbrev pub kind_by : Numbered → ℕ → KindAnswer
kind_by n k = record { refusal = n; kind = k }

abbrev pub kind_out : Numbered → Name → KindAnswer
kind_out n k = kind_by n (kind_code k)

abbrev pub kind_answer : Answer Name → KindAnswer
kind_answer = crossed kind_out request

-- ---- ARGUMENTS

abbrev pub span_in : Span → Lv
span_in s = span s.start s.len

-- a second name is there where the number is not 0
abbrev pub second_in : ℕ → Span → Option Lv
second_in there s = pick (eqb there 0) None (Some (span_in s))

abbrev pub request_in : Request → FilestoreActionCode → FilestoreRequestTlv
request_in q a = aRequest a (span_in q.first_name) (second_in q.has_second q.second_name)

abbrev pub response_in : Response → FilestoreActionCode → FilestoreResponseTlv
response_in q a =
    aResponse a q.status (span_in q.first_name) (second_in q.has_second q.second_name) (span_in q.filestore_message)

-- what C hands in: 7 with an action that is none of the nine

abbrev pub request_given : Request → Answer FilestoreRequestTlv
request_given q = map_answer (request_in q) (action_of q.action)

abbrev pub response_given : Response → Answer FilestoreResponseTlv
response_given q = map_answer (response_in q) (action_of q.action)

-- WRITING it: 7, then as the library

abbrev pub write_request : Request → List ℕ → ℕ → Answer (List ℕ)
write_request q src n = and_then (request_given q) (λ x. write_base (request_base x) src n)

abbrev pub write_response : Response → List ℕ → ℕ → Answer (List ℕ)
write_response q src n = and_then (response_given q) (λ x. write_base (response_base x) src n)
