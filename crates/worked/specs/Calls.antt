-- The calls that read, and what each answers when it is lent some bytes, in one type for all of them: the words of document 01's examples.
use Rattle.std.specs.Prelude.{ℕ, List, Option, None, Some}
use Rattle.bluebook.specs.Layouts.{Entity}
use Rattle.refusal.specs.Answer.{Answer, map_answer}
use Rattle.lv.specs.Rules.{part_of, read_lv}
use Rattle.lv.specs.declared.Lv.{Lv}
use Rattle.tlv.specs.Rules.{read_tlv}
use Rattle.tlv.specs.declared.Tlv.{Tlv}
use Rattle.tlv.specs.declared.TlvTypeField.{TlvTypeField}
use Rattle.entity_id.specs.Rules.{read_entity}
use Rattle.action.specs.declared.FilestoreActionCode.{FilestoreActionCode}
use Rattle.filestore_request.specs.Rules.{read_request, strict_request}
use Rattle.filestore_request.specs.declared.FilestoreRequestTlv.{FilestoreRequestTlv}
use Rattle.filestore_response.specs.Rules.{read_response}
use Rattle.filestore_response.specs.declared.FilestoreResponseTlv.{FilestoreResponseTlv}
use Rattle.walk.specs.Rules.{Standing, found, ended, Summed, step_at, summary_of}
use Rattle.walk.specs.declared.End.{End}

-- ---- THE CALLS

pub data Call : Type 0 where
  lv : Call  -- Lv::from_bytes
  tlv : Call  -- Tlv::from_bytes
  entity : Call  -- EntityIdTlv::from_bytes
  request : Call  -- FilestoreRequestTlv::from_bytes
  response : Call  -- FilestoreResponseTlv::from_bytes
  request_strict : Call  -- FilestoreRequestTlv::from_bytes_strict
  step : ℕ → Call  -- walk::step_at, at that place
  summary : Call  -- walk::summary_of

-- what a call gives where it does not refuse
abbrev pub Given : Call → Type 0
Given lv = Lv
Given tlv = Tlv
Given entity = Entity
Given request = FilestoreRequestTlv
Given response = FilestoreResponseTlv
Given request_strict = FilestoreRequestTlv
Given (step place) = Standing
Given summary = Summed

-- The rule that its contract cites: the call answers an r, and its contract is `told r ≡ rule call bytes`, or the like. So what the rule answers of
-- some bytes is what the call answers of them, and nothing else.
abbrev pub rule : (call : Call) → List ℕ → Answer (Given call)
rule lv bs = read_lv bs
rule tlv bs = read_tlv bs
rule entity bs = read_entity bs
rule request bs = read_request bs
rule response bs = read_response bs
rule request_strict bs = strict_request bs
rule (step place) bs = step_at bs place
rule summary bs = summary_of bs

-- ---- WHAT WAS ACCEPTED

-- a part of the bytes: where it starts, its length, and what stands there; or none, which an empty part is not
pub data Part : Type 0 where
  part : ℕ → ℕ → List ℕ → Part
  absent : Part

pub data Said : Type 0 where
  value : Part → Said  -- of an LV
  typed : TlvTypeField → Part → Said  -- a TLV: its type, standard or custom, and its value
  number : ℕ → ℕ → Said  -- an entity ID: its width and its number
  requests : FilestoreActionCode → Part → Part → Said  -- the action, the first and the second name
  responds : FilestoreActionCode → ℕ → Part → Part → Part → Said  -- the action, the status, the first and the second name, the message
  stands : ℕ → ℕ → Part → ℕ → Said  -- a record: its place, its type byte, its value, and the next place
  ends : End → Said  -- the walk: whole with its place, or cut with its place and the count of bytes behind it
  counts : ℕ → End → Said  -- the number of records, and the end

-- the part that a span selects
abbrev pub part_at : Lv → List ℕ → Part
part_at l bs = part l.start l.len (part_of l bs)

abbrev pub part_if : Option Lv → List ℕ → Part
part_if (Some l) bs = part_at l bs
part_if None bs = absent

abbrev pub says_request : FilestoreRequestTlv → List ℕ → Said
says_request q bs = requests q.action_code (part_at q.first_name bs) (part_if q.second_name bs)

abbrev pub says_response : FilestoreResponseTlv → List ℕ → Said
says_response q bs =
    responds q.action_code q.status_code (part_at q.first_name bs) (part_if q.second_name bs) (part_at q.filestore_message bs)

abbrev pub says_standing : Standing → List ℕ → Said
says_standing (found r next) bs = stands r.place r.tlv_type (part_at r.value bs) next
says_standing (ended e) bs = ends e

-- what a call gave, with the parts that its spans select in the bytes
abbrev pub says : (call : Call) → Given call → List ℕ → Said
says lv l bs = value (part_at l bs)
says tlv t bs = typed t.tlv_type_field (part_at t.lv bs)
says entity e bs = number e.width e.number
says request q bs = says_request q bs
says response q bs = says_response q bs
says request_strict q bs = says_request q bs
says (step place) s bs = says_standing s bs
says summary s bs = counts s.count s.end

-- an answer in these words: document 01's number and values where it refuses
abbrev pub said : (call : Call) → Answer (Given call) → List ℕ → Answer Said
said call a bs = map_answer (λ given. says call given bs) a

abbrev pub answer_of : Call → List ℕ → Answer Said
answer_of call bs = said call (rule call bs) bs
