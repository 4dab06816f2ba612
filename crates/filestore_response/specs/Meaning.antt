-- A response as the standard means it (`bluebook`), where its parts lie, and what plain reading ignores beside it.
use Rattle.std.specs.Prelude.{ℕ, true, List, ◌++◌, Some}
use Rattle.bluebook.specs.Layouts.{Response, response_value, tlv, filestore_response}
use Rattle.refusal.specs.Reader.{Reader, reworded}
use Rattle.lv.specs.Rules.{part_of}
use Rattle.action.specs.Rules.{code_of}
use Rattle.filestore_base.specs.Meaning.{Filed, filed, bytes_if, part_if, placed}
use Rattle.filestore_reader.specs.Rules.{take_filed, take_strict, found_of}
use Rattle.filestore_response.specs.Rules.{response_in}
use Rattle.filestore_response.specs.declared.FilestoreResponseTlv.{FilestoreResponseTlv}

-- ---- from spans to meaning

abbrev pub response_meant : FilestoreResponseTlv → List ℕ → Response
response_meant q bs = record {
  action = code_of q.action_code;
  status = q.status_code;
  first = part_of q.first_name bs;
  second = part_if q.second_name bs;
  message = part_of q.filestore_message bs;
}

-- ---- from meaning to spans, in a TLV at the front of a buffer: where filestore_base places the parts

-- a response has a message
abbrev pub response_filed : Response → Filed
response_filed m = filed m.action m.status m.first m.second (Some m.message)

abbrev pub response_placed : Response → FilestoreResponseTlv
response_placed m = response_in (found_of (placed (response_filed m)) 0)

-- ---- SLACK: bytes left in the value

abbrev pub slack_response : Response × List ℕ → List ℕ
slack_response p = tlv filestore_response (response_value p.0 ++ p.1)

-- ---- READERS OF MEANINGS: what was found, in the standard's words

abbrev pub response_said : Filed → Response
response_said m = record { action = m.action; status = m.low; first = m.first; second = m.second; message = bytes_if m.message }

-- plain
abbrev pub take_response : Reader (Response × List ℕ)
take_response = reworded (λ t. (response_said t.got, t.rest)) (take_filed true)

-- strict
abbrev pub take_strict_response : Reader Response
take_strict_response = reworded (λ t. response_said t.got) (take_strict true)
