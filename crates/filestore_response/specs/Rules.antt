-- What building and reading a filestore response answer, for all arguments (document 01, module 5, and strict reading). Writing, lengths and
-- comparing are filestore_base's rules, applied to what a response holds (`response_base`).
use Rattle.std.specs.Prelude.{ℕ, true, List, None, Option, Some}
use Rattle.refusal.specs.Answer.{Answer, gives, map_answer, also}
use Rattle.lv.specs.Rules.{span}
use Rattle.lv.specs.declared.Lv.{Lv}
use Rattle.action.specs.declared.FilestoreActionCode.{FilestoreActionCode}
use Rattle.filestore_base.specs.Meaning.{base_of}
use Rattle.filestore_base.specs.Rules.{build_test}
use Rattle.filestore_base.specs.declared.FilestoreTlvBase.{FilestoreTlvBase}
use Rattle.filestore_reader.specs.Rules.{read_base, strict_base}
use Rattle.filestore_reader.specs.declared.Found.{Found}
use Rattle.filestore_response.specs.declared.FilestoreResponseTlv.{FilestoreResponseTlv}

abbrev pub response_of : FilestoreActionCode → ℕ → Lv → Option Lv → Lv → FilestoreResponseTlv
response_of a c f s m = record { action_code = a; status_code = c; first_name = f; second_name = s; filestore_message = m }

-- what it holds: its status in the low bits, and a message
abbrev pub response_base : FilestoreResponseTlv → FilestoreTlvBase
response_base q = base_of q.action_code q.status_code q.first_name q.second_name (Some q.filestore_message)

-- BUILDING: 4, 6 or 8, 9, 5
unfoldable pub new_response : FilestoreResponseTlv → Answer FilestoreResponseTlv
new_response q = also (build_test (response_base q)) (gives q)

-- a message that was found
abbrev pub message_in : Option Lv → Lv
message_in (Some l) = l
message_in None = span 0 0

-- the response of what was found: bytes left in the value are ignored
abbrev pub response_in : Found → FilestoreResponseTlv
response_in f = response_of f.base.action_code f.base.low_bits f.base.first_name f.base.second_name (message_in f.base.message)

-- READING, plain and strict
unfoldable pub read_response : List ℕ → Answer FilestoreResponseTlv
read_response bs = map_answer response_in (read_base true bs)

unfoldable pub strict_response : List ℕ → Answer FilestoreResponseTlv
strict_response bs = map_answer response_in (strict_base true bs)
