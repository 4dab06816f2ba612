-- What building and reading a filestore request answer, for all arguments (document 01, module 4, and strict reading). Writing, lengths and
-- comparing are filestore_base's rules, applied to what a request holds (`request_base`).
use Rattle.std.specs.Prelude.{ℕ, false, List, None, Option}
use Rattle.refusal.specs.Answer.{Answer, gives, map_answer, also}
use Rattle.lv.specs.declared.Lv.{Lv}
use Rattle.action.specs.declared.FilestoreActionCode.{FilestoreActionCode}
use Rattle.filestore_base.specs.Meaning.{base_of}
use Rattle.filestore_base.specs.Rules.{build_test}
use Rattle.filestore_base.specs.declared.FilestoreTlvBase.{FilestoreTlvBase}
use Rattle.filestore_reader.specs.Rules.{read_base, strict_base}
use Rattle.filestore_reader.specs.declared.Found.{Found}
use Rattle.filestore_request.specs.declared.FilestoreRequestTlv.{FilestoreRequestTlv}

abbrev pub request_of : FilestoreActionCode → Lv → Option Lv → FilestoreRequestTlv
request_of a f s = record { action_code = a; first_name = f; second_name = s }

-- what it holds: low bits 0, and no message
abbrev pub request_base : FilestoreRequestTlv → FilestoreTlvBase
request_base q = base_of q.action_code 0 q.first_name q.second_name None

-- BUILDING: 4, 6 or 8, 5
unfoldable pub new_request : FilestoreRequestTlv → Answer FilestoreRequestTlv
new_request q = also (build_test (request_base q)) (gives q)

-- the request of what was found: low bits, and bytes left in the value, are ignored
abbrev pub request_in : Found → FilestoreRequestTlv
request_in f = request_of f.base.action_code f.base.first_name f.base.second_name

-- READING, plain and strict
unfoldable pub read_request : List ℕ → Answer FilestoreRequestTlv
read_request bs = map_answer request_in (read_base false bs)

unfoldable pub strict_request : List ℕ → Answer FilestoreRequestTlv
strict_request bs = map_answer request_in (strict_base false bs)
