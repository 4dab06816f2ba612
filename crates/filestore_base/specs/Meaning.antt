-- What a filestore request or response means, whichever of the two it is, and where its parts lie.
use Rattle.std.specs.Prelude.{ℕ, ◌+◌, ◌*◌, Bool, true, false, List, [], ◌∷◌, ◌++◌, length, None, Option, Some}
use Rattle.bluebook.specs.Layouts.{lv, tlv, lv_if, there}
use Rattle.lv.specs.Rules.{span, part_of}
use Rattle.lv.specs.declared.Lv.{Lv}
use Rattle.tlv.specs.Kinds as kinds
use Rattle.tlv.specs.declared.TlvType.{TlvType}
use Rattle.tlv.specs.declared.TlvType.TheVariants.{FilestoreRequest, FilestoreResponse}
use Rattle.action.specs.Rules.{code_of, action_at}
use Rattle.action.specs.declared.FilestoreActionCode.{FilestoreActionCode}
use Rattle.filestore_base.specs.declared.FilestoreTlvBase.{FilestoreTlvBase}

-- the low bits are a response's status, and a request's spare bits; a message is there in a response
pub record Filed : Type 0 where
  pub action : ℕ
  pub low : ℕ
  pub first : List ℕ
  pub second : Option (List ℕ)
  pub message : Option (List ℕ)

abbrev pub filed : ℕ → ℕ → List ℕ → Option (List ℕ) → Option (List ℕ) → Filed
filed a l f s m = record { action = a; low = l; first = f; second = s; message = m }

-- ---- the layout: the standard's request where the low bits are 0 and there is no message, and the standard's response where there is a message

-- the names and the message as LVs
abbrev pub parts_of : Filed → List ℕ
parts_of m = lv m.first ++ lv_if m.second ++ lv_if m.message

abbrev pub value_of : Filed → List ℕ
value_of m = (m.action * 16 + m.low) ∷ parts_of m

-- the type of a response, or of a request
abbrev pub type_in : Bool → TlvType
type_in true = FilestoreResponse
type_in false = FilestoreRequest

-- and its byte
abbrev pub kind_of : Bool → ℕ
kind_of d = kinds.code_of (type_in d)

abbrev pub filed_tlv : Filed → List ℕ
filed_tlv m = tlv (kind_of (there m.message)) (value_of m)

-- ---- from spans to meaning

abbrev pub base_of : FilestoreActionCode → ℕ → Lv → Option Lv → Option Lv → FilestoreTlvBase
base_of a l f s m = record { action_code = a; low_bits = l; first_name = f; second_name = s; message = m }

abbrev pub is_there : Option Lv → Bool
is_there (Some l) = true
is_there None = false

abbrev pub part_if : Option Lv → List ℕ → Option (List ℕ)
part_if (Some l) bs = Some (part_of l bs)
part_if None bs = None

-- the bytes of a name, none where it is absent
abbrev pub bytes_if : Option (List ℕ) → List ℕ
bytes_if (Some v) = v
bytes_if None = []

abbrev pub meaning : FilestoreTlvBase → List ℕ → Filed
meaning b bs = filed (code_of b.action_code) b.low_bits (part_of b.first_name bs) (part_if b.second_name bs) (part_if b.message bs)

-- ---- from meaning to spans: in a TLV at the front of a buffer the first name's value starts at 4, and each LV stands behind the one before

-- the span of an LV's value, where the LV stands at a place
abbrev pub second_at : ℕ → Option (List ℕ) → Option Lv
second_at at (Some v) = Some (span (at + 1) (length v))
second_at at None = None

abbrev pub placed : Filed → FilestoreTlvBase
placed m =
    base_of (action_at m.action) m.low (span 4 (length m.first)) (second_at (4 + length m.first) m.second)
    (second_at (4 + length m.first + length (lv_if m.second)) m.message)

-- the place behind a span
abbrev pub end_of : Lv → ℕ
end_of l = l.start + l.len
