-- CCSDS 727.0-B-5: its layouts, as functions from what is meant to octets, the numbers of its types, and its table of actions.
-- A layout is a list of numbers. Nothing here knows of buffers, places in them, or refusals.
use Rattle.std.specs.Prelude.{◌≡◌, ℕ, zero, suc, ◌+◌, ◌*◌, ◌/◌, ◌%◌, ◌^◌, ◌≤◌, ◌<◌, Bool, true, false, List, [], ◌∷◌, ◌++◌, length, get_or, None, Option, Some}

-- an octet is a number below 256
abbrev pub Octets : List ℕ → Type 0
Octets bs = (k : ℕ) → get_or bs k 0 < 256

-- what an LV or a TLV can hold: 0 to 255 octets
pub record Value (v : List ℕ) : Type 0 where
  pub octets : Octets v
  pub short : length v ≤ 255

-- ---- 5.1.8 LV: the length of the value in octets, then the value

abbrev pub lv : List ℕ → List ℕ
lv v = length v ∷ v

-- ---- 5.1.9 TLV: the type, then the length of the value in octets, then the value

abbrev pub tlv : ℕ → List ℕ → List ℕ
tlv t v = t ∷ length v ∷ v

-- the types; 03 is none of them

abbrev pub filestore_request : ℕ
filestore_request = 0x00

abbrev pub filestore_response : ℕ
filestore_response = 0x01

abbrev pub message_to_user : ℕ
message_to_user = 0x02

abbrev pub fault_handler_override : ℕ
fault_handler_override = 0x04

abbrev pub flow_label : ℕ
flow_label = 0x05

abbrev pub entity_id : ℕ
entity_id = 0x06

-- ---- entity ID: type 06; its value is an unsigned integer of 1 to 8 octets

-- an unsigned integer in k octets, the most significant first
unfoldable pub be_bytes : ℕ → ℕ → List ℕ
be_bytes zero x = []
be_bytes (suc k) x = be_bytes k (x / 256) ++ (x % 256 ∷ [])

pub record Entity : Type 0 where
  pub width : ℕ
  pub number : ℕ

abbrev pub entity : Entity → List ℕ
entity e = tlv entity_id (be_bytes e.width e.number)

-- what an entity ID can be
pub record Identified (e : Entity) : Type 0 where
  pub wide : 1 ≤ e.width
  pub short : e.width ≤ 8
  pub fits : e.number < 256 ^ e.width

-- ---- the actions of a filestore request or response: a row each, in the table's order from code 0 on, with whether a second file name is
-- present

pub record Action : Type 0 where
  pub second : Bool

abbrev row : Bool → Action
row s = record { second = s }

abbrev pub actions : List Action
actions =
    row false  -- 0 create file
    ∷ row false  -- 1 delete file
    ∷ row true  -- 2 rename file
    ∷ row true  -- 3 append file
    ∷ row true  -- 4 replace file
    ∷ row false  -- 5 create directory
    ∷ row false  -- 6 remove directory
    ∷ row false  -- 7 deny file
    ∷ row false  -- 8 deny directory
    ∷ []

-- whether the action's row has a second name
abbrev pub second_present : ℕ → Bool
second_present a = (get_or actions a (row false)).second

abbrev pub there : Option (List ℕ) → Bool
there (Some v) = true
there None = false

-- an action of the table, and a second name exactly where its row has one
pub record Named (action : ℕ) (second : Option (List ℕ)) : Type 0 where
  pub known : action < length actions
  pub due : there second ≡ second_present action

abbrev pub lv_if : Option (List ℕ) → List ℕ
lv_if (Some v) = lv v
lv_if None = []

-- ---- filestore request: an octet with the action in its high four bits, the low four spare, all 0; then the names as LVs

pub record Request : Type 0 where
  pub action : ℕ
  pub first : List ℕ
  pub second : Option (List ℕ)

abbrev pub request_value : Request → List ℕ
request_value q = (q.action * 16) ∷ (lv q.first ++ lv_if q.second)

abbrev pub request : Request → List ℕ
request q = tlv filestore_request (request_value q)

pub record Requested (q : Request) : Type 0 where
  pub named : Named q.action q.second
  pub value : Value (request_value q)

-- ---- filestore response: an octet with the action in its high four bits and the status in its low four; then the names as LVs, and the
-- message as an LV, always there

pub record Response : Type 0 where
  pub action : ℕ
  pub status : ℕ
  pub first : List ℕ
  pub second : Option (List ℕ)
  pub message : List ℕ

abbrev pub response_value : Response → List ℕ
response_value r = (r.action * 16 + r.status) ∷ (lv r.first ++ lv_if r.second ++ lv r.message)

abbrev pub response : Response → List ℕ
response r = tlv filestore_response (response_value r)

pub record Responded (r : Response) : Type 0 where
  pub named : Named r.action r.second
  pub status : r.status < 16
  pub value : Value (response_value r)
