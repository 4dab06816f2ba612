-- What reading a filestore request or response answers, for all bytes: document 01's list, in its order, and strict reading behind it.
use Rattle.std.specs.Prelude.{ℕ, ◌+◌, ◌/◌, ◌%◌, Bool, true, false, ◌||◌, List, [], ◌∷◌, length, ltb, eqb, None, Option, Some}
use Rattle.bluebook.specs.Layouts.{actions, second_present, lv_if}
use Rattle.refusal.specs.Answer.{Answer, gives, refuses, short_at, pick, map_answer, and_then, also, Test, limit_test}
use Rattle.refusal.specs.Reader.{Reader, Took, took, inside, tested}
use Rattle.lv.specs.Rules.{take_lv}
use Rattle.tlv.specs.Rules.{take_of}
use Rattle.filestore_base.specs.Meaning.{Filed, filed, kind_of, placed}
use Rattle.filestore_base.specs.declared.FilestoreTlvBase.{FilestoreTlvBase}
use Rattle.filestore_reader.specs.declared.Found.{Found}

-- ---- THE VALUE, in order. It starts at the place 2 of its TLV, and refusal 1 tells the place of the part that is short

pub record Octet : Type 0 where
  pub action : ℕ
  pub low : ℕ

abbrev pub octet : ℕ → ℕ → Octet
octet a l = record { action = a; low = l }

-- empty value 1 (0, 1), place 2; action 9 to 15 gives 7
unfoldable pub take_octet : Reader Octet
take_octet [] = short_at 2 0 1
take_octet (o ∷ bs) = pick (ltb (o / 16) (length actions)) (gives (took (octet (o / 16) (o % 16)) bs)) (refuses 7 (o / 16 ∷ []))

-- an LV at a place, where one is wanted
unfoldable pub take_if : Bool → ℕ → Reader (Option (List ℕ))
take_if false at bs = gives (took None bs)
take_if true at bs = map_answer (λ t. took (Some t.got) t.rest) (take_lv at bs)

-- where a second name is due and nothing is left, 6; second name as LV
unfoldable pub take_second : Bool → ℕ → Reader (Option (List ℕ))
take_second false at bs = take_if false at bs
take_second true at [] = refuses 6 []
take_second true at (x ∷ bs) = take_if true at (x ∷ bs)

-- first byte, first name, second name where it is due, and a response's message: each LV at the place behind what stands before it
unfoldable pub take_value : Bool → Reader Filed
take_value response bs =
    and_then (take_octet bs) (λ o.
    and_then (take_lv 3 o.rest) (λ f.
    and_then (take_second (second_present o.got.action) (4 + length f.got) f.rest) (λ s.
    map_answer (λ m. took (filed o.got.action o.got.low f.got s.got m.got) m.rest) (take_if response (4 + length f.got + length (lv_if s.got)) s.rest))))

-- ---- PLAIN READING: a TLV of the type, with 1 (n, 2), 3, 1 (n, 2 + L), each 1 with the place 0; then its value, and the bytes that are left in it

abbrev pub take_filed : Bool → Reader (Took Filed)
take_filed response = inside (take_of (kind_of response)) (take_value response)

-- where the parts lie, and how many bytes are left
abbrev pub found_of : FilestoreTlvBase → ℕ → Found
found_of b n = record { base = b; left = n }

abbrev pub found : Took Filed → Found
found t = found_of (placed t.got) (length t.rest)

unfoldable pub read_base : Bool → List ℕ → Answer Found
read_base response bs = map_answer (λ t. found t.got) (take_filed response bs)

-- ---- STRICT READING: as plain, then a request's low bits 11, bytes left in the value 12, a response's status that is not listed 13

abbrev pub low_bits_test : ℕ → Test
low_bits_test low = limit_test 11 0 low

abbrev pub left_test : ℕ → Test
left_test left = limit_test 12 0 left

-- one list for every action
unfoldable pub status_listed : ℕ → ℕ → Bool
status_listed action status = eqb status 0 || eqb status 1 || eqb status 2 || eqb status 3 || eqb status 15

unfoldable pub listed_test : ℕ → ℕ → Test
listed_test action status = pick (status_listed action status) (gives tt) (refuses 13 (status ∷ []))

abbrev pub strict_test : Bool → ℕ → ℕ → ℕ → Test
strict_test false action low left = also (low_bits_test low) (left_test left)
strict_test true action low left = also (left_test left) (listed_test action low)

abbrev pub take_strict : Bool → Reader (Took Filed)
take_strict response = tested (take_filed response) (λ t. strict_test response t.got.action t.got.low (length t.rest))

unfoldable pub strict_base : Bool → List ℕ → Answer Found
strict_base response bs = map_answer (λ t. found t.got) (take_strict response bs)
