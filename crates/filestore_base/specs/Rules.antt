-- What building, writing and comparing a filestore request or response answer, for all arguments (document 01, modules 4 and 5).
use Rattle.std.specs.Prelude.{◌≡◌, ℕ, ◌+◌, ◌≤◌, Bool, true, false, ◌&&◌, List, [], eqb, None, Option, Some}
use Rattle.refusal.specs.Answer.{Answer, gives, refuses, also, Test, limit_test}
use Rattle.splice.specs.Laid.{same_bytes}
use Rattle.splice.specs.Writing.{room_for}
use Rattle.lv.specs.Rules.{span_test, size_test}
use Rattle.lv.specs.Rules as lvs
use Rattle.lv.specs.declared.Lv.{Lv}
use Rattle.action.specs.Rules.{code_of, due_of}
use Rattle.filestore_base.specs.Meaning.{Filed, filed_tlv, meaning}
use Rattle.filestore_base.specs.declared.FilestoreTlvBase.{FilestoreTlvBase}

-- ---- a second name, or a message

-- 4 for one over 255 bytes
abbrev pub size_if : Option Lv → Test
size_if (Some l) = size_test l
size_if None = gives tt

-- 15 for one whose span passes the end
abbrev pub span_if : Option Lv → List ℕ → Test
span_if (Some l) bs = span_test l bs
span_if None bs = gives tt

-- the bytes that it takes as an LV
abbrev pub len_if : Option Lv → ℕ
len_if (Some l) = l.len + 1
len_if None = 0

-- 6 for a second name missing, 8 for one that is not due
abbrev pub due_test : Bool → Option Lv → Test
due_test true (Some l) = gives tt
due_test true None = refuses 6 []
due_test false (Some l) = refuses 8 []
due_test false None = gives tt

-- ---- BUILDING, in order: 4 (first name, second, message), 6 or 8, 9, then 5 with the whole length of the value

-- 9 for a status over 15
abbrev pub status_test : ℕ → Test
status_test s = limit_test 9 15 s

unfoldable pub parts_test : FilestoreTlvBase → Test
parts_test b =
    also (size_test b.first_name)
    (also (size_if b.second_name)
    (also (size_if b.message)
    (also (due_test (due_of b.action_code) b.second_name)
    (status_test b.low_bits))))

-- the length of the value: the first byte, and each LV
abbrev pub len_of : FilestoreTlvBase → ℕ
len_of b = b.first_name.len + 2 + len_if b.second_name + len_if b.message

-- 5 for a value over 255 bytes
abbrev pub length_test : ℕ → Test
length_test n = limit_test 5 255 n

unfoldable pub build_test : FilestoreTlvBase → Test
build_test b = also (parts_test b) (length_test (len_of b))

unfoldable pub len_value : FilestoreTlvBase → Answer ℕ
len_value b = also (build_test b) (gives (len_of b))

-- with the type and length bytes
unfoldable pub len_full : FilestoreTlvBase → Answer ℕ
len_full b = also (build_test b) (gives (len_of b + 2))

-- ---- WRITING to n bytes: the building tests, then 15 in writing order, then 2 (n, 2 + the length of the value)

unfoldable pub spans_test : FilestoreTlvBase → List ℕ → Test
spans_test b bs = also (span_test b.first_name bs) (also (span_if b.second_name bs) (span_if b.message bs))

unfoldable pub write_test : FilestoreTlvBase → List ℕ → Test
write_test b src = also (build_test b) (spans_test b src)

unfoldable pub write_base : FilestoreTlvBase → List ℕ → ℕ → Answer (List ℕ)
write_base b src n = also (write_test b src) (room_for n (filed_tlv (meaning b src)))

-- ---- COMPARING: 15 for the first, then for the second; then whether all that they mean is the same

abbrev pub same_if : Option (List ℕ) → Option (List ℕ) → Bool
same_if (Some v) (Some w) = same_bytes v w
same_if (Some v) None = false
same_if None (Some w) = false
same_if None None = true

-- action and low bits
unfoldable pub same_octet : FilestoreTlvBase → FilestoreTlvBase → Bool
same_octet b c = eqb (code_of b.action_code) (code_of c.action_code) && eqb b.low_bits c.low_bits

-- names and message
unfoldable pub same_parts : Filed → Filed → Bool
same_parts m n = same_bytes m.first n.first && same_if m.second n.second && same_if m.message n.message

unfoldable pub same_base : FilestoreTlvBase → List ℕ → FilestoreTlvBase → List ℕ → Answer Bool
same_base b x c y = also (also (spans_test b x) (spans_test c y)) (gives (same_octet b c && same_parts (meaning b x) (meaning c y)))

-- ---- for private functions: a second name, or a message, may be written and has room, or it is absent
abbrev pub FitsIf : Option Lv → List ℕ → ℕ → ℕ → Type 0
FitsIf (Some l) src at n = (gives tt ≡ lvs.write_test l src) × (at + (l.len + 1) ≤ n)
FitsIf None src at n = Unit {0}
