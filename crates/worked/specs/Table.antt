-- DOCUMENT 01'S EXAMPLES P1 TO P15, AS ONE TABLE: the number of the example, the call, its bytes, and the answer.
use Rattle.std.specs.Prelude.{◌≡◌, ℕ, List, [], ◌∷◌, take}
use Rattle.refusal.specs.Answer.{Answer, gives, refuses, short_at}
use Rattle.tlv.specs.declared.TlvTypeField.TheVariants.{Custom}
use Rattle.action.specs.declared.FilestoreActionCode.TheVariants.{CreateFile, RenameFile}
use Rattle.walk.specs.declared.End.TheVariants.{Whole, Cut}
use Rattle.worked.specs.Calls.{Call, lv, tlv, entity, request, response, request_strict, step, summary, part, absent, Said, value, typed, number, requests, responds, stands, ends, counts, answer_of}

pub record Row : Type 0 where
  pub name : ℕ
  pub call : Call
  pub bytes : List ℕ
  pub answer : Answer Said

abbrev row : ℕ → Call → List ℕ → Answer Said → Row
row n c bs a = record { name = n; call = c; bytes = bs; answer = a }

-- what a row says: the call answers that of those bytes
abbrev pub Holds : Row → Type 0
Holds r = answer_of r.call r.bytes ≡ r.answer

-- P15's bytes: two records
abbrev journal : List ℕ
journal = 0x05 ∷ 0x01 ∷ 0xAA ∷ 0x06 ∷ 0x01 ∷ 0x07 ∷ []

-- a part is its start, its length and its bytes; refusal 1 is its place (document 02, Q-2), what was found and what was expected
abbrev pub table : List Row
table =
    row 1 lv [] (short_at 0 0 1)
    ∷ row 2 lv (0x00 ∷ []) (gives (value (part 1 0 [])))
    ∷ row 3 lv (0x03 ∷ 0x61 ∷ 0x62 ∷ []) (short_at 0 3 4)
    ∷ row 4 tlv (0x03 ∷ 0x00 ∷ []) (gives (typed (Custom 3) (part 2 0 [])))
    ∷ row 5 tlv (0x05 ∷ 0x02 ∷ 0xAA ∷ []) (short_at 0 2 3)
    ∷ row 6 entity (0x06 ∷ 0x02 ∷ 0x01 ∷ 0x02 ∷ 0xFF ∷ []) (gives (number 2 258))
    ∷ row 7 entity (0x06 ∷ 0x03 ∷ 0x01 ∷ 0x02 ∷ 0x03 ∷ []) (refuses 5 (3 ∷ []))
    -- rename a to b
    ∷ row 8 request (0x00 ∷ 0x05 ∷ 0x20 ∷ 0x01 ∷ 0x61 ∷ 0x01 ∷ 0x62 ∷ []) (gives (requests RenameFile (part 4 1 (0x61 ∷ [])) (part 6 1 (0x62 ∷ []))))
    ∷ row 9 request (0x00 ∷ 0x03 ∷ 0x20 ∷ 0x01 ∷ 0x61 ∷ []) (refuses 6 [])
    ∷ row 10 request (0x00 ∷ 0x04 ∷ 0x20 ∷ 0x01 ∷ 0x61 ∷ 0x00 ∷ []) (gives (requests RenameFile (part 4 1 (0x61 ∷ [])) (part 6 0 [])))
    ∷ row 11 request (0x00 ∷ 0x03 ∷ 0x90 ∷ 0x01 ∷ 0x61 ∷ []) (refuses 7 (9 ∷ []))
    ∷ row 11 request (0x00 ∷ 0x00 ∷ []) (short_at 2 0 1)
    -- create a, status 1, empty message
    ∷ row 12 response (0x01 ∷ 0x04 ∷ 0x01 ∷ 0x01 ∷ 0x61 ∷ 0x00 ∷ []) (gives (responds CreateFile 1 (part 4 1 (0x61 ∷ [])) absent (part 6 0 [])))
    ∷ row 13 response (0x01 ∷ 0x03 ∷ 0x01 ∷ 0x01 ∷ 0x61 ∷ []) (short_at 5 0 1)
    ∷ row 14 request (0x00 ∷ 0x04 ∷ 0x00 ∷ 0x01 ∷ 0x61 ∷ 0xFF ∷ []) (gives (requests CreateFile (part 4 1 (0x61 ∷ [])) absent))
    ∷ row 14 request_strict (0x00 ∷ 0x04 ∷ 0x00 ∷ 0x01 ∷ 0x61 ∷ 0xFF ∷ []) (refuses 12 (1 ∷ []))
    ∷ row 14 request (0x00 ∷ 0x03 ∷ 0x05 ∷ 0x01 ∷ 0x61 ∷ []) (gives (requests CreateFile (part 4 1 (0x61 ∷ [])) absent))
    ∷ row 14 request_strict (0x00 ∷ 0x03 ∷ 0x05 ∷ 0x01 ∷ 0x61 ∷ []) (refuses 11 (5 ∷ []))
    -- records at 0 and 3, whole at 6
    ∷ row 15 (step 0) journal (gives (stands 0 5 (part 2 1 (0xAA ∷ [])) 3))
    ∷ row 15 (step 3) journal (gives (stands 3 6 (part 5 1 (0x07 ∷ [])) 6))
    ∷ row 15 (step 6) journal (gives (ends (Whole 6)))
    ∷ row 15 summary journal (gives (counts 2 (Whole 6)))
    -- its first 5 bytes: one record, cut at 3 with 2 behind
    ∷ row 15 (step 0) (take 5 journal) (gives (stands 0 5 (part 2 1 (0xAA ∷ [])) 3))
    ∷ row 15 (step 3) (take 5 journal) (gives (ends (Cut 3 2)))
    ∷ row 15 summary (take 5 journal) (gives (counts 1 (Cut 3 2)))
    -- its first 3 bytes: one record, whole
    ∷ row 15 (step 0) (take 3 journal) (gives (stands 0 5 (part 2 1 (0xAA ∷ [])) 3))
    ∷ row 15 (step 3) (take 3 journal) (gives (ends (Whole 3)))
    ∷ row 15 summary (take 3 journal) (gives (counts 1 (Whole 3)))
    ∷ []
