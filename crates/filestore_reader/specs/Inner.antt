-- What the private functions of this crate answer, and what is left to read between their steps. They read as Rules.antt says, but inside a buffer:
-- the bytes from a place up to the place `end`.
use Rattle.std.specs.Prelude.{ℕ, ◌+◌, Bool, List, length, None, Option, Some}
use Rattle.std.proofs.Math.Seq.{slice}
use Rattle.bluebook.specs.Layouts.{lv_if}
use Rattle.refusal.specs.Answer.{Answer, map_answer, and_then}
use Rattle.lv.specs.Rules.{read_lv_at}
use Rattle.lv.specs.declared.Lv.{Lv}
use Rattle.action.specs.Rules.{due_of}
use Rattle.action.specs.declared.FilestoreActionCode.{FilestoreActionCode}
use Rattle.filestore_base.specs.Meaning.{base_of, second_at, end_of}
use Rattle.filestore_base.specs.declared.FilestoreTlvBase.{FilestoreTlvBase}
use Rattle.filestore_reader.specs.Rules.{take_if, take_second, take_value, found, found_of}
use Rattle.filestore_reader.specs.declared.Found.{Found}

unfoldable pub read_if_at : List ℕ → ℕ → ℕ → Bool → Answer (Option Lv)
read_if_at bs at end wanted = map_answer (λ t. second_at at t.got) (take_if wanted at (slice at end bs))

unfoldable pub read_second_at : List ℕ → ℕ → ℕ → Bool → Answer (Option Lv)
read_second_at bs at end due = map_answer (λ t. second_at at t.got) (take_second due at (slice at end bs))

-- the place behind what stands at the place `at`, which is `at` where it is absent
abbrev pub end_if : ℕ → Option Lv → ℕ
end_if at (Some l) = end_of l
end_if at None = at

-- the names, with the message behind them
abbrev pub with_message : FilestoreTlvBase → Option Lv → FilestoreTlvBase
with_message b m = base_of b.action_code b.low_bits b.first_name b.second_name m

unfoldable pub read_message_at : List ℕ → ℕ → ℕ → FilestoreTlvBase → Bool → Answer Found
read_message_at bs at end names response = map_answer (λ t. found_of (with_message names (second_at at t.got)) (length t.rest)) (take_if response at (slice at end bs))

-- behind the first name
unfoldable pub read_behind : List ℕ → ℕ → FilestoreActionCode → ℕ → Lv → Bool → Answer Found
read_behind bs end a low f response =
    and_then (take_second (due_of a) (end_of f) (slice (end_of f) end bs)) (λ s.
    map_answer (λ t. found_of (base_of a low f (second_at (end_of f) s.got) (second_at (end_of f + length (lv_if s.got)) t.got)) (length t.rest)) (take_if response (end_of f + length (lv_if s.got)) s.rest))

-- behind the value's first byte
unfoldable pub read_names : List ℕ → ℕ → FilestoreActionCode → ℕ → Bool → Answer Found
read_names bs end a low response = and_then (read_lv_at bs 3 end) (λ f. read_behind bs end a low f response)

-- the value that starts at 2
unfoldable pub read_value : List ℕ → ℕ → Bool → Answer Found
read_value bs end response = map_answer found (take_value response (slice 2 end bs))
