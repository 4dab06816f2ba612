-- P1 TO P15 of document 01: every row of the table holds. Assumes nothing.
use mathlib.Core.Path.{◌≡◌, refl, ap, sym, ◌∙◌}
use mathlib.Core.List.{List, map, head-eq_of_cons-eq, tail-eq_of_cons-eq, Memᴰ}
use Rattle.refusal.specs.Answer.{Answer, limit_test}
use Rattle.number.specs.Rules.{be_from}
use Rattle.lv.specs.Rules.{part_of, take_lv, read_lv}
use Rattle.tlv.specs.Rules.{take_tlv, read_tlv, take_of}
use Rattle.entity_id.specs.Rules.{width_ok, width_test, head_test, type_test, value_test, take_entity, read_entity}
use Rattle.action.specs.Rules.{action_at}
use Rattle.filestore_reader.specs.Rules.{take_octet, take_if, take_second, take_value, read_base, status_listed, listed_test, strict_base}
use Rattle.filestore_request.specs.Rules.{read_request, strict_request}
use Rattle.filestore_response.specs.Rules.{read_response}
use Rattle.walk.specs.Journal.{walk_on, walk}
use Rattle.walk.specs.Rules.{front, step_at, summary_of}
use Rattle.worked.specs.Calls.{Given, rule, said, answer_of}
use Rattle.worked.specs.Table.{Row, Holds, table}

-- two functions that agree along a list agree on each of its members
each : {A B : Type 0} (f g : A → B) {x : A} {xs : List A} → Memᴰ x xs → map f xs ≡ map g xs → f x ≡ g x
each f g (Memᴰ.head p) e = ap f p ∙ head-eq_of_cons-eq e ∙ sym (ap g p)
each f g (Memᴰ.tail m) e = each f g m (tail-eq_of_cons-eq e)

-- THE THEOREM: both columns of the table, what the calls answer and what the rows say, compute to the same list
pub worked : (r : Row) → Memᴰ r table → Holds r
unfolding limit_test be_from part_of take_lv read_lv take_tlv read_tlv take_of
    width_ok width_test head_test type_test value_test take_entity read_entity
    action_at take_octet take_if take_second take_value read_base status_listed listed_test strict_base
    read_request strict_request read_response
    walk_on walk front step_at summary_of
worked r m = each (λ (x : Row). answer_of x.call x.bytes) (λ (x : Row). x.answer) m refl

-- The same for the calls: any answer that the contract of a row's call allows, told as the contract tells it (`told answer`, ..), is the row's.
pub worked_calls : (r : Row) → Memᴰ r table → (told : Answer (Given r.call)) → told ≡ rule r.call r.bytes → said r.call told r.bytes ≡ r.answer
worked_calls r m told e = ap (λ a. said r.call a r.bytes) e ∙ worked r m
