-- `EntityIdTlv::from_tlv` meets its contract behind its tests: the value is as long as a width, and is read as its number. Assumes nothing.
use mathlib.Core.Path.{◌≡◌, sym, ap, ◌∙◌}
use lib.ListN.{length}
use Rattle.refusal.specs.Answer.{gives}
use Rattle.lv.specs.Rules.{part_of}
use Rattle.lv.proofs.Laws.{span_test_passed, length-part_of}
use Rattle.entity_id.proofs.Laws.{valued, value_not_refused, of_tlv_passed}
use Rattle.entity_id.proofs.EntityIdTlv.from_tlv.Goals as goal
use Rattle.entity_id.proofs.EntityIdTlv.from_tlv.Goals.{In_ok-span_test}

-- the value is all there
size : (c : In_ok-span_test) → (let t = c.args.tlv in length (part_of t.lv c.args.buf.now) ≡ t.lv.len)
size c = length-part_of _ _ (span_test_passed _ _ c.in_ok-span_test.ensures)

pub returns-in_err-value : goal.returns-in_err-value
returns-in_err-value c =
    absurd (value_not_refused _ (size (goal.at.returns-in_err-value c).In_ok-span_test) c.in_ok-width_test.ensures (rw c.value.ensures at c.in_err-value.ensures))

pub returns : goal.returns
returns c =
    ap gives (valued _ (size (goal.at.returns c).In_ok-span_test) (rw c.value.ensures at c.in_ok-value.ensures)).is
    ∙ sym (of_tlv_passed _ _ c.in_ok-label_test.ensures c.in_ok-width_test.ensures c.in_ok-span_test.ensures)
