-- `EntityIdTlv::to_tlv` meets its contract behind its tests: the number is laid down behind 2 bytes. Assumes nothing.
use mathlib.Core.Path.{ap, ◌∙◌}
use native.Mathlib.Omega.{arith}
use lib.ListN.{length}
use Rattle.refusal.specs.Answer.{map_answer}
use Rattle.lv.proofs.Laws.{new_lv_in}
use Rattle.entity_id.specs.Rules.{meaning}
use Rattle.entity_id.proofs.Laws.{Writable, told_writable, number_laid, number_not_refused, made_tlv}
use Rattle.entity_id.proofs.EntityIdTlv.to_tlv.Goals as goal
use Rattle.entity_id.proofs.EntityIdTlv.to_tlv.Goals.{In_ok-room_test}

-- behind the test it can be written
fine : (c : In_ok-room_test) → Writable (meaning c.args.self) (length c.args.buf.now)
fine c = told_writable _ _ c.in_ok-room_test.ensures

pub returns-in_err-write : goal.returns-in_err-write
returns-in_err-write c = let h = fine (goal.at.returns-in_err-write c).In_ok-room_test in absurd (number_not_refused _ _ _ _ h.ok (omega (arith, h.room)) c.in_err-write.ensures)

pub returns : goal.returns
returns c =
    let a = c.args in
    let h = fine (goal.at.returns c).In_ok-room_test in
    made_tlv _ a.buf.now _ _ h
    (c.new.ensures ∙ ap (map_answer _) (new_lv_in _ a.self.entity_id.width (omega (arith, h.short))))
    (number_laid _ _ _ _ h.ok (omega (arith, h.room)) c.in_ok-write.ensures)
