-- `UnsignedByteField::room_test` meets its contract behind its tests: there is no room, or there is. Assumes nothing.
use mathlib.Core.Path.{sym}
use Rattle.entity_id.proofs.Laws.{room_test_small, room_test_in}
use Rattle.entity_id.proofs.UnsignedByteField.room_test.Goals as goal

pub returns-then-n-expected : goal.returns-then-n-expected
returns-then-n-expected c = sym (room_test_small _ _ c.in_ok-test.ensures c.in_ok-head_test.ensures c.if-n-expected.true)

pub returns : goal.returns
returns c = sym (room_test_in _ _ c.in_ok-test.ensures c.if-n-expected.false)
