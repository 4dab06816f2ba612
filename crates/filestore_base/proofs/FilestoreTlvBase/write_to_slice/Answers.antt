-- `FilestoreTlvBase::write_to_slice` meets its contract: the tests refuse, there is no room, or the head is stored and the parts laid behind
-- it. Assumes nothing.
use native.Mathlib.Omega.{arith}
use Rattle.refusal.proofs.Laws.{passed_on}
use Rattle.filestore_base.proofs.Laws.{writable, built, write_base_refused, write_base_small, write_base_room}
use Rattle.filestore_base.proofs.FilestoreTlvBase.write_to_slice.Goals as goal

pub returns-in_err-write_test : goal.returns-in_err-write_test
returns-in_err-write_test c = rw (passed_on _ _ c.from_residual.ensures.1) (write_base_refused _ _ _ _ _ c.in_err-write_test.ensures)

pub len-expected-requires : goal.len-expected-requires
len-expected-requires c = (built _ (writable _ _ c.in_ok-write_test.ensures).built).0

pub overflow_add-expected : goal.overflow_add-expected
overflow_add-expected c = omega (arith, (writable _ _ c.in_ok-write_test.ensures).size, c.len-expected.ensures)

pub returns-then-found-expected : goal.returns-then-found-expected
returns-then-found-expected c = write_base_small _ _ _ c.in_ok-write_test.ensures _ c.len-expected.ensures c.if-found-expected.true

pub put_head-requires : goal.put_head-requires
put_head-requires c = ((writable _ _ c.in_ok-write_test.ensures).built, omega arith)

pub returns : goal.returns
returns c = write_base_room _ _ _ c.in_ok-write_test.ensures _ _ _ (omega arith) c.len-expected.ensures c.put_head.ensures c.put_parts.ensures
