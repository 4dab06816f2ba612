-- `test_text::notation::times` meets its contract: the pairs stand once more, and the times still to come fall; or none is to come. Assumes nothing.
use Rattle.std.proofs.Common.{◌-◌, ◌+◌, arith}
use Rattle.test_text.proofs.Reading.{reads_within, reads_on, reads_stop, reads_end, times_none, times_on}
use Rattle.test_text.proofs.notation.times.Goals as goal

pub returns-in_err-n : goal.returns-in_err-n
returns-in_err-n c =
    reads_stop _ _ _ _ _ _ c.loop-i.invariant _ _ _ _ (times_on _ (c.args.count - (c.loop-i.i + 1)) _ (omega arith)) c.in_err-n.ensures c.from_residual.ensures

pub loop-i-preserved : goal.loop-i-preserved
loop-i-preserved c =
    reads_on _ _ _ _ _ _ c.loop-i.invariant _ _ _ c.in_ok-n.ensures _ (times_on _ (c.args.count - (c.loop-i.i + 1)) _ (omega arith))

pub returns : goal.returns
returns c = reads_end _ _ _ _ _ _ c.loop-i.invariant (times_none _ _ (omega arith))

pub overflow_add-n : goal.overflow_add-n
overflow_add-n c =
    let w = reads_within _ _ _ _ _ _ c.loop-i.invariant _ _ _ c.in_ok-n.ensures in
    omega arith
