-- `test_text::notation::pairs` meets its contract: the front of the rest is a pair, or nothing is left, or one digit. Assumes nothing.
use Rattle.std.proofs.Common.{◌≡◌, length, arith}
use Rattle.test_text.proofs.Reading.{reads_within, reads_on, reads_stop, reads_not, reads_end, pairs_end, pairs_odd, pairs_at}
use Rattle.test_text.proofs.notation.pairs.Goals as goal

pub returns-in_err-n : goal.returns-in_err-n
returns-in_err-n c =
    reads_stop _ _ _ _ _ _ c.loop-high.invariant _ _ _ _ (pairs_at _ _ _ c.in-Some.ensures.cases) c.in_err-n.ensures c.from_residual.ensures

pub loop-high-preserved : goal.loop-high-preserved
loop-high-preserved c =
    reads_on _ _ _ _ _ _ c.loop-high.invariant _ _ _ c.in_ok-n.ensures _ (pairs_at _ _ _ c.in-Some.ensures.cases)

pub returns-then-is_empty : goal.returns-then-is_empty
returns-then-is_empty c =
    let e : length c.loop-high.rest.now ≡ 0 = grind arith in
    reads_end _ _ _ _ _ _ c.loop-high.invariant (pairs_end _ e)

pub returns-else-is_empty : goal.returns-else-is_empty
returns-else-is_empty c =
    let e : length c.loop-high.rest.now ≡ 1 = grind arith in
    reads_not _ _ _ _ _ _ c.loop-high.invariant (pairs_odd _ e)

pub overflow_add-n : goal.overflow_add-n
overflow_add-n c =
    let w = reads_within _ _ _ _ _ _ c.loop-high.invariant _ _ _ c.in_ok-n.ensures in
    omega arith
