-- `number::test` meets its contract: a number of fewer than 8 bytes fits where a shift by them leaves 0. Assumes nothing.
use mathlib.Core.Path.{sym}
use native.Mathlib.Omega.{arith}
use Rattle.number.proofs.Laws.{number_test_wide, number_test_large, number_test_fits, number_test_eight}
use Rattle.number.proofs.test.Goals as goal

pub returns-then-width-gt8 : goal.returns-then-width-gt8
returns-then-width-gt8 c = sym (number_test_wide _ _ c.if-width-gt8.true)

pub returns-then-number-width-ne0 : goal.returns-then-number-width-ne0
returns-then-number-width-ne0 c = sym (number_test_large _ _ c.if-width-lt8.true c.if-number-width-ne0.true)

pub returns-else-number-width-ne0 : goal.returns-else-number-width-ne0
returns-else-number-width-ne0 c = sym (number_test_fits _ _ c.if-width-lt8.true c.if-number-width-ne0.false)

pub returns-else-width-lt8 : goal.returns-else-width-lt8
returns-else-width-lt8 c = sym (number_test_eight _ _ (omega arith) c.ranges.number.fits)
