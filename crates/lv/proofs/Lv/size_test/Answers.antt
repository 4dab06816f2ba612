-- `Lv::size_test` meets its contract, by the cases of `size_test`. Assumes nothing.
use mathlib.Core.Path.{sym}
use native.Mathlib.Omega.{arith}
use Rattle.lv.proofs.Laws.{size_test_in, size_test_over}
use Rattle.lv.proofs.Lv.size_test.Goals as goal

pub returns-then-len-gt255 : goal.returns-then-len-gt255
returns-then-len-gt255 c = sym (size_test_over _ (omega arith))

pub returns : goal.returns
returns c = sym (size_test_in _ (omega arith))
