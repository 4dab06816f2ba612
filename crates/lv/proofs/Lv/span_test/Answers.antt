-- `Lv::span_test` meets its contract: the two tests together say that start plus length, as whole numbers, pass the end. Assumes nothing.
use mathlib.Core.Path.{sym}
use native.Mathlib.Omega.{arith}
use Rattle.lv.proofs.Laws.{span_test_in, span_test_out}
use Rattle.lv.proofs.Lv.span_test.Goals as goal

pub returns-then-buf-start : goal.returns-then-buf-start
returns-then-buf-start c = sym (span_test_out _ _ (omega arith))

pub returns-then-buf-start-2 : goal.returns-then-buf-start-2
returns-then-buf-start-2 c = sym (span_test_out _ _ (omega arith))

pub returns : goal.returns
returns c = sym (span_test_in _ _ (omega arith))
