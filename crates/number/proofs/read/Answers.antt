-- `number::read` meets its contract, by the cases of `read_be`. Assumes nothing.
use mathlib.Core.Path.{sym, ap, ◌∙◌}
use native.Mathlib.Omega.{arith}
use Rattle.refusal.specs.Answer.{gives}
use Rattle.number.proofs.Laws.{read_be_in, read_be_over}
use Rattle.number.proofs.read.Goals as goal

pub returns-then-n-gt8 : goal.returns-then-n-gt8
returns-then-n-gt8 c = sym (read_be_over _ (omega arith))

pub returns : goal.returns
returns c = ap gives c.of.ensures ∙ sym (read_be_in _ (omega arith))
