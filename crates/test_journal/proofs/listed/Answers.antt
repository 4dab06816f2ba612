-- `test_journal::listed` meets its contract: a step to a record tells a place behind its own, by walk's `whole`. Assumes nothing.
use Rattle.std.proofs.Common.{◌≡◌, ℕ, ◌<◌, List, Some, Ok, sym, ap, ◌∙◌, arith}
use Rattle.walk.specs.Rules.{next_of, step_at}
use Rattle.walk.specs.Told.{told_step}
use Rattle.walk.specs.declared.Record.{Record as Found}
use Rattle.walk.specs.declared.Step.{Step}
use Rattle.walk.specs.declared.Step.TheVariants.{Record}
use Rattle.walk.proofs.Steps.{whole}
use Rattle.test_journal.proofs.listed.Goals as goal

moves : (s : List ℕ) (p : ℕ) (x : Step) (r : Found) (next : ℕ) → x ≡ Record r next → told_step (Ok x) ≡ step_at s p → p < next
moves s p x r next e h =
    let g : Some next ≡ next_of (step_at s p) = ap (λ (y : Step). next_of (told_step (Ok y))) (sym e) ∙ ap next_of h in
    omega (arith, (whole s p next g).on)

pub returns-in-Ok-Record : goal.returns-in-Ok-Record
returns-in-Ok-Record c = moves _ _ _ _ _ c.in-Ok-Record.field-0-is c.in-Ok-Record.ensures
