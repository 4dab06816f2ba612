-- `from_bytes_strict` meets its contract: plain reading, and then the tests of what was found. Assumes nothing.
use mathlib.Core.Path.{◌≡◌, sym, ap, ◌∙◌}
use Rattle.refusal.specs.Answer.{Answer, and_then}
use Rattle.refusal.proofs.Laws.{passed_on, also_refused, also_passed}
use Rattle.filestore_reader.specs.declared.Found.{Found}
use Rattle.filestore_reader.proofs.Laws.{strictly, strict_base_is}
use Rattle.filestore_reader.specs.Rules.{strict_base}
use Rattle.filestore_reader.proofs.from_bytes_strict.Goals as goal
use Rattle.filestore_reader.proofs.from_bytes_strict.Goals.{In_ok-found}

-- behind plain reading
strict : (c : In_ok-found) → (let a = c.args in strictly a.response c.in_ok-found.found ≡ strict_base a.response a.buf.now)
strict c = ap (λ (y : Answer Found). and_then y (strictly c.args.response)) c.in_ok-found.ensures ∙ strict_base_is _ _

pub returns-in_err-found : goal.returns-in_err-found
returns-in_err-found c =
    passed_on _ _ c.from_residual.ensures.1
    ∙ ap (λ (y : Answer Found). and_then y (strictly c.args.response)) c.in_err-found.ensures
    ∙ strict_base_is _ _

pub returns-in_err-strict_test : goal.returns-in_err-strict_test
returns-in_err-strict_test c =
    passed_on _ _ c.from_residual-in_err-strict_test.ensures.1
    ∙ also_refused _ _ _ _ c.in_err-strict_test.ensures
    ∙ strict (goal.at.returns-in_err-strict_test c).In_ok-found

pub returns : goal.returns
returns c = sym (also_passed _ _ c.in_ok-strict_test.ensures) ∙ strict (goal.at.returns c).In_ok-found
