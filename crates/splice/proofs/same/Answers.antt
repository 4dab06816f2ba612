-- `splice::same` meets its contract: `==` of two slices compares them byte by byte. Assumes nothing.
use mathlib.Core.Path.{sym, ◌∙◌}
use Rattle.splice.proofs.Laws.{same_pointwise}
use Rattle.splice.proofs.same.Goals as goal

pub returns : goal.returns
returns c = c.eq.ensures ∙ sym (same_pointwise c.args.a.now c.args.b.now)
