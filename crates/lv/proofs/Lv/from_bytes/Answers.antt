-- `Lv::from_bytes` meets its contract: it reads at the place 0, up to the end. Assumes nothing.
use mathlib.Core.Path.{◌∙◌}
use Rattle.lv.proofs.Laws.{read_lv_at_all}
use Rattle.lv.proofs.Lv.from_bytes.Goals as goal

pub returns : goal.returns
returns c = c.read_at.ensures ∙ read_lv_at_all _
