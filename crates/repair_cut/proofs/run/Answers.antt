-- A request that is found stands in the journal. Assumes nothing.
use mathlib.Core.Path.{sym}
use Rattle.repair.proofs.Theorems.{first_inside}
use Rattle.repair_cut.proofs.run.Goals as goal

pub slice_bounds-bytes-count : goal.slice_bounds-bytes-count
slice_bounds-bytes-count c = first_inside _ _ _ (sym (rw c.in-Ok-Some.field-0-is at c.in-Ok-Some.ensures))

pub slice_bounds-bytes-start : goal.slice_bounds-bytes-start
slice_bounds-bytes-start c = first_inside _ _ _ (sym (rw c.in-Ok-Some.field-0-is at c.in-Ok-Some.ensures))
