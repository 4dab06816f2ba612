-- The new length lies in the buffer, as `repair` promises of what it answers. Assumes nothing.
use mathlib.Core.Path.{sym}
use lib.Seq.{length-take-le}
use Rattle.repair.proofs.Theorems.{response_appended}
use Rattle.repair_cut.proofs.respond.Goals as goal

pub slice_bounds-list-end : goal.slice_bounds-list-end
slice_bounds-list-end c = (response_appended _ _ _ _ _ _ c.in-Ok.ensures).inside

pub slice_bounds-list-end-in-Ok : goal.slice_bounds-list-end-in-Ok
slice_bounds-list-end-in-Ok c = sym (length-take-le _ _ (response_appended _ _ _ _ _ _ c.in-Ok.ensures).inside)
