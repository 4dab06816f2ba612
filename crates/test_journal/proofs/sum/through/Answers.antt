-- `test_journal::sum::through` ends: a part that has bytes has moved the listing on, by listing's `fill_part`. Assumes nothing.
use Rattle.listing.proofs.Parts.{fill_part}
use Rattle.test_journal.proofs.sum.through.Goals as goal

pub loop-len-smaller : goal.loop-len-smaller
loop-len-smaller c = (fill_part _ _ _ _ _ c.in-Ok.ensures.fills).further c.if-len-eq0.false
