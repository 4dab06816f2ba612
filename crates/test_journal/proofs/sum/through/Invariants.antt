-- `test_journal::sum::through` is safe and ends: a part that has bytes has moved the listing on, so what is left of it falls. Assumes nothing.
use Rattle.listing.proofs.Laws.{left}
use Rattle.test_journal.proofs.sum.through.Given as goal

abbrev pub decreases-loop-len : goal.decreases-loop-len
decreases-loop-len l = left l.journal l.here
