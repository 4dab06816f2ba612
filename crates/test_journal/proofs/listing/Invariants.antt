-- `test_journal::listing` ends: a record is followed by a place behind its own; a place is a number below 2 to the 64. Assumes nothing.
use Rattle.std.proofs.Common.{◌-◌}
use Rattle.test_journal.proofs.listing.Given as goal

abbrev pub decreases-loop-next : goal.decreases-loop-next
decreases-loop-next l = 18446744073709551615 - l.place
