-- `test_text::notation::pairs` meets its contract: what the pairs of the rest leave behind the bytes so far, all of them leave. The rest falls.
-- Assumes nothing.
use Rattle.std.proofs.Common.{length}
use Rattle.test_text.specs.Notation.{pairs_of}
use Rattle.test_text.proofs.Reading.{Reads}
use Rattle.test_text.proofs.notation.pairs.Given as goal

abbrev pub invariant-loop-high : goal.invariant-loop-high
invariant-loop-high l = Reads (pairs_of l.rest) l.n l.buf (pairs_of l.text) 0 l.initial.buf

abbrev pub decreases-loop-high : goal.decreases-loop-high
decreases-loop-high l = length l.rest
