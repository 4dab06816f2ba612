-- `test_text::notation::times` meets its contract: what is left behind the bytes so far by the times still to come, all of them leave. Assumes nothing.
use Rattle.std.proofs.Common.{◌-◌}
use Rattle.test_text.specs.Notation.{pairs_of, times_of}
use Rattle.test_text.proofs.Reading.{Reads}
use Rattle.test_text.proofs.notation.times.Given as goal

abbrev pub invariant-loop-i : goal.invariant-loop-i
invariant-loop-i l = Reads (times_of (l.count - l.i) (pairs_of l.text)) l.n l.buf (times_of l.count (pairs_of l.text)) 0 l.initial.buf
