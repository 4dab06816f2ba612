-- `test_text::notation::pieces` meets its contract: what the pieces that are left leave behind the bytes so far, all of them leave. Assumes nothing.
use Rattle.std.proofs.Common.{length, drop}
use Rattle.test_text.specs.Notation.{all_of, pieces_of}
use Rattle.test_text.proofs.Reading.{Reads, texts}
use Rattle.test_text.proofs.notation.pieces.Given as goal

abbrev pub invariant-loop-text : goal.invariant-loop-text
invariant-loop-text l = Reads (all_of (drop (length l.yielded) (texts l.fn.text))) l.n l.buf (pieces_of l.fn.text) 0 l.initial.buf
