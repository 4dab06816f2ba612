-- `test_text::decimal` meets its contract: the number so far, with the digits still to be read, gives what all of them give. Assumes nothing.
use Rattle.std.proofs.Common.{◌≡◌, ◌≤◌, drop}
use Rattle.test_text.specs.Text.{largest, decimal_of, number_on}
use Rattle.test_text.proofs.decimal.Given as goal

abbrev pub invariant-loop-byte : goal.invariant-loop-byte
invariant-loop-byte l = (l.x ≤ largest) × (decimal_of l.text ≡ number_on l.x (drop l.byte-index l.text))
