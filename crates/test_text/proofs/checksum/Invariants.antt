-- `test_text::checksum` meets its contract: the sum so far, with the bytes still to be counted, gives the sum of all. It stays below the modulus,
-- so no product wraps. Assumes nothing.
use Rattle.std.proofs.Common.{◌≡◌, ◌<◌, drop}
use Rattle.test_text.specs.Text.{sum_of, sum_on}
use Rattle.test_text.proofs.checksum.Given as goal

abbrev pub invariant-loop-byte : goal.invariant-loop-byte
invariant-loop-byte l = (l.x < 4294967291) × (sum_of l.before l.text ≡ sum_on l.x (drop l.byte-index l.text))
