-- `number::write` meets its contract: the last of the number's 8 bytes are copied. Assumes nothing.
use mathlib.Core.Path.{◌≡◌, ◌∙◌}
use Prim.Native.Nat.{◌-◌}
use native.Mathlib.Omega.{arith}
use lib.ListN.{take, drop}
use Rattle.bluebook.specs.Layouts.{be_bytes}
use Rattle.splice.proofs.Writing.{wrote_passed}
use Rattle.number.proofs.Laws.{number_test_passed, last_bytes, be_bytes_eight}
use Rattle.number.proofs.write.Goals as goal

pub overflow_sub-m : goal.overflow_sub-m
overflow_sub-m c = omega (arith, (number_test_passed _ _ c.in_ok-test.ensures).width)

pub returns : goal.returns
returns c =
    let a = c.args in
    let f = number_test_passed a.number a.width c.in_ok-test.ensures in
    let bs : take (8 - (8 - a.width)) (drop (8 - a.width) c.to_be_bytes-b.result) ≡ be_bytes a.width a.number =
    last_bytes a.number a.width c.to_be_bytes-b.result f.width (c.to_be_bytes-b.ensures ∙ be_bytes_eight a.number c.ranges.number.fits) in
    wrote_passed c.in_ok-test.ensures (rw bs at c.put.ensures)
