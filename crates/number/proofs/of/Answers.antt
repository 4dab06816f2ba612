-- `number::of` meets its contract: the bytes are copied behind zeros, which do not count (`of_be_behind`). Assumes nothing.
use mathlib.Core.Path.{◌≡◌, ap, ◌∙◌}
use Prim.Native.Nat.{◌+◌, ◌-◌}
use native.Mathlib.Omega.{arith}
use lib.ListN.{length, replicate}
use borrow.Rule.Slice.PartMut.{put_mid}
use Rattle.splice.specs.Laid.{laid}
use Rattle.splice.proofs.Laws.{laid_over, length-laid}
use Rattle.number.specs.Rules.{of_be}
use Rattle.number.proofs.Laws.{of_be_behind, of_be_eight}
use Rattle.number.proofs.of.Goals as goal

pub returns : goal.returns
returns c =
    let v = c.args.v.now in
    let m = 8 - length v in
    let n : m + length v ≡ 8 = omega arith in
    let k : 8 - m ≡ m + length v - m = omega arith in
    let e : put_mid m (8 - m) (replicate 8 0) c.copy_from_slice.new.self ≡ laid m v (replicate 8 0) =
    (λ i. put_mid m (k i) (replicate 8 0) (c.copy_from_slice.ensures.after i)) ∙ laid_over m v (replicate 8 0) in
    c.from_be_bytes.ensures
    ∙ of_be_eight (put_mid m (8 - m) (replicate 8 0) c.copy_from_slice.new.self) (ap length e ∙ length-laid m v (replicate 8 0) (omega arith))
    ∙ ap of_be e
    ∙ of_be_behind m 8 v n
