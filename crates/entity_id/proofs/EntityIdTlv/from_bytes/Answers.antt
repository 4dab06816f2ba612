-- `EntityIdTlv::from_bytes` meets its contract where the value is all there: what is read of it is its number. Assumes nothing.
use mathlib.Core.Path.{◌≡◌, sym, ap, ◌∙◌}
use Prim.Native.Nat.{◌+◌, ◌-◌}
use native.Mathlib.Omega.{arith}
use lib.ListN.{length, take, drop, get_or, length-drop}
use lib.Seq.{length-take-le}
use Rattle.refusal.specs.Answer.{gives}
use Rattle.entity_id.proofs.Laws.{valued, read_entity_whole}
use Rattle.entity_id.proofs.EntityIdTlv.from_bytes.Goals as goal

pub returns : goal.returns
returns c =
    let bs = c.args.buf.now in
    let len = get_or bs 1 0 in
    let v = take len (drop 2 bs) in
    let k : len + 2 - 2 ≡ len = omega arith in
    let n : length v ≡ len = length-take-le len (drop 2 bs) (omega (arith, length-drop 2 bs)) in
    let w = valued v n (rw k at c.in_ok-value.ensures) in
    ap gives w.is ∙ sym (read_entity_whole bs c.in_ok-head_test.ensures c.in_ok-type_test.ensures w.wide c.if-found-expected.false)
