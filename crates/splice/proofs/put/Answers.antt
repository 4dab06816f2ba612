-- `splice::put` meets its contract: past the end 15, without room 2, and else the bytes are laid. Assumes nothing.
use mathlib.Core.Path.{refl, sym, ap, ◌∙◌}
use Prim.Native.Nat.{◌+◌, ◌-◌}
use native.Mathlib.Omega.{arith}
use lib.ListN.{length}
use borrow.Rule.Slice.PartMut.{put_mid}
use Rattle.splice.proofs.Laws.{laid_over}
use Rattle.splice.proofs.Writing.{room_for_in, room_for_out, room_at_past, room_at_there, wrote, wrote_not}
use Rattle.splice.proofs.put.Goals as goal

pub returns-then-dst-at : goal.returns-then-dst-at
returns-then-dst-at c = wrote_not _ _ _ _ _ (sym (room_at_past _ _ _ (omega arith)))

pub returns-then-found-expected : goal.returns-then-found-expected
returns-then-found-expected c = wrote_not _ _ _ _ _ (sym (room_at_there _ _ _ (omega arith) ∙ room_for_out _ _ c.if-found-expected.true))

pub returns : goal.returns
returns c =
    let a = c.args in
    wrote _ _ _ _ _ _ (room_at_there _ _ _ (omega arith) ∙ room_for_in _ _ (omega arith)) refl
    (ap (put_mid a.at (a.at + length a.src.now - a.at) a.dst.now) c.lay.ensures ∙ laid_over a.at a.src.now a.dst.now)
