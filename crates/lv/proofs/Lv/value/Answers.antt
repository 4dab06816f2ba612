-- `Lv::value` meets its contract, by the cases of `part_of`. Assumes nothing.
use mathlib.Core.Path.{sym}
use native.Mathlib.Omega.{arith}
use native.Mathlib.Nat.{add-sub_cancel_left}
use Rattle.lv.proofs.Laws.{part_of_in, part_of_out}
use Rattle.lv.proofs.Lv.value.Goals as goal

pub returns-then-buf-start : goal.returns-then-buf-start
returns-then-buf-start c = sym (part_of_out _ _ (omega arith))

pub returns-then-buf-start-2 : goal.returns-then-buf-start-2
returns-then-buf-start-2 c = sym (part_of_out _ _ (omega arith))

pub returns : goal.returns
returns c = rw add-sub_cancel_left (sym (part_of_in _ _ (omega arith)))
