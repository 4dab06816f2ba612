-- `written` meets its contract: a test refuses, or type and length are stored and the number laid down behind them. Assumes nothing.
use Prim.Native.Nat.{ℕ}
use native.Mathlib.Omega.{arith}
use lib.ListN.{length, length-set}
use Rattle.entity_id.specs.Rules.{entity_of}
use Rattle.entity_id.proofs.Laws.{Writable, told_writable, number_laid, number_not_refused, wrote_entity}
use Rattle.entity_id.proofs.written.Goals as goal
use Rattle.entity_id.proofs.written.Goals.{In_ok-room_test}

-- behind the test it can be written
fine : {g : _} (c : In_ok-room_test g) → Writable (entity_of g.row.WIDTH c.args.value) (length c.args.buf.now)
fine c = told_writable _ _ c.in_ok-room_test.ensures

pub bounds-buf-0 : goal.bounds-buf-0
bounds-buf-0 g c = omega (arith, (fine (goal.at.bounds-buf-0 g c).In_ok-room_test).room)

pub overflow_cast-buf : goal.overflow_cast-buf
overflow_cast-buf g c = omega (arith, (fine (goal.at.overflow_cast-buf g c).In_ok-room_test).short)

pub bounds-buf-1 : goal.bounds-buf-1
bounds-buf-1 g c = simp length-set (omega (arith, (fine (goal.at.bounds-buf-1 g c).In_ok-room_test).room))

pub returns-in_err-write : goal.returns-in_err-write
returns-in_err-write g c = let h = fine (goal.at.returns-in_err-write g c).In_ok-room_test in absurd (number_not_refused _ _ _ _ h.ok (omega (arith, length-set {A = ℕ}, h.room)) c.in_err-write.ensures)

pub overflow_add-result : goal.overflow_add-result
overflow_add-result g c = omega (arith, (fine (goal.at.overflow_add-result g c).In_ok-room_test).short)

pub returns : goal.returns
returns g c =
    let a = c.args in
    let h = fine (goal.at.returns g c).In_ok-room_test in
    wrote_entity _ a.buf.now _ h (number_laid _ _ _ _ h.ok (omega (arith, length-set {A = ℕ}, h.room)) c.in_ok-write.ensures)
