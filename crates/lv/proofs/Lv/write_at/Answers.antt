-- `Lv::write_at` meets its contract: a test refuses, the place is past the end, there is no room, or the length byte is stored and the value
-- laid behind it. Assumes nothing.
use mathlib.Core.Path.{◌≡◌, sym, ap, ◌∙◌}
use native.Mathlib.Omega.{arith}
use Prim.Native.Nat.{◌+◌}
use lib.ListN.{length, set, length-set}
use Rattle.splice.proofs.Writing.{never_refused, wrote_laid}
use Rattle.refusal.specs.Answer.{gives}
use Rattle.refusal.proofs.Laws.{also_passed, passed_on}
use Rattle.lv.specs.Rules.{size_test, span_test, write_test}
use Rattle.lv.proofs.Laws.{write_test_is, sound, write_lv_at_size, write_lv_at_past, write_lv_at_span, write_lv_at_small, write_lv_at_room}
use Rattle.lv.proofs.Lv.write_at.Goals as goal
use Rattle.lv.proofs.Lv.write_at.Goals.{In_ok-span_test}

-- behind both tests the span may be written
passed : (c : In_ok-span_test) → (let a = c.args in gives tt ≡ write_test a.self a.src.now)
passed c =
    let a = c.args in
    c.in_ok-span_test.ensures ∙ sym (also_passed (size_test a.self) (span_test a.self a.src.now) c.in_ok-size_test.ensures) ∙ sym (write_test_is a.self a.src.now)

pub returns-in_err-size_test : goal.returns-in_err-size_test
returns-in_err-size_test c = rw (passed_on _ _ c.from_residual.ensures.1) (write_lv_at_size _ _ _ _ _ _ c.in_err-size_test.ensures)

pub returns-then-buf-at : goal.returns-then-buf-at
returns-then-buf-at c = write_lv_at_past _ _ _ _ c.in_ok-size_test.ensures c.if-buf-at.true

pub returns-in_err-span_test : goal.returns-in_err-span_test
returns-in_err-span_test c =
    rw (passed_on _ _ c.from_residual-in_err-span_test.ensures.1)
    (write_lv_at_span _ _ _ _ c.in_ok-size_test.ensures (omega arith) _ _ c.in_err-span_test.ensures)

pub returns-then-found-expected : goal.returns-then-found-expected
returns-then-found-expected c = write_lv_at_small _ _ _ _ (passed (goal.at.returns-then-found-expected c).In_ok-span_test) (omega arith) _ c.value-v.ensures c.if-found-expected.true

pub overflow_cast-buf : goal.overflow_cast-buf
overflow_cast-buf c =
    let s = sound _ _ (passed (goal.at.overflow_cast-buf c).In_ok-span_test) in
    omega (arith, ap length c.value-v.ensures, s.size, s.small)

pub returns-in_err-put : goal.returns-in_err-put
returns-in_err-put c =
    let v = c.value-v.result.now in
    let a = c.args in
    absurd (never_refused (a.at + 1) _ (set a.buf.now a.at (length v)) _ (simp length-set (omega arith)) c.in_err-put.ensures)

pub returns : goal.returns
returns c =
    let v = c.value-v.result.now in
    let a = c.args in
    write_lv_at_room a.self a.src.now a.buf.now a.at (passed (goal.at.returns c).In_ok-span_test) (omega arith) v c.value-v.ensures _ (omega arith)
    (wrote_laid (a.at + 1) v (set a.buf.now a.at (length v)) _ (simp length-set (omega arith)) c.put.ensures)
