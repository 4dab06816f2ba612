-- `put_if` meets its contract: what is there is laid as an LV, and what is absent changes nothing. Assumes nothing.
use native.Mathlib.Omega.{arith}
use mathlib.Core.Path.{◌≡◌}
use Prim.Native.Nat.{ℕ, ◌+◌, ◌-◌, ◌≤◌}
use mathlib.Core.List.{List}
use lib.ListN.{length, take, drop, set, length-set, length-drop}
use lib.Seq.{length-take-le}
use Rattle.splice.proofs.Writing.{surely_written, wrote_all}
use Rattle.lv.proofs.Laws.{Sound}
use Rattle.filestore_base.proofs.Laws.{fits, put_there, put_absent}
use Rattle.filestore_base.proofs.put_if.Goals as goal
use Rattle.filestore_base.proofs.put_if.Goals.{In-Some}

-- where it is there, what is known of its span and of the room
known : (c : In-Some) → (let a = c.args in let l = c.in-Some.l in Sound l a.src.now × (a.at + (l.len + 1) ≤ length a.buf.now))
known c = fits _ _ _ _ _ c.in-Some.is c.requires

pub overflow_cast-buf : goal.overflow_cast-buf
overflow_cast-buf c = omega (arith, (known (goal.at.overflow_cast-buf c).In-Some).0.small)

pub overflow_add-value : goal.overflow_add-value
overflow_add-value c = omega (arith, (known (goal.at.overflow_add-value c).In-Some).0.inside)

pub slice_bounds-value-end : goal.slice_bounds-value-end
slice_bounds-value-end c = (known (goal.at.slice_bounds-value-end c).In-Some).0.inside

-- the value is as long as the part of the buffer that it is copied over
as_long : (start len at : ℕ) (src old : List ℕ) → start + len ≤ length src → at + (len + 1) ≤ length old
    → length (take (start + len - start) (drop start src)) ≡ length (take (at + 1 + len - (at + 1)) (drop (at + 1) (set old at len)))
as_long start len at src old h k =
    let d = set old at len in
    let a = length-take-le (start + len - start) (drop start src) (omega (arith, length-drop start src)) in
    let b = length-take-le (at + 1 + len - (at + 1)) (drop (at + 1) d) (omega (arith, length-drop (at + 1) d, length-set old at len)) in
    omega (arith, a, b)

pub unwrap-requires : goal.unwrap-requires
unwrap-requires c =
    let a = c.args in
    let l = c.in-Some.l in
    let k = known (goal.at.unwrap-requires c).In-Some in
    surely_written 0 (take (l.start + l.len - l.start) (drop l.start a.src.now)) _ _ _
    (omega (arith, as_long l.start l.len a.at a.src.now a.buf.now k.0.inside k.1)) c.put.ensures

pub returns-in-Some : goal.returns-in-Some
returns-in-Some c =
    let a = c.args in
    let l = c.in-Some.l in
    let k = known (goal.at.returns-in-Some c).In-Some in
    put_there _ _ _ _ _ _ c.in-Some.is c.requires
    (wrote_all (take (l.start + l.len - l.start) (drop l.start a.src.now)) _ _ (as_long l.start l.len a.at a.src.now a.buf.now k.0.inside k.1) c.put.ensures)

pub returns-in_default : goal.returns-in_default
returns-in_default c = put_absent _ _ _ _ c.in_default.is
