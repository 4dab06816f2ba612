-- `test_text::bytes` meets its contract, by the cases of `bytes_of`: no x, an x alone, and pieces behind it. Assumes nothing.
use Rattle.std.proofs.Common.{◌≡◌, ◌≢◌, length, refl, arith}
use Rattle.test_text.proofs.Reading.{left_as, left_not, left_none, bytes_other, bytes_x, bytes_pieces}
use Rattle.test_text.proofs.bytes.Goals as goal

pub returns-in_err-pieces : goal.returns-in_err-pieces
returns-in_err-pieces c =
    let a = c.args in
    left_not _ 0 a.buf.now _ a.buf.now (bytes_other _ c.in_err-pieces.ensures.cases) c.from_residual.ensures refl

pub returns-then-is_empty : goal.returns-then-is_empty
returns-then-is_empty c =
    let p = c.in_ok-pieces.ensures.cases in
    let e : length c.in_ok-pieces.pieces.now ≡ 0 = grind arith in
    left_as _ _ _ _ _ _ (bytes_x _ _ p.0 p.1 e) (left_none 0 c.args.buf.now (omega arith))

pub returns : goal.returns
returns c =
    let p = c.in_ok-pieces.ensures.cases in
    let e : length c.in_ok-pieces.pieces.now ≢ 0 = grind arith in
    left_as _ _ _ _ _ _ (bytes_pieces _ _ p.0 p.1 e) c.pieces.ensures
