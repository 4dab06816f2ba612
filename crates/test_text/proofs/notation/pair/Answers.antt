-- `test_text::notation::pair` meets its contract: each digit is one, and there is room for the byte; or else the answer is None. Assumes nothing.
use Rattle.std.proofs.Common.{◌≡◌, ℕ, ◌+◌, ◌*◌, ◌<◌, length, ◌∷◌, [], Some, refl, sym, ap, ◌∙◌, arith, set}
use Rattle.test_text.specs.Text.{digit}
use Rattle.test_text.proofs.Laws.{nibble_some, nibble_none}
use Rattle.test_text.proofs.Reading.{left_as, left_not, left_full, left_these, pair_high, pair_low, pair_both, set-laid}
use Rattle.test_text.proofs.notation.pair.Goals as goal

pub returns-in_err-a : goal.returns-in_err-a
returns-in_err-a c =
    let a = c.args in
    left_not _ 0 a.buf.now _ a.buf.now (pair_high a.high a.low (nibble_none _ (sym c.nibble.ensures ∙ c.in_err-a.was))) c.from_residual.ensures refl

pub returns-in_err-b : goal.returns-in_err-b
returns-in_err-b c =
    let a = c.args in
    left_not _ 0 a.buf.now _ a.buf.now (pair_low a.high a.low (nibble_none _ (sym c.nibble-2.ensures ∙ c.in_err-b.was))) c.from_residual-in_err-b.ensures refl

pub returns-in_err-first_mut : goal.returns-in_err-first_mut
returns-in_err-first_mut c =
    let a = c.args in
    let h = nibble_some a.high _ (sym c.nibble.ensures ∙ c.in_ok-a.was) in
    let l = nibble_some a.low _ (sym c.nibble-2.ensures ∙ c.in_ok-b.was) in
    let e : length a.buf.now ≡ 0 = grind arith in
    left_as _ _ _ _ _ _ (pair_both a.high a.low (omega arith) (omega arith)) (left_full _ 0 a.buf.now _ a.buf.now (omega arith) c.from_residual-in_err-first_mut.ensures refl)

pub returns : goal.returns
returns c =
    let a = c.args in
    let h = nibble_some a.high _ (sym c.nibble.ensures ∙ c.in_ok-a.was) in
    let l = nibble_some a.low _ (sym c.nibble-2.ensures ∙ c.in_ok-b.was) in
    let e : 0 < length a.buf.now = grind arith in
    let v : c.in_ok-a.a * 16 + c.in_ok-b.b ≡ digit a.high * 16 + digit a.low = omega arith in
    left_as _ _ _ _ _ _ (pair_both a.high a.low (omega arith) (omega arith))
    (left_these ((digit a.high * 16 + digit a.low) ∷ []) 0 a.buf.now (Some 1) _ (omega arith) refl
    (ap (λ (x : ℕ). set a.buf.now 0 x) v ∙ set-laid 0 _ a.buf.now (omega arith)))
