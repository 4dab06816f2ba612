-- `test_text::notation::piece` meets its contract: what is in front of the star is parted off and asked whether it is pairs, and they are stored as
-- often as the count says. Assumes nothing.
use Rattle.std.proofs.Common.{◌≡◌, ℕ, List, drop, refl, sym, ap, ◌∙◌, arith}
use Rattle.test_text.specs.Text.{before, stretch}
use Rattle.test_text.specs.Notation.{is_bytes, pairs_of, times_of, count_of}
use Rattle.test_text.proofs.Laws.{stretch_front}
use Rattle.test_text.proofs.Reading.{left_as, left_not, piece_empty, piece_not, piece_uncounted, piece_counted}
use Rattle.test_text.proofs.notation.piece.Goals as goal
use Rattle.test_text.proofs.notation.piece.Goals.{then-star-eq0-via-then-star-eq0, then-star-eq0-via-else-star-eq0+then-not-are_pairs}

pub returns-then-star-eq0 : goal.returns-then-star-eq0
returns-then-star-eq0 c =
    let a = c.args in
    let s = a.text.now in
    let n : c.find-star.result ≡ before 42 s = omega arith in
    let d = c.part-digits.ensures ∙ ap (λ (k : ℕ). stretch 0 k s) n ∙ stretch_front 42 s in
    elim c.then-star-eq0.branch [
      | then-star-eq0-via-then-star-eq0 w ↦ left_not _ 0 a.buf.now _ a.buf.now (piece_empty s (omega arith)) refl refl
      | then-star-eq0-via-else-star-eq0+then-not-are_pairs w ↦
          let f = ap (λ (l : List ℕ). is_bytes (pairs_of l)) (sym d) ∙ sym w.are_pairs.ensures ∙ w.if-not-are_pairs.true in
          left_not _ 0 a.buf.now _ a.buf.now (piece_not s (λ e. w.if-star-eq0.false (n ∙ e)) f) refl refl
    ]

pub returns-in_err-count : goal.returns-in_err-count
returns-in_err-count c =
    let a = c.args in
    let s = a.text.now in
    let n : c.find-star.result ≡ before 42 s = omega arith in
    let k = ap (λ (j : ℕ). count_of (drop j s)) (sym n) ∙ sym c.in_err-count.ensures in
    left_not _ 0 a.buf.now _ a.buf.now (piece_uncounted s (λ e. c.if-star-eq0.false (n ∙ e)) k) c.from_residual.ensures refl

pub returns : goal.returns
returns c =
    let a = c.args in
    let s = a.text.now in
    let n : c.find-star.result ≡ before 42 s = omega arith in
    let d = c.part-digits.ensures ∙ ap (λ (k : ℕ). stretch 0 k s) n ∙ stretch_front 42 s in
    let f = ap (λ (l : List ℕ). is_bytes (pairs_of l)) (sym d) ∙ sym c.are_pairs.ensures ∙ c.if-not-are_pairs.false in
    let k = ap (λ (j : ℕ). count_of (drop j s)) (sym n) ∙ sym c.in_ok-count.ensures in
    left_as _ _ _ _ _ _ (piece_counted s (λ e. c.if-star-eq0.false (n ∙ e)) _ f k ∙ ap (λ (l : List ℕ). times_of c.in_ok-count.field-0 (pairs_of l)) (sym d)) c.times.ensures
