-- `test_text::notation::pieces` meets its contract: a piece is the next of the texts, and they end with the text. Assumes nothing.
use Rattle.std.proofs.Common.{◌+◌, length, eqb, refl, arith, rules}
use Rattle.std.proofs.lemmas.Iterator.Splits.{YieldsList-from_slice_split}
use Rattle.std.proofs.lemmas.Iterator.Consumers.{YieldsList-turn, YieldsList-end}
use Rattle.std.proofs.lemmas.List.{length_push}
use borrow.Author.Tests.{tests}
use Rattle.test_text.proofs.Reading.{texts, reads_start, reads_within, reads_on, reads_stop, reads_end, pieces_start, pieces_at, pieces_end}
use Rattle.test_text.proofs.notation.pieces.Goals as goal

pub loop-text-init : goal.loop-text-init
loop-text-init c = reads_start _ _ 0 _ (omega arith) (pieces_start _)

pub returns-in_err-n : goal.returns-in_err-n
returns-in_err-n c =
    let y = YieldsList-from_slice_split _ (λ b. eqb b 46) c.args.text.now (cc) (cc) (cc) (λ x b q k. search (rules, tests)) in
    let t = YieldsList-turn y c.loop-text.yielded _ c.loop-text.yielded_by _ _ c.in-Some.text c.in-Some.is c.next.ensures.steps in
    reads_stop _ _ _ _ _ _ c.loop-text.invariant _ _ _ _ (pieces_at _ (length c.loop-text.yielded + 1) _ _ t refl) c.in_err-n.ensures c.from_residual.ensures

pub loop-text-preserved : goal.loop-text-preserved
loop-text-preserved c =
    let y = YieldsList-from_slice_split _ (λ b. eqb b 46) c.args.text.now (cc) (cc) (cc) (λ x b q k. search (rules, tests)) in
    let t = YieldsList-turn y c.loop-text.yielded _ c.loop-text.yielded_by _ _ c.in-Some.text c.in-Some.is c.next.ensures.steps in
    reads_on _ _ _ _ _ _ c.loop-text.invariant _ _ _ c.in_ok-n.ensures _ (pieces_at _ _ _ _ t (length_push c.loop-text.yielded c.in-Some.text))

pub returns : goal.returns
returns c =
    let y = YieldsList-from_slice_split _ (λ b. eqb b 46) c.args.text.now (cc) (cc) (cc) (λ x b q k. search (rules, tests)) in
    let t = YieldsList-end y c.loop-text.yielded _ c.loop-text.yielded_by _ _ c.in-None.is c.next.ensures.steps in
    reads_end _ _ _ _ _ _ c.loop-text.invariant (pieces_end (length c.loop-text.yielded) (texts c.args.text.now) (omega (arith, t.1)))

pub overflow_add-n : goal.overflow_add-n
overflow_add-n c =
    let w = reads_within _ _ _ _ _ _ c.loop-text.invariant _ _ _ c.in_ok-n.ensures in
    omega arith
