-- `test_text::notation::are_pairs` meets its contract: an even number of bytes, and each of them a digit. Assumes nothing.
use Rattle.std.proofs.Common.{◌∙◌, sym, rules}
use Rattle.std.proofs.lemmas.Iterator.{YieldsList-from_slice}
use Rattle.std.proofs.lemmas.Iterator.Search.{all_from_yields_List}
use borrow.Author.Tests.{tests, ne_eqb}
use Rattle.test_text.proofs.Reading.{is_digit, pairs_all, pairs_not}
use Rattle.test_text.proofs.notation.are_pairs.Goals as goal

pub returns-then-text-eq0 : goal.returns-then-text-eq0
returns-then-text-eq0 c =
    let s = c.args.text.now in
    all_from_yields_List is_digit _ _ _ c.all.ensures.ran (YieldsList-from_slice s cc) (λ x b q k. search (rules, tests)) ∙ pairs_all s c.if-text-eq0.true

pub returns-else-text-eq0 : goal.returns-else-text-eq0
returns-else-text-eq0 c =
    ne_eqb _ _ c.if-text-eq0.false ∙ sym (pairs_not c.args.text.now c.if-text-eq0.false)
