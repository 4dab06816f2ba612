-- `test_text::find` meets its contract: the place is asked of the part from `from` on. Assumes nothing.
use Rattle.std.proofs.Common.{ℕ, ◌+◌, eqb, ap, ◌∙◌, rules}
use Rattle.std.proofs.lemmas.Iterator.{YieldsList-from_slice}
use Rattle.std.proofs.lemmas.Iterator.Search.{position_from_yields_List}
use borrow.Author.Rules.{part_to_end}
use borrow.Author.Tests.{tests}
use Rattle.test_text.specs.Text.{before}
use Rattle.test_text.proofs.Laws.{before_found}
use Rattle.test_text.proofs.find.Goals as goal

pub returns : goal.returns
returns c =
    let a = c.args in
    let s = c.in-Some.behind.now in
    let p = position_from_yields_List (λ b. eqb b a.what) _ _ _ c.position.ensures.ran (YieldsList-from_slice s cc) (λ x b q k. search (rules, tests)) in
    ap (λ (n : ℕ). a.from + n) (c.unwrap_or.ensures ∙ before_found a.what s _ p ∙ ap (before a.what) (c.in-Some.ensures.lookup.0.2 ∙ part_to_end a.s.now a.from))
