-- `test_text::is_row` meets its contract: the pairs of a key and a row of one length are asked in order. Assumes nothing.
use Rattle.std.proofs.Common.{ℕ, sym, ◌∙◌, rules}
use Rattle.std.proofs.lemmas.Iterator.{YieldsList-from_slice, YieldsList-from_zip}
use Rattle.std.proofs.lemmas.Iterator.Search.{all_from_yields_List}
use borrow.Author.Tests.{tests, ne_eqb}
use Rattle.test_text.specs.Text.{stands_for}
use Rattle.test_text.proofs.Laws.{row_zip, row_lengths}
use Rattle.test_text.proofs.is_row.Goals as goal

pub returns-then-key-row : goal.returns-then-key-row
returns-then-key-row c =
    let a = c.args in
    all_from_yields_List (λ (p : ℕ × ℕ). stands_for p.1 p.0) c.all.new.self _ _ c.all.ensures.ran (YieldsList-from_zip {s = c.zip.result} (YieldsList-from_slice a.key.now cc) (YieldsList-from_slice a.row.now cc)) (λ x b q k. search (rules, tests))
    ∙ row_zip a.key.now a.row.now c.if-key-row.true

pub returns-else-key-row : goal.returns-else-key-row
returns-else-key-row c =
    let a = c.args in
    ne_eqb _ _ c.if-key-row.false ∙ sym (row_lengths a.key.now a.row.now c.if-key-row.false)
