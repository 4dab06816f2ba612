-- `test_text::notation::count` meets its contract where a count stands there. Assumes nothing.
use Rattle.std.proofs.Common.{sym, ap, ◌∙◌, ◌+◌, arith}
use borrow.Author.Rules.{part_to_end}
use Rattle.test_text.specs.Text.{decimal_of}
use Rattle.test_text.proofs.Reading.{count_some}
use Rattle.test_text.proofs.notation.count.Goals as goal

pub returns : goal.returns
returns c =
    let a = c.args in
    c.decimal.ensures ∙ ap decimal_of (part_to_end a.text.now (a.at + 1)) ∙ sym (count_some a.at a.text.now (omega arith))
