-- `Lv::read_at` meets its contract, by the cases of `read_lv_at`. Assumes nothing.
use mathlib.Core.Path.{sym, ◌∙◌}
use native.Mathlib.Omega.{arith}
use Rattle.lv.proofs.Laws.{read_lv_at_end, read_lv_at_at, read_lv_at_none, read_lv_at_short, read_lv_at_whole}
use Rattle.lv.proofs.Lv.read_at.Goals as goal

pub returns-then-buf-end : goal.returns-then-buf-end
returns-then-buf-end c = sym (read_lv_at_end _ _ _ (omega arith))

pub returns-then-end-at : goal.returns-then-end-at
returns-then-end-at c = sym (read_lv_at_at _ _ _ (omega arith) (omega arith))

pub returns-then-found-lt-MIN_LEN : goal.returns-then-found-lt-MIN_LEN
returns-then-found-lt-MIN_LEN c = c.short.ensures ∙ sym (read_lv_at_none _ _ _ (omega arith) (omega arith) (omega arith))

pub returns-then-found-len : goal.returns-then-found-len
returns-then-found-len c = c.short-then-found-len.ensures ∙ sym (read_lv_at_short _ _ _ (omega arith) (omega arith) (omega arith))

pub returns : goal.returns
returns c = sym (read_lv_at_whole _ _ _ (omega arith) (omega arith) (omega arith))
