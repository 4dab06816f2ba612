-- `Lv::write_to_slice` meets its contract: it writes at the place 0. Assumes nothing.
use Rattle.lv.proofs.Laws.{write_lv_at_front}
use Rattle.lv.proofs.Lv.write_to_slice.Goals as goal

pub returns : goal.returns
returns c = rw write_lv_at_front at c.write_at.ensures
