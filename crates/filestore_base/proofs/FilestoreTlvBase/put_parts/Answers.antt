-- `FilestoreTlvBase::put_parts` meets its contract: each part is laid behind the one before. Assumes nothing.
use native.Mathlib.Omega.{arith}
use Rattle.lv.proofs.Laws.{write_test_passed}
use Prim.Native.Nat.{◌+◌}
use lib.ListN.{length}
use Rattle.filestore_base.proofs.Laws.{Writable, writable, fits_if, sound_if, size_if_passed}
use Rattle.filestore_base.proofs.FilestoreTlvBase.put_parts.Goals as goal
use Rattle.filestore_base.proofs.FilestoreTlvBase.put_parts.Goals.{Start}

-- what may be written
ready : (c : Start) → Writable c.args.self c.args.src.now
ready c = writable _ _ c.requires.0

pub len_if-requires : goal.len_if-requires
len_if-requires c = size_if_passed _ (ready (goal.at.len_if-requires c).Start).whole.second

pub put_if-requires : goal.put_if-requires
put_if-requires c =
    let w = ready (goal.at.put_if-requires c).Start in
    (write_test_passed _ _ w.whole.first w.spans.first, omega arith)

pub put_if-requires-2 : goal.put_if-requires-2
put_if-requires-2 c =
    let a = c.args in
    let w = ready (goal.at.put_if-requires-2 c).Start in
    fits_if a.self.second_name a.src.now (a.self.first_name.len + 4) (length c.put_if.new.buf) (sound_if a.self.second_name a.src.now w.whole.second w.spans.second) (omega arith)

pub put_if-requires-3 : goal.put_if-requires-3
put_if-requires-3 c =
    let a = c.args in
    let w = ready (goal.at.put_if-requires-3 c).Start in
    fits_if a.self.message a.src.now (a.self.first_name.len + 4 + c.len_if.result) (length c.put_if-2.new.buf) (sound_if a.self.message a.src.now w.whole.message w.spans.message) (omega arith)
