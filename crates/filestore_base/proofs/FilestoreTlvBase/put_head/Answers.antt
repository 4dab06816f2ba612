-- `FilestoreTlvBase::put_head` meets its contract: behind the building tests each of the three numbers is a byte. Assumes nothing.
use native.Mathlib.Omega.{arith}
use Rattle.action.proofs.Laws.{code_known}
use Rattle.filestore_base.proofs.Laws.{parts, built}
use Rattle.filestore_base.proofs.FilestoreTlvBase.put_head.Goals as goal

pub len-requires : goal.len-requires
len-requires c = (built _ c.requires.0).0

pub overflow_cast-buf : goal.overflow_cast-buf
overflow_cast-buf c = omega (arith, c.len.ensures, (built _ c.requires.0).1)

pub overflow_add-buf : goal.overflow_add-buf
overflow_add-buf c =
    omega (arith, c.from.ensures, code_known c.args.self.action_code, (parts _ (built _ c.requires.0).0).low)
