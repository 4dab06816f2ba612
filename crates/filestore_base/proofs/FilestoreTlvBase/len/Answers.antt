-- `FilestoreTlvBase::len` meets its contract: behind the tests of the parts nothing overflows. Assumes nothing.
use native.Mathlib.Omega.{arith}
use Rattle.filestore_base.proofs.Laws.{parts}
use Rattle.filestore_base.proofs.FilestoreTlvBase.len.Goals as goal

pub overflow_add-result : goal.overflow_add-result
overflow_add-result c = omega (arith, (parts _ c.requires).first)
