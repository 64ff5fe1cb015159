-- A vector of no values.
use Rattle.std.proofs.Common.{[], refl, arith}
use Rattle.std.proofs.Handle.{handle}
use Rattle.std.specs.Global.{Vec}
use denote.RawPtr.{null_ptr}

pub vector_of_none : {T : Type 0} → Vec T
vector_of_none = record { ptr = null_ptr; len = 0; cap = 0; alloc = handle; items = []; ok = (refl, omega arith); small = omega arith }
