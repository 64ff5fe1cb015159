use Rattle.std.proofs.Common.{arith, rules}
use Rattle.iox_container.proofs.TextRows.{IsTextRow-copy}
use Rattle.iox_container.proofs.string.static_string.StaticString.from_bytes.Goals as goal

pub invariant_of-result : goal.invariant_of-result
invariant_of-result g c =
    rw c.copy_from_slice.ensures.after (IsTextRow-copy _ c.args.bytes.now (omega arith) (search rules))
