use Rattle.std.proofs.Common.{arith}
use Rattle.iox_container.proofs.Texts.{removed_last}
use Rattle.iox_container.proofs.string.string_trait.String.pop.Goals as goal

pub returns-else-len-eq0-clause-last : goal.returns-else-len-eq0-clause-last
returns-else-len-eq0-clause-last g c =
    rw (c.remove.ensures.rest, c.remove.ensures.value, c.len-len.ensures.value) (removed_last _ (omega (arith, c.len-len.ensures.value)))
