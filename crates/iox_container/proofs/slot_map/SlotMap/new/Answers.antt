use Rattle.std.proofs.Common.{None, sym, ◌∙◌}
use Rattle.std.proofs.lemmas.List.{length-replicate}
use Rattle.iox_container.proofs.Tables.{FreeKeysAreExact-empty}
use Rattle.iox_container.proofs.slot_map.SlotMap.new.Goals as goal

pub invariant_of-result : goal.invariant_of-result
invariant_of-result g c =
    let n = c.args.capacity in
    rw (c.in_ok-values.ensures, c.in_ok-free.ensures.keys)
    (FreeKeysAreExact-empty n, c.in_ok-free.ensures.capacity ∙ sym (length-replicate n None))
