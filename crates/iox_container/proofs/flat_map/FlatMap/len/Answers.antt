use Rattle.std.proofs.Common.{arith, sym, ◌∙◌}
use Rattle.iox_container.proofs.Pairs.{length-pairs}
use Rattle.iox_container.proofs.flat_map.FlatMap.len.Goals as goal

pub returns-clause-value : goal.returns-clause-value
returns-clause-value g c =
    let counted = length-pairs c.self.inside.map.values in
    rw (← c.self.view_is) (c.len.ensures.value ∙ sym counted)

pub returns-clause-free : goal.returns-clause-free
returns-clause-free g c =
    rw (← c.self.view_is) (omega (arith, c.len.ensures.value, c.len.ensures.free_keys.counted))

pub returns-clause-fits : goal.returns-clause-fits
returns-clause-fits g c =
    rw (← c.self.view_is) (omega (arith, c.len.ensures.value, c.len.ensures.free_keys.counted))
