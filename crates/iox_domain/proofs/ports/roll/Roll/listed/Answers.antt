use Rattle.std.proofs.Common.{arith, ◌≤◌, length}
use Rattle.std.proofs.lemmas.List.{length-take}
use Rattle.iox_domain.proofs.Trimmed.{trimmed, top_within, last_left}
use Rattle.iox_domain.proofs.ports.roll.Roll.listed.Goals as goal

pub slice_bounds-result-end : goal.slice_bounds-result-end
slice_bounds-result-end g c =
    let low : c.self.inside.top ≤ length c.places-listed.result.now
    = top_within (length c.self.inside.container.members) c.self.inside.top c.places-listed.result.now c.self.inside.container.members
    c.places-listed.ensures.whole c.self.invariant.2 in
    omega (arith, low, length-take c.self.inside.top c.places-listed.result.now)

pub returns-clause-whole : goal.returns-clause-whole
returns-clause-whole g c = rw (← c.self.view_is)
    (trimmed (length c.self.inside.container.members) c.self.inside.top _ c.places-listed.result.now c.self.inside.container.members
    c.places-listed.ensures.whole c.places-listed.ensures.bound c.self.invariant.2 (omega arith))

pub returns-clause-last : goal.returns-clause-last
returns-clause-last g c = λ place last.
    last_left (length c.self.inside.container.members) c.self.inside.top _ place c.places-listed.result.now
    c.self.inside.container.members c.places-listed.ensures.whole c.self.invariant.2 (omega arith) last
