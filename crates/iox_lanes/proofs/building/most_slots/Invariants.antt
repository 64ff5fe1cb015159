use Rattle.std.proofs.Common.{ℕ, ◌≡◌, ◌<◌, slice_index}
use Rattle.iox_domain.specs.DomainPorts.Publishers.{port_of}
use Rattle.iox_lanes.specs.Built.{slots_if, HasSlotsAt}
use Rattle.iox_lanes.specs.Exact.{largest}
use Rattle.iox_lanes.proofs.building.most_slots.Given as goal

abbrev pub invariant-loop-place : goal.invariant-loop-place
invariant-loop-place g l = ((k : ℕ) → k < l.place → HasSlotsAt l.domain.state.ports.publishers l.numbers l.most k)
    × (l.most ≡ largest (λ place. slots_if (port_of (slice_index l.numbers place) l.domain.state.ports.publishers)) l.place)
