use Rattle.std.proofs.Common.{◌≡◌, slice_index}
use Rattle.iox_domain.specs.DomainPorts.Publishers.{port_of}
use Rattle.iox_lanes.specs.Exact.{largest, loans_if}
use Rattle.iox_lanes.proofs.building.most_loans.Given as goal

abbrev pub invariant-loop-place : goal.invariant-loop-place
invariant-loop-place g l =
    l.most ≡ largest (λ place. loans_if (port_of (slice_index l.numbers place) l.domain.state.ports.publishers)) l.place
