use Rattle.std.proofs.Common.{arith, ap, ◌∙◌, slice_index}
use Rattle.iox_domain.specs.DomainPorts.Publishers.{port_of}
use Rattle.iox_lanes.specs.Exact.{largest, loans_if}
use Rattle.iox_lanes.proofs.Exact.{next_largest}
use Rattle.iox_lanes.proofs.building.most_loans.Goals as goal

pub loop-place-preserved : goal.loop-place-preserved
loop-place-preserved g c =
    next_largest (λ place. loans_if (port_of (slice_index c.args.numbers.now place) c.args.domain.now.state.ports.publishers))
    c.loop-place.place c.loans_at.result c.loop-place.most c.max-most.result c.loop-place.invariant c.loans_at.ensures c.max-most.ensures

pub returns : goal.returns
returns g c = c.loop-place.invariant
    ∙ ap (largest (λ place. loans_if (port_of (slice_index c.args.numbers.now place) c.args.domain.now.state.ports.publishers)))
    (omega (arith, c.loop-place-test.false, c.loop-place.auto.place-end))
