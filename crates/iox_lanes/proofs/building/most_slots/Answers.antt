use Rattle.std.proofs.Common.{arith, ◌≡◌, ap, ◌∙◌, slice_index}
use Rattle.std.proofs.lemmas.Option.{get_or_from_slice_get, slice_get_within}
use Rattle.iox_domain.specs.DomainPorts.Publishers.{port_of}
use Rattle.iox_lanes.specs.Built.{slots_if, HasSlotsAt}
use Rattle.iox_lanes.specs.Exact.{largest}
use Rattle.iox_lanes.specs.Laid.{slots_in}
use borrow.Author.Count.{below_more}
use Rattle.iox_lanes.proofs.Exact.{next_largest}
use Rattle.iox_lanes.proofs.building.most_slots.Goals as goal

pub loop-place-preserved : goal.loop-place-preserved
loop-place-preserved g c = (
  below_more (λ k. HasSlotsAt c.args.domain.now.state.ports.publishers c.args.numbers.now c.max-most.result k) c.loop-place.place
      (λ k below number port there found. omega (arith, c.loop-place.invariant.0 k below number port there found, c.max-most.ensures))
      (λ number port there found.
      let here : c.slots_at.result ≡ slots_in port = c.slots_at.ensures
      ∙ ap (λ n. slots_if (port_of n c.args.domain.now.state.ports.publishers))
      (get_or_from_slice_get c.args.numbers.now c.loop-place.place number 0 there) ∙ ap slots_if found in
      omega (arith, here, c.max-most.ensures)),
  next_largest (λ place. slots_if (port_of (slice_index c.args.numbers.now place) c.args.domain.now.state.ports.publishers))
      c.loop-place.place c.slots_at.result c.loop-place.most c.max-most.result c.loop-place.invariant.1 c.slots_at.ensures
      c.max-most.ensures,
)

pub returns-clause-most : goal.returns-clause-most
returns-clause-most g c = λ place number port there found.
    c.loop-place.invariant.0 place (omega (arith, c.loop-place-test.false, slice_get_within c.args.numbers.now place number there)) number
    port there found

pub returns-clause-exact : goal.returns-clause-exact
returns-clause-exact g c = c.loop-place.invariant.1
    ∙ ap (largest (λ place. slots_if (port_of (slice_index c.args.numbers.now place) c.args.domain.now.state.ports.publishers)))
    (omega (arith, c.loop-place-test.false, c.loop-place.auto.place-end))
