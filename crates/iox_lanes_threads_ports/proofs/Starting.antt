-- How many steps a loan, a write and a send make at most, where they begin.
use Rattle.std.proofs.Common.{ℕ, ◌≡◌, ◌+◌, ◌-◌, slice_get, Option, None, Some, refl, sym, ap, subst, arith}
use Rattle.iox_lanes_machine.specs.LanesBase.Numbers.{IsSmall}
use Rattle.iox_lanes_machine.specs.LanesBase.declared.words.sizes.TableSizes.{TableSizes}
use Rattle.iox_lanes_machine.specs.LanesBase.Publishing.{loan_from, write_from, head_from}
use Rattle.iox_lanes_machine.specs.LanesBase.declared.calls.route.Route.{Route}
use Rattle.iox_lanes_machine.specs.Pace.{sweeps_left}
use Rattle.iox_lanes_machine.specs.LanesParties.Parties.{PublisherLaneState, head_of}
use Rattle.iox_lanes_machine.specs.LanesParties.declared.call.Call.TheVariants as call
use Rattle.iox_lanes_machine.specs.LanesParties.declared.call.Move.{Move}
use Rattle.iox_lanes_machine.specs.LanesParties.declared.call.Move.TheVariants.{Begin, GoOn}
use Rattle.iox_lanes_threads_rule.specs.declared.view.Port.{Port}
use Rattle.iox_lanes_threads_ports.specs.Pace.{HasNotLoaded, StartsWithin, HasSteps}
use Rattle.iox_lanes_threads_ports.specs.Ports.{PublisherStands}
use Rattle.iox_lanes_threads_ports.specs.Values.{publisher_begins}
use Rattle.iox_lanes_threads_ports.proofs.Connections.{few_connections, small_connections}
use Rattle.iox_lanes_threads_ports.proofs.Pacing.{loan_left, write_left, head_left}

from_first : (most connections : ℕ) → sweeps_left most (connections - 0) ≡ sweeps_left most connections
from_first most connections = let all : connections - 0 ≡ connections = omega arith in ap (sweeps_left most) all

-- where a loan, a write or a send begins it has loaded nothing
loan_first : (at : Option Route) → HasNotLoaded (loan_from 0 at)
loan_first None = tt
loan_first (Some route) = refl

write_first : (slot : ℕ) (at : Option ℕ) → HasNotLoaded (write_from slot 0 at)
write_first slot None = tt
write_first slot (Some value) = tt

head_first : (slot : ℕ) (at : Option ℕ) → HasNotLoaded (head_from slot 0 at)
head_first slot None = tt
head_first slot (Some value) = tt

starts_here : (p : Port) (lane : PublisherLaneState) (step : Move) (most : ℕ) → PublisherStands p lane → IsSmall p.service.sizes
    → HasSteps p.service.sizes step most → StartsWithin p.service.sizes most (publisher_begins step lane).port.call
starts_here p lane GoOn most stands small enough = absurd enough
starts_here p lane (Begin call.LoanUninit) most stands small enough =
    let wide = few_connections p.service.sizes lane.port.routes stands.once stands.within.routes in
    let left = loan_left p.service.sizes (p.service.sizes.completion_cells + 1) p.service.sizes.connections 0 lane.port.routes wide
    (small_connections p.service.sizes small) (λ place. 0) 0 (slice_get lane.port.routes 0) refl in
    record {
      words = 0;
      going = left.going;
      first = loan_first (slice_get lane.port.routes 0);
      few
          = omega (arith, left.few, enough, from_first (p.service.sizes.completion_cells + 1) p.service.sizes.connections);
    }
starts_here p lane (Begin (call.Write loan payload user_header)) most stands small enough =
    let wide = few_connections p.service.sizes lane.port.routes stands.once stands.within.routes in
    let left = write_left p.service.sizes (p.service.sizes.completion_cells + 1) p.service.sizes.connections
    p.service.sizes.payload_words lane.port.routes wide (small_connections p.service.sizes small) payload.items (λ place. 0)
    (λ place. 0) loan 0
    (slice_get payload.items 0) (omega arith) in
    record {
      words = p.service.sizes.payload_words;
      going = left.going;
      first = write_first loan (slice_get payload.items 0);
      few = omega (arith, left.few, enough);
    }
starts_here p lane (Begin (call.Send loan)) most stands small enough =
    let wide = few_connections p.service.sizes lane.port.routes stands.once stands.within.routes in
    let left = head_left p.service.sizes (p.service.sizes.completion_cells + 1) p.service.sizes.connections
    (3 + p.service.sizes.user_header_words) lane.port.routes wide (small_connections p.service.sizes small) (head_of loan lane)
    (λ place. 0) (λ place. 0)
    loan 0 (slice_get (head_of loan lane) 0) (omega arith) in
    record {
      words = 3 + p.service.sizes.user_header_words;
      going = left.going;
      first = head_first loan (slice_get (head_of loan lane) 0);
      few = omega (arith, left.few, enough);
    }
starts_here p lane (Begin (call.DropLoan loan)) most stands small enough = absurd enough
starts_here p lane (Begin call.Receive) most stands small enough = absurd enough
starts_here p lane (Begin (call.Read sample)) most stands small enough = absurd enough
starts_here p lane (Begin (call.Release sample)) most stands small enough = absurd enough

pub starts : (p : Port) (lane : PublisherLaneState) (sizes : TableSizes) (step : Move) (most : ℕ) → PublisherStands p lane
    → p.service.sizes ≡ sizes → IsSmall sizes → HasSteps sizes step most → StartsWithin sizes most (publisher_begins step lane).port.call
starts p lane sizes step most stands same small enough =
    subst (λ (z : TableSizes). StartsWithin z most (publisher_begins step lane).port.call) same
    (starts_here p lane step most stands (subst IsSmall (sym same) small)
    (subst (λ (z : TableSizes). HasSteps z step most) (sym same) enough))
