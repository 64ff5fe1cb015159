-- The first reason why a domain can't become lanes.
use Rattle.std.specs.Prelude.{Bool, true, false, not, Option, None, Some, if◌then◌else◌}
use Rattle.std.specs.List.{list_any}
use Rattle.iox_domain.specs.DomainValues.declared.data_segment.AllocationStrategy.{AllocationStrategy}
use Rattle.iox_domain.specs.DomainValues.declared.data_segment.AllocationStrategy.TheVariants as strategy
use Rattle.iox_domain.specs.DomainValues.declared.backpressure.BackpressureDecision.{BackpressureDecision}
use Rattle.iox_domain.specs.PortsPublishing as publishing
use Rattle.iox_domain.specs.declared.ports.service_ports.ServicePorts.{ServicePorts}
use Rattle.iox_domain.specs.declared.domain.Domain.{Domain}
use Rattle.iox_lanes_opening.specs.UpToDate.{is_up_to_date}
use Rattle.iox_lanes_opening.specs.Deciding.{has_handlers, is_retrying}
use Rattle.iox_lanes_opening.specs.Lingering.{is_lingering}
use Rattle.iox_lanes_opening.specs.Sequences.{has_too_large}
use Rattle.iox_lanes_opening.specs.Slices.{has_slices}
use Rattle.iox_lanes_opening.specs.Soundness.{is_unsound}
use Rattle.iox_lanes_opening.specs.declared.refusals.into_lanes_error.IntoLanesError.{IntoLanesError}
use Rattle.iox_lanes_opening.specs.declared.refusals.into_lanes_error.IntoLanesError.TheVariants as reason

-- Whether a send of some publisher is blocked at a full mailbox.
abbrev pub is_blocked : {T U : Type 0} → ServicePorts T U → Bool
is_blocked ports = list_any (λ entry. publishing.is_blocked entry.1) ports.publishers

-- Whether a capacity with this allocation strategy may grow.
abbrev pub may_grow : AllocationStrategy → Bool
may_grow strategy.BestFit = true
may_grow strategy.PowerOfTwo = true
may_grow strategy.Static = false

-- Whether the capacity of some publisher may grow.
abbrev pub has_growing : {T U : Type 0} → ServicePorts T U → Bool
has_growing ports = list_any (λ entry. may_grow entry.1.allocation) ports.publishers

-- The first reason that applies, or none. `decision` is what a publisher's handlers do at each full mailbox, if none of them is an object
-- of the caller; `asks` is whether a subscriber's handler is one.
abbrev pub first_reason : {T U B D : Type 0} → (B → Option BackpressureDecision) → (D → Bool) → Domain T U B D → Option IntoLanesError
first_reason decision asks domain =
    if is_blocked domain.state.ports then Some reason.Blocked
    else if not (is_up_to_date domain.state.ports) then Some reason.ConnectionsNotUpToDate
    else if has_growing domain.state.ports then Some reason.NotStatic
    else if has_handlers decision asks domain then Some reason.HasHandlers
    else if is_retrying decision domain then Some reason.Retrying
    else if is_lingering domain.state.ports then Some reason.Lingering
    else if has_slices domain then Some reason.HasSlices
    else if is_unsound domain.state.ports then Some reason.Unsound
    else if has_too_large domain.state.ports then Some reason.SequenceTooLarge
    else None
