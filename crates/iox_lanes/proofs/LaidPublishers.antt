-- Lanes after what they found of publisher after publisher.
use Rattle.std.proofs.Common.{ℕ, suc, ◌≡◌, ◌+◌, List, length, slice_get, slice_index, Some, sym, ap, ◌∙◌, arith, Option}
use Rattle.iox_domain.specs.DomainValues.declared.backpressure.BackpressureDecision.{BackpressureDecision}
use Rattle.iox_domain.specs.DomainPorts.Publishers.{port_of}
use Rattle.iox_domain.specs.DomainPorts.declared.publisher_port.PublisherPort.{PublisherPort}
use Rattle.iox_domain.specs.Kept.{kept_under}
use Rattle.iox_domain.specs.Subscribers.{subscriber_of}
use Rattle.iox_domain.specs.declared.domain.Domain.{Domain}
use Rattle.iox_lanes_machine.specs.World.{World}
use Rattle.iox_lanes_opening.specs.Deciding.{would_fail}
use Rattle.iox_lanes.specs.Behind.{behind_findings}
use Rattle.iox_lanes.specs.Laid.{first_slot, flat_listed, history_findings, link_findings, messages_behind, publisher_behind}
use Rattle.iox_lanes.specs.Laid.{publishers_behind, sender_behind}
use Rattle.iox_lanes.specs.Spelling.{Spelling}
use Rattle.iox_lanes.specs.Tied.{tie_for}

-- one publisher more
pub next_publisher : {T U B D : Type 0} (decision : B → Option BackpressureDecision) (spelling : Spelling T U)
    (domain : Domain T U B D) (publishers subscribers : List ℕ) (m now named kept after : World) (place first : ℕ)
    (port : PublisherPort T U)
    → port_of (slice_index publishers place) domain.state.ports.publishers ≡ Some port
    → now ≡ publishers_behind decision spelling domain publishers subscribers m place
    → named ≡ sender_behind now place (would_fail decision (kept_under (slice_index publishers place) domain.state.publisher_handlers)) port
    → first ≡ first_slot (slice_get named.publishers place)
    → kept ≡ behind_findings named (history_findings spelling place first port port.sender.uses.history)
    → after ≡ behind_findings kept (flat_listed
    (λ other. link_findings spelling place other first port
    (tie_for port (subscriber_of (slice_index subscribers other) domain.state.ports.subscribers))) (length subscribers))
    → after ≡ publishers_behind decision spelling domain publishers subscribers m (place + 1)
next_publisher decision spelling domain publishers subscribers m now named kept after place first port there sofar naming begins history
    links =
    let readers = domain.state.ports.subscribers in
    let fails = would_fail decision (kept_under (slice_index publishers place) domain.state.publisher_handlers) in
    let next : suc place ≡ place + 1 = omega arith in
    links
    ∙ ap (λ w. behind_findings w (flat_listed
    (λ other. link_findings spelling place other first port
    (tie_for port (subscriber_of (slice_index subscribers other) readers))) (length subscribers))) history
    ∙ ap (λ n. messages_behind spelling readers subscribers place port n named) begins
    ∙ ap (λ (w : World). messages_behind spelling readers subscribers place port (first_slot (slice_get w.publishers place)) w) naming
    ∙ ap (publisher_behind spelling readers subscribers now place fails) (sym there)
    ∙ ap (λ w. publisher_behind spelling readers subscribers w place fails
    (port_of (slice_index publishers place) domain.state.ports.publishers)) sofar
    ∙ ap (publishers_behind decision spelling domain publishers subscribers m) next
