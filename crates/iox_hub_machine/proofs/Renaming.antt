-- One domain of a hub does something after which its messages, or who reads at its connections, may have other names.
use Rattle.std.proofs.Common.{◌≡◌, ℕ, true, List, ◌∷◌, ◌++◌, Some, refl, sym, subst}
use Rattle.std.specs.Prelude.{is_some}
use Rattle.iox_command.specs.DomainValues.declared.backpressure.BackpressureDecision.{BackpressureDecision}
use Rattle.iox_command.specs.DomainValues.declared.backpressure.BackpressureInfo.{BackpressureInfo}
use Rattle.iox_command.specs.DomainValues.declared.degradation.DegradationAction.{DegradationAction}
use Rattle.iox_command.specs.DomainValues.declared.degradation.DegradationCause.{DegradationCause}
use Rattle.iox_command.specs.DomainValues.declared.degradation.DegradationInfo.{DegradationInfo}
use Rattle.iox_command.specs.NegotiateBase.DescribeBase.declared.message_type.MessageTypeDetails.{MessageTypeDetails}
use Rattle.iox_command.specs.declared.command.Command.{Command}
use Rattle.iox_command.specs.declared.reply.Reply.{Reply}
use Rattle.iox_container.specs.NumberTable.{value_at}
use Rattle.iox_domain.specs.declared.domain_id.DomainId.{DomainId}
use Rattle.iox_domain.specs.declared.ports.service_ports.ServicePorts.{ServicePorts}
use Rattle.iox_domain_machine.specs.Laws.{Matches}
use Rattle.iox_domain_machine.specs.Naming.{Naming, with_name}
use Rattle.iox_domain_machine.specs.ServiceLaws.{NamesOf, ChangesAt}
use Rattle.iox_domain_machine.specs.Services.{those_of, DomainsStandFor}
use Rattle.iox_domain_machine.specs.Standing.{StandsFor}
use Rattle.iox_domain_machine.proofs.Services.{among_others_named}
use Rattle.iox_hub_base.specs.AsHome.{hub_ports, with_hub_ports}
use Rattle.iox_hub_base.specs.ServicesAsHome.{domain_at}
use Rattle.iox_hub_commands.specs.declared.numbered_hub.NumberedHub.{NumberedHub}
use Rattle.iox_hub_commands.specs.declared.ports.made.MadeLoan.{MadeLoan}
use Rattle.iox_hub_commands.specs.declared.ports.made.MadeSample.{MadeSample}
use Rattle.iox_hub_machine.specs.Laws.{answered_with}
use Rattle.iox_hub_machine.specs.Standing.{PortsStandFor, AreAsMany, lent_in, held_in}
use Rattle.iox_hub_machine.proofs.Deciding.{DecideAlike}
use Rattle.iox_hub_machine.proofs.Moving.{between, ports_before, order_then, stands_then, IsMatched}
use Rattle.iox_machine.specs.Choices.{Choices}
use Rattle.iox_machine.proofs.Among.{steps-among}
use Rattle.iox_machine.specs.Run.{Step}
use Rattle.iox_machine.specs.Service.{Service}
use Rattle.iox_machine.specs.State.{State, counted}

module _ {T U B D : Type 0} (degrades : B → DegradationCause → DegradationInfo → DegradationAction → Type 0)
    (decides : B → BackpressureInfo → BackpressureDecision → Type 0)
    (reader_degrades : D → DegradationCause → DegradationInfo → DegradationAction → Type 0) (types : MessageTypeDetails)
    (choices : Choices T) (naming : ℕ → Naming) (order : List (ℕ × ServicePorts T U)) (old new : NumberedHub T U B D)
    (state : State T) (asked : Command T) (answer : Reply T) (id : DomainId) (ports after : ServicePorts T U)
    (stands : PortsStandFor choices degrades decides reader_degrades naming order old state) (found : hub_ports id old.hub ≡ Some ports)
  where
    -- The domain's own ports match, by the names that its service is given then. Ports have the names that they had.
    abbrev pub MatchesNamed : Type 0
    MatchesNamed = (first : List (Service T)) (service : Service T) (last : List (Service T)) → state.services ≡ first ++ service ∷ last
        → StandsFor (naming id.service) (those_of id.service (lent_in old.made)) (those_of id.service (held_in old.made))
        old.hub.expired_connection_buffer ports service
        → (later : Naming) × (later.publisher ≡ (naming id.service).publisher) × (later.subscriber ≡ (naming id.service).subscriber)
        × Matches T U choices types old.hub.expired_connection_buffer asked answer state service later
        (those_of id.service (lent_in new.made)) (those_of id.service (held_in new.made)) after

    pub machine_does_named : (changes : new.hub ≡ with_hub_ports id after old.hub)
        → NamesOf id.service (naming id.service) (lent_in old.made) (held_in old.made) asked
        → ChangesAt id.service (lent_in old.made) (lent_in new.made) → ChangesAt id.service (held_in old.made) (held_in new.made)
        → MatchesNamed
        → ((services : List (Service T))
        → Step types choices old.hub.expired_connection_buffer asked state answer (answered_with answer services state)
        → DecideAlike state.services services)
        → new.made.publishers.entries ≡ old.made.publishers.entries
        → new.made.subscribers.entries ≡ old.made.subscribers.entries
        → AreAsMany new.made (counted answer state.made)
        → ((number : ℕ) (made : MadeLoan) → value_at new.made.loans number ≡ Some made
        → is_some (domain_at made.port.domain old.hub.services) ≡ true)
        → ((number : ℕ) (made : MadeSample) → value_at new.made.samples number ≡ Some made
        → (is_some (domain_at made.port.domain old.hub.services) ≡ true) × (made.taken.subscriber ≡ made.port.number))
        → IsMatched degrades decides reader_degrades types choices naming order old state asked answer stands new
    machine_does_named changes named lent held matches alike publishers subscribers numbers loans samples =
        let parts = between degrades decides reader_degrades types choices naming order old new state asked answer id ports after
        (naming id.service) stands found changes refl refl in
        let (later, same_publishers, same_subscribers, (services, does, all)) = among_others_named T U choices (steps-among choices)
        types old.hub.expired_connection_buffer naming (lent_in old.made) (lent_in new.made) (held_in old.made) (held_in new.made)
        parts.before parts.behind id.service ports after state asked answer
        (subst (λ (domains : List (ℕ × ServicePorts T U)). DomainsStandFor naming (lent_in old.made) (held_in old.made)
        old.hub.expired_connection_buffer domains state.services)
        (ports_before degrades decides reader_degrades types choices naming order old new state asked answer id ports after
        (naming id.service) stands found changes refl refl) stands.domains) named lent held matches in (
          with_name id.service later naming,
          order_then degrades decides reader_degrades types choices naming order old new state asked answer id ports after later stands
              found changes same_publishers same_subscribers,
          services,
          parts.keys,
          does,
          stands_then degrades decides reader_degrades types choices naming order old new state asked answer id ports after later stands
              found changes same_publishers same_subscribers services (alike services does) all publishers subscribers numbers loans
              samples,
        )

module _ {T U B D : Type 0} (degrades : B → DegradationCause → DegradationInfo → DegradationAction → Type 0)
    (decides : B → BackpressureInfo → BackpressureDecision → Type 0)
    (reader_degrades : D → DegradationCause → DegradationInfo → DegradationAction → Type 0) (types : MessageTypeDetails)
    (choices : Choices T) (naming : ℕ → Naming) (order : List (ℕ × ServicePorts T U)) (old new : NumberedHub T U B D)
    (state : State T) (asked : Command T) (answer : Reply T) (id : DomainId) (ports after : ServicePorts T U)
    (stands : PortsStandFor choices degrades decides reader_degrades naming order old state) (found : hub_ports id old.hub ≡ Some ports)
  where
    abbrev became : NumberedHub T U B D
    became = record old { hub = with_hub_ports id after old.hub }

    -- the ports of one domain change, and nothing else of the hub
    pub ports_alone_named : new ≡ became → counted answer state.made ≡ state.made
        → NamesOf id.service (naming id.service) (lent_in old.made) (held_in old.made) asked
        → MatchesNamed degrades decides reader_degrades types choices naming order old old state asked answer id ports after stands found
        → ((services : List (Service T))
        → Step types choices old.hub.expired_connection_buffer asked state answer (answered_with answer services state)
        → DecideAlike state.services services)
        → IsMatched degrades decides reader_degrades types choices naming order old state asked answer stands new
    ports_alone_named same count named matches alike =
        subst (IsMatched degrades decides reader_degrades types choices naming order old state asked answer stands) (sym same)
        (machine_does_named degrades decides reader_degrades types choices naming order old became state asked answer id ports after
        stands found refl named (λ other off. refl, stands.domains.loans) (λ other off. refl, stands.domains.samples) matches alike refl
        refl
        (subst (AreAsMany old.made) (sym count) stands.numbers) stands.loans stands.samples)
