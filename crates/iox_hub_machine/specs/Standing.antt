-- Which ports, loans and samples of a machine those of a hub represent.
use Rattle.std.specs.Prelude.{ℕ, ◌+◌, ◌≡◌, ◌≤◌, Bool, true, List, map, is_some, Option, Some}
use Rattle.iox_command.specs.DomainValues.declared.backpressure.BackpressureDecision.{BackpressureDecision}
use Rattle.iox_command.specs.DomainValues.declared.backpressure.BackpressureInfo.{BackpressureInfo}
use Rattle.iox_command.specs.DomainValues.declared.degradation.DegradationAction.{DegradationAction}
use Rattle.iox_command.specs.DomainValues.declared.degradation.DegradationCause.{DegradationCause}
use Rattle.iox_command.specs.DomainValues.declared.degradation.DegradationInfo.{DegradationInfo}
use Rattle.iox_container.specs.NumberTable.{value_at}
use Rattle.iox_delivery.specs.Holding.{publisher_stands, subscriber_stands}
use Rattle.iox_delivery.specs.declared.port_id.PortId.{PortId}
use Rattle.iox_domain.specs.DomainPorts.declared.attached.Taken.{Taken}
use Rattle.iox_domain.specs.declared.domain_id.DomainId.{DomainId}
use Rattle.iox_domain.specs.declared.ports.service_ports.ServicePorts.{ServicePorts}
use Rattle.iox_domain_machine.specs.Naming.{Naming}
use Rattle.iox_domain_machine.specs.SendLaws.{DecidesAs}
use Rattle.iox_domain_machine.specs.Services.{DomainsStandFor}
use Rattle.iox_domain_machine.specs.Tables.{LentSlot}
use Rattle.iox_hub_base.specs.AsHome.{hub_ports}
use Rattle.iox_hub_base.specs.ServicesAsHome.{domain_at}
use Rattle.iox_hub_base.specs.declared.hub.Hub.{Hub}
use Rattle.iox_hub_commands.specs.CommandSteps.{publisher_may_degrade, publisher_may_decide, subscriber_may_degrade}
use Rattle.iox_hub_commands.specs.Tables.{port_under}
use Rattle.iox_hub_commands.specs.declared.numbered_hub.NumberedHub.{NumberedHub}
use Rattle.iox_hub_commands.specs.declared.ports.made.Made.{Made}
use Rattle.iox_hub_commands.specs.declared.ports.made.MadeLoan.{MadeLoan}
use Rattle.iox_hub_commands.specs.declared.ports.made.MadePublisher.{MadePublisher}
use Rattle.iox_hub_commands.specs.declared.ports.made.MadeSample.{MadeSample}
use Rattle.iox_hub_machine.specs.Ports.{ports_here, AreHere, among}
use Rattle.iox_machine.specs.Choices.{Choices}
use Rattle.iox_machine.specs.Service.{Publisher, Subscriber}
use Rattle.iox_machine.specs.State as machine
use Rattle.iox_machine.specs.State.{State}
use Rattle.iox_machine.specs.Table.{at}

-- A loan of a hub, with the number of its service.
abbrev pub lent_slot : MadeLoan → ℕ × LentSlot
lent_slot made = (made.port.domain.service, record { publisher = made.port.number; slot = made.slot })

-- A sample of a hub, with the number of its service.
abbrev pub held_sample : MadeSample → ℕ × Taken
held_sample made = (made.port.domain.service, made.taken)

-- The numbered loans of a hub.
abbrev pub lent_in : Made → List (ℕ × (ℕ × LentSlot))
lent_in made = map (λ entry. (entry.0, lent_slot entry.1)) made.loans.entries

-- The numbered samples of a hub.
abbrev pub held_in : Made → List (ℕ × (ℕ × Taken))
held_in made = map (λ entry. (entry.0, held_sample entry.1)) made.samples.entries

-- The hub gave as many numbers to ports, loans and samples as the machine counts: the next number of each kind is one more than the
-- machine's count.
pub record AreAsMany (made : Made) (count : machine.Made) : Type 0 where
  pub publishers : made.publishers.next ≡ count.publishers + 1
  pub subscribers : made.subscribers.next ≡ count.subscribers + 1
  pub loans : made.loans.next ≡ count.loans + 1
  pub samples : made.samples.next ≡ count.samples + 1

-- No name of a port is larger than the number of ports that were made.
pub record AreNamedWithin (naming : ℕ → Naming) (count : machine.Made) : Type 0 where
  pub publishers : (service number : ℕ) → (naming service).publisher number ≤ count.publishers
  pub subscribers : (service number : ℕ) → (naming service).subscriber number ≤ count.subscribers

-- A number that has a port is the port's name, and the port is open; and each open port is found under its name.
pub record GoByNames (name : ℕ → ℕ → ℕ) (stands : DomainId → ℕ → Bool) (under : ℕ → Option PortId) : Type 0 where
  pub known : (number : ℕ) (port : PortId) → under number ≡ Some port
      → (name port.domain.service port.number ≡ number) × (stands port.domain port.number ≡ true)
  pub each : (domain : DomainId) (number : ℕ) → stands domain number ≡ true
      → under (name domain.service number) ≡ Some (record { domain = domain; number = number })

module _ {T U B D : Type 0} where
  -- Whether a publisher of a hub is open.
  abbrev pub publisher_is_up : Hub T U B D → DomainId → ℕ → Bool
  publisher_is_up hub domain number = publisher_stands number (hub_ports domain hub)

  -- Whether a subscriber of a hub is open.
  abbrev pub subscriber_is_up : Hub T U B D → DomainId → ℕ → Bool
  subscriber_is_up hub domain number = subscriber_stands number (hub_ports domain hub)

  -- Whatever may be decided for a publisher of a hub, at a full mailbox or a failed connection, may be chosen for the machine's publisher
  -- with this name.
  pub record PublisherIsHandled (choices : Choices T) (degrades : B → DegradationCause → DegradationInfo → DegradationAction → Type 0)
      (decides : B → BackpressureInfo → BackpressureDecision → Type 0) (hub : Hub T U B D) (domain : DomainId) (number name : ℕ)
      (publisher : Publisher T) : Type 0 where
    pub full : DecidesAs choices (publisher_may_decide decides domain number hub) name publisher
    pub failed : (info : DegradationInfo) (action : DegradationAction) → publisher_may_degrade degrades domain number hub info action
        → choices.publisher_acts name publisher.degradation action

  -- Whatever may be answered for a subscriber of a hub at a failed connection may be chosen for the machine's subscriber with this name.
  abbrev pub SubscriberIsHandled : Choices T → (D → DegradationCause → DegradationInfo → DegradationAction → Type 0) → Hub T U B D
      → DomainId → ℕ
      → ℕ → Subscriber → Type 0
  SubscriberIsHandled choices reader_degrades hub domain number name subscriber =
      (info : DegradationInfo) (action : DegradationAction) → subscriber_may_degrade reader_degrades domain number hub info action
      → choices.subscriber_acts name subscriber.degradation action

  -- The ports of a hub, with its loans and samples, represent those of a machine, by the names that each of its services gives them. The
  -- arguments are what may be chosen for ports, what handlers may answer, the names, and the ports of all open services of the hub, in the
  -- order in which the machine has their services: that in which they were opened.
  pub record PortsStandFor (choices : Choices T) (degrades : B → DegradationCause → DegradationInfo → DegradationAction → Type 0)
      (decides : B → BackpressureInfo → BackpressureDecision → Type 0)
      (reader_degrades : D → DegradationCause → DegradationInfo → DegradationAction → Type 0)
      (naming : ℕ → Naming) (order : List (ℕ × ServicePorts T U)) (hub : NumberedHub T U B D) (state : State T) : Type 0 where
    -- The domain of each open service is in the hub.
    pub here : AreHere hub.hub.services.domains
    -- The ports of these services are those of the argument `order`, in whatever order.
    pub same : (number : ℕ) → at number order ≡ at number (ports_here hub.hub.services.domains)
    -- These ports, with the numbered loans and samples, represent the services of the machine.
    pub domains : DomainsStandFor naming (lent_in hub.made) (held_in hub.made) hub.hub.expired_connection_buffer order state.services
    -- As many numbers were given as the machine counts.
    pub numbers : AreAsMany hub.made state.made
    -- No name of a port is larger than the last number that was given.
    pub named : AreNamedWithin naming state.made
    -- Each loan is one of an open service of this hub.
    pub loans : (number : ℕ) (made : MadeLoan) → value_at hub.made.loans number ≡ Some made
        → is_some (domain_at made.port.domain hub.hub.services) ≡ true
    -- Each sample is one of an open service of this hub, too, and its subscriber is the one that received it.
    pub samples : (number : ℕ) (made : MadeSample) → value_at hub.made.samples number ≡ Some made
        → (is_some (domain_at made.port.domain hub.hub.services) ≡ true) × (made.taken.subscriber ≡ made.port.number)
    -- Open ports are found under their names.
    pub publishers : GoByNames (λ service. (naming service).publisher) (publisher_is_up hub.hub)
        (λ number. port_under (value_at hub.made.publishers number))
    pub subscribers : GoByNames (λ service. (naming service).subscriber) (subscriber_is_up hub.hub) (value_at hub.made.subscribers)
    -- The messages of each publisher are slices.
    pub slices : (number : ℕ) (made : MadePublisher) → value_at hub.made.publishers number ≡ Some made → made.holds_slices ≡ true
    -- What may be decided for an open port may be chosen for the machine's port.
    pub publishers_handled : (domain : DomainId) (number : ℕ) (publisher : Publisher T) → publisher_is_up hub.hub domain number ≡ true
        → among (λ service. service.publishers) ((naming domain.service).publisher number) state.services ≡ Some publisher
        → PublisherIsHandled choices degrades decides hub.hub domain number ((naming domain.service).publisher number) publisher
    pub subscribers_handled : (domain : DomainId) (number : ℕ) (subscriber : Subscriber) → subscriber_is_up hub.hub domain number ≡ true
        → among (λ service. service.subscribers) ((naming domain.service).subscriber number) state.services ≡ Some subscriber
        → SubscriberIsHandled choices reader_degrades hub.hub domain number ((naming domain.service).subscriber number) subscriber
