-- Theorems: when a publisher or a subscriber is closed, a hub does what the machine does.
use Rattle.std.specs.Prelude.{ℕ, ◌≡◌, true, Some}
use Rattle.iox_command.specs.DomainValues.declared.backpressure.BackpressureDecision.{BackpressureDecision}
use Rattle.iox_command.specs.DomainValues.declared.backpressure.BackpressureInfo.{BackpressureInfo}
use Rattle.iox_command.specs.DomainValues.declared.degradation.DegradationAction.{DegradationAction}
use Rattle.iox_command.specs.DomainValues.declared.degradation.DegradationCause.{DegradationCause}
use Rattle.iox_command.specs.DomainValues.declared.degradation.DegradationInfo.{DegradationInfo}
use Rattle.iox_command.specs.declared.command.Command.{Command}
use Rattle.iox_command.specs.declared.command.Command.TheVariants as command
use Rattle.iox_command.specs.declared.port.PortNumber.TheVariants as port
use Rattle.iox_domain.specs.Rolls.{may_change}
use Rattle.iox_domain.specs.declared.domain_id.DomainId.{DomainId}
use Rattle.iox_domain.specs.declared.ports.service_ports.ServicePorts.{ServicePorts}
use Rattle.iox_hub_base.specs.AsHome.{hub_ports}
use Rattle.iox_hub_base.specs.declared.hub.Hub.{Hub}
use Rattle.iox_hub_commands.specs.Grown.{HaveGrown}
use Rattle.iox_hub_commands.specs.Lives.{NumbersRise}
use Rattle.iox_hub_commands.specs.declared.numbered_hub.NumberedHub.{NumberedHub}
use Rattle.iox_hub_machine.specs.Laws.{IsSimulatedFrom}
use Rattle.iox_machine.specs.Choices.{Choices}

-- Each of the two port lists of each domain in the hub can count one more change.
abbrev pub ListsCanChange : {T U B D : Type 0} → Hub T U B D → Type 0
ListsCanChange {T} {U} hub = (id : DomainId) (ports : ServicePorts T U) → hub_ports id hub ≡ Some ports
    → (may_change ports.publisher_list ≡ true) × (may_change ports.subscriber_list ≡ true)

-- The parameters: the choices, with the default values; which user headers are default ones; and what handlers of a publisher, and of a
-- subscriber, may answer.
module _ {T U B D : Type 0} (choices : Choices T) (is_default_header : U → Type 0)
    (degrades : B → DegradationCause → DegradationInfo → DegradationAction → Type 0)
    (decides : B → BackpressureInfo → BackpressureDecision → Type 0)
    (reader_degrades : D → DegradationCause → DegradationInfo → DegradationAction → Type 0) where
  -- The command is simulated from a hub whose domains have grown by calls of ports, whose numbers rise from 1 and stay below the next one,
  -- as those of each hub do, and whose port lists can each change once more. A command changes at most one list, and only once.
  abbrev pub IsSimulatedIfCounted : Command T → Type 0
  IsSimulatedIfCounted asked = (old : NumberedHub T U B D) → HaveGrown old.hub.services.domains → NumbersRise old
      → ListsCanChange old.hub → IsSimulatedFrom choices is_default_header degrades decides reader_degrades old asked

  -- Closing a publisher is simulated.
  abbrev pub PublisherLeaveIsSimulated : Type 0
  PublisherLeaveIsSimulated = (publisher : ℕ) → IsSimulatedIfCounted (command.Leave (port.Publisher publisher))

  -- Closing a subscriber is simulated.
  abbrev pub SubscriberLeaveIsSimulated : Type 0
  SubscriberLeaveIsSimulated = (subscriber : ℕ) → IsSimulatedIfCounted (command.Leave (port.Subscriber subscriber))
