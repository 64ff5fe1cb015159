-- The update of a publisher in a domain matches the machine's command.
use Rattle.std.specs.Prelude.{ℕ, ◌≡◌, ◌≢◌, true, List, Option, Some, Result}
use Rattle.iox_command.specs.DomainValues.declared.connection_failure.ConnectionFailure.{ConnectionFailure}
use Rattle.iox_command.specs.DomainValues.declared.degradation.DegradationAction.{DegradationAction}
use Rattle.iox_command.specs.NegotiateBase.DescribeBase.declared.message_type.MessageTypeDetails.{MessageTypeDetails}
use Rattle.iox_command.specs.declared.command.Command.TheVariants as command
use Rattle.iox_command.specs.declared.port.PortNumber.TheVariants as port
use Rattle.iox_domain.specs.DomainPorts.declared.attached.Taken.{Taken}
use Rattle.iox_domain.specs.DomainValues.declared.degradation.DegradationInfo.{DegradationInfo}
use Rattle.iox_domain.specs.PortLawsLaws.{IsApart}
use Rattle.iox_domain.specs.SizeLaws.{AreAllowed}
use Rattle.iox_domain.specs.Steps.{UpdatesBy}
use Rattle.iox_domain.specs.declared.ports.service_ports.ServicePorts.{ServicePorts}
use Rattle.iox_domain_machine.specs.Laws.{Matches}
use Rattle.iox_domain_machine.specs.Naming.{Naming, with_name}
use Rattle.iox_domain_machine.specs.Standing.{StandsFor}
use Rattle.iox_domain_machine.specs.SubscriberUpdateLaws.{updated_or_skipped}
use Rattle.iox_domain_machine.specs.Tables.{LentSlot}
use Rattle.iox_machine.specs.Choices.{Choices}
use Rattle.iox_machine.specs.Service.{Publisher, Service}
use Rattle.iox_machine.specs.State.{State}
use Rattle.iox_machine.specs.Table.{at}

-- If the machine's publisher with this name is open, each answer of the handler is a choice of it.
abbrev pub DegradesAs : {T : Type 0} → Choices T → (DegradationInfo → DegradationAction → Type 0) → ℕ → Service T → Type 0
DegradesAs {T} choices may name service =
    (publisher : Publisher T) → at name service.publishers ≡ Some publisher → publisher.stands ≡ true
    → (info : DegradationInfo) (action : DegradationAction) → may info action → choices.publisher_acts name publisher.degradation action

module _ (T U : Type 0) (choices : Choices T) (may : DegradationInfo → DegradationAction → Type 0) where
  -- Updating a publisher matches the command, and new connections get names. The theorem assumes that ties are apart and sizes
  -- are those allowed, as they are after any calls (`AtMostOnce`, `SizesAgree`), and that each answer of the handler is a
  -- choice of the machine's publisher.
  abbrev pub PublisherUpdateMatches : Type 0
  PublisherUpdateMatches = (types : MessageTypeDetails) (buffer : ℕ) (names : Naming) (lent : List (ℕ × LentSlot))
      (held : List (ℕ × Taken)) (old new : ServicePorts T U) (service : Service T) (state : State T) (number : ℕ)
      (answer : Option (Result (Unit {0}) ConnectionFailure))
      → StandsFor names lent held buffer old service → IsApart old → AreAllowed old → names.publisher number ≢ 0
      → DegradesAs choices may (names.publisher number) service → UpdatesBy may number old answer new
      → (reader : ℕ → ℕ) × Matches T U choices types buffer (command.Update (port.Publisher (names.publisher number)))
      (updated_or_skipped answer) state service (record names { reader = with_name number reader names.reader }) lent held new
