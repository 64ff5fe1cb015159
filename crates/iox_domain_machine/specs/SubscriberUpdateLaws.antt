-- The update of a subscriber in a domain matches the machine's command.
use Rattle.std.specs.Prelude.{ℕ, ◌≡◌, ◌≢◌, true, List, Option, None, Some, Result, Ok, Err}
use Rattle.iox_command.specs.DomainValues.declared.connection_failure.ConnectionFailure.{ConnectionFailure}
use Rattle.iox_command.specs.DomainValues.declared.degradation.DegradationAction.{DegradationAction}
use Rattle.iox_command.specs.DomainValues.declared.degradation.DegradationInfo.{DegradationInfo}
use Rattle.iox_command.specs.NegotiateBase.DescribeBase.declared.message_type.MessageTypeDetails.{MessageTypeDetails}
use Rattle.iox_command.specs.declared.command.Command.TheVariants as command
use Rattle.iox_command.specs.declared.port.PortNumber.TheVariants as port
use Rattle.iox_command.specs.declared.refusal.Refusal.TheVariants as refusal
use Rattle.iox_command.specs.declared.reply.Reply.{Reply}
use Rattle.iox_command.specs.declared.reply.Reply.TheVariants as reply
use Rattle.iox_domain.specs.DomainPorts.declared.attached.Taken.{Taken}
use Rattle.iox_domain.specs.Roomy.{AreRoomy}
use Rattle.iox_domain.specs.Steps.{FollowsBy}
use Rattle.iox_domain.specs.declared.ports.service_ports.ServicePorts.{ServicePorts}
use Rattle.iox_domain_machine.specs.Laws.{Matches}
use Rattle.iox_domain_machine.specs.Naming.{Naming}
use Rattle.iox_domain_machine.specs.Standing.{StandsFor}
use Rattle.iox_domain_machine.specs.Tables.{LentSlot}
use Rattle.iox_machine.specs.Choices.{Choices}
use Rattle.iox_machine.specs.Service.{Service, Subscriber}
use Rattle.iox_machine.specs.State.{State}
use Rattle.iox_machine.specs.Table.{at}

-- The reply to an update: that it is done, or why a connection failed.
abbrev pub updated_or_skipped : {T : Type 0} → Option (Result (Unit {0}) ConnectionFailure) → Reply T
updated_or_skipped None = reply.Skipped
updated_or_skipped (Some (Ok done)) = reply.Done
updated_or_skipped (Some (Err failure)) = reply.Refused (refusal.Connection failure)

-- If the machine's subscriber with this name is open, each answer of the handler is a choice of it.
abbrev pub ActsAs : {T : Type 0} → Choices T → (DegradationInfo → DegradationAction → Type 0) → ℕ → Service T → Type 0
ActsAs choices may name service =
    (subscriber : Subscriber) → at name service.subscribers ≡ Some subscriber → subscriber.stands ≡ true
    → (info : DegradationInfo) (action : DegradationAction) → may info action → choices.subscriber_acts name subscriber.degradation action

-- Updating a subscriber matches the command: connections of closed publishers end or expire, listed publishers are connected,
-- and new connections get names. The theorem assumes that the ports are roomy, as they are after any calls (`SamplesLeft`), and
-- that each answer of the handler is a choice of the machine's subscriber.
abbrev pub SubscriberUpdateMatches : (T U : Type 0) → Choices T → (DegradationInfo → DegradationAction → Type 0) → Type 0
SubscriberUpdateMatches T U choices may = (types : MessageTypeDetails) (buffer : ℕ) (names : Naming) (lent : List (ℕ × LentSlot))
    (held : List (ℕ × Taken)) (old new : ServicePorts T U) (service : Service T) (state : State T) (number : ℕ)
    (answer : Option (Result (Unit {0}) ConnectionFailure))
    → StandsFor names lent held buffer old service → AreRoomy old → names.subscriber number ≢ 0
    → ActsAs choices may (names.subscriber number) service → FollowsBy may number old answer new
    → (reader : ℕ → ℕ → ℕ) × Matches T U choices types buffer (command.Update (port.Subscriber (names.subscriber number)))
    (updated_or_skipped answer) state service (record names { reader = reader }) lent held new
