-- A publisher's put in a domain matches the machine's command.
use Rattle.std.specs.Prelude.{ℕ, ◌≡◌, ◌≢◌, true, List, Option, Some, Result}
use Rattle.iox_command.specs.DomainValues.declared.backpressure.BackpressureDecision.{BackpressureDecision}
use Rattle.iox_command.specs.DomainValues.declared.backpressure.BackpressureInfo.{BackpressureInfo}
use Rattle.iox_command.specs.DomainValues.declared.degradation.DegradationAction.{DegradationAction}
use Rattle.iox_command.specs.DomainValues.declared.degradation.DegradationInfo.{DegradationInfo}
use Rattle.iox_command.specs.DomainValues.declared.port_error.SendError.{SendError}
use Rattle.iox_command.specs.NegotiateBase.DescribeBase.declared.message_type.MessageTypeDetails.{MessageTypeDetails}
use Rattle.iox_command.specs.declared.command.Command.TheVariants as command
use Rattle.iox_domain.specs.DomainPorts.declared.attached.Taken.{Taken}
use Rattle.iox_domain.specs.DomainPorts.declared.meeting.Sent.{Sent}
use Rattle.iox_domain.specs.Roomy.{AreRoomy}
use Rattle.iox_domain.specs.Steps.{PutsBy}
use Rattle.iox_domain.specs.declared.ports.service_ports.ServicePorts.{ServicePorts}
use Rattle.iox_domain_machine.specs.Laws.{Matches}
use Rattle.iox_domain_machine.specs.Naming.{Naming}
use Rattle.iox_domain_machine.specs.PublisherUpdateLaws.{DegradesAs}
use Rattle.iox_domain_machine.specs.SendLaws.{sent_or_skipped, DecidesAs}
use Rattle.iox_domain_machine.specs.SentHeaders.{PutTells}
use Rattle.iox_domain_machine.specs.Standing.{StandsFor}
use Rattle.iox_domain_machine.specs.Tables.{LentSlot}
use Rattle.iox_machine.specs.Choices.{Choices}
use Rattle.iox_machine.specs.Service.{Service, Publisher}
use Rattle.iox_machine.specs.State.{State}
use Rattle.iox_machine.specs.Table.{at}

-- Putting values matches the command: the publisher loans a message for them, writes and sends it, or the reply says why it
-- doesn't. It follows the list of subscribers before it sends, if the list changed. No loan with a number is made. The message
-- and new connections get names, and what is in use keeps its names. The header of the message is recorded as its send begins.
-- The theorem assumes that the ports are roomy, as they are after any calls (`SamplesLeft`), and that each decision at a full
-- mailbox, and each answer for a failed connection, is a choice of the machine's publisher.
abbrev pub PutMatches : (T U : Type 0) → Choices T → (BackpressureInfo → BackpressureDecision → Type 0)
    → (DegradationInfo → DegradationAction → Type 0) → Type 0
PutMatches T U choices may may_degrade = (types : MessageTypeDetails) (buffer : ℕ) (names : Naming) (lent : List (ℕ × LentSlot))
    (held : List (ℕ × Taken)) (old new : ServicePorts T U) (service : Service T) (state : State T) (number : ℕ) (values : List T)
    (answer : Option (Result Sent SendError))
    → StandsFor names lent held buffer old service → AreRoomy old → names.publisher number ≢ 0
    → ((publisher : Publisher T) → at (names.publisher number) service.publishers ≡ Some publisher → publisher.stands ≡ true
    → DecidesAs choices may (names.publisher number) publisher)
    → DegradesAs choices may_degrade (names.publisher number) service
    → PutsBy may_degrade may number values old answer new
    → (message : ℕ → ℕ → ℕ) × (reader : ℕ → ℕ → ℕ) × (slot : ℕ)
    × PutTells names (record names { message = message; reader = reader }) number slot values answer old new service state
    × Matches T U choices types buffer (command.Put (names.publisher number) values) (sent_or_skipped answer) state service
    (record names { message = message; reader = reader }) lent held new
