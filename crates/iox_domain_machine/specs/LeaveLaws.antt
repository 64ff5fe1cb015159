-- Closing a publisher or a subscriber in a domain matches the machine's command.
use Rattle.std.specs.Prelude.{ℕ, ◌≡◌, ◌≢◌, Bool, true, List}
use Rattle.iox_command.specs.NegotiateBase.DescribeBase.declared.message_type.MessageTypeDetails.{MessageTypeDetails}
use Rattle.iox_command.specs.declared.command.Command.TheVariants as command
use Rattle.iox_command.specs.declared.port.PortNumber.TheVariants as port
use Rattle.iox_domain.specs.DomainPorts.declared.attached.Taken.{Taken}
use Rattle.iox_domain.specs.PortLawsLaws.{IsSound}
use Rattle.iox_domain.specs.Rolls.{may_change}
use Rattle.iox_domain.specs.Roomy.{AreRoomy}
use Rattle.iox_domain.specs.Steps.{PublisherLeaves, SubscriberLeaves}
use Rattle.iox_domain.specs.declared.ports.service_ports.ServicePorts.{ServicePorts}
use Rattle.iox_domain_machine.specs.Laws.{Matches, done_or_skipped}
use Rattle.iox_domain_machine.specs.Naming.{Naming}
use Rattle.iox_domain_machine.specs.Standing.{StandsFor}
use Rattle.iox_domain_machine.specs.Tables.{LentSlot}
use Rattle.iox_machine.specs.Choices.{Choices}
use Rattle.iox_machine.specs.Service.{Service}
use Rattle.iox_machine.specs.State.{State}

-- Closing a publisher matches the command. The theorem assumes that the ports are sound, as they are after any calls
-- (`HeldStays`), and that one more change of the list of publishers can be counted.
abbrev pub PublisherLeaveMatches : (T U : Type 0) → Choices T → Type 0
PublisherLeaveMatches T U choices = (types : MessageTypeDetails) (buffer : ℕ) (names : Naming) (lent : List (ℕ × LentSlot))
    (held : List (ℕ × Taken)) (old new : ServicePorts T U) (service : Service T) (state : State T) (number : ℕ) (answer : Bool)
    → StandsFor names lent held buffer old service → IsSound old → names.publisher number ≢ 0 → may_change old.publisher_list ≡ true
    → PublisherLeaves number old answer new
    → Matches T U choices types buffer (command.Leave (port.Publisher (names.publisher number))) (done_or_skipped answer) state
    service names lent held new

-- Closing a subscriber matches the command. The theorem assumes that the ports are roomy, as they are after any calls
-- (`SamplesLeft`), and that one more change of the list of subscribers can be counted.
abbrev pub SubscriberLeaveMatches : (T U : Type 0) → Choices T → Type 0
SubscriberLeaveMatches T U choices = (types : MessageTypeDetails) (buffer : ℕ) (names : Naming) (lent : List (ℕ × LentSlot))
    (held : List (ℕ × Taken)) (old new : ServicePorts T U) (service : Service T) (state : State T) (number : ℕ) (answer : Bool)
    → StandsFor names lent held buffer old service → AreRoomy old → names.subscriber number ≢ 0 → may_change old.subscriber_list ≡ true
    → SubscriberLeaves number old answer new
    → Matches T U choices types buffer (command.Leave (port.Subscriber (names.subscriber number))) (done_or_skipped answer) state
    service names lent held new
