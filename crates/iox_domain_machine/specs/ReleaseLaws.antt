-- The release of a sample in a domain matches the machine's command.
use Rattle.std.specs.Prelude.{ℕ, ◌≡◌, Bool, List, Some}
use Rattle.iox_command.specs.NegotiateBase.DescribeBase.declared.message_type.MessageTypeDetails.{MessageTypeDetails}
use Rattle.iox_command.specs.declared.command.Command.TheVariants as command
use Rattle.iox_domain.specs.DomainPorts.declared.attached.Taken.{Taken}
use Rattle.iox_domain.specs.PortLawsLaws.{IsSound}
use Rattle.iox_domain.specs.PortsSubscribing.{Releases}
use Rattle.iox_domain.specs.declared.ports.service_ports.ServicePorts.{ServicePorts}
use Rattle.iox_domain_machine.specs.Laws.{Matches, done_or_skipped}
use Rattle.iox_domain_machine.specs.Naming.{Naming}
use Rattle.iox_domain_machine.specs.Standing.{StandsFor}
use Rattle.iox_domain_machine.specs.Tables.{LentSlot}
use Rattle.iox_machine.specs.Choices.{Choices}
use Rattle.iox_machine.specs.Service.{Service}
use Rattle.iox_machine.specs.State.{State}
use Rattle.iox_machine.specs.Table.{at, removed}

-- Releasing a sample, by the subscriber that received it, matches the command. The theorem assumes that the ports are sound, as
-- they are after any calls (`HeldStays`).
abbrev pub ReleaseMatches : (T U : Type 0) → Choices T → Type 0
ReleaseMatches T U choices = (types : MessageTypeDetails) (buffer : ℕ) (names : Naming) (lent : List (ℕ × LentSlot))
    (held : List (ℕ × Taken)) (old new : ServicePorts T U) (service : Service T) (state : State T) (sample : ℕ) (taken : Taken)
    (answer : Bool)
    → StandsFor names lent held buffer old service → IsSound old → at sample held ≡ Some taken
    → Releases taken.subscriber taken old answer new
    → Matches T U choices types buffer (command.Release sample) (done_or_skipped answer) state
    service names lent (removed sample held) new
