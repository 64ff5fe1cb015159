-- Writing a user header doesn't change which service the ports represent, and the header of a sample says what the machine has
-- of it.
use Rattle.std.specs.Prelude.{ℕ, ◌≡◌, Bool, List, Some}
use Rattle.iox_domain.specs.DescribeBase.declared.header.Header.{Header}
use Rattle.iox_domain.specs.DomainPorts.Messages.{write_user_header}
use Rattle.iox_domain.specs.DomainPorts.declared.attached.Taken.{Taken}
use Rattle.iox_domain.specs.DomainPorts.declared.publisher_port.PublisherPort.{PublisherPort}
use Rattle.iox_domain.specs.Lending.{written_in}
use Rattle.iox_domain.specs.Reading.{header_in}
use Rattle.iox_domain.specs.declared.ports.service_ports.ServicePorts.{ServicePorts}
use Rattle.iox_domain_machine.specs.Naming.{Naming}
use Rattle.iox_domain_machine.specs.Standing.{StandsFor}
use Rattle.iox_domain_machine.specs.Tables.{LentSlot}
use Rattle.iox_machine.specs.Message.{Sample}
use Rattle.iox_machine.specs.Service.{Service}
use Rattle.iox_machine.specs.Table.{at}

-- After the user header of a loan was written, if its publisher passes a test, the ports represent the same service.
abbrev pub UserHeaderStands : Type 0 → Type 0 → Type 0
UserHeaderStands T U = (names : Naming) (lent : List (ℕ × LentSlot)) (held : List (ℕ × Taken)) (buffer : ℕ) (ports : ServicePorts T U)
    (service : Service T) (publisher slot : ℕ) (test : PublisherPort T U → Bool) (user_header : U)
    → StandsFor names lent held buffer ports service
    → StandsFor names lent held buffer (written_in publisher test slot (write_user_header user_header) ports) service

-- The sample has a header, which says what the machine's sample does: its publisher, by name, and its sequence number.
pub record HeaderTells {T U : Type 0} (names : Naming) (ports : ServicePorts T U) (taken : Taken) (sample : Sample T) : Type 0 where
  pub header : Header
  pub found : header_in taken ports ≡ Some header
  pub sequence : header.sequence ≡ sample.message.sequence
  pub publisher : names.publisher header.publisher_id ≡ sample.publisher

-- The header of the sample with this number says what the machine has of it.
abbrev pub HeaderMatches : Type 0 → Type 0 → Type 0
HeaderMatches T U = (names : Naming) (lent : List (ℕ × LentSlot)) (held : List (ℕ × Taken)) (buffer : ℕ) (ports : ServicePorts T U)
    (service : Service T) (number : ℕ) (taken : Taken)
    → StandsFor names lent held buffer ports service → at number held ≡ Some taken
    → (sample : Sample T) × (at number service.samples ≡ Some sample) × HeaderTells names ports taken sample
