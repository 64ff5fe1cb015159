-- Ports that represent a service of the machine, and what the machine doesn't say of them.
use Rattle.std.specs.Prelude.{ℕ, ◌≡◌, ◌<◌, ◌≤◌, true, false, List, length}
use Rattle.std.specs.List.{All}
use Rattle.iox_domain.specs.DomainPorts.Ports.{connection_of}
use Rattle.iox_domain.specs.DomainPorts.declared.attached.Taken.{Taken}
use Rattle.iox_domain.specs.DomainPorts.declared.publisher_port.PublisherPort.{PublisherPort}
use Rattle.iox_domain.specs.DomainSlots.Uses.{is_there}
use Rattle.iox_domain.specs.Roomy.{AreRoomy}
use Rattle.iox_domain.specs.declared.ports.service_ports.ServicePorts.{ServicePorts}
use Rattle.iox_domain_machine.specs.Naming.{Naming}
use Rattle.iox_domain_machine.specs.Standing.{StandsFor}
use Rattle.iox_domain_machine.specs.Tables.{LentSlot}
use Rattle.iox_lanes_opening.specs.Lingering.{is_lingering}
use Rattle.iox_lanes_opening.specs.Soundness.{is_unsound}
use Rattle.iox_machine.specs.Service.{Service}

-- The slots of a publisher are of one segment, it keeps at most the agreed history, and at least one message may wait at each connection
-- that exists.
pub record KeepsToOne {T U : Type 0} (port : PublisherPort T U) : Type 0 where
  pub first : port.sender.uses.first ≡ 0
  pub few : length port.sender.uses.history ≤ port.sender.uses.kept
  pub some : (index : ℕ) → is_there (connection_of index port) ≡ true → 0 < (connection_of index port).limit

-- Each of these publishers is as `KeepsToOne` says.
abbrev pub AllKeepToOne : {T U : Type 0} → ServicePorts T U → Type 0
AllKeepToOne ports = All (λ entry. KeepsToOne entry.1) ports.publishers

-- Ports that represent a service of the machine and are in order are sound, if they have no loan, no sample, no connection of a closed
-- publisher and no closed port (`is_lingering`), and each publisher keeps to one segment, to the agreed history, and to connections at
-- which a message may wait.
abbrev pub StandingPortsAreSound : (T U : Type 0) → Type 0
StandingPortsAreSound T U = (names : Naming) (lent : List (ℕ × LentSlot)) (held : List (ℕ × Taken)) (buffer : ℕ)
    (ports : ServicePorts T U) (service : Service T) → StandsFor names lent held buffer ports service → AreRoomy ports
    → is_lingering ports ≡ false → AllKeepToOne ports → is_unsound ports ≡ false
