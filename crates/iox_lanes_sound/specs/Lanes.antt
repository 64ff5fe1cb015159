-- When the lanes of a domain represent the service of the machine that its ports represent, and what follows for calls that don't overlap.
use Rattle.std.specs.Prelude.{ℕ, ◌≡◌, false, List, [], ◌∷◌, Option, Some}
use Rattle.iox_command.specs.DomainValues.Actions.{decision_of}
use Rattle.iox_command.specs.NegotiateBase.DescribeBase.declared.message_type.MessageTypeDetails.{MessageTypeDetails}
use Rattle.iox_domain.specs.DomainValues.declared.backpressure.BackpressureDecision.{BackpressureDecision}
use Rattle.iox_domain.specs.DomainPorts.declared.attached.Taken.{Taken}
use Rattle.iox_domain.specs.Kept.{kept_under}
use Rattle.iox_domain.specs.Roomy.{AreRoomy}
use Rattle.iox_domain.specs.declared.domain.Domain.{Domain}
use Rattle.iox_domain_machine.specs.Naming.{Naming}
use Rattle.iox_domain_machine.specs.Standing.{StandsFor}
use Rattle.iox_domain_machine.specs.Tables.{LentSlot}
use Rattle.iox_lanes_machine.specs.LanesParties.declared.call.Call.{Call}
use Rattle.iox_lanes_machine.specs.LanesParties.declared.call.Party.{Party}
use Rattle.iox_lanes_machine.specs.World.{World}
use Rattle.iox_lanes_service.specs.Naming.{LaneNaming}
use Rattle.iox_lanes_service.specs.Standing.{LanesStandFor}
use Rattle.iox_lanes_service.specs.TurnLaws.{GoInTurn, IsRun, LaneNumbers}
use Rattle.iox_lanes_sound.specs.Having.{AreReadBack, lane_names}
use Rattle.iox_machine.specs.Choices.{Choices}
use Rattle.iox_machine.specs.Service.{Publisher, Service}
use Rattle.iox_machine.specs.State.{State}
use Rattle.iox_machine.specs.Table.{at}

-- If mailboxes don't overflow: what the handlers that are kept for a publisher decide (`decision`) may be chosen for the machine's
-- publisher
-- with its name, when it finds a mailbox full. Nothing is said of handlers that are objects.
abbrev pub DecideAsKept : {T U B D : Type 0} → (B → Option BackpressureDecision) → Choices T → Naming → Domain T U B D → Service T → Type 0
DecideAsKept {T} {U} {B} {D} decision choices names domain service =
    domain.state.ports.sizes.enable_safe_overflow ≡ false
    → (number : ℕ) (handlers : B) (decided : BackpressureDecision) (publisher : Publisher T)
    → kept_under number domain.state.publisher_handlers ≡ Some handlers → decision handlers ≡ Some decided
    → at (names.publisher number) service.publishers ≡ Some publisher
    → choices.publisher_decides (names.publisher number) 0 0 (decision_of publisher.strategy publisher.handler) decided

-- The lanes of a domain, whose publishers and subscribers have these numbers by place, represent each service of the machine that its ports
-- represent, if the ports are in order, the words of messages give their values back, and the machine's publishers may decide as kept.
abbrev pub StandAsPorts : {T U B D : Type 0} → (B → Option BackpressureDecision) → Choices T → (T → List ℕ) → (List ℕ → T)
    → Domain T U B D → World → List ℕ → List ℕ → Type 0
StandAsPorts {T} decision choices payload_words value domain lanes senders readers = (names : Naming) (lent : List (ℕ × LentSlot))
    (held : List (ℕ × Taken)) (buffer : ℕ) (service : Service T) → StandsFor names lent held buffer domain.state.ports service
    → AreRoomy domain.state.ports → AreReadBack payload_words value domain.state.ports → DecideAsKept decision choices names domain service
    → LanesStandFor choices value (lane_names names domain.state.ports.sizes.sequence_numbers senders readers lanes) [] [] lanes service

-- The numbers that the machine has for what lanes have before their first step: there is no loan and no sample.
abbrev pub begun_numbers : LaneNaming → LaneNumbers
begun_numbers names = record { names = names; lent = []; held = [] }

-- Calls that don't overlap, from the lanes of this domain on, are a run of a machine whose one service is the one that the ports represent.
abbrev pub TurnsGoOnAsPorts : {T U B D : Type 0} → (B → Option BackpressureDecision) → Choices T → (T → List ℕ) → (List ℕ → T)
    → Domain T U B D → World → List ℕ → List ℕ → Type 0
TurnsGoOnAsPorts {T} decision choices payload_words value domain lanes senders readers = (types : MessageTypeDetails) (most_buffered : ℕ)
    (names : Naming) (lent : List (ℕ × LentSlot)) (held : List (ℕ × Taken)) (buffer : ℕ) (service : Service T)
    → StandsFor names lent held buffer domain.state.ports service
    → AreRoomy domain.state.ports → AreReadBack payload_words value domain.state.ports → DecideAsKept decision choices names domain service
    → (state : State T) (calls : List (Party × Call)) (n : World) → state.services ≡ service ∷ [] → GoInTurn lanes calls n
    → IsRun choices value types most_buffered
    (begun_numbers (lane_names names domain.state.ports.sizes.sequence_numbers senders readers lanes)) lanes state calls n
