-- A theorem: when a factory is closed, a hub does what the machine does.
use Rattle.std.specs.Prelude.{ℕ, List, Ok}
use Rattle.iox_command.specs.NegotiateBase.DescribeBase.declared.message_type.MessageTypeDetails.{MessageTypeDetails}
use Rattle.iox_command.specs.NegotiateBase.DescribeBase.declared.pattern.MessagingPattern.{MessagingPattern}
use Rattle.iox_command.specs.declared.command.Command.{Command}
use Rattle.iox_command.specs.declared.command.Command.TheVariants as command
use Rattle.iox_command.specs.declared.reply.Reply.{Reply}
use Rattle.iox_domain.specs.declared.ports.service_ports.ServicePorts.{ServicePorts}
use Rattle.iox_domain_machine.specs.Naming.{Naming}
use Rattle.iox_domain_machine.specs.Services.{ComesOnce}
use Rattle.iox_hub_base.specs.declared.hub.Hub.{Hub}
use Rattle.iox_hub_commands.specs.Agreements.{AreOfOneAgreement}
use Rattle.iox_hub_commands.specs.CommandSteps as hub
use Rattle.iox_hub_commands.specs.declared.numbered_hub.NumberedHub.{NumberedHub}
use Rattle.iox_hub_commands.specs.Terms.{Terms}
use Rattle.iox_hub_machine.specs.ServiceLaws.{IsFollowed}
use Rattle.iox_hub_machine.specs.Services.{HubStandsFor}
use Rattle.iox_machine.specs.Choices.{Choices}
use Rattle.iox_machine.specs.Run.{Runs}
use Rattle.iox_machine.specs.State.{State, new_state}
use Rattle.iox_negotiate_machine.specs.Laws.{HaveOwnHashes}

-- A run of a new machine reaches this state.
abbrev pub IsCome : {T : Type 0} → MessageTypeDetails → Choices T → ℕ → State T → Type 0
IsCome {T} types choices buffer state =
    (asked : List (Command T)) × (answers : List (Reply T)) × Runs types choices buffer asked new_state answers state

-- No two services of the hub have the same number, and the factories of a service are counted once.
abbrev pub HasEachOnce : {T U B D : Type 0} → Hub T U B D → Type 0
HasEachOnce hub = ComesOnce hub.services.domains × ComesOnce hub.factory_counts

-- The parameters: the terms of the hub, and the choices; the default values are those of the choices.
module _ {T U B D : Type 0} (terms : Terms T U B D) (choices : Choices T) where
  -- The machine does the same when a factory is closed, or stays because it is in use. This requires that each service of the hub has one
  -- agreement, that no number occurs twice, and that a run of a new machine reached the state that the hub represents.
  abbrev pub ClosingMatches : Type 0
  ClosingMatches = (names : List (List ℕ)) (factory : ℕ) (taken : MessagingPattern → List ℕ → List ℕ) (naming : ℕ → Naming)
      (order : List (ℕ × ServicePorts T U)) (old new : NumberedHub T U B D) (state : State T) (answer : Reply T)
      → HaveOwnHashes names → AreOfOneAgreement old.factories.made old.hub → HasEachOnce old.hub
      → IsCome terms.types choices old.hub.expired_connection_buffer state
      → HubStandsFor choices terms.degrades terms.decides terms.reader_degrades names taken naming order old state
      → hub.Step (record terms { is_default = choices.is_default }) (command.Close factory) old (Ok answer) new
      → IsFollowed terms choices names (command.Close factory) old new state answer
