-- Theorems: the replies of a run of a new hub are ones that a new machine may give.
use Rattle.std.specs.Prelude.{ℕ, ◌+◌, ◌^◌, ◌<◌, ◌≡◌, Bool, true, List, [], ◌∷◌, length}
use Rattle.std.specs.List.{IsAmong}
use Rattle.iox_command.specs.declared.command.Command.{Command}
use Rattle.iox_command.specs.declared.command.Command.TheVariants as command
use Rattle.iox_command.specs.declared.reply.Reply.{Reply}
use Rattle.iox_command.specs.NegotiateBase.DescribeBase.declared.pattern.MessagingPattern.{MessagingPattern}
use Rattle.iox_domain.specs.declared.ports.service_ports.ServicePorts.{ServicePorts}
use Rattle.iox_domain_machine.specs.Naming.{Naming}
use Rattle.iox_hub_base.specs.declared.hub.HubConfig.{HubConfig}
use Rattle.iox_hub_commands.specs.CommandSteps as hub
use Rattle.iox_hub_commands.specs.Numbers.{IsNew}
use Rattle.iox_hub_commands.specs.Runs.{IsRun, Runs}
use Rattle.iox_hub_commands.specs.declared.numbered_hub.NumberedHub.{NumberedHub}
use Rattle.iox_hub_commands.specs.Terms.{Terms}
use Rattle.iox_hub_machine.specs.ArrivalLaws.{AnswersAsFixed, DecidesAsFixed}
use Rattle.iox_hub_machine.specs.Services.{HubStandsFor}
use Rattle.iox_machine.specs.Choices.{as_named}
use Rattle.iox_machine.specs.Run as machine
use Rattle.iox_machine.specs.State.{State, new_state}
use Rattle.iox_negotiate_machine.specs.Laws.{HaveOwnHashes}

module _ {T : Type 0} where
  -- How many actions of other nodes the command names.
  abbrev pub steps_named : Command T → ℕ
  steps_named (command.Create node name options attributes steps) = length steps
  steps_named (command.Open node name options required steps) = length steps
  steps_named (command.OpenOrCreate node name options required steps) = length steps
  steps_named (command.Foreign pattern name steps) = length steps
  steps_named other = 0

  -- How many commands there are, plus the actions of other nodes that they name.
  abbrev pub all_asked : List (Command T) → ℕ
  all_asked [] = 0
  all_asked (asked ∷ more) = 1 + steps_named asked + all_asked more

  -- The names of the services for which commands ask.
  abbrev pub names_in : List (Command T) → List (List ℕ)
  names_in [] = []
  names_in (command.Create node name options attributes steps ∷ more) = name ∷ names_in more
  names_in (command.Open node name options required steps ∷ more) = name ∷ names_in more
  names_in (command.OpenOrCreate node name options required steps ∷ more) = name ∷ names_in more
  names_in (command.Foreign pattern name steps ∷ more) = name ∷ names_in more
  names_in (other ∷ more) = names_in more

  -- The name of the service for which the command asks is among these, if it asks for one.
  abbrev pub AsksAmong : List (List ℕ) → Command T → Type 0
  AsksAmong names (command.Create node name options attributes steps) = IsAmong names name
  AsksAmong names (command.Open node name options required steps) = IsAmong names name
  AsksAmong names (command.OpenOrCreate node name options required steps) = IsAmong names name
  AsksAmong names (command.Foreign pattern name steps) = IsAmong names name
  AsksAmong names other = Unit {0}

-- The parameters: the terms of the hub.
module _ {T U B D : Type 0} (terms : Terms T U B D) where
  -- The replies of a hub to commands are ones that a new machine may give: to all commands, or, if the run stopped, to those before a
  -- command at which a run may stop. This holds if the hub was new, no two services of the names that are asked for share a hash, commands
  -- and actions of other nodes are fewer than 2 ^ 56, and handlers that are made of fixed actions decide by these.
  abbrev pub AnswersAsMachine : HubConfig → List (Command T) → NumberedHub T U B D → List (Reply T) → Bool → Type 0
  AnswersAsMachine config commands old replies stopped =
      DecidesAsFixed terms.fixed terms.degrades terms.decides → AnswersAsFixed terms.fixed_reader terms.reader_degrades
      → IsNew config old → HaveOwnHashes (names_in commands)
      → all_asked commands < 2 ^ 56
      → machine.Answers terms.types (as_named terms.is_default) config.expired_connection_buffer commands stopped replies

  -- The replies of each run are ones that a new machine may give (`AnswersAsMachine`), if in a run that stopped each command did what
  -- `StepInRoom` says.
  abbrev pub RunAnswers : Type 0
  RunAnswers = (config : HubConfig) (commands : List (Command T)) (old new : NumberedHub T U B D) (replies : List (Reply T))
      (stopped : Bool)
      → IsRun (hub.Step terms) commands old replies stopped new
      → (stopped ≡ true → IsRun (hub.StepInRoom terms) commands old replies stopped new)
      → AnswersAsMachine config commands old replies stopped

  -- A hub that replied to commands represents a state that a new machine reaches with the same replies.
  abbrev pub StandsAsMachine : HubConfig → List (Command T) → NumberedHub T U B D → List (Reply T) → Type 0
  StandsAsMachine config commands new replies =
      (taken : MessagingPattern → List ℕ → List ℕ) × (naming : ℕ → Naming) × (order : List (ℕ × ServicePorts T U)) × (after : State T)
      × machine.Runs terms.types (as_named terms.is_default) config.expired_connection_buffer commands new_state replies after
      × HubStandsFor (as_named terms.is_default) terms.degrades terms.decides terms.reader_degrades (names_in commands) taken naming order
      new after

  -- After each run that doesn't stop, the hub represents a state that a new machine reaches with the same replies, under the premises of
  -- `AnswersAsMachine`.
  abbrev pub RunStands : Type 0
  RunStands = (config : HubConfig) (commands : List (Command T)) (old new : NumberedHub T U B D) (replies : List (Reply T))
      → Runs (hub.Step terms) commands old replies new
      → DecidesAsFixed terms.fixed terms.degrades terms.decides → AnswersAsFixed terms.fixed_reader terms.reader_degrades
      → IsNew config old → HaveOwnHashes (names_in commands)
      → all_asked commands < 2 ^ 56
      → StandsAsMachine config commands new replies
