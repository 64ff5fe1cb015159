-- Theorems: at a command on nodes and services, a hub does what the machine does.
use Rattle.std.specs.Prelude.{ℕ, ◌+◌, ◌^◌, ◌<◌, List, [], length, Ok}
use Rattle.std.specs.List.{IsAmong}
use Rattle.iox_command.specs.DomainValues.declared.backpressure.BackpressureDecision.{BackpressureDecision}
use Rattle.iox_command.specs.DomainValues.declared.backpressure.BackpressureInfo.{BackpressureInfo}
use Rattle.iox_command.specs.DomainValues.declared.degradation.DegradationAction.{DegradationAction}
use Rattle.iox_command.specs.DomainValues.declared.degradation.DegradationCause.{DegradationCause}
use Rattle.iox_command.specs.DomainValues.declared.degradation.DegradationInfo.{DegradationInfo}
use Rattle.iox_command.specs.NegotiateBase.DescribeBase.declared.message_type.MessageTypeDetails.{MessageTypeDetails}
use Rattle.iox_command.specs.NegotiateBase.DescribeBase.declared.pattern.MessagingPattern.{MessagingPattern}
use Rattle.iox_command.specs.declared.command.Command.{Command}
use Rattle.iox_command.specs.declared.command.Command.TheVariants as command
use Rattle.iox_command.specs.declared.reply.Reply.{Reply}
use Rattle.iox_command.specs.declared.reply.Reply.TheVariants as reply
use Rattle.iox_command.specs.declared.step.ForeignStep.{ForeignStep}
use Rattle.iox_command.specs.declared.step.StepBefore.{StepBefore}
use Rattle.iox_domain.specs.declared.ports.service_ports.ServicePorts.{ServicePorts}
use Rattle.iox_domain_machine.specs.Naming.{Naming, nameless}
use Rattle.iox_hub_base.specs.declared.hub.HubConfig.{HubConfig}
use Rattle.iox_hub_commands.specs.CommandSteps as hub
use Rattle.iox_hub_commands.specs.Numbers.{IsNew}
use Rattle.iox_hub_commands.specs.Steps.{lists_of}
use Rattle.iox_hub_commands.specs.declared.numbered_hub.NumberedHub.{NumberedHub}
use Rattle.iox_hub_commands.specs.Terms.{Terms}
use Rattle.iox_hub_machine.specs.Services.{HubStandsFor}
use Rattle.iox_machine.specs.Choices.{Choices}
use Rattle.iox_machine.specs.Run as machine
use Rattle.iox_machine.specs.State.{State, new_state}
use Rattle.iox_negotiate_machine.specs.CallLaws.{AreListed}
use Rattle.iox_negotiate_machine.specs.Laws.{HaveOwnHashes}

-- The lists of actions that a hub makes of those that a command names are the ones that the theorems about calls over a table require.
abbrev pub ListsAreNamed : Type 0
ListsAreNamed = (types : MessageTypeDetails) (name : List ℕ) (steps : List StepBefore)
    → AreListed types name steps (lists_of name types steps)

-- The command creates, opens, opens or creates, or closes a factory.
abbrev pub IsOnServices : {T : Type 0} → Command T → Type 0
IsOnServices (command.Create node name options attributes steps) = Unit {0}
IsOnServices (command.Open node name options required steps) = Unit {0}
IsOnServices (command.OpenOrCreate node name options required steps) = Unit {0}
IsOnServices (command.Close factory) = Unit {0}
IsOnServices other = ⊥

-- A new hub represents a new machine, whatever names are asked for: no number was taken, and no port has a name.
abbrev pub NewHubStands : (T U : Type 0) → {B D : Type 0} → Choices T
    → (B → DegradationCause → DegradationInfo → DegradationAction → Type 0)
    → (B → BackpressureInfo → BackpressureDecision → Type 0) → (D → DegradationCause → DegradationInfo → DegradationAction → Type 0)
    → Type 0
NewHubStands T U {B} {D} choices degrades decides reader_degrades = (names : List (List ℕ)) (config : HubConfig) (hub : NumberedHub T U B D)
    → IsNew config hub
    → HubStandsFor choices degrades decides reader_degrades names (λ pattern name. []) (λ service. nameless) [] hub new_state

-- The parameters: the terms of the hub, and the choices; the default values are those of the choices.
module _ {T U B D : Type 0} (terms : Terms T U B D) (choices : Choices T) where
  -- The machine may give this reply to this command, too, and the hub represents the machine's state afterwards.
  pub record IsFollowed (names : List (List ℕ)) (asked : Command T) (old new : NumberedHub T U B D) (state : State T) (answer : Reply T)
      : Type 0 where
    pub taken : MessagingPattern → List ℕ → List ℕ
    pub naming : ℕ → Naming
    pub order : List (ℕ × ServicePorts T U)
    pub after : State T
    pub step : machine.Step terms.types choices old.hub.expired_connection_buffer asked state answer after
    pub stands : HubStandsFor choices terms.degrades terms.decides terms.reader_degrades names taken naming order new after

  -- If a hub represents a machine, the hub and its reply to this command satisfy `AreFit`, and the hub does what the command says, then the
  -- machine may give this reply, too, and the hub represents the machine's state afterwards.
  abbrev pub FollowsIf : List (List ℕ) → Command T → (NumberedHub T U B D → Reply T → Type 0) → Type 0
  FollowsIf names asked AreFit = (taken : MessagingPattern → List ℕ → List ℕ) (naming : ℕ → Naming)
      (order : List (ℕ × ServicePorts T U)) (old new : NumberedHub T U B D) (state : State T) (answer : Reply T)
      → AreFit old answer
      → HubStandsFor choices terms.degrades terms.decides terms.reader_degrades names taken naming order old state
      → hub.Step (record terms { is_default = choices.is_default }) asked old (Ok answer) new
      → IsFollowed names asked old new state answer

  -- As `FollowsIf`, for any reply, if the hub before the command satisfies `IsFit`.
  abbrev pub Follows : List (List ℕ) → Command T → (NumberedHub T U B D → Type 0) → Type 0
  Follows names asked IsFit = FollowsIf names asked (λ old answer. IsFit old)

  -- The machine does the same when a node is made, if fewer than 2 ^ 64 - 1 nodes were made.
  abbrev pub NodeMatches : Type 0
  NodeMatches = (names : List (List ℕ)) → Follows names command.Node (λ old. old.hub.nodes + 1 < 2 ^ 64)

  -- The machine does the same when other nodes act under a name that is asked for. This requires that no two services of the names that are
  -- asked for share a hash, and that numbers are left for as many locks as there are actions.
  abbrev pub ForeignMatches : Type 0
  ForeignMatches = (names : List (List ℕ)) (pattern : MessagingPattern) (name : List ℕ) (steps : List ForeignStep) → IsAmong names name
      → HaveOwnHashes names
      → Follows names (command.Foreign pattern name steps) (λ old. old.hub.table.next + length steps < 2 ^ 64)

  -- If the hub skips a command on services (`IsOnServices`), the machine skips it, too, and the hub represents the same state.
  abbrev pub SkippedMatches : Type 0
  SkippedMatches = (names : List (List ℕ)) (asked : Command T) (taken : MessagingPattern → List ℕ → List ℕ) (naming : ℕ → Naming)
      (order : List (ℕ × ServicePorts T U)) (old new : NumberedHub T U B D) (state : State T) → IsOnServices asked
      → HubStandsFor choices terms.degrades terms.decides terms.reader_degrades names taken naming order old state
      → hub.Step (record terms { is_default = choices.is_default }) asked old (Ok reply.Skipped) new
      → machine.Step terms.types choices old.hub.expired_connection_buffer asked state reply.Skipped state
      × HubStandsFor choices terms.degrades terms.decides terms.reader_degrades names taken naming order new state
