-- Theorems: a table of services does what the machine does in its phases.
use Rattle.std.specs.Prelude.{ℕ, ◌+◌, ◌^◌, ◌≡◌, ◌<◌, List, [], ◌++◌, length, map, take, fold, Result, Ok, Err, MatchResult}
use Rattle.std.specs.List.{AllByRecursion, IsAmong}
use Rattle.std.specs.declared.alloc.AllocError.{AllocError}
use Rattle.iox_command.specs.NegotiateBase.Describe.Within.{HasForm}
use Rattle.iox_command.specs.NegotiateBase.DescribeBase.Hash.{service_hash_of}
use Rattle.iox_command.specs.NegotiateBase.DescribeBase.declared.message_type.MessageTypeDetails.{MessageTypeDetails}
use Rattle.iox_command.specs.NegotiateBase.DescribeBase.declared.pattern.MessagingPattern.{MessagingPattern}
use Rattle.iox_command.specs.Patterns.{pattern_of}
use Rattle.iox_command.specs.declared.command.Command.TheVariants as command
use Rattle.iox_command.specs.declared.refusal.HubError.TheVariants.{OutOfMemory}
use Rattle.iox_command.specs.declared.refusal.Refusal.TheVariants as refusal
use Rattle.iox_command.specs.declared.reply.Reply.{Reply}
use Rattle.iox_command.specs.declared.reply.Reply.TheVariants as reply
use Rattle.iox_command.specs.declared.service.ServiceOptions.{ServiceOptions}
use Rattle.iox_command.specs.declared.step.ForeignStep.{ForeignStep}
use Rattle.iox_command.specs.declared.step.ForeignStep.TheVariants as step
use Rattle.iox_machine.specs.Choices.{Choices}
use Rattle.iox_machine.specs.Agreement.{Agreement}
use Rattle.iox_machine.specs.Asked.{settings_of}
use Rattle.iox_machine.specs.Phase.{acted}
use Rattle.iox_machine.specs.Run.{Step}
use Rattle.iox_machine.specs.State.{State, new_state, with_phase}
use Rattle.iox_negotiate_machine.specs.Standing.{TableStands, description_of}
use Rattle.iox_negotiate_table.specs.Contents.{Contents, empty_table}
use Rattle.iox_negotiate_table.specs.Stepped.{ActsAll}
use Rattle.iox_negotiate_table.specs.declared.step.ForeignStep.{ForeignStep as TableStep}
use Rattle.iox_negotiate_table.specs.declared.step.ForeignStep.TheVariants as table_step

-- No two services with these names have the same hash, whatever their patterns are.
abbrev pub HaveOwnHashes : List (List ℕ) → Type 0
HaveOwnHashes names = (one other : MessagingPattern) (name another : List ℕ) → IsAmong names name → IsAmong names another
    → service_hash_of one name ≡ service_hash_of other another → (one ≡ other) × (name ≡ another)

-- Further numbers may have been taken; those that were taken before stay as they were.
abbrev pub GoOn : (MessagingPattern → List ℕ → List ℕ) → (MessagingPattern → List ℕ → List ℕ) → Type 0
GoOn taken later = (pattern : MessagingPattern) (name : List ℕ) → (more : List ℕ) × (later pattern name ≡ more ++ taken pattern name)

module _ (types : MessageTypeDetails) (name : List ℕ) where
  -- The agreement if another node publishes a service with these options.
  abbrev pub published_with : ServiceOptions → Agreement
  published_with options = record { settings = settings_of types options; attributes = [] }

  -- The action of the machine as an action on a table.
  abbrev pub table_step_of : ForeignStep → TableStep
  table_step_of (step.Lock node) = table_step.Lock node
  table_step_of (step.GiveUp node) = table_step.GiveUp node
  table_step_of (step.Publish node options) = table_step.Publish node (description_of (pattern_of options) name (published_with options))
  table_step_of (step.PublishV1 node options) =
      table_step.PublishV1 node (description_of (pattern_of options) name (published_with options))
  table_step_of (step.Register node) = table_step.Register node
  table_step_of (step.Leave node) = table_step.Leave node
  table_step_of (step.Remove node) = table_step.Remove node

  -- What the action publishes has the form of a description. Any name, types and numbers of the code give one with that form
  -- (`parts_have_form`).
  abbrev pub HasStepForm : ForeignStep → Type 0
  HasStepForm (step.Publish node options) = HasForm (description_of (pattern_of options) name (published_with options))
  HasStepForm (step.PublishV1 node options) = HasForm (description_of (pattern_of options) name (published_with options))
  HasStepForm other = Unit {0}

-- The reply to actions of other nodes: they were done, or one ran out of memory.
abbrev pub steps_reply : {T : Type 0} → Result (Unit {0}) AllocError → Reply T
steps_reply (Ok done) = reply.Done
steps_reply (Err lacking) = reply.Refused (refusal.Hub OutOfMemory)

module _ (T : Type 0) where
  -- A new table represents the phases of a new machine.
  abbrev pub NewTableStands : Type 0
  NewTableStands = (names : List (List ℕ)) (id : ℕ)
      → TableStands {T = T} names (λ pattern name. []) (empty_table id) new_state

  -- Actions of other nodes on a table change the phase of their pattern and name as the machine says, one after the other; if one
  -- runs out of memory, those before it stay done. All other phases stay. Premise: a number is left for each lock that they take.
  abbrev pub ForeignStepsMatch : Type 0
  ForeignStepsMatch = (names : List (List ℕ)) (types : MessageTypeDetails) (pattern : MessagingPattern) (name : List ℕ)
      (steps : List ForeignStep) (taken : MessagingPattern → List ℕ → List ℕ) (old new : Contents) (result : Result (Unit {0}) AllocError)
      (state : State T)
      → HaveOwnHashes names → IsAmong names name → AllByRecursion (HasStepForm types name) steps → old.next + length steps < 2 ^ 64
      → TableStands names taken old state
      → ActsAll (service_hash_of pattern name) (map (table_step_of types name) steps) old result new
      → (later : MessagingPattern → List ℕ → List ℕ) × GoOn taken later
      × MatchResult result
      (λ done. TableStands names later new
      (with_phase pattern name (fold (acted types pattern) (state.phases pattern name) steps) state))
      (λ lacking. (done : ℕ) × (done < length steps) × TableStands names later new
      (with_phase pattern name (fold (acted types pattern) (state.phases pattern name) (take done steps)) state))

  -- The command by which other nodes do these actions has a reply that the machine may give, and the table represents the machine's state
  -- afterwards.
  abbrev pub ForeignMatches : Choices T → Type 0
  ForeignMatches choices = (names : List (List ℕ)) (types : MessageTypeDetails) (buffer : ℕ) (pattern : MessagingPattern)
      (name : List ℕ) (steps : List ForeignStep) (taken : MessagingPattern → List ℕ → List ℕ) (old new : Contents)
      (result : Result (Unit {0}) AllocError) (state : State T)
      → HaveOwnHashes names → IsAmong names name → AllByRecursion (HasStepForm types name) steps → old.next + length steps < 2 ^ 64
      → TableStands names taken old state
      → ActsAll (service_hash_of pattern name) (map (table_step_of types name) steps) old result new
      → (later : MessagingPattern → List ℕ → List ℕ) × GoOn taken later
      × (after : State T) × Step types choices buffer (command.Foreign pattern name steps) state (steps_reply result) after
      × TableStands names later new after
