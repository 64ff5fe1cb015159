-- Theorems: creating and opening a service over a table does what the machine does in the service's phase.
use Rattle.std.specs.Prelude.{ℕ, ◌+◌, ◌-◌, ◌^◌, ◌≡◌, ◌<◌, List, drop, length, map, Bool, true, Some, Result, Ok, Err, IfOk}
use Rattle.std.specs.List.{AllByRecursion, IsAmong}
use Rattle.std.specs.Result.{result_map_both}
use Rattle.iox_command.specs.NegotiateBase.DescribeBase.Hash.{service_hash_of}
use Rattle.iox_command.specs.NegotiateBase.DescribeBase.declared.attribute.Attribute.{Attribute}
use Rattle.iox_command.specs.NegotiateBase.DescribeBase.declared.message_type.MessageTypeDetails.{MessageTypeDetails}
use Rattle.iox_command.specs.NegotiateBase.DescribeBase.declared.pattern.MessagingPattern.{MessagingPattern}
use Rattle.iox_command.specs.NegotiateBase.DescribeSettings.Agreement.{Agreement as Description, AreWithinLimits, HasNoRoomForHistory}
use Rattle.iox_command.specs.NegotiateBase.declared.failure.CreateFailure.{CreateFailure}
use Rattle.iox_command.specs.NegotiateBase.declared.failure.OpenFailure.{OpenFailure}
use Rattle.iox_command.specs.NegotiateBase.declared.failure.OpenFailure.TheVariants as unopened
use Rattle.iox_command.specs.NegotiateBase.declared.failure.OpenOrCreateFailure.{OpenOrCreateFailure}
use Rattle.iox_command.specs.NegotiateBase.declared.failure.OpenOrCreateFailure.TheVariants as neither
use Rattle.iox_command.specs.NegotiateBase.declared.request.Opened.{Opened}
use Rattle.iox_command.specs.Patterns.{pattern_of}
use Rattle.iox_command.specs.declared.service.ServiceOptions.{ServiceOptions}
use Rattle.iox_command.specs.declared.step.StepBefore.{StepBefore}
use Rattle.iox_machine.specs.Agreement.{Agreement}
use Rattle.iox_machine.specs.Asked.{settings_of}
use Rattle.iox_machine.specs.Negotiation.{Call, Answer, Access, Rounds, Creates, OpenLooks, EitherLooks}
use Rattle.iox_machine.specs.Phase.{Own, Phase, Published, is_in}
use Rattle.iox_machine.specs.State.{State, with_phase}
use Rattle.iox_negotiate.specs.Factory.{membership}
use Rattle.iox_negotiate.specs.Negotiation as built
use Rattle.iox_negotiate.specs.declared.factory.Membership.{Membership}
use Rattle.iox_negotiate_machine.specs.Laws.{HaveOwnHashes, GoOn, HasStepForm, table_step_of}
use Rattle.iox_machine.specs.RefusalLaws.{steps_at}
use Rattle.iox_negotiate_machine.specs.Standing.{TableStands, IsLast, counts_of, description_of}
use Rattle.iox_negotiate_table.specs.Contents.{Contents}
use Rattle.iox_negotiate_table.specs.NegotiateBase.Opening as rounds
use Rattle.iox_negotiate_table.specs.Stepped.{Steps, SteppedSight, next_list}
use Rattle.iox_negotiate_table.specs.declared.step.ForeignStep.{ForeignStep as TableStep}

-- Before each of the first sixteen storage operations come the actions that are named before it, as actions on the table; no call makes
-- more storage operations.
abbrev pub AreListed : MessageTypeDetails → List ℕ → List StepBefore → List (List TableStep) → Type 0
AreListed types name steps lists =
    (made : ℕ) → made < 16 → next_list (drop made lists) ≡ map (table_step_of types name) (steps_at steps (made + 1))

-- What is published before each of the first sixteen storage operations has the form of a description. Whatever the code makes of the named
-- options has this form.
abbrev pub HaveStepForms : MessageTypeDetails → List ℕ → List StepBefore → Type 0
HaveStepForms types name steps = (made : ℕ) → made < 16 → AllByRecursion (HasStepForm types name) (steps_at steps (made + 1))

-- Whether a service that was opened or created is new, or why the call failed.
abbrev pub newness_of : {F : Type 0} → Result Opened F → Result Bool F
newness_of (Ok opened) = Ok opened.is_new
newness_of (Err failure) = Err failure

-- The service that a node opened is that of the phase: the node is registered in it, it is published under the number that was taken
-- last, and its description is that of the phase's agreement.
abbrev pub IsServiceIn : ℕ → MessagingPattern → List ℕ → Phase → List ℕ → Opened → Type 0
IsServiceIn node pattern name (Published life agreed nodes) taken opened =
    (is_in (Own node) nodes ≡ true) × IsLast (λ number. opened.number ≡ number) taken
    × (opened.description ≡ description_of pattern name agreed)
IsServiceIn node pattern name other taken opened = ⊥

-- A node may get one factory more: it has fewer than 2 ^ 64 - 1 of the service.
abbrev pub HasFewFactories : ℕ → Phase → Type 0
HasFewFactories node (Published life agreed nodes) = AllByRecursion (λ count. count < 2 ^ 64 - 1) (counts_of (Own node) nodes)
HasFewFactories node other = Unit {0}

-- The result of a node's call is one of a call of the machine: the builder reports the machine's answer by `error`, a service that was
-- opened is that of the phase afterwards, and the table represents the machine with this phase.
pub record CallMatches {T F E : Type 0} (names : List (List ℕ)) (pattern : MessagingPattern) (name : List ℕ)
    (taken : MessagingPattern → List ℕ → List ℕ) (storage node : ℕ) (error : F → E) (state : State T)
    (Calls : Call → Answer F → Call → Type 0) (result : Result Membership E) (end : Contents) : Type 0 where
  pub later : MessagingPattern → List ℕ → List ℕ
  pub goes_on : GoOn taken later
  pub found : Result Opened F
  pub told : result ≡ result_map_both (membership storage node) error found
  pub after : Call
  pub calls : Calls (record { phase = state.phases pattern name; accesses = 0 }) (Some (newness_of found)) after
  pub opened : IfOk found (λ service. IsServiceIn node pattern name after.phase (later pattern name) service)
  pub stands : TableStands names later end (with_phase pattern name after.phase state)

module _ (T E : Type 0) where
  -- A builder that creates a service over a table, as options ask and with these attributes, does what the machine does, each refusal
  -- in its order, with the actions of other nodes between its storage operations. Premise: a number is left for each lock that it or those
  -- nodes take.
  abbrev pub CreateMatches : Type 0
  CreateMatches = (names : List (List ℕ)) (types : MessageTypeDetails) (name : List ℕ) (node storage : ℕ)
      (named : ServiceOptions) (attributes : List Attribute) (steps : List StepBefore) (lists : List (List TableStep))
      (taken : MessagingPattern → List ℕ → List ℕ) (old : Contents) (end : Steps) (error : CreateFailure → E)
      (result : Result Membership E) (state : State T)
      → HaveOwnHashes names → IsAmong names name → HaveStepForms types name steps
      → old.next + length steps + 1 < 2 ^ 64
      → AreListed types name steps lists → TableStands names taken old state
      → built.Creates SteppedSight storage (service_hash_of (pattern_of named) name) node
      (description_of (pattern_of named) name (record { settings = settings_of types named; attributes = attributes }))
      (AreWithinLimits (settings_of types named)) (HasNoRoomForHistory (settings_of types named)) error
      (record { table = old; lists = lists }) result end
      → CallMatches names (pattern_of named) name taken storage node error state
      (Creates types (pattern_of named) steps (Own node) (record { settings = settings_of types named; attributes = attributes }))
      result end.table

module _ (T V E : Type 0) where
  -- A builder that opens a service over a table, if the service meets what is asked, does what the machine does: at most five rounds,
  -- each of them a lookup and what follows from it, with the actions of other nodes between its storage operations. Premises: the
  -- description is judged as the agreement that it describes, a number is left for each lock that those nodes take, and the node may get
  -- one factory more.
  abbrev pub OpenMatches : Type 0
  OpenMatches = (names : List (List ℕ)) (types : MessageTypeDetails) (pattern : MessagingPattern) (name : List ℕ) (node storage : ℕ)
      (judge : Description → Result (Unit {0}) V) (verdict : Agreement → Result (Unit {0}) V) (steps : List StepBefore)
      (lists : List (List TableStep)) (taken : MessagingPattern → List ℕ → List ℕ) (old : Contents) (end : Steps)
      (error : OpenFailure V → E)
      (result : Result Membership E) (state : State T)
      → HaveOwnHashes names → IsAmong names name → HaveStepForms types name steps
      → old.next + length steps < 2 ^ 64
      → AreListed types name steps lists → TableStands names taken old state → HasFewFactories node (state.phases pattern name)
      → ((agreed : Agreement) → judge (description_of pattern name agreed) ≡ verdict agreed)
      → built.Negotiates SteppedSight storage node error (λ made answer. rounds.Opens (service_hash_of pattern name) node judge made answer)
      (record { table = old; lists = lists }) result end
      → CallMatches names pattern name taken storage node error state
      (Rounds (Access types pattern steps (Own node) unopened.OutOfMemory (OpenLooks types pattern steps (Own node) verdict))
      unopened.ServiceInCorruptedState 5)
      result end.table

  -- The same holds for a builder that opens a service, or creates it as options ask and with these attributes if it doesn't exist. A
  -- further premise: a number is left for its own lock, too.
  abbrev pub OpenOrCreateMatches : Type 0
  OpenOrCreateMatches = (names : List (List ℕ)) (types : MessageTypeDetails) (name : List ℕ) (node storage : ℕ)
      (judge : Description → Result (Unit {0}) V) (verdict : Agreement → Result (Unit {0}) V) (named : ServiceOptions)
      (attributes : List Attribute) (steps : List StepBefore) (lists : List (List TableStep)) (taken : MessagingPattern → List ℕ → List ℕ)
      (old : Contents) (end : Steps) (error : OpenOrCreateFailure V → E) (result : Result Membership E) (state : State T)
      → HaveOwnHashes names → IsAmong names name → HaveStepForms types name steps
      → old.next + length steps + 1 < 2 ^ 64
      → AreListed types name steps lists → TableStands names taken old state → HasFewFactories node (state.phases (pattern_of named) name)
      → ((agreed : Agreement) → judge (description_of (pattern_of named) name agreed) ≡ verdict agreed)
      → built.Either SteppedSight storage (service_hash_of (pattern_of named) name) node judge
      (description_of (pattern_of named) name (record { settings = settings_of types named; attributes = attributes }))
      (AreWithinLimits (settings_of types named)) (HasNoRoomForHistory (settings_of types named)) error
      (record { table = old; lists = lists }) result end
      → CallMatches names (pattern_of named) name taken storage node error state
      (Rounds (Access types (pattern_of named) steps (Own node) (neither.Open unopened.OutOfMemory)
      (EitherLooks types (pattern_of named) steps (Own node) verdict
      (record { settings = settings_of types named; attributes = attributes })))
      neither.SystemInFlux 5)
      result end.table
