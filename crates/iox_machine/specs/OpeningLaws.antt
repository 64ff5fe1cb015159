-- Theorems about openings: an opened service meets what was asked for, or the refusal names a clause that isn't met.
use Rattle.std.specs.Prelude.{ℕ, ◌≡◌, ◌<◌, ◌⊎◌, ⊤, Some, Result, Ok, Err, List, [], ◌∷◌}
use Rattle.iox_machine.specs.Choices.{Choices}
use Rattle.iox_machine.specs.Agreement.{Agreement, verdict}
use Rattle.iox_machine.specs.AgreementLaws.{agreed_in, life_of}
use Rattle.iox_machine.specs.Asked.{settings_of}
use Rattle.iox_machine.specs.Phase.{Node, Own, Phase, Published}
use Rattle.iox_machine.specs.Refusals.{open_refusal, either_refusal}
use Rattle.iox_machine.specs.Run.{Step}
use Rattle.iox_machine.specs.State.{State}
use Rattle.iox_command.specs.NegotiateBase.DescribeBase.Attributes.{Required}
use Rattle.iox_command.specs.NegotiateBase.DescribeBase.declared.message_type.MessageTypeDetails.{MessageTypeDetails}
use Rattle.iox_command.specs.NegotiateBase.declared.failure.OpenFailure.{OpenFailure}
use Rattle.iox_command.specs.NegotiateBase.declared.failure.OpenFailure.TheVariants.{Clause}
use Rattle.iox_command.specs.NegotiateBase.declared.failure.OpenOrCreateFailure.{OpenOrCreateFailure}
use Rattle.iox_command.specs.NegotiateBase.declared.failure.OpenOrCreateFailure.TheVariants as neither
use Rattle.iox_command.specs.Patterns.{pattern_of}
use Rattle.iox_command.specs.declared.command.Command.TheVariants as command
use Rattle.iox_command.specs.declared.refusal.Refusal.{Refusal}
use Rattle.iox_command.specs.declared.reply.Reply.{Reply}
use Rattle.iox_command.specs.declared.reply.Reply.TheVariants as reply
use Rattle.iox_command.specs.declared.service.ServiceOptions.{ServiceOptions}
use Rattle.iox_command.specs.declared.step.StepBefore.{StepBefore}

-- The phase has an agreement, and `So` holds of it.
abbrev pub IsAgreedOn : (Agreement → Type 0) → Phase → Type 0
IsAgreedOn So phase = (agreed : Agreement) × (agreed_in phase ≡ Some agreed) × So agreed

-- The service is new, in a later lifetime than this one, exactly as it was asked for, and with this node alone.
abbrev pub IsNewWith : Node → Agreement → ℕ → Phase → Type 0
IsNewWith node asked before phase = (life : ℕ) × (before < life) × (phase ≡ Published life asked ((node, 1) ∷ []))

-- If the failure of an opening names a clause, this clause is the first one that the agreement doesn't meet.
abbrev pub NamesUnmet : {V : Type 0} → (Agreement → Result (Unit {0}) V) → OpenFailure V → Phase → Type 0
NamesUnmet verdict (Clause unmet) phase = IsAgreedOn (λ agreed. verdict agreed ≡ Err unmet) phase
NamesUnmet verdict other phase = ⊤

-- If a failure of `open_or_create` is one of its opening and names a clause, this clause is the first one that the agreement doesn't meet.
abbrev pub EitherNamesUnmet : {V : Type 0} → (Agreement → Result (Unit {0}) V) → OpenOrCreateFailure V → Phase → Type 0
EitherNamesUnmet verdict (neither.Open failure) phase = NamesUnmet verdict failure phase
EitherNamesUnmet verdict other phase = ⊤

module _ (types : MessageTypeDetails) (options : ServiceOptions) (required : Required) where
  -- The agreement meets each clause that is asked for, and has the required attributes.
  abbrev pub MeetsAsked : Agreement → Type 0
  MeetsAsked agreed = verdict types options required agreed ≡ Ok tt

  -- The refusal reports a failure of the opening; if it names a clause, this clause is the first one that isn't met.
  abbrev pub TellsUnmet : Refusal → Phase → Type 0
  TellsUnmet why phase =
      (failure : OpenFailure Refusal) × (why ≡ open_refusal options failure) × NamesUnmet (verdict types options required) failure phase

  -- The refusal reports a failure of `open_or_create`; if it names a clause of the opening, this clause is the first one that isn't met.
  abbrev pub EitherTellsUnmet : Refusal → Phase → Type 0
  EitherTellsUnmet why phase =
      (failure : OpenOrCreateFailure Refusal) × (why ≡ either_refusal options failure)
      × EitherNamesUnmet (verdict types options required) failure phase

module _ {T : Type 0} (choices : Choices T) where
  -- A service that is opened meets all that is asked for. If an opening is refused for a clause, the service exists, and the clause is the
  -- first one that it doesn't meet.
  abbrev pub OpenedMeetsAsked : Type 0
  OpenedMeetsAsked = (types : MessageTypeDetails) (buffer node : ℕ) (name : List ℕ) (options : ServiceOptions) (required : Required)
      (steps : List StepBefore) (old : State T) (answer : Reply T) (new : State T)
      → Step types choices buffer (command.Open node name options required steps) old answer new
      → ((number : ℕ) → answer ≡ reply.FactoryMade number
      → IsAgreedOn (MeetsAsked types options required) (new.phases (pattern_of options) name))
      × ((why : Refusal) → answer ≡ reply.Refused why → TellsUnmet types options required why (new.phases (pattern_of options) name))

  -- A service of `open_or_create` meets all that is asked for, or is new and exactly as it was asked for. If the call is refused for a
  -- clause, this clause is the first one that isn't met.
  abbrev pub EitherMeetsAsked : Type 0
  EitherMeetsAsked = (types : MessageTypeDetails) (buffer node : ℕ) (name : List ℕ) (options : ServiceOptions) (required : Required)
      (steps : List StepBefore) (old : State T) (answer : Reply T) (new : State T)
      → Step types choices buffer (command.OpenOrCreate node name options required steps) old answer new
      → ((number : ℕ) → answer ≡ reply.FactoryMade number
      → IsAgreedOn (MeetsAsked types options required) (new.phases (pattern_of options) name)
      ⊎ IsNewWith (Own node) (record { settings = settings_of types options; attributes = required.pairs })
      (life_of (old.phases (pattern_of options) name)) (new.phases (pattern_of options) name))
      × ((why : Refusal) → answer ≡ reply.Refused why
      → EitherTellsUnmet types options required why (new.phases (pattern_of options) name))
