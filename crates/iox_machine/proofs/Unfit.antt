-- A service that isn't created for its settings: it is refused to the node, and nothing changes.
use Rattle.std.proofs.Common.{◌⊎◌, ◌&&◌, List, Option, None, Some, inl, inr}
use Rattle.std.specs.Prelude.{nat_le, MatchOption}
use Rattle.iox_machine.specs.Agreement.{unfit}
use Rattle.iox_machine.specs.Asked.{settings_of}
use Rattle.iox_machine.specs.Factories.{Negotiates, CreatesService}
use Rattle.iox_machine.specs.Negotiation.{Creates}
use Rattle.iox_machine.specs.Phase.{Own}
use Rattle.iox_machine.proofs.Shorthands.{IsSkipped, IsRefused, RefusesNode}
use Rattle.iox_machine.specs.State.{State, Factory}
use Rattle.iox_machine.proofs.Cases.{by-bool, by-option}
use Rattle.iox_command.specs.NegotiateBase.DescribeBase.declared.attribute.Attribute.{Attribute}
use Rattle.iox_command.specs.NegotiateBase.DescribeBase.declared.message_type.MessageTypeDetails.{MessageTypeDetails}
use Rattle.iox_command.specs.NegotiateBase.declared.failure.CreateFailure.{CreateFailure}
use Rattle.iox_command.specs.NegotiateBase.declared.failure.CreateFailure.TheVariants as uncreated
use Rattle.iox_command.specs.declared.refusal.Refusal.{Refusal}
use Rattle.iox_command.specs.declared.reply.Reply.{Reply}
use Rattle.iox_command.specs.declared.service.ServiceOptions.{ServiceOptions}
use Rattle.iox_command.specs.declared.step.StepBefore.{StepBefore}
use Rattle.iox_machine.specs.Refusals.{create_refusal}

-- what follows from both cases follows from a creation
pub over-fitness : {A C : Type 0} {B D : CreateFailure → Type 0} (refused : Option CreateFailure) → (A → C)
    → ((failure : CreateFailure) → B failure → D failure) → MatchOption refused A B → MatchOption refused C D
over-fitness None fits refuses h = fits h
over-fitness (Some failure) fits refuses h = refuses failure h

module _ {T : Type 0} (types : MessageTypeDetails) (steps : List StepBefore) (factory : Factory) (named : ServiceOptions)
    (attributes : List Attribute) (old : State T) (answer : Reply T) (new : State T) where
  -- the node makes the call
  abbrev pub NegotiatesIt : Type 0
  NegotiatesIt = Negotiates (Creates types factory.pattern steps (Own factory.node)
      (record { settings = settings_of types named; attributes = attributes }))
      (create_refusal named) (λ is_new. uncreated.OutOfMemory) factory old answer new

  -- nothing changes: it is skipped, or refused
  abbrev pub IsIdle : Type 0
  IsIdle = IsSkipped old answer new ⊎ ((why : Refusal) × IsRefused why old answer new)

  pub idle : (why : Refusal) → RefusesNode factory.node why old answer new → IsIdle
  idle why h =
      elim (by-bool (nat_le 1 factory.node && nat_le factory.node old.made.nodes) (IsRefused why old answer new)
      (IsSkipped old answer new) h) [
        | inl w ↦ inr (why, w.1)
        | inr w ↦ inl w.1
      ]

  -- a creation is a call, or changes nothing
  pub by-fitness : CreatesService types steps factory named attributes old answer new → NegotiatesIt ⊎ IsIdle
  by-fitness h =
      elim (by-option (unfit (settings_of types named)) NegotiatesIt
      (λ failure. RefusesNode factory.node (create_refusal named failure) old answer new) h) [
        | inl w ↦ inl w.1
        | inr w ↦ inr (idle (create_refusal named w.0) w.2)
      ]
