-- A call that is refused changes nothing but the phase of its pattern and name.
use Rattle.std.proofs.Common.{◌≡◌, ◌⊎◌, ◌+◌, ℕ, Bool, true, false, List, refl, ap, subst, inl, inr, ◌∙◌, true≢false}
use Rattle.std.specs.Prelude.{fold, take}
use Rattle.iox_machine.proofs.Shorthands.{factory_of}
use Rattle.iox_machine.specs.Choices.{Choices}
use Rattle.iox_machine.specs.Phase.{Phase, acted}
use Rattle.iox_machine.specs.RunLaws.{RefusedCallsLeaveServices}
use Rattle.iox_machine.specs.State.{Factory, State, with_phase}
use Rattle.iox_machine.proofs.Moving.{IsNegotiated, creates, opens, opens-or-creates}
use Rattle.iox_command.specs.NegotiateBase.DescribeBase.declared.pattern.MessagingPattern.{MessagingPattern}
use Rattle.iox_command.specs.Patterns.{pattern_of}
use Rattle.iox_command.specs.declared.command.Command.TheVariants as command
use Rattle.iox_command.specs.declared.refusal.Refusal.{Refusal}
use Rattle.iox_command.specs.declared.reply.Reply.{Reply}
use Rattle.iox_command.specs.declared.reply.Reply.TheVariants as reply

module _ {T : Type 0} where
  abbrev is_refused : Reply T → Bool
  is_refused (reply.Refused why) = true
  is_refused other = false

  never-refused : {A : Type 0} (why : Refusal) (other : Reply T) → is_refused other ≡ false → reply.Refused why ≡ other → A
  never-refused why other silent told = absurd (true≢false (ap is_refused told ∙ silent))

  -- Nothing changed but the phase of a pattern and name.
  abbrev Leaves : MessagingPattern → List ℕ → State T → State T → Type 0
  Leaves pattern name old new = (new ≡ old) ⊎ ((phase : Phase) × (new ≡ with_phase pattern name phase old))

  negotiated-leaves : (factory : Factory) (why : Refusal) (old new : State T) → IsNegotiated factory old (reply.Refused why) new
      → Leaves factory.pattern factory.name old new
  negotiated-leaves factory why old new (inl (told, same)) = inl same
  negotiated-leaves factory why old new (inr (inl (other, refused))) = inl refused.1
  negotiated-leaves factory why old new (inr (inr (inl (phase, other, refused)))) = inr (phase, refused.1)
  negotiated-leaves factory why old new (inr (inr (inr (phase, told, came)))) =
      never-refused why (reply.FactoryMade (old.made.factories + 1)) refl told

  leaves-at : (one pattern : MessagingPattern) (other name : List ℕ) (old new : State T) → one ≡ pattern → other ≡ name
      → Leaves one other old new → Leaves pattern name old new
  leaves-at one pattern other name old new patterns names h =
      subst (λ (it : MessagingPattern). Leaves it name old new) patterns (subst (λ (it : List ℕ). Leaves one it old new) names h)

pub refused-calls-leave-services : {T : Type 0} (choices : Choices T) → RefusedCallsLeaveServices choices
refused-calls-leave-services choices types buffer pattern name (command.Create node other options attributes steps) old new why
    (is, same) h =
    leaves-at (pattern_of options) pattern other name old new is same
    (negotiated-leaves (factory_of node other options) why old new
    (creates types steps (factory_of node other options) old (reply.Refused why) new options attributes h))
refused-calls-leave-services choices types buffer pattern name (command.Open node other options required steps) old new why (is, same) h =
    leaves-at (pattern_of options) pattern other name old new is same
    (negotiated-leaves (factory_of node other options) why old new
    (opens types steps (factory_of node other options) old (reply.Refused why) new options required h))
refused-calls-leave-services choices types buffer pattern name (command.OpenOrCreate node other options required steps) old new why
    (is, same) h =
    leaves-at (pattern_of options) pattern other name old new is same
    (negotiated-leaves (factory_of node other options) why old new
    (opens-or-creates types steps (factory_of node other options) old (reply.Refused why) new options required h))
refused-calls-leave-services choices types buffer pattern name (command.Foreign one other steps) old new why
    (is, same) (inl (told, came)) =
    never-refused why reply.Done refl told
refused-calls-leave-services choices types buffer pattern name (command.Foreign one other steps) old new why (is, same)
    (inr (done, few, (told, came))) =
    leaves-at one pattern other name old new is same
    (inr (fold (acted types one) (old.phases one other) (take done steps), came))
refused-calls-leave-services choices types buffer pattern name asked old new why never h = absurd never
