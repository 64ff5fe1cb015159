-- The machine never gets stuck: each command has an answer.
use Rattle.std.specs.Prelude.{ℕ, ◌≡◌}
use Rattle.std.specs.Global.{Vec}
use Rattle.std.specs.List.{AllByRecursion}
use Rattle.std.specs.Vec.{vec_items}
use Rattle.iox_machine.specs.Choices.{Choices}
use Rattle.iox_machine.specs.Run.{Step}
use Rattle.iox_machine.specs.RunLaws.{AllMessages}
use Rattle.iox_machine.specs.State.{State}
use Rattle.iox_command.specs.DomainValues.declared.backpressure.BackpressureDecision.{BackpressureDecision}
use Rattle.iox_command.specs.DomainValues.declared.degradation.DegradationAction.{DegradationAction}
use Rattle.iox_command.specs.NegotiateBase.DescribeBase.declared.message_type.MessageTypeDetails.{MessageTypeDetails}
use Rattle.iox_command.specs.declared.command.Command.{Command}
use Rattle.iox_command.specs.declared.reply.Reply.{Reply}

module _ {T : Type 0} (choices : Choices T) where
  -- For each port something may always be chosen, whatever was named for it.
  abbrev pub AlwaysChoose : Type 0
  AlwaysChoose =
      ((publisher retries elapsed : ℕ) (named : BackpressureDecision)
      → (decision : BackpressureDecision) × choices.publisher_decides publisher retries elapsed named decision)
      × ((publisher : ℕ) (named : DegradationAction) → (action : DegradationAction) × choices.publisher_acts publisher named action)
      × ((subscriber : ℕ) (named : DegradationAction) → (action : DegradationAction) × choices.subscriber_acts subscriber named action)

  -- In any state, each command has an answer, if there is a default value, if something may always be chosen for each port, and if the
  -- values of each message that waits, is borrowed, is kept as history or is held fit in a vector, so that they can be returned.
  abbrev pub EachIsAnswered : Type 0
  EachIsAnswered = (types : MessageTypeDetails) (buffer : ℕ) (default : T) → choices.is_default default → AlwaysChoose → (old : State T)
      → AllByRecursion (AllMessages (λ publisher message. (values : Vec T) × (vec_items values ≡ message.values))) old.services
      → (asked : Command T) → (answer : Reply T) × (new : State T) × Step types choices buffer asked old answer new
