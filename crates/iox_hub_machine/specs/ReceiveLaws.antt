-- Theorems: when ports update their connections, and subscribers receive, a hub does what the machine does.
use Rattle.std.specs.Prelude.{ℕ, ◌<◌, ◌^◌}
use Rattle.iox_command.specs.DomainValues.declared.backpressure.BackpressureDecision.{BackpressureDecision}
use Rattle.iox_command.specs.DomainValues.declared.backpressure.BackpressureInfo.{BackpressureInfo}
use Rattle.iox_command.specs.DomainValues.declared.degradation.DegradationAction.{DegradationAction}
use Rattle.iox_command.specs.DomainValues.declared.degradation.DegradationCause.{DegradationCause}
use Rattle.iox_command.specs.DomainValues.declared.degradation.DegradationInfo.{DegradationInfo}
use Rattle.iox_command.specs.declared.command.Command.TheVariants as command
use Rattle.iox_command.specs.declared.port.PortNumber.TheVariants as port
use Rattle.iox_hub_commands.specs.Grown.{HaveGrown}
use Rattle.iox_hub_commands.specs.Lives.{NumbersRise}
use Rattle.iox_hub_commands.specs.declared.numbered_hub.NumberedHub.{NumberedHub}
use Rattle.iox_hub_machine.specs.Laws.{IsSimulatedFrom, IsSimulatedIfGrown}
use Rattle.iox_machine.specs.Choices.{Choices}

-- The parameters: the choices, with the default values; which user headers are default ones; and what handlers of a publisher, and of a
-- subscriber, may answer.
module _ {T U B D : Type 0} (choices : Choices T) (is_default_header : U → Type 0)
    (degrades : B → DegradationCause → DegradationInfo → DegradationAction → Type 0)
    (decides : B → BackpressureInfo → BackpressureDecision → Type 0)
    (reader_degrades : D → DegradationCause → DegradationInfo → DegradationAction → Type 0) where
  -- Updating the connections of a publisher is simulated.
  abbrev pub PublisherUpdateIsSimulated : Type 0
  PublisherUpdateIsSimulated = (publisher : ℕ)
      → IsSimulatedIfGrown choices is_default_header degrades decides reader_degrades (command.Update (port.Publisher publisher))

  -- Updating the connections of a subscriber is simulated.
  abbrev pub SubscriberUpdateIsSimulated : Type 0
  SubscriberUpdateIsSimulated = (subscriber : ℕ)
      → IsSimulatedIfGrown choices is_default_header degrades decides reader_degrades (command.Update (port.Subscriber subscriber))

  -- Reporting whether some connection of a subscriber has data is simulated.
  abbrev pub HasIsSimulated : Type 0
  HasIsSimulated = (subscriber : ℕ)
      → IsSimulatedIfGrown choices is_default_header degrades decides reader_degrades (command.Has subscriber)

  -- Receiving is simulated, and a received sample gets the next number, which named nothing before. This requires that fewer
  -- than 2 ^ 64 - 1 samples were received so far.
  abbrev pub ReceiveIsSimulated : Type 0
  ReceiveIsSimulated = (subscriber : ℕ) (old : NumberedHub T U B D) → HaveGrown old.hub.services.domains → NumbersRise old
      → old.made.samples.next < 2 ^ 64
      → IsSimulatedFrom choices is_default_header degrades decides reader_degrades old (command.Receive subscriber)
