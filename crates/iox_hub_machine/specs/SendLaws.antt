-- Theorems: when its publishers send, a hub does what the machine does.
use Rattle.std.specs.Prelude.{ℕ, List}
use Rattle.iox_command.specs.DomainValues.declared.backpressure.BackpressureDecision.{BackpressureDecision}
use Rattle.iox_command.specs.DomainValues.declared.backpressure.BackpressureInfo.{BackpressureInfo}
use Rattle.iox_command.specs.DomainValues.declared.degradation.DegradationAction.{DegradationAction}
use Rattle.iox_command.specs.DomainValues.declared.degradation.DegradationCause.{DegradationCause}
use Rattle.iox_command.specs.DomainValues.declared.degradation.DegradationInfo.{DegradationInfo}
use Rattle.iox_command.specs.declared.command.Command.TheVariants as command
use Rattle.iox_hub_machine.specs.Laws.{IsSimulatedIfGrown}
use Rattle.iox_machine.specs.Choices.{Choices}

-- The parameters: the choices, with the default values; which user headers are default ones; and what handlers of a publisher, and of a
-- subscriber, may answer.
module _ {T U B D : Type 0} (choices : Choices T) (is_default_header : U → Type 0)
    (degrades : B → DegradationCause → DegradationInfo → DegradationAction → Type 0)
    (decides : B → BackpressureInfo → BackpressureDecision → Type 0)
    (reader_degrades : D → DegradationCause → DegradationInfo → DegradationAction → Type 0) where
  -- Trying a blocked send again, after this many nanoseconds, is simulated.
  abbrev pub RetryIsSimulated : Type 0
  RetryIsSimulated = (publisher nanoseconds : ℕ)
      → IsSimulatedIfGrown choices is_default_header degrades decides reader_degrades (command.Retry publisher nanoseconds)

  -- Sending a loan is simulated.
  abbrev pub SendIsSimulated : Type 0
  SendIsSimulated = (loan : ℕ) → IsSimulatedIfGrown choices is_default_header degrades decides reader_degrades (command.Send loan)

  -- Loaning, writing and sending values at once is simulated.
  abbrev pub PutIsSimulated : Type 0
  PutIsSimulated = (publisher : ℕ) (values : List T)
      → IsSimulatedIfGrown choices is_default_header degrades decides reader_degrades (command.Put publisher values)
