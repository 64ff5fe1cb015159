-- Theorems: when a publisher loans, a hub does what the machine does.
use Rattle.std.specs.Prelude.{ℕ}
use Rattle.iox_command.specs.DomainValues.declared.backpressure.BackpressureDecision.{BackpressureDecision}
use Rattle.iox_command.specs.DomainValues.declared.backpressure.BackpressureInfo.{BackpressureInfo}
use Rattle.iox_command.specs.DomainValues.declared.degradation.DegradationAction.{DegradationAction}
use Rattle.iox_command.specs.DomainValues.declared.degradation.DegradationCause.{DegradationCause}
use Rattle.iox_command.specs.DomainValues.declared.degradation.DegradationInfo.{DegradationInfo}
use Rattle.iox_command.specs.declared.command.Command.{Command}
use Rattle.iox_command.specs.declared.command.Command.TheVariants as command
use Rattle.iox_hub_commands.specs.Grown.{HaveGrown}
use Rattle.iox_hub_commands.specs.Lives.{NumbersRise}
use Rattle.iox_hub_commands.specs.declared.numbered_hub.NumberedHub.{NumberedHub}
use Rattle.iox_hub_machine.specs.Laws.{IsSimulatedFrom}
use Rattle.iox_machine.specs.Choices.{Choices}

-- The parameters: the choices, with the default values; which user headers are default ones; and what handlers of a publisher, and of a
-- subscriber, may answer.
module _ {T U B D : Type 0} (choices : Choices T) (is_default_header : U → Type 0)
    (degrades : B → DegradationCause → DegradationInfo → DegradationAction → Type 0)
    (decides : B → BackpressureInfo → BackpressureDecision → Type 0)
    (reader_degrades : D → DegradationCause → DegradationInfo → DegradationAction → Type 0) where
  -- The command is simulated from a hub whose domains have grown by calls of ports, and whose numbers rise from 1 and stay below the next
  -- one, as `GrowsOn` and `NumbersGoOn` say of each hub.
  abbrev pub IsSimulatedIfNumbered : Command T → Type 0
  IsSimulatedIfNumbered asked = (old : NumberedHub T U B D) → HaveGrown old.hub.services.domains → NumbersRise old
      → IsSimulatedFrom choices is_default_header degrades decides reader_degrades old asked

  -- Loaning this many values of a publisher, none of which is written, is simulated.
  abbrev pub LendUninitIsSimulated : Type 0
  LendUninitIsSimulated = (publisher values : ℕ) → IsSimulatedIfNumbered (command.LoanUninit publisher values)

  -- Loaning this many values of a publisher, each of which is written with a default value, is simulated.
  abbrev pub LendIsSimulated : Type 0
  LendIsSimulated = (publisher values : ℕ) → IsSimulatedIfNumbered (command.Loan publisher values)
