-- Theorems: what the handlers of a port may decide may be chosen for it.
use Rattle.std.specs.Prelude.{ℕ, ◌≡◌, Some}
use Rattle.iox_command.specs.DomainValues.declared.backpressure.BackpressureDecision.{BackpressureDecision}
use Rattle.iox_command.specs.DomainValues.declared.backpressure.BackpressureInfo.{BackpressureInfo}
use Rattle.iox_command.specs.DomainValues.declared.degradation.DegradationAction.{DegradationAction}
use Rattle.iox_command.specs.DomainValues.declared.degradation.DegradationCause.{DegradationCause}
use Rattle.iox_command.specs.DomainValues.declared.degradation.DegradationInfo.{DegradationInfo}
use Rattle.iox_command.specs.declared.port.PublisherOptions.{PublisherOptions}
use Rattle.iox_command.specs.declared.port.SubscriberOptions.{SubscriberOptions}
use Rattle.iox_hub_machine.specs.ArrivalLaws.{AnswersAsChosen, DecidesAsChosen}
use Rattle.iox_machine.specs.Choices.{Handed, chosen_by}

-- The parameters: which values are default values, and what handlers may decide and answer.
module _ {T B D : Type 0} (is_default : T → Type 0) (decides : B → BackpressureInfo → BackpressureDecision → Type 0)
    (degrades : B → DegradationCause → DegradationInfo → DegradationAction → Type 0)
    (reader_degrades : D → DegradationCause → DegradationInfo → DegradationAction → Type 0) where
  -- Whatever the handlers of a publisher may decide and answer may be chosen for it, by the choices that have these handlers at its number.
  abbrev pub PublisherHandlersAreChosen : Type 0
  PublisherHandlersAreChosen = (handed : Handed B D) (number : ℕ) (who : B) (options : PublisherOptions)
      → handed.publishers number ≡ Some who
      → DecidesAsChosen (chosen_by is_default decides degrades reader_degrades handed) degrades decides who number options

  -- Whatever the handler of a subscriber may answer may be chosen for it, likewise.
  abbrev pub SubscriberHandlerIsChosen : Type 0
  SubscriberHandlerIsChosen = (handed : Handed B D) (number : ℕ) (who : D) (options : SubscriberOptions)
      → handed.subscribers number ≡ Some who
      → AnswersAsChosen (chosen_by is_default decides degrades reader_degrades handed) reader_degrades who number options
