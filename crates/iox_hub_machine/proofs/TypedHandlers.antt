-- What the handlers of a port may decide may be chosen for it.
use Rattle.std.proofs.Common.{◌≡◌, ◌^◌, ◌-◌, ℕ, min, Option, Some, refl, sym, subst}
use Rattle.std.specs.Option.{unwrap_or}
use Rattle.std.specs.Prelude.{MatchOption}
use Rattle.iox_command.specs.DomainValues.Actions.{decision_of}
use Rattle.iox_command.specs.DomainValues.declared.backpressure_strategy.BackpressureStrategy.TheVariants.{RetryUntilDelivered}
use Rattle.iox_command.specs.DomainValues.declared.degradation.DegradationAction.TheVariants.{Warn}
use Rattle.iox_command.specs.DomainValues.declared.backpressure.BackpressureDecision.{BackpressureDecision}
use Rattle.iox_command.specs.DomainValues.declared.backpressure.BackpressureInfo.{BackpressureInfo}
use Rattle.iox_command.specs.DomainValues.declared.degradation.DegradationAction.{DegradationAction}
use Rattle.iox_command.specs.DomainValues.declared.degradation.DegradationCause.{DegradationCause}
use Rattle.iox_command.specs.DomainValues.declared.degradation.DegradationCause.TheVariants.{FailedToEstablishConnection}
use Rattle.iox_command.specs.DomainValues.declared.degradation.DegradationInfo.{DegradationInfo}
use Rattle.iox_hub_machine.specs.TypedHandlers.{PublisherHandlersAreChosen, SubscriberHandlerIsChosen}

module _ {T B D : Type 0} (is_default : T → Type 0) (decides : B → BackpressureInfo → BackpressureDecision → Type 0)
    (degrades : B → DegradationCause → DegradationInfo → DegradationAction → Type 0)
    (reader_degrades : D → DegradationCause → DegradationInfo → DegradationAction → Type 0) where
  pub publisher_handlers_are_chosen : PublisherHandlersAreChosen is_default decides degrades reader_degrades
  publisher_handlers_are_chosen handed number who options is = record {
    failed = λ info action may. subst (λ (handler : Option B). MatchOption handler
        (action ≡ unwrap_or options.degradation_handler Warn)
        (λ who. (info : DegradationInfo) × degrades who FailedToEstablishConnection info action)) (sym is) (info, may);
    full = λ info decision retries may told. subst (λ (handler : Option B). MatchOption handler
        (decision ≡ decision_of (unwrap_or options.backpressure_strategy RetryUntilDelivered) options.backpressure_handler)
        (λ who. (given : BackpressureInfo) × (given.retries ≡ min retries (2 ^ 64 - 1)) × (given.elapsed_time ≡ info.elapsed_time)
        × decides who given decision)) (sym is) (info, told, refl, may);
  }

  pub subscriber_handler_is_chosen : SubscriberHandlerIsChosen is_default decides degrades reader_degrades
  subscriber_handler_is_chosen handed number who options is info action may =
      subst (λ (handler : Option D). MatchOption handler (action ≡ unwrap_or options.degradation_handler Warn)
      (λ who. (info : DegradationInfo) × reader_degrades who FailedToEstablishConnection info action)) (sym is) (info, may)
