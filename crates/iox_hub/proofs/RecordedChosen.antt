-- What the handlers of a recorded hub's ports may decide may be chosen for them.
use Rattle.std.proofs.Common.{◌≡◌, ◌^◌, ◌-◌, ℕ, min, Option, None, Some, refl, subst, sym}
use Rattle.std.specs.Option.{unwrap_or}
use Rattle.std.specs.Prelude.{MatchOption}
use Rattle.iox_command.specs.DomainValues.Actions.{decision_of}
use Rattle.iox_command.specs.declared.port.PublisherOptions.{PublisherOptions}
use Rattle.iox_command.specs.declared.port.SubscriberOptions.{SubscriberOptions}
use Rattle.iox_hub_commands.specs.DomainValues.declared.backpressure.BackpressureAction.{BackpressureAction}
use Rattle.iox_hub_commands.specs.DomainValues.declared.backpressure.BackpressureInfo.{BackpressureInfo}
use Rattle.iox_hub_commands.specs.DomainValues.declared.backpressure_strategy.BackpressureStrategy.{BackpressureStrategy}
use Rattle.iox_hub_commands.specs.DomainValues.declared.backpressure_strategy.BackpressureStrategy.TheVariants.{RetryUntilDelivered}
use Rattle.iox_hub_commands.specs.DomainValues.declared.degradation.DegradationAction.{DegradationAction}
use Rattle.iox_hub_commands.specs.DomainValues.declared.degradation.DegradationAction.TheVariants.{Warn}
use Rattle.iox_hub_commands.specs.DomainValues.declared.degradation.DegradationCause.TheVariants.{FailedToEstablishConnection}
use Rattle.iox_hub_commands.specs.DomainValues.declared.degradation.DegradationInfo.{DegradationInfo}
use Rattle.iox_hub_commands.specs.Naming.{publisher_handlers, subscriber_handler}
use Rattle.iox_hub_commands.specs.Terms.{Terms}
use Rattle.iox_hub_machine.proofs.TypedHandlers.{publisher_handlers_are_chosen, subscriber_handler_is_chosen}
use Rattle.iox_hub_machine.specs.ArrivalLaws.{AnswersAsChosen, AnswersAsFixed, DecidesAsChosen, DecidesAsFixed}
use Rattle.iox_hub.specs.Recording.{AreChosen}
use Rattle.iox_hub.specs.Turns.{choices_of}
use Rattle.iox_machine.specs.Choices.{Handed}

module _ {T U B D : Type 0} (terms : Terms T U B D) (handed : Handed B D) where
  -- who is handed to the machine for a publisher, or nobody
  publisher_of : (number : ℕ) (options : PublisherOptions) (found : Option B) → handed.publishers number ≡ found
      → MatchOption found (DecidesAsFixed terms.fixed terms.degrades terms.decides)
      (λ who. (strategy : BackpressureStrategy) (named : Option BackpressureAction) (degrading : DegradationAction)
      → terms.fixed strategy named degrading ≡ who)
      → DecidesAsChosen (choices_of terms handed) terms.degrades terms.decides (publisher_handlers terms.fixed options) number options
  publisher_of number options None is so =
      let strategy = unwrap_or options.backpressure_strategy RetryUntilDelivered in
      let named = unwrap_or options.degradation_handler Warn in record {
        failed = λ info action may. subst (λ (found : Option B). MatchOption found (action ≡ named)
            (λ who. (given : DegradationInfo) × terms.degrades who FailedToEstablishConnection given action)) (sym is)
            (so.failed strategy options.backpressure_handler named action info may);
        full = λ info decision retries may told. subst (λ (found : Option B). MatchOption found
            (decision ≡ decision_of strategy options.backpressure_handler)
            (λ who. (given : BackpressureInfo) × (given.retries ≡ min retries (2 ^ 64 - 1)) × (given.elapsed_time ≡ info.elapsed_time)
            × terms.decides who given decision)) (sym is)
            (so.full strategy options.backpressure_handler named info decision may);
      }
  publisher_of number options (Some who) is same =
      subst (λ (it : B). DecidesAsChosen (choices_of terms handed) terms.degrades terms.decides it number options)
      (sym (same (unwrap_or options.backpressure_strategy RetryUntilDelivered) options.backpressure_handler
      (unwrap_or options.degradation_handler Warn)))
      (publisher_handlers_are_chosen terms.is_default terms.decides terms.degrades terms.reader_degrades handed number who options is)

  -- so for a subscriber
  subscriber_of : (number : ℕ) (options : SubscriberOptions) (found : Option D) → handed.subscribers number ≡ found
      → MatchOption found (AnswersAsFixed terms.fixed_reader terms.reader_degrades)
      (λ who. (degrading : DegradationAction) → terms.fixed_reader degrading ≡ who)
      → AnswersAsChosen (choices_of terms handed) terms.reader_degrades (subscriber_handler terms.fixed_reader options) number options
  subscriber_of number options None is so info action may =
      let named = unwrap_or options.degradation_handler Warn in
      subst (λ (found : Option D). MatchOption found (action ≡ named)
      (λ who. (given : DegradationInfo) × terms.reader_degrades who FailedToEstablishConnection given action)) (sym is)
      (so named action info may)
  subscriber_of number options (Some who) is same info action may =
      subst (λ (it : D). AnswersAsChosen (choices_of terms handed) terms.reader_degrades it number options)
      (sym (same (unwrap_or options.degradation_handler Warn)))
      (subscriber_handler_is_chosen terms.is_default terms.decides terms.degrades terms.reader_degrades handed number who options is) info
      action may

  pub are_chosen : ((number : ℕ) → MatchOption (handed.publishers number) (DecidesAsFixed terms.fixed terms.degrades terms.decides)
      (λ who. (strategy : BackpressureStrategy) (named : Option BackpressureAction) (degrading : DegradationAction)
      → terms.fixed strategy named degrading ≡ who))
      → ((number : ℕ) → MatchOption (handed.subscribers number) (AnswersAsFixed terms.fixed_reader terms.reader_degrades)
      (λ who. (degrading : DegradationAction) → terms.fixed_reader degrading ≡ who))
      → AreChosen (choices_of terms handed) terms.fixed terms.degrades terms.decides terms.fixed_reader terms.reader_degrades
  are_chosen publishers subscribers = record {
    publishers = λ number options. publisher_of number options (handed.publishers number) refl (publishers number);
    subscribers = λ number options. subscriber_of number options (handed.subscribers number) refl (subscribers number);
  }
