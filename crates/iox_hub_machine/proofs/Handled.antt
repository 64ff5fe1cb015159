-- Who decides for a port, before a command and after it.
use Rattle.std.proofs.Common.{◌≡◌, ℕ, subst}
use Rattle.iox_command.specs.DomainValues.Actions.{decision_of}
use Rattle.iox_command.specs.DomainValues.declared.backpressure.BackpressureDecision.{BackpressureDecision}
use Rattle.iox_command.specs.DomainValues.declared.backpressure.BackpressureInfo.{BackpressureInfo}
use Rattle.iox_command.specs.DomainValues.declared.degradation.DegradationAction.{DegradationAction}
use Rattle.iox_command.specs.DomainValues.declared.degradation.DegradationCause.{DegradationCause}
use Rattle.iox_command.specs.DomainValues.declared.degradation.DegradationInfo.{DegradationInfo}
use Rattle.iox_domain.specs.declared.domain_id.DomainId.{DomainId}
use Rattle.iox_hub_base.specs.declared.hub.Hub.{Hub}
use Rattle.iox_hub_commands.specs.CommandSteps.{publisher_may_degrade, publisher_may_decide, subscriber_may_degrade}
use Rattle.iox_hub_machine.specs.Standing.{PublisherIsHandled, SubscriberIsHandled}
use Rattle.iox_hub_machine.proofs.Deciding.{Acting, Deciding, acting, deciding}
use Rattle.iox_machine.specs.Choices.{Choices}
use Rattle.iox_machine.specs.Service.{Publisher, Subscriber}

module _ {T U B D : Type 0} (choices : Choices T) (old new : Hub T U B D) (domain : DomainId) (number name name_then : ℕ)
    (same_name : name ≡ name_then) where
  -- a publisher that decides as it did, by its name then
  pub handled_on : (degrades : B → DegradationCause → DegradationInfo → DegradationAction → Type 0)
      (decides : B → BackpressureInfo → BackpressureDecision → Type 0) (was is : Publisher T) → deciding was ≡ deciding is
      → ((info : BackpressureInfo) (decision : BackpressureDecision) → publisher_may_decide decides domain number new info decision
      → publisher_may_decide decides domain number old info decision)
      → ((info : DegradationInfo) (action : DegradationAction) → publisher_may_degrade degrades domain number new info action
      → publisher_may_degrade degrades domain number old info action)
      → PublisherIsHandled choices degrades decides old domain number name was
      → PublisherIsHandled choices degrades decides new domain number name_then is
  handled_on degrades decides was is same decided answered handled = record {
    full = λ info decision retries may told.
        subst (λ (it : Deciding). choices.publisher_decides name_then retries info.elapsed_time (decision_of it.strategy it.handler)
        decision)
        same
        (subst (λ (it : ℕ). choices.publisher_decides it retries info.elapsed_time (decision_of was.strategy was.handler) decision)
        same_name
        (handled.full info decision retries (decided info decision may) told));
    failed = λ info action may.
        subst (λ (it : Deciding). choices.publisher_acts name_then it.degradation action) same
        (subst (λ (it : ℕ). choices.publisher_acts it was.degradation action) same_name
        (handled.failed info action (answered info action may)));
  }

  -- so with a subscriber
  pub reader_handled_on : (reader_degrades : D → DegradationCause → DegradationInfo → DegradationAction → Type 0) (was is : Subscriber)
      → acting was ≡ acting is
      → ((info : DegradationInfo) (action : DegradationAction) → subscriber_may_degrade reader_degrades domain number new info action
      → subscriber_may_degrade reader_degrades domain number old info action)
      → SubscriberIsHandled choices reader_degrades old domain number name was
      → SubscriberIsHandled choices reader_degrades new domain number name_then is
  reader_handled_on reader_degrades was is same answered handled info action may =
      subst (λ (it : Acting). choices.subscriber_acts name_then it.degradation action) same
      (subst (λ (it : ℕ). choices.subscriber_acts it was.degradation action) same_name
      (handled info action (answered info action may)))
