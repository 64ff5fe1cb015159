-- A port comes with the handlers that are named, or is skipped.
use Rattle.std.proofs.Common.{◌≡◌, ◌⊎◌, ℕ, true, false, List, Option, None, Some, refl, sym, subst, inl, inr}
use Rattle.std.specs.Option.{option_map}
use Rattle.std.specs.Prelude.{is_some}
use Rattle.iox_hub_commands.specs.Command.declared.port.PublisherOptions.{PublisherOptions}
use Rattle.iox_hub_commands.specs.Command.declared.port.SubscriberOptions.{SubscriberOptions}
use Rattle.iox_hub_commands.specs.Command.declared.reply.Reply.{Reply}
use Rattle.iox_hub_commands.specs.Command.declared.reply.Reply.TheVariants as reply
use Rattle.iox_hub_commands.specs.Domain.declared.ports.service_ports.ServicePorts.{ServicePorts}
use Rattle.iox_hub_commands.specs.DomainValues.declared.backpressure.BackpressureAction.{BackpressureAction}
use Rattle.iox_hub_commands.specs.DomainValues.declared.backpressure_strategy.BackpressureStrategy.{BackpressureStrategy}
use Rattle.iox_hub_commands.specs.DomainValues.declared.degradation.DegradationAction.{DegradationAction}
use Rattle.iox_hub_commands.specs.DomainValues.declared.degradation.DegradationCause.{DegradationCause}
use Rattle.iox_hub_commands.specs.DomainValues.declared.degradation.DegradationInfo.{DegradationInfo}
use Rattle.iox_hub_commands.specs.Services.{MakesPublisher, MakesSubscriber}
use Rattle.iox_hub_commands.specs.declared.numbered_hub.NumberedHub.{NumberedHub}
use Rattle.iox_hub.specs.Steps.{PublisherTakes, SubscriberTakes}
use Rattle.iox_hub.specs.declared.given.GivenHandler.{GivenHandler}

-- something isn't there
abbrev pub Lacks : {A B C : Type 0} → Option A → Option B → Option C → Type 0
Lacks first second third = (is_some first ≡ false) ⊎ ((is_some second ≡ false) ⊎ (is_some third ≡ false))

none_lacks : {A B C : Type 0} (first : A) (second : B) (third : C) → Lacks (Some first) (Some second) (Some third) → ⊥
none_lacks first second third (inl lacks) = cc
none_lacks first second third (inr (inl lacks)) = cc
none_lacks first second third (inr (inr lacks)) = cc

-- a handler that is named, where one is
pub one_named : {D : Type 0} (found : Option D) (handler : D) → option_map (λ (one : D). Some one) found ≡ Some (Some handler)
    → found ≡ Some handler
one_named None handler is = cc
one_named (Some one) handler is = cc

module _ {T U B D P : Type 0} where
  pub publisher_skipped : (is_default : U → Type 0)
      (handled : BackpressureStrategy → Option BackpressureAction → DegradationAction → Option P → Option D → B)
      (degrades : B → DegradationCause → DegradationInfo → DegradationAction → Type 0)
      (at_full : Option (Option P)) (at_failure : Option (Option D)) (ports : Option (ServicePorts T U)) (factory : ℕ)
      (options : PublisherOptions) (fewer : List (Option (GivenHandler P D)))
      (state : NumberedHub T U B D × List (Option (GivenHandler P D))) → Lacks at_full at_failure ports
      → PublisherTakes is_default handled degrades at_full at_failure ports factory options fewer state reply.Skipped state
  publisher_skipped is_default handled degrades None at_failure ports factory options fewer state lacks = (refl, refl)
  publisher_skipped is_default handled degrades (Some full) None ports factory options fewer state lacks = (refl, refl)
  publisher_skipped is_default handled degrades (Some full) (Some failing) None factory options fewer state lacks = (refl, refl)
  publisher_skipped is_default handled degrades (Some full) (Some failing) (Some ports) factory options fewer state lacks
      = absurd (none_lacks full failing ports lacks)

  publisher_here : (is_default : U → Type 0)
      (handled : BackpressureStrategy → Option BackpressureAction → DegradationAction → Option P → Option D → B)
      (degrades : B → DegradationCause → DegradationInfo → DegradationAction → Type 0)
      (full : Option P) (failing : Option D) (ports : Option (ServicePorts T U)) (factory : ℕ) (options : PublisherOptions)
      (fewer : List (Option (GivenHandler P D)))
      (old new : NumberedHub T U B D × List (Option (GivenHandler P D))) (answer : Reply T) → is_some ports ≡ true
      → MakesPublisher is_default (λ strategy action degrading. handled strategy action degrading full failing) degrades factory options
      old.0 answer new.0 → new.1 ≡ fewer
      → PublisherTakes is_default handled degrades (Some full) (Some failing) ports factory options fewer old answer new
  publisher_here is_default handled degrades full failing None factory options fewer old new answer here makes left = cc
  publisher_here is_default handled degrades full failing (Some ports) factory options fewer old new answer here makes left = (makes, left)

  pub publisher_taken : (is_default : U → Type 0)
      (handled : BackpressureStrategy → Option BackpressureAction → DegradationAction → Option P → Option D → B)
      (degrades : B → DegradationCause → DegradationInfo → DegradationAction → Type 0)
      (at_full : Option (Option P)) (at_failure : Option (Option D)) (full : Option P) (failing : Option D)
      (ports : Option (ServicePorts T U)) (factory : ℕ) (options : PublisherOptions) (fewer : List (Option (GivenHandler P D)))
      (old new : NumberedHub T U B D × List (Option (GivenHandler P D))) (answer : Reply T) → at_full ≡ Some full
      → at_failure ≡ Some failing → is_some ports ≡ true
      → MakesPublisher is_default (λ strategy action degrading. handled strategy action degrading full failing) degrades factory options
      old.0 answer new.0 → new.1 ≡ fewer
      → PublisherTakes is_default handled degrades at_full at_failure ports factory options fewer old answer new
  publisher_taken is_default handled degrades at_full at_failure full failing ports factory options fewer old new answer is_full
      is_failing here makes left =
      subst (λ (o : Option (Option P)). PublisherTakes is_default handled degrades o at_failure ports factory options fewer old answer
      new) (sym is_full)
      (subst (λ (o : Option (Option D)). PublisherTakes is_default handled degrades (Some full) o ports factory options fewer old answer
      new) (sym is_failing)
      (publisher_here is_default handled degrades full failing ports factory options fewer old new answer here makes left))

  pub subscriber_skipped : (degrades : D → DegradationCause → DegradationInfo → DegradationAction → Type 0) (found : Option D)
      (ports : Option (ServicePorts T U)) (factory : ℕ) (options : SubscriberOptions) (fewer : List (Option (GivenHandler P D)))
      (state : NumberedHub T U B D × List (Option (GivenHandler P D))) → (is_some found ≡ false) ⊎ (is_some ports ≡ false)
      → SubscriberTakes degrades found ports factory options fewer state reply.Skipped state
  subscriber_skipped degrades None ports factory options fewer state lacks = (refl, refl)
  subscriber_skipped degrades (Some handler) None factory options fewer state lacks = (refl, refl)
  subscriber_skipped degrades (Some handler) (Some ports) factory options fewer state (inl lacks) = cc
  subscriber_skipped degrades (Some handler) (Some ports) factory options fewer state (inr lacks) = cc

  subscriber_here : (degrades : D → DegradationCause → DegradationInfo → DegradationAction → Type 0) (handler : D)
      (ports : Option (ServicePorts T U)) (factory : ℕ) (options : SubscriberOptions) (fewer : List (Option (GivenHandler P D)))
      (old new : NumberedHub T U B D × List (Option (GivenHandler P D))) (answer : Reply T) → is_some ports ≡ true
      → MakesSubscriber (λ action. handler) degrades factory options old.0 answer new.0 → new.1 ≡ fewer
      → SubscriberTakes degrades (Some handler) ports factory options fewer old answer new
  subscriber_here degrades handler None factory options fewer old new answer here makes left = cc
  subscriber_here degrades handler (Some ports) factory options fewer old new answer here makes left = (makes, left)

  pub subscriber_taken : (degrades : D → DegradationCause → DegradationInfo → DegradationAction → Type 0) (found : Option D)
      (handler : D) (ports : Option (ServicePorts T U)) (factory : ℕ) (options : SubscriberOptions)
      (fewer : List (Option (GivenHandler P D)))
      (old new : NumberedHub T U B D × List (Option (GivenHandler P D))) (answer : Reply T) → found ≡ Some handler
      → is_some ports ≡ true → MakesSubscriber (λ action. handler) degrades factory options old.0 answer new.0 → new.1 ≡ fewer
      → SubscriberTakes degrades found ports factory options fewer old answer new
  subscriber_taken degrades found handler ports factory options fewer old new answer is_found here makes left =
      subst (λ (o : Option D). SubscriberTakes degrades o ports factory options fewer old answer new) (sym is_found)
      (subscriber_here degrades handler ports factory options fewer old new answer here makes left)
