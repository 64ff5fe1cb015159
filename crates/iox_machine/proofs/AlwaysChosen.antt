-- Who decides for ports always chooses something: so an update always answers something, and a message always goes to some subscribers.
use Rattle.std.proofs.Common.{◌≡◌, ◌⊎◌, ◌+◌, ℕ, Bool, true, false, ◌&&◌, List, [], ◌∷◌, Option, None, Some, Result, Ok, Err, refl, inl, inr}
use Rattle.std.specs.Option.{option_map_or}
use Rattle.std.specs.Prelude.{MatchBool, MatchOption}
use Rattle.iox_machine.specs.Choices.{Choices}
use Rattle.iox_machine.specs.GoingLaws.{AlwaysChoose}
use Rattle.iox_machine.specs.Mailbox.{Mailbox, put}
use Rattle.iox_machine.specs.PortList.{those}
use Rattle.iox_machine.specs.PublisherUpdate.{UpdateAnswers, failure_at}
use Rattle.iox_machine.specs.Sending.{Delivers, MayDecide}
use Rattle.iox_machine.specs.Service.{Service, Publisher, Subscriber, Send, mailbox, with_mailbox}
use Rattle.iox_machine.specs.Table.{at, contains}
use Rattle.iox_command.specs.DomainValues.declared.connection_failure.ConnectionFailure.{ConnectionFailure}
use Rattle.iox_command.specs.DomainValues.declared.connection_failure.ConnectionFailure.TheVariants.{FailedToEstablishConnection}
use Rattle.iox_command.specs.DomainValues.declared.connection_failure.ZeroCopyCreationError.{ZeroCopyCreationError}
use Rattle.iox_command.specs.DomainValues.declared.backpressure.BackpressureDecision.{BackpressureDecision}
use Rattle.iox_command.specs.DomainValues.declared.backpressure.BackpressureDecision.TheVariants.{Retry, DiscardData, DiscardDataAndFail}
use Rattle.iox_command.specs.DomainValues.declared.degradation.DegradationAction.{DegradationAction}
use Rattle.iox_command.specs.DomainValues.declared.degradation.DegradationAction.TheVariants.{Warn, Ignore, DegradeAndFail}
use Rattle.iox_command.specs.DomainValues.Actions.{decision_of}

-- an update always answers something
pub answers-go : (May : DegradationAction → Type 0) → (action : DegradationAction) → May action → (places : List (Option ℕ × Option ℕ))
    → (outcome : Result (Unit {0}) ConnectionFailure) × UpdateAnswers May places outcome
answers-go May action may [] = (Ok tt, refl)
answers-go May action may (place ∷ more) = here (answers-go May action may more) (failure_at place.0 place.1)
  where
    asked : (outcome : Result (Unit {0}) ConnectionFailure) × UpdateAnswers May more outcome
        → (failure : ZeroCopyCreationError) (it : DegradationAction) → May it
        → (outcome : Result (Unit {0}) ConnectionFailure)
        × ((May DegradeAndFail × (outcome ≡ Err (FailedToEstablishConnection failure)))
        ⊎ ((May Warn ⊎ May Ignore) × UpdateAnswers May more outcome))
    asked on failure Ignore is = (on.0, inr (inr is, on.1))
    asked on failure Warn is = (on.0, inr (inl is, on.1))
    asked on failure DegradeAndFail is = (Err (FailedToEstablishConnection failure), inl (is, refl))

    here : (outcome : Result (Unit {0}) ConnectionFailure) × UpdateAnswers May more outcome → (o : Option ZeroCopyCreationError)
        → (outcome : Result (Unit {0}) ConnectionFailure)
        × MatchOption o (UpdateAnswers May more outcome)
        (λ failure. (May DegradeAndFail × (outcome ≡ Err (FailedToEstablishConnection failure)))
        ⊎ ((May Warn ⊎ May Ignore) × UpdateAnswers May more outcome))
    here on None = on
    here on (Some failure) = asked on failure action may

module _ {T : Type 0} (choices : Choices T) (always : AlwaysChoose choices) where
  -- a message always goes to some subscribers
  pub delivers-goes : (number : ℕ) (publisher : Publisher T) (left : List ℕ) (send : Send T) (old : Service T)
      → (after : Send T) × (mid : Service T) × Delivers choices number publisher left send old after mid
  delivers-goes number publisher [] send old = (record send { left = [] }, old, (refl, refl))
  delivers-goes number publisher (subscriber ∷ more) send old =
      here (λ next mid. delivers-goes number publisher more next mid)
      (put old.settings.enable_safe_overflow send.message (mailbox number subscriber old))
    where
      Goes : Send T → Service T → Type 0
      Goes next old = (after : Send T) × (mid : Service T) × Delivers choices number publisher more next old after mid

      Body : Option (Mailbox T) → Send T → Service T → Type 0
      Body met after mid =
          MatchOption met
          ((MayDecide choices number publisher subscriber send old Retry × (after ≡ record send { left = subscriber ∷ more }) × (mid ≡ old))
          ⊎ (MayDecide choices number publisher subscriber send old DiscardData
          × Delivers choices number publisher more (record send { retries = 0; elapsed = 0 }) old after mid)
          ⊎ (MayDecide choices number publisher subscriber send old DiscardDataAndFail
          × Delivers choices number publisher more (record send { retries = 0; elapsed = 0; fails = true }) old after mid))
          (λ box. Delivers choices number publisher more (record send { retries = 0; elapsed = 0; delivered = send.delivered + 1 })
          (with_mailbox number subscriber box old) after mid)

      decided : ((next : Send T) (mid : Service T) → Goes next mid) → (decision : BackpressureDecision)
          → MayDecide choices number publisher subscriber send old decision
          → (after : Send T) × (mid : Service T) × Body None after mid
      decided goes Retry may = (record send { left = subscriber ∷ more }, old, inl (may, refl, refl))
      decided goes DiscardData may =
          let on = goes (record send { retries = 0; elapsed = 0 }) old in
          (on.0, on.1, inr (inl (may, on.2)))
      decided goes DiscardDataAndFail may =
          let on = goes (record send { retries = 0; elapsed = 0; fails = true }) old in
          (on.0, on.1, inr (inr (may, on.2)))

      some : (b : Bool) → (decision : BackpressureDecision)
          × MatchBool b (choices.publisher_decides number send.retries send.elapsed
          (decision_of publisher.strategy publisher.handler) decision) (decision ≡ DiscardData)
      some true = always.0 number send.retries send.elapsed (decision_of publisher.strategy publisher.handler)
      some false = (DiscardData, refl)

      here : ((next : Send T) (mid : Service T) → Goes next mid) → (met : Option (Mailbox T))
          → (after : Send T) × (mid : Service T) × Body met after mid
      here goes (Some box) =
          goes (record send { retries = 0; elapsed = 0; delivered = send.delivered + 1 })
          (with_mailbox number subscriber box old)
      here goes None =
          let chose = some (option_map_or (λ (one : Subscriber). one.stands && contains (those one.connected) number)
          (at subscriber old.subscribers) false) in
          decided goes chose.0 chose.1
