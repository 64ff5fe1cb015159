-- Whether ports of a machine stand, and how they decide, before a command and after it.
use Rattle.std.proofs.Common.{◌≡◌, ℕ, Bool, List, Option, Some, refl, sym, ap, ◌∙◌}
use Rattle.std.proofs.Math.Logic.{⊎_elim}
use Rattle.std.proofs.lemmas.Bool.Decides.{eqb_tells}
use Rattle.std.specs.Option.{option_map}
use Rattle.iox_command.specs.DomainValues.declared.backpressure.BackpressureAction.{BackpressureAction}
use Rattle.iox_command.specs.DomainValues.declared.backpressure_strategy.BackpressureStrategy.{BackpressureStrategy}
use Rattle.iox_command.specs.DomainValues.declared.degradation.DegradationAction.{DegradationAction}
use Rattle.iox_command.specs.declared.reply.Reply.{Reply}
use Rattle.iox_domain_machine.proofs.Found.{at_changed, at_changed_other}
use Rattle.iox_hub_machine.specs.Ports.{among}
use Rattle.iox_hub_machine.proofs.Amidst.{at_one_alike}
use Rattle.iox_machine.specs.Service.{Service, Publisher, Subscriber}
use Rattle.iox_machine.proofs.Shorthands.{with_publisher}
use Rattle.iox_machine.specs.State.{State, AtOne}
use Rattle.iox_machine.specs.Table.{at, changed}

-- whether a publisher stands, and how it decides
pub record Deciding : Type 0 where
  pub stands : Bool
  pub strategy : BackpressureStrategy
  pub handler : Option BackpressureAction
  pub degradation : DegradationAction

abbrev pub deciding : {T : Type 0} → Publisher T → Deciding
deciding publisher = record {
  stands = publisher.stands;
  strategy = publisher.strategy;
  handler = publisher.handler;
  degradation = publisher.degradation;
}

-- whether a subscriber stands, and what it does where a connection fails
pub record Acting : Type 0 where
  pub stands : Bool
  pub degradation : DegradationAction

abbrev pub acting : Subscriber → Acting
acting subscriber = record { stands = subscriber.stands; degradation = subscriber.degradation }

-- Ports stand as they stood, and decide as they did.
pub record DecideAlike {T : Type 0} (old new : List (Service T)) : Type 0 where
  pub publishers : (number : ℕ) → option_map deciding (among (λ (service : Service T). service.publishers) number new)
      ≡ option_map deciding (among (λ (service : Service T). service.publishers) number old)
  pub subscribers : (number : ℕ) → option_map acting (among (λ (service : Service T). service.subscribers) number new)
      ≡ option_map acting (among (λ (service : Service T). service.subscribers) number old)

-- So it is with one service.
pub record DecidesAlike {T : Type 0} (old new : Service T) : Type 0 where
  pub publishers : (number : ℕ) → option_map deciding (at number new.publishers) ≡ option_map deciding (at number old.publishers)
  pub subscribers : (number : ℕ) → option_map acting (at number new.subscribers) ≡ option_map acting (at number old.subscribers)

-- a service that has the same ports
pub same_ports : {T : Type 0} (old new : Service T) → new.publishers ≡ old.publishers → new.subscribers ≡ old.subscribers
    → DecidesAlike old new
same_ports {T} old new publishers subscribers = record {
  publishers = λ number. ap (λ (table : List (ℕ × Publisher T)). option_map deciding (at number table)) publishers;
  subscribers = λ number. ap (λ (table : List (ℕ × Subscriber)). option_map acting (at number table)) subscribers;
}

-- a command at one service
pub at_one_decides : {T X : Type 0} (found : Service T → Option X) (Does : X → Service T → Reply T → Service T → Type 0)
    (old new : State T) (answer : Reply T)
    → ((it : X) (service after : Service T) → found service ≡ Some it → Does it service answer after → DecidesAlike service after)
    → AtOne found Does old answer new → DecideAlike old.services new.services
at_one_decides found Does old new answer keeps did = record {
  publishers = at_one_alike found Does (λ service. service.publishers) deciding old new answer
      (λ it service after is does. (keeps it service after is does).publishers) did;
  subscribers = at_one_alike found Does (λ service. service.subscribers) acting old new answer
      (λ it service after is does. (keeps it service after is does).subscribers) did;
}

-- a service where one publisher is another that stands and decides as it does
pub publisher_alike : {T : Type 0} (number : ℕ) (was is : Publisher T) (service : Service T) → at number service.publishers ≡ Some was
    → deciding is ≡ deciding was → DecidesAlike service (with_publisher number is service)
publisher_alike number was is service there same = record {
  publishers = λ other. ⊎_elim
      (λ one. ap (λ (n : ℕ). option_map deciding (at n (changed number is service.publishers))) one.1
      ∙ ap (option_map deciding) (at_changed number is was service.publishers there) ∙ ap Some same
      ∙ sym (ap (λ (n : ℕ). option_map deciding (at n service.publishers)) one.1 ∙ ap (option_map deciding) there))
      (λ off. ap (option_map deciding) (at_changed_other number other is service.publishers off.1)) (eqb_tells other number);
  subscribers = λ other. refl;
}
