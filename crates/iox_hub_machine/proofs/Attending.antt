-- Whatever a subscriber of the machine does but leave, ports stand as they stood, and decide as they did.
use Rattle.std.proofs.Common.{◌≡◌, ℕ, Bool, true, false, cond, not, ◌&&◌, List, [], ◌∷◌, Option, None, Some, refl, sym, ap, subst}
use Rattle.std.proofs.Common.{inl, inr, ◌∙◌}
use Rattle.std.proofs.Math.Logic.{⊎_elim}
use Rattle.std.proofs.lemmas.Bool.Decides.{eqb_tells}
use Rattle.std.specs.Option.{option_map}
use Rattle.std.specs.Prelude.{◌==◌, is_some, option_and_then, fold, zip}
use Rattle.iox_command.specs.DomainValues.declared.connection_failure.ConnectionFailure.{ConnectionFailure}
use Rattle.iox_command.specs.declared.refusal.Refusal.{Refusal}
use Rattle.iox_command.specs.declared.reply.Reply.{Reply}
use Rattle.iox_domain_machine.proofs.AloneDid.{by_bool}
use Rattle.iox_domain_machine.proofs.Found.{never_some, at_changed, at_changed_other}
use Rattle.iox_hub_machine.proofs.Deciding.{DecidesAlike, acting, same_ports}
use Rattle.iox_machine.specs.PortList.{those}
use Rattle.iox_machine.specs.Receiving.{Receives, lasting}
use Rattle.iox_machine.specs.Service.{Service, Subscriber, with_mailbox, connect}
use Rattle.iox_machine.proofs.Shorthands.{with_subscriber, IsRefused}
use Rattle.iox_machine.specs.SubscriberUpdate.{Follows, UpdatesFirst}
use Rattle.iox_machine.specs.Table.{at, changed}
use Rattle.iox_machine.specs.Choices.{Choices}
use Rattle.iox_machine.proofs.Delivering.{Outcomes, by-outcome}

-- a port that stands is there
pub standing_found : {V : Type 0} (stands : V → Bool) (found : Option V) (one : V)
    → option_and_then (λ (it : V). cond (stands it) (Some it) None) found ≡ Some one → found ≡ Some one
standing_found stands None one is = never_some one is
standing_found {V} stands (Some it) one is = by (stands it) is
  where
    by : (b : Bool) → cond b (Some it) None ≡ Some one → Some it ≡ Some one
    by true is = is
    by false is = never_some one is

-- a service where one subscriber is another that stands and acts as it does
pub subscriber_alike : {T : Type 0} (number : ℕ) (was is : Subscriber) (service : Service T) → at number service.subscribers ≡ Some was
    → acting is ≡ acting was → DecidesAlike service (with_subscriber number is service)
subscriber_alike number was is service there same = record {
  publishers = λ other. refl;
  subscribers = λ other. ⊎_elim
      (λ one. ap (λ (n : ℕ). option_map acting (at n (changed number is service.subscribers))) one.1
      ∙ ap (option_map acting) (at_changed number is was service.subscribers there) ∙ ap Some same
      ∙ sym (ap (λ (n : ℕ). option_map acting (at n service.subscribers)) one.1 ∙ ap (option_map acting) there))
      (λ off. ap (option_map acting) (at_changed_other number other is service.subscribers off.1)) (eqb_tells other number);
}

module _ {T : Type 0} where
  -- A subscriber is there, and all ports of its service decide as they did.
  pub record Attends (number : ℕ) (old new : Service T) (subscriber : Subscriber) : Type 0 where
    pub there : at number new.subscribers ≡ Some subscriber
    pub alike : DecidesAlike old new

  pub attends_there : (number : ℕ) (service : Service T) (subscriber : Subscriber) → at number service.subscribers ≡ Some subscriber
      → Attends number service service subscriber
  attends_there number service subscriber there = record { there = there; alike = same_ports service service refl refl }

  -- where another service has the same ports
  attends_same : (number : ℕ) (old mid new : Service T) (subscriber : Subscriber) → Attends number old mid subscriber
      → (new.publishers ≡ mid.publishers) × (new.subscribers ≡ mid.subscribers) → Attends number old new subscriber
  attends_same number old mid new subscriber attends (publishers, subscribers) = record {
    there = ap (at number) subscribers ∙ attends.there;
    alike = record {
      publishers = λ other. (same_ports mid new publishers subscribers).publishers other ∙ attends.alike.publishers other;
      subscribers = λ other. (same_ports mid new publishers subscribers).subscribers other ∙ attends.alike.subscribers other;
    };
  }

  -- where the subscriber is another that stands and acts as it did
  attends_so : (number : ℕ) (old mid : Service T) (was is : Subscriber) → Attends number old mid was → acting is ≡ acting was
      → Attends number old (with_subscriber number is mid) is
  attends_so number old mid was is attends same =
      let alike = subscriber_alike number was is mid attends.there same in record {
        there = at_changed number is was mid.subscribers attends.there;
        alike = record {
          publishers = λ other. alike.publishers other ∙ attends.alike.publishers other;
          subscribers = λ other. alike.subscribers other ∙ attends.alike.subscribers other;
        };
      }

  connect_either : (b : Bool) (one other : Service T) → (other.publishers ≡ one.publishers) × (other.subscribers ≡ one.subscribers)
      → ((cond b one other).publishers ≡ one.publishers) × ((cond b one other).subscribers ≡ one.subscribers)
  connect_either true one other same = (refl, refl)
  connect_either false one other same = same

  connected_all : (limit number : ℕ) (publishers : List ℕ) (service : Service T)
      → ((fold (λ (it : Service T) (publisher : ℕ). connect limit publisher number it) service publishers).publishers
      ≡ service.publishers)
      × ((fold (λ (it : Service T) (publisher : ℕ). connect limit publisher number it) service publishers).subscribers
      ≡ service.subscribers)
  connected_all limit number [] service = (refl, refl)
  connected_all limit number (publisher ∷ more) service =
      let first = connect_either (is_some (service.mailboxes publisher number)) service
      (with_mailbox publisher number (record { limit = limit; waiting = []; borrowed = [] }) service) (refl, refl) in
      let rest = connected_all limit number more (connect limit publisher number service) in
      (rest.0 ∙ first.0, rest.1 ∙ first.1)

  -- a subscriber follows the list of publishers
  attends_following : (buffer number : ℕ) (old mid new : Service T) (subscriber after : Subscriber) → Attends number old mid subscriber
      → Follows buffer number subscriber mid after new → Attends number old new after
  attends_following buffer number old mid new subscriber after attends (refused, allowed, connected, listed, is, came) =
      subst (λ (it : Service T). Attends number old it after) (sym came)
      (attends_same number old (with_subscriber number after mid)
      (fold (λ (it : Service T) (publisher : ℕ). connect subscriber.buffer_size publisher number it) (with_subscriber number after mid)
      (those connected)) after
      (attends_so number old mid subscriber after attends (ap acting is))
      (connected_all subscriber.buffer_size number (those connected) (with_subscriber number after mid)))

  -- a subscriber brings its connections up to date, and does something then, or is refused
  pub attending_alike : (choices : Choices T) (buffer number : ℕ) (told : ConnectionFailure → Refusal)
      (Does : Subscriber → Service T → Reply T → Service T → Type 0) (subscriber : Subscriber) (old new : Service T) (answer : Reply T)
      → at number old.subscribers ≡ Some subscriber
      → ((one : Subscriber) (mid : Service T) → Attends number old mid one → Does one mid answer new → DecidesAlike old new)
      → UpdatesFirst choices buffer number told Does subscriber old answer new → DecidesAlike old new
  attending_alike choices buffer number told Does subscriber old new answer there does updates =
      elim (by_bool ((subscriber.seen == old.publisher_list.changes) && not subscriber.again) (Does subscriber old answer new)
      ((after : Subscriber) × (mid : Service T) × Follows buffer number subscriber old after mid
      × Outcomes (choices.subscriber_acts number subscriber.degradation) (zip old.publisher_list.places after.connected)
      (λ done. Does after mid answer new) (λ failure. IsRefused (told failure) mid answer new)) updates) [
        | inl at_once ↦ does subscriber old (attends_there number old subscriber there) at_once.1
        | inr first ↦ followed first.1.0 first.1.1 first.1.2 first.1.3
      ]
    where
      followed : (after : Subscriber) (mid : Service T) → Follows buffer number subscriber old after mid
          → Outcomes (choices.subscriber_acts number subscriber.degradation) (zip old.publisher_list.places after.connected)
          (λ done. Does after mid answer new) (λ failure. IsRefused (told failure) mid answer new) → DecidesAlike old new
      followed after mid follows goes =
          let attends = attends_following buffer number old old mid subscriber after (attends_there number old subscriber there) follows in
          elim (by-outcome (choices.subscriber_acts number subscriber.degradation) (zip old.publisher_list.places after.connected)
          (λ done. Does after mid answer new) (λ failure. IsRefused (told failure) mid answer new) goes) [
            | inl done ↦ does after mid attends done.2
            | inr failed ↦ subst (DecidesAlike old) (sym failed.2.1) attends.alike
          ]

  -- a subscriber is answered, and nothing else happens
  pub answered_alike : (number : ℕ) (old mid new : Service T) (subscriber : Subscriber) → Attends number old mid subscriber → new ≡ mid
      → DecidesAlike old new
  answered_alike number old mid new subscriber attends same = subst (DecidesAlike old) (sym same) attends.alike

  -- a subscriber receives
  pub received_alike : (number sample : ℕ) (old mid new : Service T) (subscriber : Subscriber) (answer : Reply T)
      → Attends number old mid subscriber → Receives number sample subscriber mid answer new → DecidesAlike old new
  received_alike number sample old mid new subscriber answer attends (None, is, (told, came)) =
      subst (DecidesAlike old) (sym came)
      (attends_so number old mid subscriber (record subscriber { expired = lasting number mid subscriber.expired }) attends refl).alike
  received_alike number sample old mid new subscriber answer attends (Some publisher, is, (message, values, first, same, told, came)) =
      let less : Subscriber = record subscriber { expired = lasting number mid subscriber.expired } in
      (attends_same number old (with_subscriber number less mid) new less (attends_so number old mid subscriber less attends refl)
      (ap (λ (it : Service T). it.publishers) came, ap (λ (it : Service T). it.subscribers) came)).alike
