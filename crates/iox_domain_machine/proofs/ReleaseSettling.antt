-- A subscriber that is over is gone from a domain; the machine has it still, as one that left.
use Rattle.std.proofs.Common.{◌≡◌, ◌≢◌, ◌⊎◌, ◌==◌, ℕ, Bool, true, false, not, List, None, Some, refl, sym, ap, inl, inr, ◌∙◌, arith}
use Rattle.std.proofs.lemmas.Bool.{cases_eq, eqb-true}
use Rattle.std.specs.Prelude.{if◌then◌else◌}
use Rattle.iox_domain.proofs.Numbered.{at_number, other_fails, other_gone}
use Rattle.iox_domain.specs.DomainPorts.declared.attached.Taken.{Taken}
use Rattle.iox_domain.specs.DomainPorts.declared.publisher_port.PublisherPort.{PublisherPort}
use Rattle.iox_domain.specs.DomainPorts.declared.subscriber_port.SubscriberPort.{SubscriberPort}
use Rattle.iox_domain.specs.Subscribers.{subscriber_of, subscriber_removed, settled, is_over}
use Rattle.iox_domain.specs.declared.ports.service_ports.ServicePorts.{ServicePorts}
use Rattle.iox_domain_machine.specs.Mailboxes.{IsKeyed}
use Rattle.iox_domain_machine.specs.Naming.{Naming}
use Rattle.iox_domain_machine.specs.Standing.{StandsFor}
use Rattle.iox_domain_machine.specs.Tables.{LentSlot, samples_held_by, held_at_port}
use Rattle.iox_domain_machine.proofs.Found.{same_some, never_some, never_true}
use Rattle.iox_domain_machine.proofs.Settling.{gone_found, often_gone, both, isn't}
use Rattle.iox_machine.specs.Service.{Service, Subscriber}
use Rattle.iox_machine.specs.Table.{at}

module _ {T U : Type 0} (names : Naming) (lent : List (ℕ × LentSlot)) (held : List (ℕ × Taken)) (buffer : ℕ) (ports : ServicePorts T U)
    (service : Service T) (number : ℕ) (port : SubscriberPort) (stands : StandsFor names lent held buffer ports service)
    (there : subscriber_of number ports.subscribers ≡ Some port) where
  module _ (over : is_over (Some port) ≡ true) where
    abbrev new : ServicePorts T U
    new = record ports { subscribers = subscriber_removed number ports.subscribers }

    nobody_there : subscriber_of number new.subscribers ≡ None
    nobody_there = gone_found number ports.subscribers (stands.once_subscribers number)

    elsewhere : (other : ℕ) → other ≢ number → subscriber_of other new.subscribers ≡ subscriber_of other ports.subscribers
    elsewhere other off = other_gone (at_number number) (at_number other) ports.subscribers (other_fails other number off)

    left : port.stands ≡ false
    left = isn't port.stands (both (not port.stands) (port.held == 0) over).0

    holds_none : port.held ≡ 0
    holds_none = eqb-true port.held 0 (both (not port.stands) (port.held == 0) over).1

    was_there : (other : ℕ) (found : SubscriberPort) → (other ≡ number) ⊎ (other ≢ number)
        → subscriber_of other new.subscribers ≡ Some found
        → subscriber_of other ports.subscribers ≡ Some found
    was_there other found (inl same) it =
        never_some found (sym nobody_there ∙ sym (ap (λ n. subscriber_of n new.subscribers) same) ∙ it)
    was_there other found (inr off) it = sym (elsewhere other off) ∙ it

    still_there : (other : ℕ) (found : SubscriberPort) → (other ≡ number) ⊎ (other ≢ number)
        → subscriber_of other ports.subscribers ≡ Some found → found.stands ≡ true → subscriber_of other new.subscribers ≡ Some found
    still_there other found (inl same) it standing =
        let is_port = same_some found port (sym it ∙ ap (λ n. subscriber_of n ports.subscribers) same ∙ there) in
        never_true (sym left ∙ sym (ap (λ (one : SubscriberPort). one.stands) is_port) ∙ standing)
    still_there other found (inr off) it standing = elsewhere other off ∙ it

    keyed : (other : ℕ) (found : PublisherPort T U) → IsKeyed other found ports.subscribers → IsKeyed other found new.subscribers
    keyed other found before index to read attached =
        let was = before index to read attached in
        (was.0, still_there to.subscriber was.0 (cases_eq to.subscriber number) was.1 was.2, was.2, was.3, was.4)

    gone : (other : ℕ) (subscriber : Subscriber) → (other ≡ number) ⊎ (other ≢ number) → subscriber_of other new.subscribers ≡ None
        → at (names.subscriber other) service.subscribers ≡ Some subscriber → subscriber.stands ≡ false
    gone other subscriber (inl same) none it =
        let was = stands.subscribers number port there in
        ap (λ (one : Subscriber). one.stands) (same_some subscriber was.0 (sym it
        ∙ ap (λ n. at (names.subscriber n) service.subscribers) same ∙ was.1)) ∙ was.2.stands ∙ left
    gone other subscriber (inr off) none it = stands.gone_subscribers other subscriber (sym (elsewhere other off) ∙ none) it

    counted : (other : ℕ) → (other ≡ number) ⊎ (other ≢ number)
        → samples_held_by other held ≡ held_at_port (subscriber_of other new.subscribers)
    counted other (inl same) =
        stands.samples.counted other ∙ ap (λ n. held_at_port (subscriber_of n ports.subscribers)) same ∙ ap held_at_port there ∙ holds_none
        ∙ sym (ap (λ n. held_at_port (subscriber_of n new.subscribers)) same ∙ ap held_at_port nobody_there)
    counted other (inr off) = stands.samples.counted other ∙ ap held_at_port (sym (elsewhere other off))

    gone_stands : StandsFor names lent held buffer new service
    gone_stands = record {
      sizes = stands.sizes;
      publisher_list = stands.publisher_list;
      subscriber_list = stands.subscriber_list;
      named_publishers = stands.named_publishers;
      named_subscribers = stands.named_subscribers;
      unnamed = stands.unnamed;
      publishers = stands.publishers;
      listed = stands.listed;
      present = stands.present;
      gone_publishers = stands.gone_publishers;
      numbered = stands.numbered;
      once = stands.once;
      once_subscribers = λ other.
          let before = stands.once_subscribers other in omega (arith, before, often_gone (at_number number) other ports.subscribers);
      keyed = λ other found it. keyed other found (stands.keyed other found it);
      subscribers = λ other found it. stands.subscribers other found (was_there other found (cases_eq other number) it);
      gone_subscribers = λ other subscriber none it. gone other subscriber (cases_eq other number) none it;
      listed_subscribers = λ other found it. stands.listed_subscribers other found (was_there other found (cases_eq other number) it);
      present_subscribers = λ place member is.
          let before = stands.present_subscribers place member is in (
            before.0,
            still_there member.value.subscriber before.0 (cases_eq member.value.subscriber number) before.1 before.2,
            before.2,
            before.3,
          );
      sized = stands.sized;
      joined = stands.joined;
      loans = record { same = stands.loans.same; once = stands.loans.once; all = stands.loans.all };
      samples = record {
        same = stands.samples.same;
        once = stands.samples.once;
        all = stands.samples.all;
        whose = stands.samples.whose;
        counted = λ other. counted other (cases_eq other number);
      };
    }

  settled_by : (over : Bool) → is_over (Some port) ≡ over
      → StandsFor names lent held buffer
      (record ports { subscribers = if over then subscriber_removed number ports.subscribers else ports.subscribers }) service
  settled_by true over = gone_stands over
  settled_by false over = stands

  -- the machine's service is the same whether a subscriber is over or not
  pub subscriber_settled : StandsFor names lent held buffer (record ports { subscribers = settled number ports.subscribers }) service
  subscriber_settled = rw there (settled_by (is_over (Some port)) refl)
