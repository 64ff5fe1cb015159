-- One subscriber of a domain, and of the machine, is another.
use Rattle.std.proofs.Common.{◌≡◌, ◌≢◌, ◌≤◌, ◌⊎◌, ℕ, true, false, List, get_or, Option, None, Some, refl, sym, ap, subst, inl, inr, ◌∙◌}
use Rattle.std.proofs.lemmas.Bool.{cases_eq}
use Rattle.std.specs.Map.{keys_of}
use Rattle.iox_domain.specs.DomainPorts.Publishers.{port_of}
use Rattle.iox_domain.specs.DomainPorts.declared.attached.Taken.{Taken}
use Rattle.iox_domain.specs.DomainPorts.declared.publisher_port.PublisherPort.{PublisherPort}
use Rattle.iox_domain.specs.DomainPorts.declared.subscriber_port.SubscriberPort.{SubscriberPort}
use Rattle.iox_domain.specs.Subscribers.{subscriber_of}
use Rattle.iox_domain.specs.Tries.{how_often}
use Rattle.iox_domain.specs.declared.ports.service_ports.ServicePorts.{ServicePorts}
use Rattle.iox_domain_machine.specs.Mailboxes.{MailboxesStandFor, IsKeyed}
use Rattle.iox_domain_machine.specs.Naming.{Naming}
use Rattle.iox_domain_machine.specs.Standing.{StandsFor, SubscriberIs, IsSubscriberListedAt}
use Rattle.iox_domain_machine.specs.Subscribers.{SubscriberStandsFor}
use Rattle.iox_domain_machine.specs.Tables.{LentSlot, held_at_port}
use Rattle.iox_domain_machine.proofs.Changing.{still_some, still_named, not_zero}
use Rattle.iox_domain_machine.proofs.Found.{same_some, never_some}
use Rattle.iox_machine.specs.Mailbox.{Mailbox}
use Rattle.iox_machine.specs.Service.{Subscriber, Service}
use Rattle.iox_machine.specs.Table.{at}

-- mailboxes stand for connections where the same subscribers stand
module _ (name : ℕ) (one was : Subscriber) (table after : List (ℕ × Subscriber)) (there : at name table ≡ Some was)
    (now : at name after ≡ Some one) (others : (other : ℕ) → other ≢ name → at other after ≡ at other table)
    (same_stands : one.stands ≡ was.stands) where
  stood : (other : ℕ) (found : Subscriber) → (other ≡ name) ⊎ (other ≢ name) → at other after ≡ Some found
      → (before : Subscriber) × (at other table ≡ Some before) × (found.stands ≡ before.stands)
  stood other found (inl same) is = (
    was,
    ap (λ n. at n table) same ∙ there,
    ap (λ (it : Subscriber). it.stands) (same_some found one (sym is ∙ ap (λ n. at n after) same ∙ now)) ∙ same_stands,
  )
  stood other found (inr off) is = (found, sym (others other off) ∙ is, refl)

  pub boxes_still : {T U : Type 0} (message_name reader subscriber_name : ℕ → ℕ) (port : PublisherPort T U)
      (mailboxes : ℕ → Option (Mailbox T))
      → MailboxesStandFor message_name reader subscriber_name port mailboxes table
      → MailboxesStandFor message_name reader subscriber_name port mailboxes after
  boxes_still message_name reader subscriber_name port mailboxes boxes = record {
    live = boxes.live;
    ended = λ index is.
        let it = boxes.ended index is in (
          it.0,
          it.1,
          it.2,
          λ standing. (
            (it.3 standing).0,
            λ found is_found.
                let before = stood (reader index) found (cases_eq (reader index) name) is_found in
                before.2 ∙ (it.3 standing).1 before.0 before.1,
          ),
        );
    quiet = boxes.quiet;
    others = boxes.others;
    none = λ other joins standing found is_found stands.
        let before = stood other found (cases_eq other name) is_found in
        boxes.none other joins standing before.0 before.1 (sym before.2 ∙ stands);
    known = λ index is. still_some name (reader index) one was table after there now others (cases_eq (reader index) name)
        ∙ boxes.known index is;
    apart = boxes.apart;
    led = boxes.led;
    heard = boxes.heard;
    read = boxes.read;
    unmet = boxes.unmet;
    once = boxes.once;
    due = boxes.due;
  }

module _ {T U : Type 0} (names : Naming) (lent : List (ℕ × LentSlot)) (held : List (ℕ × Taken)) (buffer : ℕ) (old : ServicePorts T U)
    (service : Service T) (number : ℕ) (port after : SubscriberPort) (subscribers : List (ℕ × SubscriberPort)) (one : Subscriber)
    (table : List (ℕ × Subscriber)) (stands : StandsFor names lent held buffer old service)
    (there : subscriber_of number old.subscribers ≡ Some port) (now : subscriber_of number subscribers ≡ Some after)
    (elsewhere : (other : ℕ) → other ≢ number → subscriber_of other subscribers ≡ subscriber_of other old.subscribers)
    (once : (other : ℕ) → how_often other (keys_of subscribers) ≤ 1) (same_stands : after.stands ≡ port.stands)
    (same_place : after.place ≡ port.place) (same_held : after.held ≡ port.held) where
  abbrev new : ServicePorts T U
  new = record old { subscribers = subscribers }

  abbrev new_service : Service T
  new_service = record service { subscribers = table }

  abbrev name : ℕ
  name = names.subscriber number

  abbrev pub was : SubscriberIs names old service number port
  was = stands.subscribers number port there

  apart : (other : ℕ) → names.subscriber other ≡ name → number ≡ other
  apart other same =
      stands.named_subscribers.apart number other
      (not_zero names.subscriber name was.0 service.subscribers stands.named_subscribers was.1) (sym same)

  is_port : (other : ℕ) (found : SubscriberPort) → other ≡ number → subscriber_of other subscribers ≡ Some found → found ≡ after
  is_port other found same is = same_some found after (sym is ∙ ap (λ n. subscriber_of n subscribers) same ∙ now)

  module _ (at_it : at name table ≡ Some one) (at_others : (other : ℕ) → other ≢ name → at other table ≡ at other service.subscribers)
      (same_one : one.stands ≡ was.0.stands) (same_buffer : one.buffer_size ≡ was.0.buffer_size)
      (is : SubscriberStandsFor names.publisher old.sizes.max_publishers old.sizes.expired_connections after one)
      (is_keyed : (other : ℕ) (found : PublisherPort T U) → port_of other old.publishers ≡ Some found → IsKeyed other found subscribers)
    where
      each : (other : ℕ) (found : SubscriberPort) → (other ≡ number) ⊎ (other ≢ number) → subscriber_of other subscribers ≡ Some found
          → SubscriberIs names new new_service other found
      each other found (inl same) it =
          subst (λ n. SubscriberIs names new new_service n found) (sym same)
          (subst (λ (found : SubscriberPort). SubscriberIs names new new_service number found) (sym (is_port other found same it))
          (one, at_it, is))
      each other found (inr off) it =
          let before = stands.subscribers other found (sym (elsewhere other off) ∙ it) in
          (before.0, at_others (names.subscriber other) (λ same. off (sym (apart other same))) ∙ before.1, before.2)

      gone : (other : ℕ) (found : Subscriber) → (other ≡ number) ⊎ (other ≢ number) → subscriber_of other subscribers ≡ None
          → at (names.subscriber other) table ≡ Some found → found.stands ≡ false
      gone other found (inl same) none it = never_some after (sym none ∙ ap (λ n. subscriber_of n subscribers) same ∙ now)
      gone other found (inr off) none it =
          stands.gone_subscribers other found (sym (elsewhere other off) ∙ none)
          (sym (at_others (names.subscriber other) (λ same. off (sym (apart other same)))) ∙ it)

      listed : (other : ℕ) (found : SubscriberPort) → (other ≡ number) ⊎ (other ≢ number) → subscriber_of other subscribers ≡ Some found
          → IsSubscriberListedAt old.subscriber_list.places other found
      listed other found (inl same) it =
          subst (λ n. IsSubscriberListedAt old.subscriber_list.places n found) (sym same)
          (subst (λ (one : SubscriberPort). IsSubscriberListedAt old.subscriber_list.places number one) (sym (is_port other found same it))
          (λ standing.
          let before = stands.listed_subscribers number port there (sym same_stands ∙ standing) in
          (before.0, ap (λ place. get_or old.subscriber_list.places place None) same_place ∙ before.1, before.2)))
      listed other found (inr off) it = stands.listed_subscribers other found (sym (elsewhere other off) ∙ it)

      present : (other place : ℕ) (found : SubscriberPort) → (other ≡ number) ⊎ (other ≢ number)
          → subscriber_of other old.subscribers ≡ Some found → found.stands ≡ true → found.place ≡ place
          → (now_there : SubscriberPort) × (subscriber_of other subscribers ≡ Some now_there) × (now_there.stands ≡ true)
          × (now_there.place ≡ place)
      present other place found (inl same) it standing placed =
          let is_before = same_some found port (sym it ∙ ap (λ n. subscriber_of n old.subscribers) same ∙ there) in (
            after,
            ap (λ n. subscriber_of n subscribers) same ∙ now,
            same_stands ∙ sym (ap (λ (it : SubscriberPort). it.stands) is_before) ∙ standing,
            same_place ∙ sym (ap (λ (it : SubscriberPort). it.place) is_before) ∙ placed,
          )
      present other place found (inr off) it standing placed = (found, elsewhere other off ∙ it, standing, placed)

      held_same : (other : ℕ) → (other ≡ number) ⊎ (other ≢ number)
          → held_at_port (subscriber_of other old.subscribers) ≡ held_at_port (subscriber_of other subscribers)
      held_same other (inl same) =
          ap (λ n. held_at_port (subscriber_of n old.subscribers)) same ∙ ap held_at_port there ∙ sym same_held
          ∙ sym (ap (λ n. held_at_port (subscriber_of n subscribers)) same ∙ ap held_at_port now)
      held_same other (inr off) = ap held_at_port (sym (elsewhere other off))

      listed_one : (name_there : ℕ) (size : ℕ) → (name_there ≡ name) ⊎ (name_there ≢ name)
          → ((found : Subscriber) × (at name_there service.subscribers ≡ Some found) × (found.stands ≡ true) × (found.buffer_size ≡ size)
          × (size ≤ old.sizes.subscriber_max_buffer_size))
          → (found : Subscriber) × (at name_there table ≡ Some found) × (found.stands ≡ true) × (found.buffer_size ≡ size)
          × (size ≤ old.sizes.subscriber_max_buffer_size)
      listed_one name_there size (inl same) (found, it, standing, sized, few) =
          let its : found ≡ was.0 = same_some found was.0 (sym it ∙ ap (λ n. at n service.subscribers) same ∙ was.1) in (
            one,
            ap (λ n. at n table) same ∙ at_it,
            same_one ∙ sym (ap (λ (s : Subscriber). s.stands) its) ∙ standing,
            same_buffer ∙ sym (ap (λ (s : Subscriber). s.buffer_size) its) ∙ sized,
            few,
          )
      listed_one name_there size (inr off) (found, it, standing, sized, few) = (found, at_others name_there off ∙ it, standing, sized, few)

      pub subscriber_changed : StandsFor names lent held buffer new new_service
      subscriber_changed = record {
        sizes = stands.sizes;
        publisher_list = stands.publisher_list;
        subscriber_list = stands.subscriber_list;
        named_publishers = stands.named_publishers;
        named_subscribers =
            still_named names.subscriber name one was.0 service.subscribers table was.1 at_it at_others stands.named_subscribers;
        unnamed = stands.unnamed;
        publishers = λ other found it.
            let before = stands.publishers other found it in (
              before.0,
              before.1,
              before.2,
              boxes_still name one was.0 service.subscribers table was.1 at_it at_others same_one (names.message other) (names.reader other)
                  names.subscriber found (service.mailboxes (names.publisher other)) before.3,
            );
        listed = stands.listed;
        present = stands.present;
        gone_publishers = stands.gone_publishers;
        numbered = stands.numbered;
        once = stands.once;
        once_subscribers = once;
        keyed = is_keyed;
        subscribers = λ other found it. each other found (cases_eq other number) it;
        gone_subscribers = λ other found none it. gone other found (cases_eq other number) none it;
        listed_subscribers = λ other found it. listed other found (cases_eq other number) it;
        present_subscribers = λ place member it.
            let before = stands.present_subscribers place member it in
            present member.value.subscriber place before.0 (cases_eq member.value.subscriber number) before.1 before.2 before.3;
        sized = λ place member it.
            listed_one (names.subscriber member.value.subscriber) member.value.buffer_size
            (cases_eq (names.subscriber member.value.subscriber) name) (stands.sized place member it);
        joined = λ first second it.
            let before = stands.joined first second it in (
              before.0,
              still_some name second one was.0 service.subscribers table was.1 at_it at_others (cases_eq second name) ∙ before.1,
            );
        loans = record { same = stands.loans.same; once = stands.loans.once; all = stands.loans.all };
        samples = record {
          same = stands.samples.same;
          once = stands.samples.once;
          all = stands.samples.all;
          whose = stands.samples.whose;
          counted = λ other. stands.samples.counted other ∙ held_same other (cases_eq other number);
        };
      }
