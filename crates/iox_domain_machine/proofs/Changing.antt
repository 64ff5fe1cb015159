-- One publisher of a domain, and of the machine, is another.
use Rattle.std.proofs.Common.{◌≡◌, ◌≢◌, ◌≤◌, ◌⊎◌, ℕ, true, false, List, get_or, Option, None, Some, refl, sym, ap, subst, inl, inr, ◌∙◌}
use Rattle.std.proofs.lemmas.Bool.{cases_eq}
use Rattle.std.proofs.lemmas.Map.{keys-set_value}
use Rattle.std.specs.Map.{keys_of}
use Rattle.std.specs.Prelude.{is_some, option_map}
use Rattle.iox_domain.proofs.Numbered.{at_number, same_set}
use Rattle.iox_domain.specs.Container.declared.container.Member.{Member}
use Rattle.iox_domain.specs.DomainPorts.Publishers.{port_of, with_port}
use Rattle.iox_domain.specs.DomainPorts.Subscribing.{attached_at}
use Rattle.iox_domain.specs.DomainPorts.declared.attached.Taken.{Taken}
use Rattle.iox_domain.specs.DomainPorts.declared.publisher_entry.PublisherEntry.{PublisherEntry}
use Rattle.iox_domain.specs.DomainPorts.declared.publisher_port.PublisherPort.{PublisherPort}
use Rattle.iox_domain.specs.DomainPorts.declared.subscriber_port.SubscriberPort.{SubscriberPort}
use Rattle.iox_domain.specs.Rolls.{RollState}
use Rattle.iox_domain.specs.Subscribers.{subscriber_of}
use Rattle.iox_domain.specs.Tries.{how_often}
use Rattle.iox_domain.specs.declared.ports.service_ports.ServicePorts.{ServicePorts}
use Rattle.iox_domain_machine.specs.Mailboxes.{MailboxesStandFor, IsKeyed}
use Rattle.iox_domain_machine.specs.Naming.{Naming, NamesPorts, list_as}
use Rattle.iox_domain_machine.specs.Publishers.{PublisherStandsFor}
use Rattle.iox_domain_machine.specs.Standing.{StandsFor, PublisherIs, IsListedAt, SubscriberIs}
use Rattle.iox_domain_machine.specs.Subscribers.{SubscriberStandsFor}
use Rattle.iox_domain_machine.specs.Tables.{LentSlot, LoansStandFor, SamplesStandFor}
use Rattle.iox_domain_machine.proofs.Found.{same_some, never_some, other_found}
use Rattle.iox_machine.specs.Mailbox.{Mailbox}
use Rattle.iox_machine.specs.Message.{Loan, Sample}
use Rattle.iox_machine.specs.PortList.{PortList}
use Rattle.iox_machine.specs.Service.{Publisher, Subscriber, Service}
use Rattle.iox_machine.specs.Table.{at}

-- a table in which the value of a number is another has the same numbers
pub still_some : {V : Type 0} (number other : ℕ) (v was : V) (table after : List (ℕ × V)) → at number table ≡ Some was
    → at number after ≡ Some v
    → ((one : ℕ) → one ≢ number → at one after ≡ at one table) → (other ≡ number) ⊎ (other ≢ number)
    → is_some (at other after) ≡ is_some (at other table)
still_some number other v was table after here now others (inl same) =
    ap (λ n. is_some (at n after)) same ∙ ap is_some now ∙ sym (ap (λ n. is_some (at n table)) same ∙ ap is_some here)
still_some number other v was table after here now others (inr off) = ap is_some (others other off)

pub still_named : {V : Type 0} (name : ℕ → ℕ) (number : ℕ) (v was : V) (table after : List (ℕ × V)) → at number table ≡ Some was
    → at number after ≡ Some v
    → ((one : ℕ) → one ≢ number → at one after ≡ at one table) → NamesPorts name table → NamesPorts name after
still_named name number v was table after here now others named = record {
  known = λ other off. still_some number (name other) v was table after here now others (cases_eq (name other) number)
      ∙ named.known other off;
  apart = named.apart;
  each = λ there is. named.each there (sym (still_some number there v was table after here now others (cases_eq there number)) ∙ is);
}

-- what goes by a name isn't named 0
pub not_zero : {V : Type 0} (name : ℕ → ℕ) (number : ℕ) (v : V) (table : List (ℕ × V)) → NamesPorts name table → at number table ≡ Some v
    → number ≢ 0
not_zero name number v table named here = (named.each number (ap is_some here)).2

-- the ports of a domain where one publisher is another
abbrev pub with_one : {T U : Type 0} → ℕ → PublisherPort T U → ServicePorts T U → ServicePorts T U
with_one number after ports = record ports { publishers = with_port number ports.publishers after }

-- a subscriber but for how much it holds
abbrev holds_none : SubscriberPort → SubscriberPort
holds_none port = record port { held = 0 }

-- the subscribers are the same but for how much each holds
abbrev pub AreButHeld : List (ℕ × SubscriberPort) → List (ℕ × SubscriberPort) → Type 0
AreButHeld old new =
    (other : ℕ) → option_map holds_none (subscriber_of other new) ≡ option_map holds_none (subscriber_of other old)

found_like : (one other : Option SubscriberPort) (found : SubscriberPort) → option_map holds_none one ≡ option_map holds_none other
    → one ≡ Some found → (like : SubscriberPort) × (other ≡ Some like) × (holds_none found ≡ holds_none like)
found_like None other found same is = never_some found is
found_like (Some port) None found same is = never_some (holds_none port) (sym same)
found_like (Some port) (Some like) found same is =
    (like, refl, ap holds_none (sym (same_some port found is)) ∙ same_some (holds_none port) (holds_none like) same)

none_like : (one other : Option SubscriberPort) → option_map holds_none one ≡ option_map holds_none other → one ≡ None → other ≡ None
none_like one None same is = refl
none_like one (Some like) same is = never_some (holds_none like) (sym (ap (option_map holds_none) is) ∙ same)

subscriber_like : (name : ℕ → ℕ) (publishers expired : ℕ) (port : SubscriberPort) (subscriber : Subscriber)
    → SubscriberStandsFor name publishers expired (holds_none port) subscriber → SubscriberStandsFor name publishers expired port subscriber
subscriber_like name publishers expired port subscriber is = record {
  factory = is.factory;
  stands = is.stands;
  buffer_size = is.buffer_size;
  seen = is.seen;
  again = is.again;
  connected = is.connected;
  expired = is.expired;
  room = is.room;
}

without_held : (name : ℕ → ℕ) (publishers expired : ℕ) (port : SubscriberPort) (subscriber : Subscriber)
    → SubscriberStandsFor name publishers expired port subscriber → SubscriberStandsFor name publishers expired (holds_none port) subscriber
without_held name publishers expired port subscriber is = record {
  factory = is.factory;
  stands = is.stands;
  buffer_size = is.buffer_size;
  seen = is.seen;
  again = is.again;
  connected = is.connected;
  expired = is.expired;
  room = is.room;
}

-- somebody has a key still
still_keyed : {T U : Type 0} (number : ℕ) (port : PublisherPort T U) (old new : List (ℕ × SubscriberPort)) → AreButHeld old new
    → IsKeyed number port old → IsKeyed number port new
still_keyed number port old new same keyed index to read attached =
    let was = keyed index to read attached in
    let now = found_like (subscriber_of to.subscriber old) (subscriber_of to.subscriber new) was.0 (sym (same to.subscriber)) was.1 in (
      now.0,
      now.1,
      ap (λ (one : SubscriberPort). one.stands) (sym now.2) ∙ was.2,
      was.3,
      ap (attached_at was.3) (sym now.2) ∙ was.4,
    )

module _ {T U : Type 0} (names : Naming) (message : ℕ → ℕ → ℕ) (lent after_lent : List (ℕ × LentSlot))
    (held after_held : List (ℕ × Taken)) (buffer : ℕ)
    (old : ServicePorts T U) (service : Service T) (number : ℕ) (port after : PublisherPort T U) (publisher : Publisher T)
    (publishers : List (ℕ × Publisher T)) (loans : List (ℕ × Loan T)) (samples : List (ℕ × Sample T))
    (mailboxes : ℕ → ℕ → Option (Mailbox T)) (subscribers : List (ℕ × SubscriberPort)) where
  abbrev renamed : Naming
  renamed = record names { message = message }

  abbrev new : ServicePorts T U
  new = record (with_one number after old) { subscribers = subscribers }

  abbrev new_service : Service T
  new_service = record service { publishers = publishers; loans = loans; samples = samples; mailboxes = mailboxes }

  module _ (stands : StandsFor names lent held buffer old service) (there : port_of number old.publishers ≡ Some port)
      (others : (other : ℕ) → other ≢ number → message other ≡ names.message other)
      (at_it : at (names.publisher number) publishers ≡ Some publisher)
      (at_others : (other : ℕ) → other ≢ names.publisher number → at other publishers ≡ at other service.publishers)
      (is : PublisherStandsFor (message number) (names.reader number) old.sizes.max_subscribers after publisher)
      (boxes : MailboxesStandFor (message number) (names.reader number) names.subscriber after (mailboxes (names.publisher number))
      service.subscribers)
      (other_boxes : (other : ℕ) → other ≢ names.publisher number → mailboxes other ≡ service.mailboxes other)
      (no_more_boxes : (one other : ℕ) → is_some (mailboxes one other) ≡ true → is_some (service.mailboxes one other) ≡ true)
      (same_subscribers : AreButHeld old.subscribers subscribers)
      (once : (other : ℕ) → how_often other (keys_of subscribers) ≤ 1) (same_number : after.number ≡ port.number) where
    there_now : port_of number new.publishers ≡ Some after
    there_now = same_set (at_number number) old.publishers after port there

    elsewhere : (other : ℕ) → other ≢ number → port_of other new.publishers ≡ port_of other old.publishers
    elsewhere other off = other_found number other after old.publishers off

    is_after : (other : ℕ) (found : PublisherPort T U) → other ≡ number → port_of other new.publishers ≡ Some found → found ≡ after
    is_after other found same here = same_some found after (sym here ∙ ap (λ n. port_of n new.publishers) same ∙ there_now)

    was : PublisherIs names old service number port
    was = stands.publishers number port there

    apart : (other : ℕ) → names.publisher other ≡ names.publisher number → number ≡ other
    apart other same =
        stands.named_publishers.apart number other (not_zero names.publisher
        (names.publisher number) was.0 service.publishers stands.named_publishers was.1) (sym same)

    here : PublisherIs renamed new new_service number after
    here = (publisher, at_it, is, boxes)

    each : (other : ℕ) (found : PublisherPort T U) → (other ≡ number) ⊎ (other ≢ number) → port_of other new.publishers ≡ Some found
        → PublisherIs renamed new new_service other found
    each other found (inl same) it =
        subst (λ n. PublisherIs renamed new new_service n found) (sym same)
        (subst (λ (one : PublisherPort T U). PublisherIs renamed new new_service number one) (sym (is_after other found same it)) here)
    each other found (inr off) it =
        let one = stands.publishers other found (sym (elsewhere other off) ∙ it) in (
          one.0,
          at_others (names.publisher other) (λ same. off (sym (apart other same))) ∙ one.1,
          subst (λ name. PublisherStandsFor name (names.reader other) old.sizes.max_subscribers found one.0) (sym (others other off)) one.2,
          subst (λ name. MailboxesStandFor name (names.reader other) names.subscriber found
              (mailboxes (names.publisher other)) service.subscribers)
              (sym (others other off))
              (subst (λ boxes. MailboxesStandFor (names.message other) (names.reader other) names.subscriber found boxes
              service.subscribers) (sym (other_boxes (names.publisher other) (λ same. off (sym (apart other same))))) one.3),
        )

    listed : after.stands ≡ port.stands → after.place ≡ port.place → (other : ℕ) (found : PublisherPort T U)
        → (other ≡ number) ⊎ (other ≢ number) → port_of other new.publishers ≡ Some found → IsListedAt old.publisher_list.places other found
    listed same_stands same_place other found (inl same) it =
        subst (λ n. IsListedAt old.publisher_list.places n found) (sym same)
        (subst (λ (one : PublisherPort T U). IsListedAt old.publisher_list.places number one) (sym (is_after other found same it))
        (λ standing.
        let before = stands.listed number port there (sym same_stands ∙ standing) in
        (before.0, ap (λ place. get_or old.publisher_list.places place None) same_place ∙ before.1, before.2)))
    listed same_stands same_place other found (inr off) it = stands.listed other found (sym (elsewhere other off) ∙ it)

    own_number : (other : ℕ) (found : PublisherPort T U) → (other ≡ number) ⊎ (other ≢ number)
        → port_of other new.publishers ≡ Some found → found.number ≡ other
    own_number other found (inl same) it =
        ap (λ (one : PublisherPort T U). one.number) (is_after other found same it)
        ∙ (same_number ∙ (stands.numbered number port there ∙ sym same))
    own_number other found (inr off) it = stands.numbered other found (sym (elsewhere other off) ∙ it)

    keyed : IsKeyed number after old.subscribers → (other : ℕ) (found : PublisherPort T U)
        → (other ≡ number) ⊎ (other ≢ number) → port_of other new.publishers ≡ Some found → IsKeyed other found old.subscribers
    keyed is_keyed other found (inl same) it =
        subst (λ n. IsKeyed n found old.subscribers) (sym same)
        (subst (λ (one : PublisherPort T U). IsKeyed number one old.subscribers) (sym (is_after other found same it)) is_keyed)
    keyed is_keyed other found (inr off) it = stands.keyed other found (sym (elsewhere other off) ∙ it)

    gone : (other : ℕ) (one : Publisher T) → (other ≡ number) ⊎ (other ≢ number) → port_of other new.publishers ≡ None
        → at (names.publisher other) new_service.publishers ≡ Some one → one.stands ≡ false
    gone other one (inl same) none it = never_some after (sym none ∙ ap (λ n. port_of n new.publishers) same ∙ there_now)
    gone other one (inr off) none it =
        stands.gone_publishers other one (sym (elsewhere other off) ∙ none)
        (sym (at_others (names.publisher other) (λ same. off (sym (apart other same)))) ∙ it)

    present : after.stands ≡ port.stands → after.place ≡ port.place → (other place : ℕ) (found : PublisherPort T U)
        → (other ≡ number) ⊎ (other ≢ number) → port_of other old.publishers ≡ Some found → found.stands ≡ true → found.place ≡ place
        → (one : PublisherPort T U) × (port_of other new.publishers ≡ Some one) × (one.stands ≡ true) × (one.place ≡ place)
    present same_stands same_place other place found (inl same) it standing placed =
        let is_port = same_some found port (sym it ∙ ap (λ n. port_of n old.publishers) same ∙ there) in (
          after,
          ap (λ n. port_of n new.publishers) same ∙ there_now,
          same_stands
              ∙ sym (ap (λ (one : PublisherPort T U). one.stands) is_port) ∙ standing,
          same_place ∙ sym (ap (λ (one : PublisherPort T U). one.place) is_port) ∙ placed,
        )
    present same_stands same_place other place found (inr off) it standing placed = (found, elsewhere other off ∙ it, standing, placed)

    each_subscriber : (other : ℕ) (found : SubscriberPort) → subscriber_of other subscribers ≡ Some found
        → SubscriberIs renamed new new_service other found
    each_subscriber other found it =
        let was = found_like (subscriber_of other subscribers) (subscriber_of other old.subscribers) found (same_subscribers other) it in
        let before = stands.subscribers other was.0 was.1 in (
          before.0,
          before.1,
          subscriber_like names.publisher old.sizes.max_publishers old.sizes.expired_connections found before.0
              (subst (λ (one : SubscriberPort). SubscriberStandsFor names.publisher old.sizes.max_publishers
              old.sizes.expired_connections one before.0) (sym was.2)
              (without_held names.publisher old.sizes.max_publishers old.sizes.expired_connections was.0 before.0 before.2)),
        )

    -- the list of publishers may be another
    pub any_changed : (roll : RollState PublisherEntry) (list : PortList)
        → list ≡ list_as (λ (entry : PublisherEntry). names.publisher entry.publisher) roll
        → ((other : ℕ) (found : PublisherPort T U) → port_of other new.publishers ≡ Some found → IsListedAt roll.places other found)
        → ((place : ℕ) (member : Member PublisherEntry) → get_or roll.places place None ≡ Some member
        → (one : PublisherPort T U) × (port_of member.value.publisher new.publishers ≡ Some one) × (one.stands ≡ true)
        × (one.place ≡ place))
        → ((other : ℕ) (found : PublisherPort T U) → port_of other new.publishers ≡ Some found → IsKeyed other found subscribers)
        → LoansStandFor renamed new after_lent loans → SamplesStandFor renamed new after_held samples
        → StandsFor renamed after_lent after_held buffer (record new { publisher_list = roll })
        (record new_service { publisher_list = list })
    any_changed roll list same_list is_listed is_present is_keyed same_loans same_samples = record {
      sizes = stands.sizes;
      publisher_list = same_list;
      subscriber_list = stands.subscriber_list;
      named_publishers = still_named names.publisher
          (names.publisher number) publisher was.0 service.publishers publishers was.1 at_it at_others stands.named_publishers;
      named_subscribers = stands.named_subscribers;
      unnamed = stands.unnamed;
      publishers = λ other found it. each other found (cases_eq other number) it;
      listed = is_listed;
      present = is_present;
      gone_publishers = λ other one none it. gone other one (cases_eq other number) none it;
      numbered = λ other found it. own_number other found (cases_eq other number) it;
      once = λ other. subst (λ keys. how_often other keys ≤ 1) (sym (keys-set_value (at_number number) old.publishers after))
          (stands.once other);
      once_subscribers = once;
      keyed = is_keyed;
      subscribers = each_subscriber;
      gone_subscribers = λ other one none it. stands.gone_subscribers other one
          (none_like (subscriber_of other subscribers) (subscriber_of other old.subscribers) (same_subscribers other) none) it;
      listed_subscribers = λ other found it standing.
          let was = found_like (subscriber_of other subscribers) (subscriber_of other old.subscribers) found (same_subscribers other) it in
          let before = stands.listed_subscribers other was.0 was.1 (ap (λ (one : SubscriberPort). one.stands) (sym was.2) ∙ standing) in
          (before.0, ap (λ (one : SubscriberPort). get_or old.subscriber_list.places one.place None) was.2 ∙ before.1, before.2);
      present_subscribers = λ place member is.
          let before = stands.present_subscribers place member is in
          let now = found_like (subscriber_of member.value.subscriber old.subscribers) (subscriber_of member.value.subscriber subscribers)
          before.0 (sym (same_subscribers member.value.subscriber)) before.1 in (
            now.0,
            now.1,
            ap (λ (one : SubscriberPort). one.stands) (sym now.2) ∙ before.2,
            ap (λ (one : SubscriberPort). one.place) (sym now.2) ∙ before.3,
          );
      sized = stands.sized;
      joined = λ one other is.
          let before = stands.joined one other (no_more_boxes one other is) in (
            still_some (names.publisher number) one publisher was.0 service.publishers publishers was.1 at_it at_others (cases_eq one
                (names.publisher number)) ∙ before.0,
            before.1,
          );
      loans = record { same = same_loans.same; once = same_loans.once; all = same_loans.all };
      samples = record {
        same = same_samples.same;
        once = same_samples.once;
        all = same_samples.all;
        whose = same_samples.whose;
        counted = same_samples.counted;
      };
    }

    pub all_changed : after.stands ≡ port.stands → after.place ≡ port.place → IsKeyed number after old.subscribers
        → LoansStandFor renamed new after_lent loans → SamplesStandFor renamed new after_held samples
        → StandsFor renamed after_lent after_held buffer new new_service
    all_changed same_stands same_place is_keyed same_loans same_samples =
        any_changed old.publisher_list service.publisher_list stands.publisher_list
        (λ other found it. listed same_stands same_place other found (cases_eq other number) it)
        (λ place member listed_there.
        let before = stands.present place member listed_there in
        present same_stands same_place member.value.publisher place before.0 (cases_eq member.value.publisher number)
        before.1 before.2 before.3)
        (λ other found it. still_keyed other found old.subscribers subscribers same_subscribers
        (keyed is_keyed other found (cases_eq other number) it))
        same_loans same_samples

module _ {T U : Type 0} (names : Naming) (message : ℕ → ℕ → ℕ) (lent after_lent : List (ℕ × LentSlot)) (held : List (ℕ × Taken))
    (buffer : ℕ)
    (old : ServicePorts T U) (service : Service T) (number : ℕ) (port after : PublisherPort T U) (publisher : Publisher T)
    (publishers : List (ℕ × Publisher T)) (loans : List (ℕ × Loan T)) where
  -- mailboxes, samples and subscribers stay
  pub one_changed : (stands : StandsFor names lent held buffer old service) → port_of number old.publishers ≡ Some port
      → ((other : ℕ) → other ≢ number → message other ≡ names.message other)
      → at (names.publisher number) publishers ≡ Some publisher
      → ((other : ℕ) → other ≢ names.publisher number → at other publishers ≡ at other service.publishers)
      → PublisherStandsFor (message number) (names.reader number) old.sizes.max_subscribers after publisher
      → MailboxesStandFor (message number) (names.reader number) names.subscriber after (service.mailboxes (names.publisher number))
      service.subscribers
      → after.stands ≡ port.stands → after.place ≡ port.place → after.number ≡ port.number → after.readers ≡ port.readers
      → LoansStandFor (record names { message = message }) (with_one number after old) after_lent loans
      → SamplesStandFor (record names { message = message }) (with_one number after old) held service.samples
      → StandsFor (record names { message = message }) after_lent held buffer (with_one number after old)
      (record service { publishers = publishers; loans = loans })
  one_changed stands there others at_it at_others is boxes same_stands same_place same_number same_readers =
      all_changed names message lent after_lent held held buffer old service number port after publisher publishers loans service.samples
      service.mailboxes old.subscribers stands there others at_it at_others is boxes (λ other off. refl) (λ one other there. there)
      (λ other. refl) stands.once_subscribers same_number same_stands same_place
      (λ index to read attached. stands.keyed number port there index to (sym (ap (λ readers. get_or readers index None) same_readers)
      ∙ read) attached)
