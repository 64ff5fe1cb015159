-- The ports of a domain in the middle of a subscriber's update, and the machine's service that they represent then.
use Rattle.std.proofs.Common.{◌≡◌, ◌≢◌, ◌≤◌, ◌⊎◌, ◌∷◌, ◌==◌, ◌&&◌, [], ℕ, true, List, length, map, get_or, not, nat_lt, Option, None}
use Rattle.std.proofs.Common.{Some, refl, sym, ap, subst, inl, inr, ◌∙◌, arith}
use Rattle.std.proofs.lemmas.Bool.{cases_eq, lt-ltb, ne_eqb}
use Rattle.std.proofs.lemmas.List.{length-map}
use Rattle.std.proofs.lemmas.Map.{keys-set_value}
use Rattle.std.specs.List.{All}
use Rattle.std.specs.Map.{keys_of}
use Rattle.std.specs.Option.{option_map_or}
use Rattle.std.specs.Prelude.{is_some, option_map, unwrap_or}
use Rattle.iox_domain.proofs.Numbered.{at_number, same_set}
use Rattle.iox_domain.proofs.TiedWell.{still_there}
use Rattle.iox_domain.specs.Attaching.{KeysFit}
use Rattle.iox_domain.specs.Container.declared.container.Member.{Member}
use Rattle.iox_domain.specs.DomainPorts.Following.{is_unborrowed}
use Rattle.iox_domain.specs.DomainPorts.Messages.{Message}
use Rattle.iox_domain.specs.DomainPorts.Places.{reached}
use Rattle.iox_domain.specs.DomainPorts.Publishers.{port_of, connection_at_port}
use Rattle.iox_domain.specs.DomainPorts.Subscribing.{attached_at, connection_by, is_idle}
use Rattle.iox_domain.specs.DomainPorts.declared.attached.Attached.{Attached}
use Rattle.iox_domain.specs.DomainPorts.declared.attached.Taken.{Taken}
use Rattle.iox_domain.specs.DomainPorts.declared.publisher_entry.PublisherEntry.{PublisherEntry}
use Rattle.iox_domain.specs.DomainPorts.declared.publisher_port.PublisherPort.{PublisherPort}
use Rattle.iox_domain.specs.DomainPorts.declared.reader.Reader.{Reader}
use Rattle.iox_domain.specs.DomainPorts.declared.subscriber_port.SubscriberPort.{SubscriberPort}
use Rattle.iox_domain.specs.DomainSlots.Uses.{Connection}
use Rattle.iox_domain.specs.PortLawsLaws.{IsSoundEntry, IsWellEntry}
use Rattle.iox_domain.specs.Ports.{with_both}
use Rattle.iox_domain.specs.Roomy.{IsAttached}
use Rattle.iox_domain.specs.SizeLaws.{IsMadeFor, allowed_by}
use Rattle.iox_domain.specs.Subscribers.{subscriber_of, with_subscriber}
use Rattle.iox_domain.specs.Tries.{how_often}
use Rattle.iox_domain.specs.declared.ports.service_ports.ServicePorts.{ServicePorts}
use Rattle.iox_domain_machine.specs.Naming.{Naming, mailbox_as}
use Rattle.iox_domain_machine.specs.Standing.{StandsFor}
use Rattle.iox_domain_machine.specs.Subscribers.{SubscriberStandsFor, publisher_by}
use Rattle.iox_domain_machine.specs.Tables.{LentSlot}
use Rattle.iox_domain_machine.proofs.Found.{same_some, other_found, at_changed, at_changed_other}
use Rattle.iox_domain_machine.proofs.UpdateLists.{mapped_at}
use Rattle.iox_domain_machine.proofs.UpdateReading.{IsReading}
use Rattle.iox_domain_machine.proofs.UpdateSubscriber.{subscriber_changed}
use Rattle.iox_machine.specs.Mailbox as machine
use Rattle.iox_machine.specs.Mailbox.{Mailbox}
use Rattle.iox_machine.specs.Service.{Service, Subscriber, mailbox}
use Rattle.iox_machine.specs.Table.{at, changed}

-- the same subscriber, but for its connections and what it has seen
pub record IsSamePort (old new : SubscriberPort) : Type 0 where
  pub number : new.number ≡ old.number
  pub owner : new.owner ≡ old.owner
  pub stands : new.stands ≡ old.stands
  pub buffer_size : new.buffer_size ≡ old.buffer_size
  pub place : new.place ≡ old.place
  pub held : new.held ≡ old.held
  pub room : new.expired.room ≡ old.expired.room

-- who is connected at a place, by its name
abbrev pub connected_at : (ℕ → ℕ) → SubscriberPort → ℕ → Option ℕ
connected_at name port place = option_map (publisher_by name port) (get_or port.places.items place None)

-- the subscriber of the machine with the connections that one of a domain has
abbrev pub subscriber_as : (ℕ → ℕ) → ℕ → Subscriber → SubscriberPort → Subscriber
subscriber_as name most was port = record was {
  seen = port.seen;
  again = port.again;
  connected = map (option_map (publisher_by name port)) (reached most port.places.items);
  expired = map (publisher_by name port) port.expired.items;
}

pub connected_is : (name : ℕ → ℕ) (most : ℕ) (was : Subscriber) (port : SubscriberPort) (place : ℕ)
    → get_or (subscriber_as name most was port).connected place None ≡ connected_at name port place
connected_is name most was port place =
    mapped_at (publisher_by name port) (reached most port.places.items) place
    ∙ ap (option_map (publisher_by name port)) (still_there port.places.items _ place)

pub as_stands : (name : ℕ → ℕ) (most most_expired : ℕ) (was : Subscriber) (first port : SubscriberPort)
    → SubscriberStandsFor name most most_expired first was → IsSamePort first port
    → SubscriberStandsFor name most most_expired port (subscriber_as name most was port)
as_stands name most most_expired was first port is same = record {
  factory = is.factory ∙ ap (λ owner. owner.number) (sym same.owner);
  stands = is.stands ∙ sym same.stands;
  buffer_size = is.buffer_size ∙ sym same.buffer_size;
  seen = refl;
  again = refl;
  connected = λ standing. refl;
  expired = λ standing. refl;
  room = same.room ∙ is.room;
}

-- the publisher of a key that is left is the same
pub same_publisher : (name : ℕ → ℕ) (old new : SubscriberPort) (key : ℕ) (attached : Attached) → attached_at key new ≡ Some attached
    → attached_at key old ≡ Some attached → publisher_by name new key ≡ publisher_by name old key
same_publisher name old new key attached now was =
    ap (λ (found : Option Attached). option_map_or (λ (one : Attached). name one.publisher) found 0) (now ∙ sym was)

module _ {T U : Type 0} (names : Naming) (lent : List (ℕ × LentSlot)) (held : List (ℕ × Taken)) (buffer : ℕ) (old : ServicePorts T U)
    (service : Service T) (number : ℕ) (first : SubscriberPort) (was : Subscriber) where
  abbrev pub its : ℕ
  its = names.subscriber number

  abbrev pub name : ℕ → ℕ
  name = names.publisher

  abbrev pub places : List (Option (Member PublisherEntry))
  places = old.publisher_list.places

  abbrev pub as_one : SubscriberPort → Subscriber
  as_one port = subscriber_as names.publisher old.sizes.max_publishers was port

  -- the service in the middle of the update
  abbrev pub service_at : SubscriberPort → (ℕ → ℕ → Option (Mailbox T)) → Service T
  service_at port mailboxes = record service {
    subscribers = changed (names.subscriber number) (as_one port) service.subscribers;
    mailboxes = mailboxes;
  }

  -- ports stand for it there
  abbrev pub Stands : (ℕ → ℕ → ℕ) → SubscriberPort → List (ℕ × PublisherPort T U) → (ℕ → ℕ → Option (Mailbox T)) → Type 0
  Stands reader port ports mailboxes =
      StandsFor (record names { reader = reader }) lent held buffer (with_both number port ports old) (service_at port mailboxes)

  -- Ports in the middle of the update: they represent the service at that moment, and are in order.
  pub record Midway (reader : ℕ → ℕ → ℕ) (port : SubscriberPort) (ports : List (ℕ × PublisherPort T U))
      (mailboxes : ℕ → ℕ → Option (Mailbox T)) : Type 0 where
    pub stands : Stands reader port ports mailboxes
    pub same : IsSamePort first port
    pub fit : KeysFit port
    pub room : port.places.room ≡ old.sizes.max_publishers
    pub reads : IsReading number old.publisher_list.places port ports
    pub sound : All (IsSoundEntry old.next_port) ports
    pub sized : All (IsMadeFor (allowed_by old.sizes)) ports
    pub well : All (IsWellEntry old.next_port old.subscriber_list.places) ports

  module _ (there : subscriber_of number old.subscribers ≡ Some first)
      (was_there : at (names.subscriber number) service.subscribers ≡ Some was)
      (was_is : SubscriberStandsFor names.publisher old.sizes.max_publishers old.sizes.expired_connections first was)
      (once : (other : ℕ) → how_often other (keys_of old.subscribers) ≤ 1) where
    pub there_now : (port : SubscriberPort) → subscriber_of number (with_subscriber number old.subscribers port) ≡ Some port
    there_now port = same_set (at_number number) old.subscribers port first there

    pub one_now : (port : SubscriberPort) → at its (changed its (as_one port) service.subscribers) ≡ Some (as_one port)
    one_now port = at_changed its (as_one port) was service.subscribers was_there

    -- the subscriber has other connections, where each reader has a key still
    pub port_moved : (reader : ℕ → ℕ → ℕ) (port new : SubscriberPort) (ports : List (ℕ × PublisherPort T U))
        (mailboxes : ℕ → ℕ → Option (Mailbox T)) → IsSamePort first port → IsSamePort first new
        → ((publisher index : ℕ) (one : PublisherPort T U) (to : Reader) → port_of publisher ports ≡ Some one
        → get_or one.readers index None ≡ Some to → to.subscriber ≡ number → (key : ℕ)
        → attached_at key port ≡ Some (record { publisher = publisher; index = index })
        → attached_at key new ≡ Some (record { publisher = publisher; index = index }))
        → Stands reader port ports mailboxes → Stands reader new ports mailboxes
    port_moved reader port new ports mailboxes same_port same_new keeps stands =
        let before = stands.subscribers number port (there_now port) in
        let own : before.0 ≡ as_one port = same_some before.0 (as_one port) (sym before.1 ∙ one_now port) in
        subscriber_changed (record names { reader = reader }) lent held buffer (with_both number port ports old) (service_at port mailboxes)
        number port new (with_subscriber number old.subscribers new) (as_one new) (changed its (as_one new) service.subscribers) stands
        (there_now port) (there_now new)
        (λ other off. other_found number other new old.subscribers off ∙ sym (other_found number other port old.subscribers off))
        (λ other. subst (λ keys. how_often other keys ≤ 1) (sym (keys-set_value (at_number number) old.subscribers new)) (once other))
        (same_new.stands ∙ sym same_port.stands) (same_new.place ∙ sym same_port.place) (same_new.held ∙ sym same_port.held)
        (one_now new)
        (λ other off. at_changed_other its other (as_one new) service.subscribers off
        ∙ sym (at_changed_other its other (as_one port) service.subscribers off))
        (sym (ap (λ (one : Subscriber). one.stands) own)) (sym (ap (λ (one : Subscriber). one.buffer_size) own))
        (as_stands names.publisher old.sizes.max_publishers old.sizes.expired_connections was first new was_is same_new)
        (λ other found it index to led attached.
        let key = stands.keyed other found it index to led attached in
        keyed other index found to it led attached key.0 key.1 key.2 key.3 key.4 (cases_eq to.subscriber number))
      where
        keyed : (other index : ℕ) (found : PublisherPort T U) (to : Reader) → port_of other ports ≡ Some found
            → get_or found.readers index None ≡ Some to → to.attached ≡ true → (subscriber : SubscriberPort)
            → subscriber_of to.subscriber (with_subscriber number old.subscribers port) ≡ Some subscriber → subscriber.stands ≡ true
            → (key : ℕ) → attached_at key subscriber ≡ Some (record { publisher = other; index = index })
            → (to.subscriber ≡ number) ⊎ (to.subscriber ≢ number)
            → (subscriber : SubscriberPort) × (subscriber_of to.subscriber (with_subscriber number old.subscribers new) ≡ Some subscriber)
            × (subscriber.stands ≡ true)
            × (key : ℕ) × (attached_at key subscriber ≡ Some (record { publisher = other; index = index }))
        keyed other index found to it led attached subscriber is standing key has (inl own) =
            let its_port : subscriber ≡ port = same_some subscriber port (sym is
            ∙ ap (λ n. subscriber_of n (with_subscriber number old.subscribers port)) own ∙ there_now port) in (
              new,
              ap (λ n. subscriber_of n (with_subscriber number old.subscribers new)) own ∙ there_now new,
              same_new.stands ∙ sym same_port.stands ∙ sym (ap (λ (one : SubscriberPort). one.stands) its_port) ∙ standing,
              key,
              keeps other index found to it led own key (ap (λ (one : SubscriberPort). attached_at key one) (sym its_port) ∙ has),
            )
        keyed other index found to it led attached subscriber is standing key has (inr off) = (
          subscriber,
          other_found number to.subscriber new old.subscribers off
              ∙ sym (other_found number to.subscriber port old.subscribers off) ∙ is,
          standing,
          key,
          has,
        )

    module _ (reader : ℕ → ℕ → ℕ) (port : SubscriberPort) (ports : List (ℕ × PublisherPort T U))
        (mailboxes : ℕ → ℕ → Option (Mailbox T)) (midway : Midway reader port ports mailboxes)
        (kept : (one other : ℕ) → is_some (service.mailboxes one other) ≡ true → mailboxes one other ≡ service.mailboxes one other) where
      -- the mailbox of the connection of a key
      pub box_now : (key : ℕ) (attached : Attached) → attached_at key port ≡ Some attached
          → mailboxes (publisher_by name port key) its
          ≡ Some (mailbox_as (names.message attached.publisher) (connection_by (attached_at key port) ports))
      box_now key attached has =
          let read : IsAttached number attached ports = midway.reads.reads key attached has in
          let boxes = (midway.stands.publishers attached.publisher read.0 read.1).3 in
          let whose = boxes.read attached.index (record { subscriber = number; attached = true }) read.2.reader in
          ap (λ n. mailboxes n its) (ap (λ (found : Option Attached). option_map_or (λ (one : Attached). name one.publisher) found 0) has)
          ∙ ap (mailboxes (name attached.publisher)) (sym whose.0) ∙ boxes.live attached.index read.2.live
          ∙ ap (λ (c : Connection (Message T U)). Some (mailbox_as (names.message attached.publisher) c))
          (sym (ap (λ (found : Option Attached). connection_by found ports) has
          ∙ ap (connection_at_port attached.index) read.1))

      box_before : (key : ℕ) (attached : Attached) → attached_at key port ≡ Some attached
          → is_some (service.mailboxes (publisher_by name port key) its) ≡ true
          → mailbox (publisher_by name port key) its service
          ≡ mailbox_as (names.message attached.publisher) (connection_by (attached_at key port) ports)
      box_before key attached has known =
          ap (λ (found : Option (Mailbox T)). unwrap_or found (record { limit = 0; waiting = []; borrowed = [] }))
          (sym (kept (publisher_by name port key) its known) ∙ box_now key attached has)

      waits_so : {X Y : Type 0} (f : X → Y) (waiting borrowed : List X)
          → (not (nat_lt 0 (length (map f waiting))) && (length (map f borrowed) == 0)) ≡ ((length waiting == 0) && (length borrowed == 0))
      waits_so f [] borrowed = ap (λ n. n == 0) (length-map borrowed f)
      waits_so f (one ∷ waiting) borrowed =
          ap (λ b. not b && (length (map f borrowed) == 0)) (lt-ltb 0 (length (map f (one ∷ waiting))) (omega arith))
          ∙ sym (ap (λ b. b && (length borrowed == 0)) (ne_eqb (length (one ∷ waiting)) 0 (λ same. absurd (omega (arith, same)))))

      pub idle_so : (key : ℕ) (attached : Attached) → attached_at key port ≡ Some attached
          → is_some (service.mailboxes (publisher_by name port key) its) ≡ true
          → machine.is_idle (mailbox (publisher_by name port key) its service) ≡ is_idle port ports key
      idle_so key attached has known =
          let connection = connection_by (attached_at key port) ports in
          ap (λ (box : Mailbox T). machine.is_idle box) (box_before key attached has known)
          ∙ waits_so _ connection.waiting connection.borrowed

      pub unborrowed_so : (key : ℕ) (attached : Attached) → attached_at key port ≡ Some attached
          → is_some (service.mailboxes (publisher_by name port key) its) ≡ true
          → (length (mailbox (publisher_by name port key) its service).borrowed == 0) ≡ is_unborrowed port ports key
      unborrowed_so key attached has known =
          ap (λ (box : Mailbox T). length box.borrowed == 0) (box_before key attached has known)
          ∙ ap (λ n. n == 0) (length-map (connection_by (attached_at key port) ports).borrowed _)
