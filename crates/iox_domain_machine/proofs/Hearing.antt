-- What a subscriber hears of its connections, of a domain and of the machine.
use Rattle.std.proofs.Common.{◌≡◌, ◌<◌, ◌∷◌, [], ◌++◌, ◌||◌, ◌==◌, ℕ, zero, suc, Bool, true, false, cond, List, length, get_or, map}
use Rattle.std.proofs.Common.{Option, None, Some, refl, sym, ap, subst, ◌∙◌, arith}
use Rattle.std.proofs.lemmas.Bool.{eq-eqb, eqb-true}
use Rattle.std.proofs.lemmas.List.{length-map, map-append}
use Rattle.std.specs.List.{list_any}
use Rattle.std.specs.Option.{option_map_or}
use Rattle.std.specs.Prelude.{is_some, nat_lt, option_map, unwrap_or, if◌then◌else◌}
use Rattle.iox_domain.proofs.DomainPorts.First.{no_data_without}
use Rattle.iox_domain.proofs.Keys.{keys_reached, often_append}
use Rattle.iox_domain.proofs.Numbered.{at_number, found_of_all}
use Rattle.iox_domain.proofs.StayRoomy.{entry_found}
use Rattle.iox_domain.specs.Attaching as attaching
use Rattle.iox_domain.specs.Attaching.{keys_at, IsKeyedEntry}
use Rattle.iox_domain.specs.DomainPorts.Messages.{Message}
use Rattle.iox_domain.specs.DomainPorts.Places.{reached}
use Rattle.iox_domain.specs.DomainPorts.Publishers.{port_of, connection_at_port}
use Rattle.iox_domain.specs.DomainPorts.Receiving.{IsFirst}
use Rattle.iox_domain.specs.DomainPorts.Subscribing as domain
use Rattle.iox_domain.specs.DomainPorts.Subscribing.{attached_at, connection_by}
use Rattle.iox_domain.specs.DomainPorts.declared.attached.Attached.{Attached}
use Rattle.iox_domain.specs.DomainPorts.declared.attached.Taken.{Taken}
use Rattle.iox_domain.specs.DomainPorts.declared.publisher_port.PublisherPort.{PublisherPort}
use Rattle.iox_domain.specs.DomainPorts.declared.subscriber_port.SubscriberPort.{SubscriberPort}
use Rattle.iox_domain.specs.DomainSlots.Uses.{Connection}
use Rattle.iox_domain.specs.Roomy.{IsAttached, ReadsApart, AreRoomy}
use Rattle.iox_domain.specs.Subscribers.{subscriber_of}
use Rattle.iox_domain.specs.Tries.{how_often}
use Rattle.iox_domain.specs.declared.ports.service_ports.ServicePorts.{ServicePorts}
use Rattle.iox_domain_machine.specs.Naming.{Naming, mailbox_as, message_as}
use Rattle.iox_domain_machine.specs.Standing.{StandsFor}
use Rattle.iox_domain_machine.specs.Subscribers.{SubscriberStandsFor, publisher_by}
use Rattle.iox_domain_machine.specs.Tables.{LentSlot}
use Rattle.iox_domain_machine.proofs.Found.{never_some, never_true, same_some}
use Rattle.iox_machine.specs.Mailbox.{Mailbox}
use Rattle.iox_machine.specs.PortList.{those}
use Rattle.iox_machine.specs.Receiving.{has_samples}
use Rattle.iox_machine.specs.Service.{Service, Subscriber, mailbox}
use Rattle.iox_machine.proofs.Shorthands.{has_data}

-- what stands in a list stands there at least once
pub often_head : (key : ℕ) (keys : List ℕ) → 0 < how_often key (key ∷ keys)
often_head key keys =
    let counted : ◌≡◌ {A = ℕ} (cond (key == key) 1 0) 1 = ap (λ b. cond b 1 0) (eq-eqb key key refl) in omega (arith, counted)

pub often_behind : (key other : ℕ) (keys : List ℕ) → 0 < how_often key keys → 0 < how_often key (other ∷ keys)
often_behind key other keys is = omega (arith, is)

-- a test that agrees with another on what stands in a list
pub any_same : {X : Type 0} (name : ℕ → X) (f : X → Bool) (g : ℕ → Bool) (keys : List ℕ)
    → ((key : ℕ) → 0 < how_often key keys → f (name key) ≡ g key) → list_any f (map name keys) ≡ list_any g keys
any_same name f g [] same = refl
any_same name f g (key ∷ keys) same =
    ap (λ b. b || list_any f (map name keys)) (same key (often_head key keys))
    ∙ ap (λ b. g key || b) (any_same name f g keys (λ other is. same other (often_behind other key keys is)))

pub any_none : (test : ℕ → Bool) (keys : List ℕ) → ((key : ℕ) → test key ≡ false) → list_any test keys ≡ false
any_none test [] none = refl
any_none test (key ∷ keys) none = ap (λ b. b || list_any test keys) (none key) ∙ any_none test keys none

or_true : (b : Bool) → (b || true) ≡ true
or_true true = refl
or_true false = refl

some_by : (test : ℕ → Bool) (one key : ℕ) (keys : List ℕ) (same : Bool) → (one == key) ≡ same → test one ≡ true
    → 0 < how_often one (key ∷ keys)
    → (0 < how_often one keys → list_any test keys ≡ true) → (test key || list_any test keys) ≡ true
some_by test one key keys true is passes there rest =
    ap (λ b. b || list_any test keys) (sym (ap test (eqb-true one key is)) ∙ passes)
some_by test one key keys false is passes there rest =
    let counted : ◌≡◌ {A = ℕ} (cond (one == key) 1 0) 0 = ap (λ b. cond b 1 0) is in
    ap (λ b. test key || b) (rest (omega (arith, there, counted))) ∙ or_true (test key)

pub some_passes : (test : ℕ → Bool) (one : ℕ) (keys : List ℕ) → test one ≡ true → 0 < how_often one keys → list_any test keys ≡ true
some_passes test one [] passes there = absurd (omega (arith, there))
some_passes test one (key ∷ keys) passes there =
    some_by test one key keys (one == key) refl passes there (some_passes test one keys passes)

-- who is connected at places, by the keys that these hold
pub those_keys : (name : ℕ → ℕ) (places : List (Option ℕ)) → those (map (option_map name) places) ≡ map name (keys_at places)
those_keys name [] = refl
those_keys name (None ∷ places) = those_keys name places
those_keys name (Some key ∷ places) = ap (λ more. name key ∷ more) (those_keys name places)

-- there are as many messages by their names
pub length_same : {T U : Type 0} (name : ℕ → ℕ) (messages : List (Message T U)) → length (map (message_as name) messages) ≡ length messages
length_same name messages = length-map messages (message_as name)

-- What a subscriber that stands has: its number; a connection for each key of its places and of its expired ones, each of which it has
-- once, and for no other; these are of different publishers, and it reads there; and those of expired keys left.
pub record Hears {T U : Type 0} (number : ℕ) (port : SubscriberPort) (ports : List (ℕ × PublisherPort T U)) : Type 0 where
  pub named : port.number ≡ number
  pub standing : port.stands ≡ true
  pub used : (key : ℕ) → how_often key (attaching.keys_of port) ≡ (if is_some (attached_at key port) then 1 else 0)
  pub reads : (key : ℕ) (attached : Attached) → attached_at key port ≡ Some attached → IsAttached number attached ports
  pub apart : (key other : ℕ) (one two : Attached) → attached_at key port ≡ Some one → attached_at other port ≡ Some two
      → one.publisher ≡ two.publisher → key ≡ other
  pub left : (key : ℕ) (attached : Attached) (found : PublisherPort T U) → 0 < how_often key port.expired.items
      → attached_at key port ≡ Some attached → port_of attached.publisher ports ≡ Some found → found.stands ≡ false

module _ {T U : Type 0} (names : Naming) (lent : List (ℕ × LentSlot)) (held : List (ℕ × Taken)) (buffer : ℕ) (ports : ServicePorts T U)
    (service : Service T) (number : ℕ) (port : SubscriberPort) (stands : StandsFor names lent held buffer ports service)
    (there : subscriber_of number ports.subscribers ≡ Some port) where
  -- where ports are roomy a subscriber that stands hears so
  module _ (roomy : AreRoomy ports) (standing : port.stands ≡ true) where
    entry : ReadsApart ports number port
    entry = entry_found number port ports there roomy standing

    abbrev fits : attaching.KeysFit port
    fits =
        (found_of_all (IsKeyedEntry ports.sizes.max_publishers) (at_number number) ports.subscribers port roomy.keyed.keyed there).holds.0

    taken_twice : (key place : ℕ) (places : List (Option ℕ)) → get_or places place None ≡ Some key → 0 < how_often key (keys_at places)
    taken_twice key place [] is = never_some key is
    taken_twice key zero (None ∷ places) is = never_some key is
    taken_twice key zero (Some other ∷ places) is =
        subst (λ one. 0 < how_often key (one ∷ keys_at places)) (sym (same_some other key is)) (often_head key (keys_at places))
    taken_twice key (suc place) (None ∷ places) is = taken_twice key place places is
    taken_twice key (suc place) (Some other ∷ places) is = often_behind key other (keys_at places) (taken_twice key place places is)

    gone : (key : ℕ) (attached : Attached) (found : PublisherPort T U) → 0 < how_often key port.expired.items
        → attached_at key port ≡ Some attached → port_of attached.publisher ports.publishers ≡ Some found → (standing : Bool)
        → found.stands ≡ standing → found.stands ≡ false
    gone key attached found expired is it false left = left
    gone key attached found expired is it true stays =
        let listed = stands.listed attached.publisher found it stays in
        let placed = entry.placed key found.place attached listed.0 is listed.1 (sym listed.2) in
        let counted : ◌≡◌ {A = ℕ} (cond (is_some (attached_at key port)) 1 0) 1 = ap (λ one. cond (is_some one) 1 0) is in
        let at_place = taken_twice key found.place port.places.items placed in
        absurd (omega (arith, expired, at_place, counted, fits.used key, often_append key (keys_at port.places.items) port.expired.items))

    pub hears : Hears number port ports.publishers
    hears = record {
      named = entry.named;
      standing = standing;
      used = fits.used;
      reads = entry.reads;
      apart = entry.apart;
      left = λ key attached found expired is it. gone key attached found expired is it found.stands refl;
    }

  module _ (hears : Hears number port ports.publishers) where
    -- the publisher that a key leads to, by its name
    abbrev pub by_key : ℕ → ℕ
    by_key = publisher_by names.publisher port

    -- the mailbox of the machine that the connection of a key is
    abbrev pub box_by : ℕ → Mailbox T
    box_by key = mailbox (by_key key) (names.subscriber number) service

    box_there : (key : ℕ) (attached : Attached) → attached_at key port ≡ Some attached
        → service.mailboxes (names.publisher attached.publisher) (names.subscriber number)
        ≡ Some (mailbox_as (names.message attached.publisher) (connection_by (Some attached) ports.publishers))
    box_there key attached is =
        let it = hears.reads key attached is in
        let was = stands.publishers attached.publisher it.0 it.1 in
        ap (service.mailboxes (names.publisher attached.publisher))
        (sym (was.3.read attached.index (record { subscriber = number; attached = true }) it.2.reader).0)
        ∙ was.3.live attached.index it.2.live
        ∙ ap (λ (found : Option (PublisherPort T U)). Some (mailbox_as (names.message attached.publisher)
        (connection_at_port attached.index found))) (sym it.1)

    pub box_is : (key : ℕ) (attached : Attached) → attached_at key port ≡ Some attached
        → box_by key ≡ mailbox_as (names.message attached.publisher) (connection_by (Some attached) ports.publishers)
    box_is key attached is =
        ap (λ found. mailbox (option_map_or (λ (attached : Attached). names.publisher attached.publisher) found 0) (names.subscriber number)
        service) is
        ∙ ap (λ found. unwrap_or found (record { limit = 0; waiting = []; borrowed = [] })) (box_there key attached is)

    -- what is told of a connection is told of its mailbox
    pub told : {X : Type 0} (tell : Mailbox T → X) (of : Connection (Message T U) → X)
        → ((name : ℕ → ℕ) (connection : Connection (Message T U)) → tell (mailbox_as name connection) ≡ of connection)
        → (key : ℕ) → is_some (attached_at key port) ≡ true → tell (box_by key) ≡ of (connection_by (attached_at key port) ports.publishers)
    told {X} tell of same key = by (attached_at key port) refl
      where
        by : (found : Option Attached) → attached_at key port ≡ found → is_some (attached_at key port) ≡ true
            → tell (box_by key) ≡ of (connection_by (attached_at key port) ports.publishers)
        by None is there = never_true (sym (ap (λ (one : Option Attached). is_some one) is) ∙ there)
        by (Some attached) is there =
            ap tell (box_is key attached is) ∙ same (names.message attached.publisher) (connection_by (Some attached) ports.publishers)
            ∙ ap (λ one. of (connection_by one ports.publishers)) (sym is)

    pub data_same : (key : ℕ) → is_some (attached_at key port) ≡ true → has_data (box_by key) ≡ domain.has_data port ports.publishers key
    data_same = told has_data (λ connection. nat_lt 0 (length connection.waiting))
        (λ name connection. ap (nat_lt 0) (length_same name connection.waiting))

    -- a key that is used has a connection, and a key that has one is used
    pub has_connection : (key : ℕ) → 0 < how_often key (attaching.keys_of port) → is_some (attached_at key port) ≡ true
    has_connection key is = by (is_some (attached_at key port)) refl
      where
        by : (some : Bool) → is_some (attached_at key port) ≡ some → is_some (attached_at key port) ≡ true
        by true some = some
        by false none =
            let counted : ◌≡◌ {A = ℕ} (cond (is_some (attached_at key port)) 1 0) 0 = ap (λ b. cond b 1 0) none in
            absurd (omega (arith, is, counted, hears.used key))

    pub is_used : (key : ℕ) → is_some (attached_at key port) ≡ true → 0 < how_often key (attaching.keys_of port)
    is_used key some =
        let counted : ◌≡◌ {A = ℕ} (cond (is_some (attached_at key port)) 1 0) 1 = ap (λ b. cond b 1 0) some in
        omega (arith, counted, hears.used key)

    pub with_data : (key : ℕ) → domain.has_data port ports.publishers key ≡ true → is_some (attached_at key port) ≡ true
    with_data key has = by (attached_at key port) refl
      where
        by : (found : Option Attached) → attached_at key port ≡ found → is_some (attached_at key port) ≡ true
        by None is = never_true (sym (no_data_without port ports.publishers key is) ∙ has)
        by (Some attached) is = ap (λ (one : Option Attached). is_some one) is

    module _ (subscriber : Subscriber)
        (is : SubscriberStandsFor names.publisher ports.sizes.max_publishers ports.sizes.expired_connections port subscriber) where
      pub connected_keys : those subscriber.connected ≡ map by_key (keys_at port.places.items)
      connected_keys =
          ap those (is.connected hears.standing) ∙ those_keys by_key (reached ports.sizes.max_publishers port.places.items)
          ∙ ap (map by_key) (keys_reached _ port.places.items)

      all_keys : those subscriber.connected ++ subscriber.expired ≡ map by_key (attaching.keys_of port)
      all_keys =
          ap (λ all. all ++ subscriber.expired) connected_keys ∙ ap (λ all. map by_key (keys_at port.places.items) ++ all)
          (is.expired hears.standing)
          ∙ sym (map-append by_key (keys_at port.places.items) port.expired.items)

      asked_by : (unread : Option ℕ) → IsFirst (domain.has_data port ports.publishers) unread
          → list_any (domain.has_data port ports.publishers) (attaching.keys_of port) ≡ is_some unread
      asked_by None none = any_none (domain.has_data port ports.publishers) (attaching.keys_of port) none
      asked_by (Some key) first =
          some_passes (domain.has_data port ports.publishers) key (attaching.keys_of port) first.0 (is_used key (with_data key first.0))

      -- some connection has data just where the first that has some is there
      pub asked : (unread : Option ℕ) → IsFirst (domain.has_data port ports.publishers) unread
          → has_samples (names.subscriber number) subscriber service ≡ is_some unread
      asked unread first =
          ap (list_any (λ publisher. has_data (mailbox publisher (names.subscriber number) service))) all_keys
          ∙ any_same by_key (λ publisher. has_data (mailbox publisher (names.subscriber number) service))
          (domain.has_data port ports.publishers) (attaching.keys_of port) (λ key used. data_same key (has_connection key used))
          ∙ asked_by unread first
