-- An expired connection of a subscriber ends, of a domain and of the machine.
use Rattle.std.proofs.Common.{◌≡◌, ◌≢◌, ◌≤◌, ◌<◌, ◌⊎◌, ◌+◌, ◌∷◌, [], ◌++◌, ◌==◌, ℕ, Bool, true, false, cond, List, length, get_or, map}
use Rattle.std.proofs.Common.{Option, None, Some, refl, sym, ap, subst, inl, inr, ◌∙◌, arith}
use Rattle.std.proofs.lemmas.Bool.{cases_eq, eq-eqb, ne_eqb}
use Rattle.std.proofs.lemmas.List.{get_or-set_other}
use Rattle.std.proofs.lemmas.Map.{keys-set_value}
use Rattle.std.specs.List.{All, remove}
use Rattle.std.specs.Map.{keys_of}
use Rattle.std.specs.Option.{option_map_or}
use Rattle.std.specs.Prelude.{is_some, option_map, if◌then◌else◌}
use Rattle.iox_domain.specs.Container.SlotTable.{released}
use Rattle.iox_domain.proofs.ListKeeps.{held_walks, held_leaving}
use Rattle.iox_domain.proofs.Keys.{keys_reached, often_append}
use Rattle.iox_domain.proofs.Numbered.{at_number, other_fails, other_gone, same_set}
use Rattle.iox_domain.proofs.TiedWell.{gone_there}
use Rattle.iox_domain.proofs.Walks.{left_all_walk}
use Rattle.iox_domain.specs.Attaching as attaching
use Rattle.iox_domain.specs.Attaching.{keys_at}
use Rattle.iox_domain.specs.DomainPorts.Places.{reached}
use Rattle.iox_domain.specs.DomainPorts.Publishers.{port_of, changed, changed_at_port, ended_if_left, is_over_in, port_stands, removed}
use Rattle.iox_domain.specs.DomainPorts.Receiving.{dropped_port, dropped_ports, left_at}
use Rattle.iox_domain.specs.DomainPorts.Subscribing.{attached_at, ended_ports, without_key}
use Rattle.iox_domain.specs.DomainPorts.declared.attached.Attached.{Attached}
use Rattle.iox_domain.specs.DomainPorts.declared.attached.Taken.{Taken}
use Rattle.iox_domain.specs.DomainPorts.declared.publisher_port.PublisherPort.{PublisherPort}
use Rattle.iox_domain.specs.DomainPorts.declared.reader.Reader.{Reader}
use Rattle.iox_domain.specs.DomainPorts.declared.subscriber_port.SubscriberPort.{SubscriberPort}
use Rattle.iox_domain.specs.PortLawsLaws.{IsSound, IsSoundEntry}
use Rattle.iox_domain.specs.Ports.{with_both}
use Rattle.iox_domain.specs.Roomy.{IsAttached}
use Rattle.iox_domain.specs.Subscribers.{subscriber_of}
use Rattle.iox_domain.specs.Tries.{how_often}
use Rattle.iox_domain.specs.declared.ports.service_ports.ServicePorts.{ServicePorts}
use Rattle.iox_domain_machine.specs.Mailboxes.{IsKeyed}
use Rattle.iox_domain_machine.specs.Naming.{Naming}
use Rattle.iox_domain_machine.specs.Standing.{StandsFor, SubscriberIs}
use Rattle.iox_domain_machine.specs.Subscribers.{SubscriberStandsFor, publisher_by}
use Rattle.iox_domain_machine.specs.Tables.{LentSlot}
use Rattle.iox_domain_machine.proofs.GivingUp.{some_of}
use Rattle.iox_domain_machine.proofs.Found.{same_some, never_some, other_found}
use Rattle.iox_domain_machine.proofs.Hearing.{Hears, has_connection, often_head, often_behind}
use Rattle.iox_domain_machine.proofs.LeaveDetaching.{left_stands}
use Rattle.iox_domain_machine.proofs.SubscriberChanging.{subscriber_set}
use Rattle.iox_domain_machine.proofs.UpdateParting.{unread}
use Rattle.iox_machine.specs.Service.{Service, Subscriber}
use Rattle.iox_machine.proofs.Shorthands.{with_subscriber}
use Rattle.iox_machine.specs.Table.{at}

-- one leaves its place in a list
pub removed_at : (before : List ℕ) (key : ℕ) (more : List ℕ) → remove (before ++ key ∷ more) (length before) ≡ before ++ more
removed_at [] key more = refl
removed_at (first ∷ before) key more = ap (λ rest. first ∷ rest) (removed_at before key more)

-- two names for what stands in a list are the same
pub names_same : (f g : ℕ → ℕ) (keys : List ℕ) → ((key : ℕ) → 0 < how_often key keys → f key ≡ g key) → map f keys ≡ map g keys
names_same f g [] same = refl
names_same f g (key ∷ keys) same =
    ap (λ first. first ∷ map f keys) (same key (often_head key keys))
    ∙ ap (λ more. g key ∷ more) (names_same f g keys (λ other is. same other (often_behind other key keys is)))

places_same : (f g : ℕ → ℕ) (places : List (Option ℕ)) → ((key : ℕ) → 0 < how_often key (keys_at places) → f key ≡ g key)
    → map (option_map f) places ≡ map (option_map g) places
places_same f g [] same = refl
places_same f g (None ∷ places) same = ap (λ more. None ∷ more) (places_same f g places same)
places_same f g (Some key ∷ places) same =
    ap (λ first. Some first ∷ map (option_map f) places) (same key (often_head key (keys_at places)))
    ∙ ap (λ more. Some (g key) ∷ more)
    (places_same f g places (λ other is. same other (often_behind other key (keys_at places) is)))

module _ {T U : Type 0} where
  settled_by : (number other : ℕ) (ports : List (ℕ × PublisherPort T U)) → other ≢ number → (over : Bool)
      → port_of other (if over then removed number ports else ports) ≡ port_of other ports
  settled_by number other ports off true = other_gone (at_number number) (at_number other) ports (other_fails other number off)
  settled_by number other ports off false = refl

  changed_by : (number other : ℕ) (step : PublisherPort T U → PublisherPort T U) (found : Option (PublisherPort T U))
      (ports : List (ℕ × PublisherPort T U)) → other ≢ number
      → port_of other (changed_at_port number step found ports) ≡ port_of other ports
  changed_by number other step None ports off = refl
  changed_by number other step (Some port) ports off = other_found number other (step port) ports off

  -- where a connection ends, another publisher is as it was
  pub ended_others : (attached : Attached) (ports : List (ℕ × PublisherPort T U)) (other : ℕ) → other ≢ attached.publisher
      → port_of other (ended_ports (Some attached) ports) ≡ port_of other ports
  ended_others attached ports other off =
      let between = changed attached.publisher (ended_if_left attached.index) ports in
      settled_by attached.publisher other between off (is_over_in attached.publisher between)
      ∙ changed_by attached.publisher other (ended_if_left attached.index) (port_of attached.publisher ports) ports off

  left_ends : (attached : Attached) (ports : List (ℕ × PublisherPort T U)) (port : PublisherPort T U)
      → port_of attached.publisher ports ≡ Some port → port.stands ≡ false
      → left_at (Some attached) ports ≡ ended_ports (Some attached) ports
  left_ends attached ports port there left = rw (ap port_stands there ∙ left) refl

-- What is left of a subscriber and of the publishers once an expired connection ended: the machine's service is the same without it, the
-- subscriber hears still, and its other keys lead where they did.
pub record Dropped {T U : Type 0} (names : Naming) (lent : List (ℕ × LentSlot)) (held : List (ℕ × Taken)) (buffer : ℕ)
    (ports : ServicePorts T U) (service : Service T) (number : ℕ) (port : SubscriberPort) (subscriber : Subscriber) (before : List ℕ)
    (key : ℕ) (more : List ℕ) : Type 0 where
  pub next : SubscriberPort
  pub publishers : List (ℕ × PublisherPort T U)
  pub stands : StandsFor names lent held buffer (with_both number next publishers ports) (with_subscriber (names.subscriber number)
      (record subscriber { expired = map (publisher_by names.publisher port) (before ++ more) }) service)
  pub sound : All (IsSoundEntry ports.next_port) publishers
  pub hears : Hears number next publishers
  pub items : next.expired.items ≡ before ++ more
  pub same : (keys : List ℕ) → ((other : ℕ) → 0 < how_often other keys → 0 < how_often other (before ++ more))
      → map (publisher_by names.publisher port) keys ≡ map (publisher_by names.publisher next) keys
  pub is_port : dropped_port (length before) (Some key) port ≡ next
  pub are_ports : dropped_ports (Some key) port ports.publishers ≡ publishers

module _ {T U : Type 0} (names : Naming) (lent : List (ℕ × LentSlot)) (held : List (ℕ × Taken)) (buffer : ℕ) (ports : ServicePorts T U)
    (service : Service T) (number : ℕ) (port : SubscriberPort) (subscriber : Subscriber)
    (stands : StandsFor names lent held buffer ports service) (sound : IsSound ports)
    (there : subscriber_of number ports.subscribers ≡ Some port)
    (at_it : at (names.subscriber number) service.subscribers ≡ Some subscriber) (hears : Hears number port ports.publishers)
    (before : List ℕ) (key : ℕ) (more : List ℕ) (split : port.expired.items ≡ before ++ key ∷ more) where
  counts_key : how_often key port.expired.items ≡ how_often key before + (cond (key == key) 1 0 + how_often key more)
  counts_key = ap (how_often key) split ∙ often_append key before (key ∷ more)

  itself : ◌≡◌ {A = ℕ} (cond (key == key) 1 0) 1
  itself = ap (λ b. cond b 1 0) (eq-eqb key key refl)

  is_expired : 0 < how_often key port.expired.items
  is_expired = omega (arith, counts_key, itself)

  counts_all : how_often key (attaching.keys_of port) ≡ how_often key (keys_at port.places.items) + how_often key port.expired.items
  counts_all = often_append key (keys_at port.places.items) port.expired.items

  is_held : is_some (attached_at key port) ≡ true
  is_held =
      has_connection names lent held buffer ports service number port stands there hears key (omega (arith, is_expired, counts_all))

  abbrev attached : Attached
  attached = (some_of (attached_at key port) is_held).0

  is_attached : attached_at key port ≡ Some attached
  is_attached = (some_of (attached_at key port) is_held).1

  is_once : how_often key (attaching.keys_of port) ≡ 1
  is_once =
      let counted : ◌≡◌ {A = ℕ} (cond (is_some (attached_at key port)) 1 0) 1 = ap (λ b. cond b 1 0) is_held in
      hears.used key ∙ counted

  it : IsAttached number attached ports.publishers
  it = hears.reads key attached is_attached

  publisher_left : it.0.stands ≡ false
  publisher_left = hears.left key attached it.0 is_expired is_attached it.1

  -- the subscriber without the key
  abbrev fewer : SubscriberPort
  fewer = record port {
    connections = released port.connections key;
    expired = record port.expired { items = before ++ more };
  }

  -- and the publishers without the connection
  abbrev ended_there : List (ℕ × PublisherPort T U)
  ended_there = ended_ports (Some attached) ports.publishers

  is_fewer : dropped_port (length before) (Some key) port ≡ fewer
  is_fewer =
      ap (λ found. record (without_key key found port) {
        expired = record port.expired { items = remove port.expired.items (length before) };
      }) is_attached
      ∙ ap (λ items. record port {
        connections = released port.connections key;
        expired = record port.expired { items = items };
      }) (ap (λ items. remove items (length before)) split ∙ removed_at before key more)

  lost : attached_at key fewer ≡ None
  lost = gone_there port.connections.values key

  kept : (other : ℕ) → other ≢ key → attached_at other fewer ≡ attached_at other port
  kept other off = get_or-set_other port.connections.values key other None None off

  was_held : (other : ℕ) (one : Attached) → (other ≡ key) ⊎ (other ≢ key) → attached_at other fewer ≡ Some one
      → (other ≢ key) × (attached_at other port ≡ Some one)
  was_held other one (inl same) is = never_some one (sym lost ∙ ap (λ k. attached_at k fewer) (sym same) ∙ is)
  was_held other one (inr off) is = (off, sym (kept other off) ∙ is)

  same_key : (other : ℕ) → other ≢ key → publisher_by names.publisher port other ≡ publisher_by names.publisher fewer other
  same_key other off = ap (λ found. option_map_or (λ (one : Attached). names.publisher one.publisher) found 0) (sym (kept other off))

  counts_other : (other : ℕ) → other ≢ key → how_often other (before ++ more) ≡ how_often other port.expired.items
  counts_other other off =
      let none : ◌≡◌ {A = ℕ} (cond (other == key) 1 0) 0 = ap (λ b. cond b 1 0) (ne_eqb other key off) in
      omega (arith, none, often_append other before more, often_append other before (key ∷ more), ap (how_often other) split)

  not_key : (other : ℕ) (keys : List ℕ) → how_often key keys ≡ 0 → 0 < how_often other keys → other ≢ key
  not_key other keys none some same = absurd (omega (arith, none, some, ap (λ k. how_often k keys) same))

  none_placed : how_often key (keys_at port.places.items) ≡ 0
  none_placed = omega (arith, is_once, is_expired, counts_all)

  none_expired : how_often key (before ++ more) ≡ 0
  none_expired = omega (arith, is_once, counts_all, counts_key, itself, often_append key before more)

  same_keys : (keys : List ℕ) → ((other : ℕ) → 0 < how_often other keys → 0 < how_often other (before ++ more))
      → map (publisher_by names.publisher port) keys ≡ map (publisher_by names.publisher fewer) keys
  same_keys keys among =
      names_same (publisher_by names.publisher port) (publisher_by names.publisher fewer) keys
      (λ other is. same_key other (not_key other (before ++ more) none_expired (among other is)))

  used_now : (other : ℕ) → (other ≡ key) ⊎ (other ≢ key)
      → how_often other (attaching.keys_of fewer) ≡ (if is_some (attached_at other fewer) then 1 else 0)
  used_now other (inl same) =
      let none : ◌≡◌ {A = ℕ} (cond (is_some (attached_at key fewer)) 1 0) 0 =
      ap (λ (found : Option Attached). cond (is_some found) 1 0) lost in
      let counted : how_often key (attaching.keys_of fewer) ≡ 0 =
      omega (arith, none_placed, none_expired, often_append key (keys_at port.places.items) (before ++ more)) in
      subst (λ k. how_often k (attaching.keys_of fewer) ≡ (if is_some (attached_at k fewer) then 1 else 0)) (sym same)
      (counted ∙ sym none)
  used_now other (inr off) =
      omega (
        arith,
        often_append other (keys_at port.places.items) (before ++ more),
        often_append other (keys_at port.places.items) port.expired.items,
        counts_other other off,
      )
      ∙ hears.used other ∙ ap (λ (found : Option Attached). cond (is_some found) 1 0) (sym (kept other off))

  of_another : (other : ℕ) (one : Attached) → other ≢ key → attached_at other port ≡ Some one → one.publisher ≢ attached.publisher
  of_another other one off is same = off (hears.apart other key one attached is is_attached same)

  -- the subscriber hears still, of its other connections
  hears_still : Hears number fewer ended_there
  hears_still = record {
    named = hears.named;
    standing = hears.standing;
    used = λ other. used_now other (cases_eq other key);
    reads = λ other one is.
        let was = was_held other one (cases_eq other key) is in
        let read = hears.reads other one was.1 in
        (read.0, ended_others attached ports.publishers one.publisher (of_another other one was.0 was.1) ∙ read.1, read.2);
    apart = λ one other first second is_one is_other same.
        hears.apart one other first second (was_held one first (cases_eq one key) is_one).1
        (was_held other second (cases_eq other key) is_other).1 same;
    left = λ other one found expired is found_there.
        let was = was_held other one (cases_eq other key) is in
        hears.left other one found (omega (arith, expired, counts_other other was.0)) was.1
        (sym (ended_others attached ports.publishers one.publisher (of_another other one was.0 was.1)) ∙ found_there);
  }

  -- the expired connections of the machine's subscriber without it
  abbrev later : Subscriber
  later = record subscriber { expired = map (publisher_by names.publisher port) (before ++ more) }

  was : SubscriberIs names ports service number port
  was = stands.subscribers number port there

  it_was : was.0 ≡ subscriber
  it_was = same_some was.0 subscriber (sym was.1 ∙ at_it)

  stands_for : SubscriberStandsFor names.publisher ports.sizes.max_publishers ports.sizes.expired_connections port subscriber
  stands_for =
      subst (λ (one : Subscriber). SubscriberStandsFor names.publisher ports.sizes.max_publishers ports.sizes.expired_connections port one)
      it_was was.2

  stands_later : SubscriberStandsFor names.publisher ports.sizes.max_publishers ports.sizes.expired_connections fewer later
  stands_later = record {
    factory = stands_for.factory;
    stands = stands_for.stands;
    buffer_size = stands_for.buffer_size;
    seen = stands_for.seen;
    again = stands_for.again;
    connected = λ standing. stands_for.connected standing
        ∙ places_same (publisher_by names.publisher port) (publisher_by names.publisher fewer)
        (reached ports.sizes.max_publishers port.places.items)
        (λ other placed. same_key other (not_key other (keys_at port.places.items) none_placed
        (subst (λ keys. 0 < how_often other keys) (keys_reached _ port.places.items) placed)));
    expired = λ standing. same_keys (before ++ more) (λ other expired. expired);
    room = stands_for.room;
  }

  abbrev between : ServicePorts T U
  between = record ports { publishers = ended_there }

  between_stands : StandsFor names lent held buffer between service
  between_stands =
      subst (λ (publishers : List (ℕ × PublisherPort T U)). StandsFor names lent held buffer (record ports { publishers = publishers })
      service) (left_ends attached ports.publishers it.0 it.1 publisher_left)
      (left_stands names lent held buffer service attached ports (Some it.0) it.1 publisher_left sound stands)

  abbrev dropped : ServicePorts T U
  dropped = with_both number fewer ended_there ports

  once_changed : how_often attached.publisher
      (keys_of (changed attached.publisher (ended_if_left attached.index) ports.publishers)) ≤ 1
  once_changed =
      subst (λ found. how_often attached.publisher
      (keys_of (changed_at_port attached.publisher (ended_if_left attached.index) found ports.publishers)) ≤ 1) (sym it.1)
      (subst (λ all. how_often attached.publisher all ≤ 1)
      (sym (keys-set_value (at_number attached.publisher) ports.publishers (ended_if_left attached.index it.0)))
      (stands.once attached.publisher))

  keyed_by : (other : ℕ) (found : PublisherPort T U) (index : ℕ) (to : Reader) → port_of other ended_there ≡ Some found
      → get_or found.readers index None ≡ Some to → (to.subscriber ≡ number) ⊎ (to.subscriber ≢ number)
      → (one : SubscriberPort) → subscriber_of to.subscriber ports.subscribers ≡ Some one → one.stands ≡ true
      → (k : ℕ) → attached_at k one ≡ Some (record { publisher = other; index = index })
      → (now : SubscriberPort) × (subscriber_of to.subscriber dropped.subscribers ≡ Some now) × (now.stands ≡ true)
      × (key : ℕ) × (attached_at key now ≡ Some (record { publisher = other; index = index }))
  keyed_by other found index to found_there read (inr off) one is standing k has =
      (one, other_found number to.subscriber fewer ports.subscribers off ∙ is, standing, k, has)
  keyed_by other found index to found_there read (inl same) one is standing k has =
      let is_port : one ≡ port = same_some one port (sym is ∙ ap (λ n. subscriber_of n ports.subscribers) same ∙ there) in
      let has_it = ap (attached_at k) (sym is_port) ∙ has in
      let off : k ≢ key = λ is_key.
      let is_it : attached ≡ record { publisher = other; index = index } =
      same_some attached (record { publisher = other; index = index })
      (sym is_attached ∙ ap (λ k. attached_at k port) (sym is_key) ∙ has_it) in
      let none = unread attached ports.publishers it.0 it.1 publisher_left it.2.live once_changed found
      (ap (λ (one : Attached). port_of one.publisher ended_there) is_it ∙ found_there) in
      never_some to (sym none ∙ ap (λ (one : Attached). get_or found.readers one.index None) is_it ∙ read) in (
        fewer,
        ap (λ n. subscriber_of n dropped.subscribers) same ∙ same_set (at_number number) ports.subscribers fewer port there,
        ap (λ (one : SubscriberPort). one.stands) (sym is_port) ∙ standing,
        k,
        kept k off ∙ has_it,
      )

  keyed : (other : ℕ) (found : PublisherPort T U) → port_of other ended_there ≡ Some found → IsKeyed other found dropped.subscribers
  keyed other found found_there index to read attached =
      let before = between_stands.keyed other found found_there index to read attached in
      keyed_by other found index to found_there read (cases_eq to.subscriber number) before.0 before.1 before.2 before.3 before.4

  pub drop_stands : Dropped names lent held buffer ports service number port subscriber before key more
  drop_stands = record {
    next = fewer;
    publishers = ended_there;
    stands = subscriber_set names lent held buffer between service number port fewer later between_stands there stands_later refl refl
        refl refl keyed;
    sound = subst (λ (all : List (ℕ × PublisherPort T U)). All (IsSoundEntry ports.next_port) all)
        (left_ends attached ports.publishers it.0 it.1 publisher_left)
        ((left_all_walk (held_walks 0) held_leaving (Some attached ∷ []) ports.publishers).sound ports.next_port sound);
    hears = hears_still;
    items = refl;
    same = same_keys;
    is_port = is_fewer;
    are_ports = ap (λ found. ended_ports found ports.publishers) is_attached;
  }
