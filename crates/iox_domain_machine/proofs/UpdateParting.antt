-- A connection parts whose publisher left, of a domain and of the machine.
use Rattle.std.proofs.Common.{◌≡◌, ◌≢◌, ◌≤◌, ◌<◌, ◌∷◌, ◌++◌, ◌==◌, [], ℕ, zero, suc, Bool, true, false, List, length, map, get_or, set}
use Rattle.std.proofs.Common.{remove, slice_get, not, nat_lt, nat_le, max, Option, None, Some, refl, sym, ap, subst, inl, inr, ◌∙◌, arith}
use Rattle.std.proofs.Common.{if◌then◌else◌}
use Rattle.std.proofs.lemmas.Bool.{cases_eq, le-ltb, leb-false, leb-true, lt-ltb}
use Rattle.std.proofs.lemmas.List.{get_or-map, get_or-set_other, length-map, map-append}
use Rattle.std.proofs.lemmas.Map.{keys-set_value}
use Rattle.std.specs.List.{All}
use Rattle.std.specs.Map.{keys_of}
use Rattle.std.specs.Option.{option_map_or}
use Rattle.std.specs.Prelude.{filter, is_some, option_map}
use Rattle.iox_domain.proofs.Fitting.{parts_so, goes_unplaced}
use Rattle.iox_domain.proofs.Keys.{adds_same, key_there, keys_untied, length_remove, often_append, often_there}
use Rattle.iox_domain.proofs.ListKeeps.{held_walks}
use Rattle.iox_domain.proofs.Numbered.{at_number, same_set}
use Rattle.iox_domain.proofs.WellKept.{well_walks}
use Rattle.iox_domain.specs.Attaching.{KeysFit, keys_at}
use Rattle.iox_domain.specs.Container.SlotTable.{SlotTable, released, value_at}
use Rattle.iox_domain.specs.Container.declared.container.Member.{Member}
use Rattle.iox_domain.specs.DomainPorts.Following.{expired_port, replaced_port, unplaced, is_unborrowed, Parts, PartsIf, PartsOver}
use Rattle.iox_domain.specs.DomainPorts.Following.{PartsBorrowed, PartsFor}
use Rattle.iox_domain.specs.DomainPorts.Keys.{KeysState, with_last}
use Rattle.iox_domain.specs.DomainPorts.Ports.{detached_at, is_live, ended_at}
use Rattle.iox_domain.specs.DomainPorts.Ties.{tie_put}
use Rattle.iox_domain.specs.DomainPorts.Publishers.{port_of, port_stands, stands_in, changed, ended_if_left, is_over_in, removed}
use Rattle.iox_domain.specs.DomainPorts.Publishers as publishers
use Rattle.iox_domain.specs.DomainPorts.Receiving.{IsMet, left_at}
use Rattle.iox_domain.specs.DomainPorts.Subscribing.{attached_at, ended_key, ended_ports, is_idle, without_key}
use Rattle.iox_domain.specs.DomainPorts.declared.attached.Attached.{Attached}
use Rattle.iox_domain.specs.DomainPorts.declared.attached.Taken.{Taken}
use Rattle.iox_domain.specs.DomainPorts.declared.publisher_entry.PublisherEntry.{PublisherEntry}
use Rattle.iox_domain.specs.DomainPorts.declared.publisher_port.PublisherPort.{PublisherPort}
use Rattle.iox_domain.specs.DomainPorts.declared.reader.Reader.{Reader}
use Rattle.iox_domain.specs.DomainPorts.declared.subscriber_port.SubscriberPort.{SubscriberPort}
use Rattle.iox_domain.specs.DomainValues.declared.service_sizes.ServiceSizes.{ServiceSizes}
use Rattle.iox_domain.specs.Ports.{with_both}
use Rattle.iox_domain.specs.Roomy.{IsAttached}
use Rattle.iox_domain.specs.SizeLaws.{allowed_by}
use Rattle.iox_domain.specs.Subscribers.{subscriber_of}
use Rattle.iox_domain.specs.Tries.{how_often}
use Rattle.iox_domain.specs.declared.ports.service_ports.ServicePorts.{ServicePorts}
use Rattle.iox_domain_machine.specs.Naming.{Naming}
use Rattle.iox_domain_machine.specs.Subscribers.{SubscriberStandsFor, publisher_by}
use Rattle.iox_domain_machine.specs.Tables.{LentSlot}
use Rattle.iox_domain_machine.proofs.Changing.{not_zero}
use Rattle.iox_domain_machine.proofs.Found.{same_some, never_some, never_true}
use Rattle.iox_domain_machine.proofs.LeaveDetaching.{left_stands}
use Rattle.iox_domain_machine.proofs.LeavePort.{none_set}
use Rattle.iox_domain_machine.proofs.Settling.{gone_found}
use Rattle.iox_domain_machine.proofs.UpdateLists.{first_named, first_of_first, first_of_second, without_named}
use Rattle.iox_domain_machine.proofs.UpdateMachine.{part_idle, part_room, part_out, part_ends, part_stays}
use Rattle.iox_domain_machine.proofs.UpdateMidway.{IsSamePort, Midway, Stands, service_at, same_publisher, port_moved, idle_so}
use Rattle.iox_domain_machine.proofs.UpdateMidway.{unborrowed_so}
use Rattle.iox_domain_machine.proofs.UpdateReading.{HasNone, IsReading, key_attached, expired_key, key_once, held_still, reads_alike}
use Rattle.iox_domain_machine.proofs.UpdateReading.{reads_ended, reads_unplaced}
use Rattle.iox_machine.specs.Mailbox as machine
use Rattle.iox_machine.specs.Mailbox.{Mailbox}
use Rattle.iox_machine.specs.Service.{Service, Subscriber, mailbox}
use Rattle.iox_machine.specs.SubscriberUpdate.{Parted, part, room_for}
use Rattle.iox_machine.specs.Table.{at}

-- a key is that of one place at most
pub place_once : (port : SubscriberPort) (one other key : ℕ) → KeysFit port → get_or port.places.items one None ≡ Some key
    → get_or port.places.items other None ≡ Some key → one ≡ other
place_once port one other key fit is also = elim (cases_eq other one) [
  | inl same ↦ sym same
  | inr off ↦ absurd (omega (
    arith,
    keys_untied key one key port.places.items is,
    adds_same key key refl,
    key_there other key (set port.places.items one None) (get_or-set_other port.places.items one other None None off ∙ also),
    often_append key (keys_at port.places.items) port.expired.items,
    fit.used key,
    at_most (attached_at key port),
  ))
]
  where
    at_most : (found : Option Attached) → (if is_some found then 1 else 0) ≤ 1
    at_most None = omega arith
    at_most (Some attached) = omega arith

-- a key that a list has room for comes after the others
last_is : (key : ℕ) (keys : KeysState) → nat_lt (length keys.items) keys.room ≡ true
    → with_last key keys ≡ record keys { items = keys.items ++ key ∷ [] }
last_is key keys room = ap (λ b. if b then record keys { items = keys.items ++ key ∷ [] } else keys) room

-- the publishers of keys that are left are the same
pub same_publishers : (f g : ℕ → ℕ) (keys : List ℕ)
    → ((place : ℕ) → place < length keys → f (get_or keys place 0) ≡ g (get_or keys place 0))
    → map f keys ≡ map g keys
same_publishers f g [] same = refl
same_publishers f g (key ∷ keys) same =
    ap (λ n. n ∷ map f keys) (same 0 (omega arith))
    ∙ ap (λ rest. g key ∷ rest) (same_publishers f g keys (λ place within. same (suc place) (omega (arith, within))))

-- a key stands at one place of a list in which it stands once
once_place : (keys : List ℕ) (one other key : ℕ) → how_often key keys ≤ 1 → slice_get keys one ≡ Some key → slice_get keys other ≡ Some key
    → one ≡ other
once_place [] one other key few is also = cc
once_place (first ∷ keys) zero zero key few is also = refl
once_place (first ∷ keys) zero (suc other) key few is also =
    let same : first ≡ key = cc in absurd (omega (arith, few, often_there key other keys also, adds_same key first (sym same)))
once_place (first ∷ keys) (suc one) zero key few is also =
    let same : first ≡ key = cc in absurd (omega (arith, few, often_there key one keys is, adds_same key first (sym same)))
once_place (first ∷ keys) (suc one) (suc other) key few is also = ap suc (once_place keys one other key (omega (arith, few)) is also)

pub got : (keys : List ℕ) (place : ℕ) → place < length keys → slice_get keys place ≡ Some (get_or keys place 0)
got [] place within = absurd (omega (arith, within))
got (key ∷ keys) zero within = refl
got (key ∷ keys) (suc place) within = got keys place (omega (arith, within))

got_within : (keys : List ℕ) (place key : ℕ) → slice_get keys place ≡ Some key → (place < length keys) × (get_or keys place 0 ≡ key)
got_within [] place key is = cc
got_within (one ∷ keys) zero key is = let same : one ≡ key = cc in (omega arith, same)
got_within (one ∷ keys) (suc place) key is = let it = got_within keys place key is in (omega (arith, it.0), it.1)

-- where a publisher left, nobody reads any longer at a connection of it that ended
module _ {T U : Type 0} (attached : Attached) (ports : List (ℕ × PublisherPort T U)) (one : PublisherPort T U)
    (there : port_of attached.publisher ports ≡ Some one) (left : one.stands ≡ false) (live : is_live attached.index one ≡ true)
    (once : how_often attached.publisher (keys_of (changed attached.publisher (ended_if_left attached.index) ports)) ≤ 1) where
  abbrev after_end : List (ℕ × PublisherPort T U)
  after_end = changed attached.publisher (ended_if_left attached.index) ports

  end_there : port_of attached.publisher after_end ≡ Some (ended_at attached.index one)
  end_there =
      ap (λ found. port_of attached.publisher
      (publishers.changed_at_port attached.publisher (ended_if_left attached.index) found ports)) there
      ∙ same_set (at_number attached.publisher) ports (ended_if_left attached.index one) one there
      ∙ ap (λ b. Some (if b then one else ended_at attached.index one)) left

  unread_by : (over : Bool) (found : PublisherPort T U)
      → port_of attached.publisher (if over then removed attached.publisher after_end else after_end) ≡ Some found
      → get_or found.readers attached.index None ≡ None
  unread_by true found is = never_some found (sym (gone_found attached.publisher after_end once) ∙ is)
  unread_by false found is =
      ap (λ (it : PublisherPort T U). get_or it.readers attached.index None)
      (same_some found (ended_at attached.index one) (sym is ∙ end_there))
      ∙ rw live (none_set one.readers attached.index)

  pub unread : (found : PublisherPort T U) → port_of attached.publisher (ended_ports (Some attached) ports) ≡ Some found
      → get_or found.readers attached.index None ≡ None
  unread found is = unread_by (is_over_in attached.publisher after_end) found is

module _ {T U : Type 0} (names : Naming) (lent : List (ℕ × LentSlot)) (held : List (ℕ × Taken)) (buffer : ℕ) (old : ServicePorts T U)
    (service : Service T) (number : ℕ) (first : SubscriberPort) (was : Subscriber)
    (there : subscriber_of number old.subscribers ≡ Some first)
    (was_there : at (names.subscriber number) service.subscribers ≡ Some was)
    (was_is : SubscriberStandsFor names.publisher old.sizes.max_publishers old.sizes.expired_connections first was)
    (once : (other : ℕ) → how_often other (keys_of old.subscribers) ≤ 1)
    (reader : ℕ → ℕ → ℕ) (port : SubscriberPort) (ports : List (ℕ × PublisherPort T U)) (mailboxes : ℕ → ℕ → Option (Mailbox T))
    (midway : Midway names lent held buffer old service number first was reader port ports mailboxes) where
  abbrev Mid : SubscriberPort → List (ℕ × PublisherPort T U) → Type 0
  Mid new new_ports = Midway names lent held buffer old service number first was reader new new_ports mailboxes

  abbrev its_name : ℕ
  its_name = names.subscriber number

  -- the keys and connections are those from before
  pub stays_midway : (new : SubscriberPort) → IsSamePort first new → KeysFit new → new.places.room ≡ old.sizes.max_publishers
      → IsReading number old.publisher_list.places new ports → new.connections ≡ port.connections → Mid new ports
  stays_midway new same fit room reads same_connections = record {
    stands = port_moved names lent held buffer old service number first was there was_there was_is once reader port new ports mailboxes
        midway.same same
        (λ publisher index one to is_one led own key has. ap (λ (table : SlotTable Attached). value_at table.values key)
        same_connections ∙ has)
        midway.stands;
    same = same;
    fit = fit;
    room = room;
    reads = reads;
    sound = midway.sound;
    sized = midway.sized;
    well = midway.well;
  }

  -- the connection of a key ended whose publisher left
  module _ (key : ℕ) (gone : Attached) (has : attached_at key port ≡ Some gone) (left : stands_in gone.publisher ports ≡ false) where
    abbrev ended_now : List (ℕ × PublisherPort T U)
    ended_now = ended_ports (Some gone) ports

    read : IsAttached number gone ports
    read = midway.reads.reads key gone has

    gone_left : read.0.stands ≡ false
    gone_left = sym (ap (λ (found : Option (PublisherPort T U)). port_stands found) read.1) ∙ left

    left_is : left_at (Some gone) ports ≡ ended_now
    left_is = ap (λ b. if b then changed gone.publisher (detached_at gone.index) ports else ended_now) left

    ended_first : Stands names lent held buffer old service number first was reader port ended_now mailboxes
    ended_first =
        subst (λ all. Stands names lent held buffer old service number first was reader port all mailboxes) left_is
        (left_stands (record names { reader = reader }) lent held buffer
        (service_at names lent held buffer old service number first was port mailboxes) gone (with_both number port ports old)
        (port_of gone.publisher ports) refl left midway.sound midway.stands)

    once_now : how_often gone.publisher (keys_of (changed gone.publisher (ended_if_left gone.index) ports)) ≤ 1
    once_now =
        subst (λ found. how_often gone.publisher
        (keys_of (publishers.changed_at_port gone.publisher (ended_if_left gone.index) found ports)) ≤ 1)
        (sym read.1)
        (subst (λ all. how_often gone.publisher all ≤ 1)
        (sym (keys-set_value (at_number gone.publisher) ports (ended_if_left gone.index read.0))) (midway.stands.once gone.publisher))

    ended_midway : (new : SubscriberPort) → IsSamePort first new → KeysFit new → new.places.room ≡ old.sizes.max_publishers
        → IsReading number old.publisher_list.places new ended_now → new.connections ≡ released port.connections key → Mid new ended_now
    ended_midway new same fit room reads is_released = record {
      stands = port_moved names lent held buffer old service number first was there was_there was_is once reader port new ended_now
          mailboxes
          midway.same same keeps ended_first;
      same = same;
      fit = fit;
      room = room;
      reads = reads;
      sound = ((held_walks {T = T} {U = U} number).end gone ports).sound old.next_port midway.sound;
      sized = ((held_walks {T = T} {U = U} number).end gone ports).sized (allowed_by old.sizes) midway.sized;
      well = ((well_walks {T = T} {U = U} old.next_port old.subscriber_list.places number).end gone ports).well midway.well;
    }
      where
        keeps : (publisher index : ℕ) (one : PublisherPort T U) (to : Reader) → port_of publisher ended_now ≡ Some one
            → get_or one.readers index None ≡ Some to → to.subscriber ≡ number → (which : ℕ)
            → attached_at which port ≡ Some (record { publisher = publisher; index = index })
            → attached_at which new ≡ Some (record { publisher = publisher; index = index })
        keeps publisher index one to is_one led own which has_which = elim (cases_eq which key) [
          | inl same ↦
              let its : record { publisher = publisher; index = index } ≡ gone =
              same_some (record { publisher = publisher; index = index }) gone
              (sym has_which ∙ ap (λ k. attached_at k port) same ∙ has) in
              let none : get_or one.readers gone.index None ≡ None =
              unread gone ports read.0 read.1 gone_left read.2.live once_now one
              (ap (λ (a : Attached). port_of a.publisher ended_now) (sym its) ∙ is_one) in
              never_some to (sym none ∙ ap (λ (a : Attached). get_or one.readers a.index None) (sym its) ∙ led)
          | inr off ↦
              ap (λ (table : SlotTable Attached). value_at table.values which) is_released
              ∙ get_or-set_other port.connections.values key which None None off ∙ has_which
        ]

  -- what is known of the mailboxes
  module _ (kept : (one other : ℕ) → is_some (service.mailboxes one other) ≡ true → mailboxes one other ≡ service.mailboxes one other)
      (place key : ℕ) (gone : Attached) (placed : get_or port.places.items place None ≡ Some key) (has : attached_at key port ≡ Some gone)
      (unlisted : (member : Member PublisherEntry) → get_or old.publisher_list.places place None ≡ Some member
      → HasNone member.value.publisher port)
      (parted : Parted) (expired_so : map (publisher_by names.publisher port) port.expired.items ≡ parted.expired)
      (known : All (λ n. is_some (service.mailboxes n its_name) ≡ true) parted.expired)
      (known_key : is_some (service.mailboxes (publisher_by names.publisher port key) its_name) ≡ true) where
    abbrev leaver : ℕ
    leaver = publisher_by names.publisher port key

    abbrev by_key : ℕ → ℕ
    by_key = publisher_by names.publisher port

    abbrev items : List ℕ
    items = port.expired.items

    -- who isn't listed at its place left
    stood : (which : ℕ) (attached : Attached) → attached_at which port ≡ Some attached → (one : PublisherPort T U)
        → port_of attached.publisher ports ≡ Some one → one.stands ≡ true
        → (at_place : ℕ) × (member : Member PublisherEntry) × (get_or old.publisher_list.places at_place None ≡ Some member)
        × (attached.publisher ≡ member.value.publisher) × (get_or port.places.items at_place None ≡ Some which)
    stood which attached is one is_one standing =
        let listed = midway.stands.listed attached.publisher one is_one standing in (
          one.place,
          listed.0,
          listed.1,
          sym listed.2,
          midway.reads.placed which one.place attached listed.0 is listed.1 (sym listed.2),
        )

    stands_by : (found : Option (PublisherPort T U)) (attached : Attached) → port_of attached.publisher ports ≡ found
        → ((one : PublisherPort T U) → port_of attached.publisher ports ≡ Some one → one.stands ≡ true → ⊥)
        → stands_in attached.publisher ports ≡ false
    stands_by None attached is wrong = ap (λ (it : Option (PublisherPort T U)). port_stands it) is
    stands_by (Some one) attached is wrong = ap (λ (it : Option (PublisherPort T U)). port_stands it) is ∙ by one.stands refl
      where
        by : (standing : Bool) → one.stands ≡ standing → standing ≡ false
        by false so = refl
        by true so = absurd (wrong one is so)

    key_left : stands_in gone.publisher ports ≡ false
    key_left = stands_by (port_of gone.publisher ports) gone refl
        (λ one is_one standing.
        let it = stood key gone has one is_one standing in
        let here : it.0 ≡ place = place_once port it.0 place key midway.fit it.4 placed in
        unlisted it.1 (ap (λ p. get_or old.publisher_list.places p None) (sym here) ∙ it.2) key gone has it.3)

    expired_left : (at_place which : ℕ) (attached : Attached) → slice_get items at_place ≡ Some which
        → attached_at which port ≡ Some attached → stands_in attached.publisher ports ≡ false
    expired_left at_place which attached is has_which = stands_by (port_of attached.publisher ports) attached refl
        (λ one is_one standing.
        let it = stood which attached has_which one is_one standing in
        key_once port it.0 at_place which midway.fit it.4 is)

    expired_has : (at_place : ℕ) → at_place < length items
        → (attached : Attached) × (attached_at (get_or items at_place 0) port ≡ Some attached)
    expired_has at_place within =
        key_attached port (get_or items at_place 0) midway.fit
        (expired_key port at_place (get_or items at_place 0) (got items at_place within))

    expired_known : (at_place : ℕ) → at_place < length items
        → is_some (service.mailboxes (by_key (get_or items at_place 0)) its_name) ≡ true
    expired_known at_place within =
        subst (λ n. is_some (service.mailboxes n its_name) ≡ true) (get_or-map by_key items at_place 0 0 within)
        (subst (λ all. is_some (service.mailboxes (get_or all at_place 0) its_name) ≡ true) (sym expired_so)
        (known at_place 0 (omega (arith, within, length-map items by_key, ap (λ all. length all) expired_so))))

    abbrev idle_of : ℕ → Bool
    idle_of n = machine.is_idle (mailbox n its_name service)

    abbrev unborrowed_of : ℕ → Bool
    unborrowed_of n = length (mailbox n its_name service).borrowed == 0

    idle_at : (at_place : ℕ) → at_place < length items
        → idle_of (by_key (get_or items at_place 0)) ≡ is_idle port ports (get_or items at_place 0)
    idle_at at_place within =
        let it = expired_has at_place within in
        idle_so names lent held buffer old service number first was there was_there was_is once reader port ports mailboxes midway kept
        (get_or items at_place 0) it.0 it.1 (expired_known at_place within)

    unborrowed_at : (at_place : ℕ) → at_place < length items
        → unborrowed_of (by_key (get_or items at_place 0)) ≡ is_unborrowed port ports (get_or items at_place 0)
    unborrowed_at at_place within =
        let it = expired_has at_place within in
        unborrowed_so names lent held buffer old service number first was there was_there was_is once reader port ports mailboxes midway
        kept
        (get_or items at_place 0) it.0 it.1 (expired_known at_place within)

    idle_here : idle_of leaver ≡ is_idle port ports key
    idle_here = idle_so names lent held buffer old service number first was there was_there was_is once reader port ports mailboxes
        midway kept
        key gone has known_key

    unborrowed_here : unborrowed_of leaver ≡ is_unborrowed port ports key
    unborrowed_here = unborrowed_so names lent held buffer old service number first was there was_there was_is once reader port ports
        mailboxes
        midway kept key gone has known_key

    first_idle : (met : ℕ) → IsMet (is_idle port ports) items met
        → slice_get (filter idle_of parted.expired) 0 ≡ option_map by_key (slice_get items met)
    first_idle met meets =
        ap (λ all. slice_get (filter idle_of all) 0) (sym expired_so)
        ∙ first_named by_key (is_idle port ports) idle_of items met idle_at meets

    first_unborrowed : (met : ℕ) → IsMet (is_unborrowed port ports) items met
        → slice_get (filter unborrowed_of parted.expired) 0 ≡ option_map by_key (slice_get items met)
    first_unborrowed met meets =
        ap (λ all. slice_get (filter unborrowed_of all) 0) (sym expired_so)
        ∙ first_named by_key (is_unborrowed port ports) unborrowed_of items met unborrowed_at meets

    -- how many may be expired
    most_is : max buffer service.settings.subscriber_max_borrowed_samples ≡ port.expired.room
    most_is = sym (midway.same.room ∙ was_is.room ∙ ap (λ (all : ServiceSizes). all.expired_connections) midway.stands.sizes)

    full_so : nat_lt (length parted.expired) (max buffer service.settings.subscriber_max_borrowed_samples)
        ≡ nat_lt (length items) port.expired.room
    full_so =
        ap (λ all. nat_lt (length all) (max buffer service.settings.subscriber_max_borrowed_samples)) (sym expired_so)
        ∙ ap (λ n. nat_lt n (max buffer service.settings.subscriber_max_borrowed_samples)) (length-map items by_key)
        ∙ ap (λ n. nat_lt (length items) n) most_is

    -- What a place is after the parting of its connection.
    pub record IsFreed (new : SubscriberPort) (new_ports : List (ℕ × PublisherPort T U)) : Type 0 where
      pub mid : Mid new new_ports
      pub parts : part buffer its_name service parted leaver
          ≡ record parted { expired = map (publisher_by names.publisher new) new.expired.items }
      pub items_so : new.places.items ≡ set port.places.items place None
      pub fewer : (which : ℕ) (attached : Attached) → attached_at which new ≡ Some attached → attached_at which port ≡ Some attached
      pub seen : new.seen ≡ port.seen
      pub again : new.again ≡ port.again

    -- the same subscriber, with other connections
    other_connections : (new : SubscriberPort)
        → new ≡ record port { connections = new.connections; places = new.places; expired = new.expired }
        → new.expired.room ≡ port.expired.room → IsSamePort first new
    other_connections new is room =
        let same = midway.same in
        record {
          number = ap (λ (one : SubscriberPort). one.number) is ∙ same.number;
          owner = ap (λ (one : SubscriberPort). one.owner) is ∙ same.owner;
          stands = ap (λ (one : SubscriberPort). one.stands) is ∙ same.stands;
          buffer_size = ap (λ (one : SubscriberPort). one.buffer_size) is ∙ same.buffer_size;
          place = ap (λ (one : SubscriberPort). one.place) is ∙ same.place;
          held = ap (λ (one : SubscriberPort). one.held) is ∙ same.held;
          room = room ∙ same.room;
        }

    fewer_of : (out : ℕ) (new : SubscriberPort) → new.connections ≡ released port.connections out → (which : ℕ) (attached : Attached)
        → attached_at which new ≡ Some attached → attached_at which port ≡ Some attached
    fewer_of out new is which attached has_which = (held_still port.connections.values out which attached
        (ap (λ (table : SlotTable Attached). value_at table.values which) (sym is) ∙ has_which)).1

    none_left : (new : SubscriberPort) → ((which : ℕ) (attached : Attached) → attached_at which new ≡ Some attached
        → attached_at which port ≡ Some attached) → (member : Member PublisherEntry)
        → get_or old.publisher_list.places place None ≡ Some member → HasNone member.value.publisher new
    none_left new fewer member listed which attached has_which = unlisted member listed which attached (fewer which attached has_which)

    -- the publishers of expired ones are the same
    same_expired : (new : SubscriberPort) → KeysFit new → ((which : ℕ) (attached : Attached) → attached_at which new ≡ Some attached
        → attached_at which port ≡ Some attached)
        → map (publisher_by names.publisher new) new.expired.items ≡ map by_key new.expired.items
    same_expired new fit fewer = same_publishers (publisher_by names.publisher new) by_key new.expired.items
        (λ at_place within.
        let which = get_or new.expired.items at_place 0 in
        let it = key_attached new which fit (expired_key new at_place which (got new.expired.items at_place within)) in
        same_publisher names.publisher port new which it.0 it.1 (fewer which it.0 it.1))

    -- it ends
    freed_end : part buffer its_name service parted leaver ≡ parted → (new : SubscriberPort)
        → new ≡ record port { connections = released port.connections key; places = tie_put place None port.places } → KeysFit new
        → new.places.room ≡ port.places.room → IsFreed new (ended_ports (Some gone) ports)
    freed_end is_parted new is fit room =
        let is_released : new.connections ≡ released port.connections key = ap (λ (one : SubscriberPort). one.connections) is in
        let fewer = fewer_of key new is_released in
        let expired_is : new.expired ≡ port.expired = ap (λ (one : SubscriberPort). one.expired) is in
        record {
          mid = ended_midway key gone has key_left new
              (other_connections new (is ∙ ap (λ (one : SubscriberPort).
              record port { connections = one.connections; places = one.places; expired = one.expired }) (sym is))
              (ap (λ (keys : KeysState). keys.room) expired_is))
              fit (room ∙ midway.room)
              (subst (λ (one : SubscriberPort). IsReading number old.publisher_list.places one (ended_ports (Some gone) ports)) (sym is)
              (reads_unplaced number old.publisher_list.places place (without_key key (Some gone) port) (ended_ports (Some gone) ports)
              (none_left (without_key key (Some gone) port) (fewer_of key (without_key key (Some gone) port) refl))
              (reads_ended number old.publisher_list.places key gone port ports has midway.reads)))
              is_released;
          parts = is_parted ∙ ap (λ all. record parted { expired = all }) (sym (same_expired new fit fewer
              ∙ ap (λ (keys : KeysState). map by_key keys.items) expired_is ∙ expired_so));
          items_so = ap (λ (one : SubscriberPort). one.places.items) is;
          fewer = fewer;
          seen = ap (λ (one : SubscriberPort). one.seen) is;
          again = ap (λ (one : SubscriberPort). one.again) is;
        }

    -- it expires
    freed_room : part buffer its_name service parted leaver ≡ record parted { expired = parted.expired ++ leaver ∷ [] }
        → (new : SubscriberPort)
        → new ≡ record port { places = tie_put place None port.places; expired = record port.expired { items = items ++ key ∷ [] } }
        → KeysFit new → new.places.room ≡ port.places.room → IsFreed new ports
    freed_room is_parted new is fit room =
        let same_connections : new.connections ≡ port.connections = ap (λ (one : SubscriberPort). one.connections) is in
        let fewer : (which : ℕ) (attached : Attached) → attached_at which new ≡ Some attached → attached_at which port ≡ Some attached =
        λ which attached has_which. ap (λ (table : SlotTable Attached). value_at table.values which) (sym same_connections) ∙ has_which in
        record {
          mid = stays_midway new
              (other_connections new (is ∙ ap (λ (one : SubscriberPort).
              record port { connections = one.connections; places = one.places; expired = one.expired }) (sym is))
              (ap (λ (one : SubscriberPort). one.expired.room) is))
              fit (room ∙ midway.room)
              (reads_alike number old.publisher_list.places (unplaced place port) new ports same_connections
              (ap (λ (one : SubscriberPort). one.places) is) (ap (λ (one : SubscriberPort). one.number) is)
              (reads_unplaced number old.publisher_list.places place port ports unlisted midway.reads))
              same_connections;
          parts = is_parted ∙ ap (λ all. record parted { expired = all }) (sym (same_expired new fit fewer
              ∙ ap (λ (one : SubscriberPort). map by_key one.expired.items) is ∙ map-append by_key items (key ∷ [])
              ∙ ap (λ all. all ++ leaver ∷ []) expired_so));
          items_so = ap (λ (one : SubscriberPort). one.places.items) is;
          fewer = fewer;
          seen = ap (λ (one : SubscriberPort). one.seen) is;
          again = ap (λ (one : SubscriberPort). one.again) is;
        }

    -- no two expired ones are of one publisher
    apart_expired : (met out : ℕ) → slice_get items met ≡ Some out → (other : ℕ) → other < length items → other ≢ met
        → by_key (get_or items other 0) ≢ by_key out
    apart_expired met out found other within off same =
        let one = expired_has other within in
        let at_met = got_within items met out found in
        let two : (attached : Attached) × (attached_at out port ≡ Some attached) =
        key_attached port out midway.fit (expired_key port met out found) in
        let is_one : by_key (get_or items other 0) ≡ names.publisher one.0.publisher =
        ap (λ (it : Option Attached). option_map_or (λ (a : Attached). names.publisher a.publisher) it 0) one.1 in
        let is_two : by_key out ≡ names.publisher two.0.publisher =
        ap (λ (it : Option Attached). option_map_or (λ (a : Attached). names.publisher a.publisher) it 0) two.1 in
        let read = midway.reads.reads (get_or items other 0) one.0 one.1 in
        let named = midway.stands.publishers one.0.publisher read.0 read.1 in
        let publisher : one.0.publisher ≡ two.0.publisher =
        midway.stands.named_publishers.apart one.0.publisher two.0.publisher
        (not_zero names.publisher (names.publisher one.0.publisher) named.0 service.publishers midway.stands.named_publishers named.1)
        (sym is_one ∙ same ∙ is_two) in
        let key_same = midway.reads.apart (get_or items other 0) out one.0 two.0 one.1 two.1 publisher in
        off (once_place items other met out (expired_once out) (got items other within ∙ ap (λ k. Some k) key_same) found)
      where
        at_most : (found : Option Attached) → (if is_some found then 1 else 0) ≤ 1
        at_most None = omega arith
        at_most (Some attached) = omega arith

        expired_once : (which : ℕ) → how_often which items ≤ 1
        expired_once which = omega (
          arith,
          often_append which (keys_at port.places.items) items,
          midway.fit.used which,
          at_most (attached_at which port),
        )

    -- another makes room for it
    freed_out : (met out : ℕ) → slice_get items met ≡ Some out
        → part buffer its_name service parted leaver
        ≡ record parted { expired = filter (λ other. not (other == by_key out)) parted.expired ++ leaver ∷ [] }
        → (dropped : Attached) → attached_at out port ≡ Some dropped → (new : SubscriberPort)
        → new ≡ record port {
          connections = released port.connections out;
          places = tie_put place None port.places;
          expired = record port.expired { items = remove items met ++ key ∷ [] };
        } → KeysFit new → new.places.room ≡ port.places.room → IsFreed new (ended_ports (Some dropped) ports)
    freed_out met out found is_parted dropped has_out new is fit room =
        let is_released : new.connections ≡ released port.connections out = ap (λ (one : SubscriberPort). one.connections) is in
        let fewer = fewer_of out new is_released in
        record {
          mid = ended_midway out dropped has_out (expired_left met out dropped found has_out) new
              (other_connections new (is ∙ ap (λ (one : SubscriberPort).
              record port { connections = one.connections; places = one.places; expired = one.expired }) (sym is))
              (ap (λ (one : SubscriberPort). one.expired.room) is))
              fit (room ∙ midway.room)
              (reads_alike number old.publisher_list.places (unplaced place (without_key out (Some dropped) port)) new
              (ended_ports (Some dropped) ports) is_released
              (ap (λ (one : SubscriberPort). one.places) is) (ap (λ (one : SubscriberPort). one.number) is)
              (reads_unplaced number old.publisher_list.places place (without_key out (Some dropped) port)
              (ended_ports (Some dropped) ports)
              (none_left (without_key out (Some dropped) port) (fewer_of out (without_key out (Some dropped) port) refl))
              (reads_ended number old.publisher_list.places out dropped port ports has_out midway.reads)))
              is_released;
          parts = is_parted ∙ ap (λ all. record parted { expired = all }) (sym (same_expired new fit fewer
              ∙ ap (λ (one : SubscriberPort). map by_key one.expired.items) is ∙ map-append by_key (remove items met) (key ∷ [])
              ∙ ap (λ all. all ++ leaver ∷ []) (sym (ap (λ all. filter (λ other. not (other == by_key out)) all) (sym expired_so)
              ∙ without_named by_key items met out found (apart_expired met out found)))));
          items_so = ap (λ (one : SubscriberPort). one.places.items) is;
          fewer = fewer;
          seen = ap (λ (one : SubscriberPort). one.seen) is;
          again = ap (λ (one : SubscriberPort). one.again) is;
        }

    -- The effect of the parting of a connection.
    pub record HasPartedSo (is_free : Bool) (new : SubscriberPort) (new_ports : List (ℕ × PublisherPort T U)) : Type 0 where
      pub freed : is_free ≡ true → IsFreed (unplaced place new) new_ports
      pub stays : is_free ≡ false → (new ≡ port) × (new_ports ≡ ports)
          × (part buffer its_name service parted leaver ≡ record parted { staying = parted.staying ++ leaver ∷ [] })

    is_freed : (is_free : Bool) (new : SubscriberPort) (new_ports : List (ℕ × PublisherPort T U)) → is_free ≡ true
        → IsFreed (unplaced place new) new_ports → HasPartedSo is_free new new_ports
    is_freed is_free new new_ports is freed = record { freed = λ so. freed; stays = λ so. never_true (sym so ∙ is) }

    module _ (is_free : Bool) (new : SubscriberPort) (new_ports : List (ℕ × PublisherPort T U))
        (parting : Parts key port ports is_free new new_ports) where
      fits : is_free ≡ true → KeysFit (unplaced place new) × ((unplaced place new).places.room ≡ port.places.room)
      fits is =
          let goes = goes_unplaced place port new midway.fit
          ((parts_so place key port new ports new_ports is_free midway.fit placed parting).parted is) in
          (goes.fit, goes.room)

      ends : is_free ≡ true → new ≡ ended_key key port → new_ports ≡ ended_ports (attached_at key port) ports
          → part buffer its_name service parted leaver ≡ parted → HasPartedSo is_free new new_ports
      ends is is_new is_ports is_parted =
          is_freed is_free new new_ports is
          (subst (λ all. IsFreed (unplaced place new) all)
          (sym (is_ports ∙ ap (λ (found : Option Attached). ended_ports found ports) has))
          (freed_end is_parted (unplaced place new)
          (ap (unplaced place) (is_new ∙ ap (λ (found : Option Attached). without_key key found port) has)) (fits is).0 (fits is).1))

      replaces : (met out : ℕ) → slice_get items met ≡ Some out → is_free ≡ true → new ≡ replaced_port met out key port
          → new_ports ≡ ended_ports (attached_at out port) ports
          → part buffer its_name service parted leaver
          ≡ record parted { expired = filter (λ other. not (other == by_key out)) parted.expired ++ leaver ∷ [] }
          → HasPartedSo is_free new new_ports
      replaces met out found is is_new is_ports is_parted =
          let held_out = key_attached port out midway.fit (expired_key port met out found) in
          is_freed is_free new new_ports is
          (subst (λ all. IsFreed (unplaced place new) all)
          (sym (is_ports ∙ ap (λ (it : Option Attached). ended_ports it ports) held_out.1))
          (freed_out met out found is_parted held_out.0 held_out.1 (unplaced place new)
          (ap (unplaced place) (is_new
          ∙ ap (λ (it : Option Attached). expired_port key (record (without_key out it port) {
            expired = record port.expired { items = remove items met };
          })) held_out.1
          ∙ ap (λ (keys : KeysState). record (without_key out (Some held_out.0) port) { expired = keys })
          (last_is key (record port.expired { items = remove items met }) (room_left met out found))))
          (fits is).0 (fits is).1))
        where
          room_left : (met out : ℕ) → slice_get items met ≡ Some out → nat_lt (length (remove items met)) port.expired.room ≡ true
          room_left met out found =
              let fewer = length_remove met out items found in
              lt-ltb (length (remove items met)) port.expired.room (omega (arith, fewer, midway.fit.expired))

      -- by how much is borrowed of it
      borrowed : (met : ℕ) → IsMet (is_idle port ports) items met → slice_get items met ≡ None → is_idle port ports key ≡ false
          → nat_lt (length items) port.expired.room ≡ false → (unborrowed : Bool) → is_unborrowed port ports key ≡ unborrowed
          → PartsBorrowed unborrowed key port ports is_free new new_ports → HasPartedSo is_free new new_ports
      borrowed met meets none busy full true free parts =
          ends parts.0 parts.1 parts.2
          (part_ends buffer its_name service parted leaver (idle_here ∙ busy) (full_so ∙ full)
          (first_of_second (filter idle_of parted.expired) _ (first_idle met meets ∙ ap (option_map by_key) none)
          ∙ ap (λ b. slice_get (if b then [] else filter unborrowed_of parted.expired) 0) (unborrowed_here ∙ free))
          (unborrowed_here ∙ free))
      borrowed met meets none busy full false owed (second, second_meets, parts) = by (slice_get items second) refl parts
        where
          room_is : room_for buffer its_name leaver parted.expired service ≡ option_map by_key (slice_get items second)
          room_is =
              first_of_second (filter idle_of parted.expired) _ (first_idle met meets ∙ ap (option_map by_key) none)
              ∙ ap (λ b. slice_get (if b then [] else filter unborrowed_of parted.expired) 0) (unborrowed_here ∙ owed)
              ∙ first_unborrowed second second_meets

          by : (found : Option ℕ) → slice_get items second ≡ found → PartsFor found second key port ports is_free new new_ports
              → HasPartedSo is_free new new_ports
          by None found parts = record {
            freed = λ so. never_true (sym parts.0 ∙ so);
            stays = λ so. (
              parts.1,
              parts.2,
              part_stays buffer its_name service parted leaver (idle_here ∙ busy) (full_so ∙ full)
                  (room_is ∙ ap (option_map by_key) found) (unborrowed_here ∙ owed),
            );
          }
          by (Some out) found parts =
              replaces second out found parts.0 parts.1 parts.2
              (part_out buffer its_name service parted leaver (by_key out) (idle_here ∙ busy) (full_so ∙ full)
              (room_is ∙ ap (option_map by_key) found))

      over : (met : ℕ) → IsMet (is_idle port ports) items met → is_idle port ports key ≡ false
          → nat_lt (length items) port.expired.room ≡ false → (found : Option ℕ) → slice_get items met ≡ found
          → PartsOver found met key port ports is_free new new_ports → HasPartedSo is_free new new_ports
      over met meets busy full None none parts = borrowed met meets none busy full (is_unborrowed port ports key) refl parts
      over met meets busy full (Some out) found parts =
          replaces met out found parts.0 parts.1 parts.2
          (part_out buffer its_name service parted leaver (by_key out) (idle_here ∙ busy) (full_so ∙ full)
          (first_of_first (filter idle_of parted.expired) _ (by_key out) (first_idle met meets ∙ ap (option_map by_key) found)))

      cases : (idle full : Bool) → is_idle port ports key ≡ idle → nat_le port.expired.room (length items) ≡ full
          → PartsIf idle full key port ports is_free new new_ports → HasPartedSo is_free new new_ports
      cases true full idle is_full parts =
          ends parts.0 parts.1 parts.2 (part_idle buffer its_name service parted leaver (idle_here ∙ idle))
      cases false false busy is_full parts =
          let room : nat_lt (length items) port.expired.room ≡ true =
          lt-ltb (length items) port.expired.room (leb-false port.expired.room (length items) is_full) in
          is_freed is_free new new_ports parts.0
          (subst (λ all. IsFreed (unplaced place new) all) (sym parts.2)
          (freed_room (part_room buffer its_name service parted leaver (idle_here ∙ busy) (full_so ∙ room)) (unplaced place new)
          (ap (unplaced place) (parts.1 ∙ ap (λ (keys : KeysState). record port { expired = keys }) (last_is key port.expired room)))
          (fits parts.0).0 (fits parts.0).1))
      cases false true busy is_full (met, meets, parts) =
          over met meets busy (le-ltb (length items) port.expired.room (leb-true port.expired.room (length items) is_full))
          (slice_get items met) refl parts

      pub parted_so : HasPartedSo is_free new new_ports
      parted_so = cases (is_idle port ports key) (nat_le port.expired.room (length items)) refl refl parting
