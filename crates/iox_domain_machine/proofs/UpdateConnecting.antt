-- A subscriber connects to a publisher that is listed, of a domain and of the machine.
use Rattle.std.proofs.Common.{◌≡◌, ◌≢◌, ◌≤◌, ◌<◌, ◌⊎◌, ◌+◌, ◌-◌, ◌∷◌, [], ◌||◌, ◌&&◌, ◌==◌, ℕ, Bool, true, false, List, length, map}
use Rattle.std.proofs.Common.{get_or, min, slice_get, nat_le, Option, None, Some, Result, Ok, Err, refl, sym, ap, subst, inl, inr, ◌∙◌}
use Rattle.std.proofs.Common.{arith}
use Rattle.std.proofs.lemmas.Bool.{cases_eq, eq-eqb, eqb-true, leb-true, ne_eqb, or_cases}
use Rattle.std.proofs.lemmas.List.{get_or-set_other, get_or-set_same, nil_from_length}
use Rattle.std.specs.Map.{keys_of, set_value}
use Rattle.std.specs.Option.{option_map_or}
use Rattle.std.specs.Prelude.{is_none, option_map, if◌then◌else◌}
use Rattle.std.specs.declared.alloc.AllocError.{AllocError}
use Rattle.iox_domain.proofs.Fitting.{goes_connected, key_left}
use Rattle.iox_domain.proofs.Keys.{often_there}
use Rattle.iox_domain.proofs.ListKeeps.{held_walks}
use Rattle.iox_domain.proofs.Numbered.{at_number, found_of_all, same_set}
use Rattle.iox_domain.proofs.TiedWell.{long_enough, still_there}
use Rattle.iox_domain.proofs.TiedUpdates.{connects_made, found_leads, ok_same}
use Rattle.iox_domain.proofs.WellKept.{well_walks}
use Rattle.iox_domain.specs.Container.declared.container.Member.{Member}
use Rattle.iox_domain.specs.DomainPorts.Following.{Connects, ConnectsBy, kept_at, lacks_connection}
use Rattle.iox_domain.specs.DomainPorts.Places.{reached, leads_to}
use Rattle.iox_domain.specs.DomainPorts.Ports.{connection_to, is_live, Joins}
use Rattle.iox_domain.specs.DomainPorts.Ports as ports_of
use Rattle.iox_domain.specs.DomainPorts.Publishers.{port_of, with_port, AttachesTo, AttachesAtPort}
use Rattle.iox_domain.specs.DomainPorts.Subscribing.{attached_at}
use Rattle.iox_domain.specs.DomainPorts.declared.attached.Attached.{Attached}
use Rattle.iox_domain.specs.DomainPorts.declared.attached.Taken.{Taken}
use Rattle.iox_domain.specs.DomainPorts.declared.publisher_entry.PublisherEntry.{PublisherEntry}
use Rattle.iox_domain.specs.DomainPorts.declared.publisher_port.PublisherPort.{PublisherPort}
use Rattle.iox_domain.specs.DomainPorts.declared.subscriber_port.SubscriberPort.{SubscriberPort}
use Rattle.iox_domain.specs.DomainValues.declared.connection_failure.ZeroCopyCreationError.{ZeroCopyCreationError}
use Rattle.iox_domain.specs.DomainValues.declared.connection_failure.ZeroCopyCreationError.TheVariants as creation
use Rattle.iox_domain.specs.PortLawsLaws.{IsWellEntry}
use Rattle.iox_domain.specs.Ports.{with_both}
use Rattle.iox_domain.specs.Roomy.{IsAttached, IsListOnce}
use Rattle.iox_domain.specs.SizeLaws.{IsMadeFor, MadeFor, allowed_by}
use Rattle.iox_domain.specs.Subscribers.{subscriber_of}
use Rattle.iox_domain.specs.Tries.{how_often}
use Rattle.iox_domain.specs.declared.ports.service_ports.ServicePorts.{ServicePorts}
use Rattle.iox_domain_machine.specs.Naming.{Naming, with_name}
use Rattle.iox_domain_machine.specs.Subscribers.{SubscriberStandsFor, publisher_by}
use Rattle.iox_domain_machine.specs.Tables.{LentSlot}
use Rattle.iox_domain_machine.proofs.Found.{never_some, never_true, other_found}
use Rattle.iox_domain_machine.proofs.UpdateJoining.{attached_stands, joined_stands, leads_some, leads_within, no_box}
use Rattle.iox_domain_machine.proofs.UpdateMachine.{empty_box}
use Rattle.iox_domain_machine.proofs.UpdateMidway.{IsSamePort, Midway, Stands, connected_at, one_now, port_moved, same_publisher}
use Rattle.iox_domain_machine.proofs.UpdateMidway.{service_at, subscriber_as, there_now}
use Rattle.iox_domain_machine.proofs.UpdateParting.{same_publishers, got}
use Rattle.iox_domain_machine.proofs.UpdateReading.{HasNone, key_attached, placed_key, expired_key, reads_kept}
use Rattle.iox_machine.specs.Mailbox.{Mailbox}
use Rattle.iox_machine.specs.Service.{Service, Subscriber, with_mailbox}
use Rattle.iox_machine.specs.Table.{at}

-- what is set twice is set to the second
set_twice : {V : Type 0} (test : ℕ → Bool) (table : List (ℕ × V)) (one other : V)
    → set_value test (set_value test table one) other ≡ set_value test table other
set_twice test [] one other = refl
set_twice {V} test (entry ∷ table) one other = by (test entry.0) refl (set_twice test table one other)
  where
    by : (b : Bool) → test entry.0 ≡ b → set_value test (set_value test table one) other ≡ set_value test table other
        → set_value test (set_value test (entry ∷ table) one) other ≡ set_value test (entry ∷ table) other
    by true is rest = rw is (rw is refl)
    by false is rest = rw is (rw is (ap (λ more. entry ∷ more) rest))

none_is : {X : Type 0} (found : Option X) → is_none found ≡ true → found ≡ None
none_is None is = refl
none_is (Some x) is = never_true is

module _ {T U : Type 0} (names : Naming) (lent : List (ℕ × LentSlot)) (held : List (ℕ × Taken)) (buffer : ℕ) (old : ServicePorts T U)
    (service : Service T) (number : ℕ) (first : SubscriberPort) (was : Subscriber)
    (there : subscriber_of number old.subscribers ≡ Some first)
    (was_there : at (names.subscriber number) service.subscribers ≡ Some was)
    (was_is : SubscriberStandsFor names.publisher old.sizes.max_publishers old.sizes.expired_connections first was)
    (once : (other : ℕ) → how_often other (keys_of old.subscribers) ≤ 1)
    (reader : ℕ → ℕ → ℕ) (port : SubscriberPort) (ports : List (ℕ × PublisherPort T U)) (mailboxes : ℕ → ℕ → Option (Mailbox T))
    (midway : Midway names lent held buffer old service number first was reader port ports mailboxes)
    (place : ℕ) (member : Member PublisherEntry) (listed : get_or old.publisher_list.places place None ≡ Some member)
    (none_here : get_or port.places.items place None ≡ None) (within : place < port.places.room) (was_stands : was.stands ≡ true) where
  abbrev its : ℕ
  its = names.subscriber number

  abbrev publisher : ℕ
  publisher = member.value.publisher

  abbrev its_name : ℕ
  its_name = names.publisher member.value.publisher

  abbrev pub present : (one : PublisherPort T U) × (port_of publisher ports ≡ Some one) × (one.stands ≡ true) × (one.place ≡ place)
  present = midway.stands.present place member listed

  abbrev its_port : PublisherPort T U
  its_port = present.0

  has_none : HasNone publisher port
  has_none key attached has same = never_some key (sym none_here ∙ midway.reads.placed key place attached member has listed same)

  one_there : at its (service_at names lent held buffer old service number first was port mailboxes).subscribers
      ≡ Some (subscriber_as names.publisher old.sizes.max_publishers was port)
  one_there = one_now names lent held buffer old service number first was there was_there was_is once port

  -- where no connection is made the machine has no mailbox
  pub lacks : (failure : ZeroCopyCreationError) (new : SubscriberPort) (new_ports : List (ℕ × PublisherPort T U))
      → Connects place publisher port ports (Err failure) new new_ports
      → (failure ≡ creation.OutOfMemory) × (new ≡ port) × (new_ports ≡ ports) × (mailboxes its_name its ≡ None)
  lacks failure new new_ports (is, fails, is_new, is_ports) = (
    is,
    is_new,
    is_ports,
    by (or_cases (length port.connections.free == 0) _ fails),
  )
    where
      missing : lacks_connection port.number (port_of publisher ports) ≡ true → mailboxes its_name its ≡ None
      missing lacking =
          let none : connection_to number its_port ≡ None =
          none_is (connection_to number its_port) (ap (λ n. is_none (connection_to n its_port)) (sym midway.reads.named)
          ∙ ap (λ found. lacks_connection port.number found) (sym present.1) ∙ lacking) in
          no_box (record names { reader = reader }) lent held buffer (with_both number port ports old)
          (service_at names lent held buffer old service number first was port mailboxes) publisher number its_port its_port
          (subscriber_as names.publisher old.sizes.max_publishers was port) midway.stands present.1 present.2 one_there was_stands none

      by_rest : (nat_le port.places.room place ≡ true) ⊎ (lacks_connection port.number (port_of publisher ports) ≡ true)
          → mailboxes its_name its ≡ None
      by_rest (inl past) = absurd (omega (arith, within, leb-true port.places.room place past))
      by_rest (inr lacking) = missing lacking

      by : ((length port.connections.free == 0) ≡ true)
          ⊎ ((nat_le port.places.room place || lacks_connection port.number (port_of publisher ports)) ≡ true)
          → mailboxes its_name its ≡ None
      by (inl none) = absurd (key_left place port midway.fit none_here within
          (nil_from_length port.connections.free (eqb-true (length port.connections.free) 0 none)))
      by (inr rest) = by_rest (or_cases (nat_le port.places.room place) _ rest)

  -- What a place is after a publisher was connected to it.
  pub record HasCome (new : SubscriberPort) (new_ports : List (ℕ × PublisherPort T U)) : Type 0 where
    pub read : ℕ → ℕ → ℕ
    pub boxes : ℕ → ℕ → Option (Mailbox T)
    pub mid : Midway names lent held buffer old service number first was read new new_ports boxes
    pub here : connected_at names.publisher new place ≡ Some its_name
    pub others : (other : ℕ) → other ≢ place → connected_at names.publisher new other ≡ connected_at names.publisher port other
    pub expired : map (publisher_by names.publisher new) new.expired.items ≡ map (publisher_by names.publisher port) port.expired.items
    pub seen : new.seen ≡ port.seen
    pub again : new.again ≡ port.again
    pub came : (one other : ℕ) → (boxes one other ≡ mailboxes one other)
        ⊎ ((one ≡ its_name) × (other ≡ its) × (mailboxes one other ≡ None)
        × (boxes one other ≡ Some (empty_box {T = T} was.buffer_size number)))

  module _ (list_once : IsListOnce old.next_port old.publisher_list.places)
      (few : was.buffer_size ≤ old.sizes.subscriber_max_buffer_size) (index key : ℕ) (after joined : PublisherPort T U)
      (new_ports : List (ℕ × PublisherPort T U))
      (attaches : AttachesTo publisher port.number port.buffer_size ports (Some (Ok index)) new_ports)
      (is_ports : new_ports ≡ with_port publisher ports after) (is_after : after ≡ ports_of.attached_at number index joined)
      (free : slice_get port.connections.free 0 ≡ Some key) (leads : leads_to number (get_or joined.readers index None) ≡ true)
      (live : is_live index joined ≡ true) where
    abbrev came_so : Attached
    came_so = record { publisher = member.value.publisher; index = index }

    abbrev new : SubscriberPort
    new = kept_at place key came_so port

    -- the key was free
    was_free : (key < length port.connections.values) × (attached_at key port ≡ None)
    was_free = midway.fit.free key (often_there key 0 port.connections.free free)

    has_now : attached_at key new ≡ Some came_so
    has_now = get_or-set_same port.connections.values key (Some came_so) None was_free.0

    still_has : (which : ℕ) (attached : Attached) → attached_at which port ≡ Some attached → attached_at which new ≡ Some attached
    still_has which attached has =
        get_or-set_other port.connections.values key which (Some came_so) None
        (λ same. never_some attached (sym was_free.1 ∙ ap (λ k. attached_at k port) (sym same) ∙ has))
        ∙ has

    items_here : get_or new.places.items place None ≡ Some key
    items_here = get_or-set_same (reached (place + 1) port.places.items) place (Some key) None
        (omega (arith, long_enough port.places.items (place + 1)))

    items_else : (other : ℕ) → other ≢ place → get_or new.places.items other None ≡ get_or port.places.items other None
    items_else other off =
        get_or-set_other (reached (place + 1) port.places.items) place other (Some key) None off
        ∙ still_there port.places.items (place + 1 - length port.places.items) other

    same_new : IsSamePort first new
    same_new = record {
      number = midway.same.number;
      owner = midway.same.owner;
      stands = midway.same.stands;
      buffer_size = midway.same.buffer_size;
      place = midway.same.place;
      held = midway.same.held;
      room = midway.same.room;
    }

    -- the publisher is another, and the subscriber reads there
    after_there : port_of publisher new_ports ≡ Some after
    after_there = ap (λ all. port_of publisher all) is_ports ∙ same_set (at_number publisher) ports after its_port present.1

    reads_it : IsAttached number came_so new_ports
    reads_it = (
      after,
      after_there,
      record {
        live = ap (λ (one : PublisherPort T U). is_live index one) is_after ∙ live;
        reader = ap (λ (one : PublisherPort T U). get_or one.readers index None) is_after
            ∙ get_or-set_same joined.readers index (Some (record { subscriber = number; attached = true })) None
            (leads_within number joined.readers index leads);
      },
    )

    connects : Connects place publisher port ports (Ok tt) new new_ports
    connects = (Some (Ok index), attaches, (key, free, refl))

    -- what holds of the subscriber and the publishers
    midway_now : (read : ℕ → ℕ → ℕ) (boxes : ℕ → ℕ → Option (Mailbox T))
        → Stands names lent held buffer old service number first was read new new_ports boxes
        → Midway names lent held buffer old service number first was read new new_ports boxes
    midway_now read boxes stands =
        let goes = goes_connected place publisher port new ports new_ports (Ok tt) midway.fit none_here within connects in
        let attaches_named : AttachesTo publisher number port.buffer_size ports (Some (Ok index)) new_ports =
        subst (λ n. AttachesTo publisher n port.buffer_size ports (Some (Ok index)) new_ports) midway.reads.named attaches in
        let keeps = (held_walks {T = T} {U = U} number).attach publisher port.buffer_size ports new_ports (Some (Ok index))
        attaches_named in
        record {
          stands = stands;
          same = same_new;
          fit = goes.fit;
          room = goes.room ∙ midway.room;
          reads = reads_kept number old.publisher_list.places old.next_port place index key member port ports new_ports list_once listed
              has_none (λ other off. ap (λ all. port_of other all) is_ports ∙ other_found publisher other after ports off) reads_it
              midway.reads;
          sound = keeps.sound old.next_port midway.sound;
          sized = keeps.sized (allowed_by old.sizes) midway.sized;
          well = ((well_walks {T = T} {U = U} old.next_port old.subscriber_list.places number).attach publisher port.buffer_size ports
              new_ports (Some (Ok index)) attaches_named).well midway.well;
        }

    connected_else : (other : ℕ) → other ≢ place → (found : Option ℕ) → get_or port.places.items other None ≡ found
        → connected_at names.publisher new other ≡ connected_at names.publisher port other
    connected_else other off None is =
        ap (option_map (publisher_by names.publisher new)) (items_else other off ∙ is)
        ∙ sym (ap (option_map (publisher_by names.publisher port)) is)
    connected_else other off (Some which) is =
        let held_so = key_attached port which midway.fit (placed_key port other which is) in
        ap (option_map (publisher_by names.publisher new)) (items_else other off ∙ is)
        ∙ ap (λ n. Some n) (same_publisher names.publisher port new which held_so.0 (still_has which held_so.0 held_so.1) held_so.1)
        ∙ sym (ap (option_map (publisher_by names.publisher port)) is)

    -- the other ports see the connection then
    came_with : (read : ℕ → ℕ → ℕ) (boxes : ℕ → ℕ → Option (Mailbox T))
        → Stands names lent held buffer old service number first was read new new_ports boxes
        → ((one other : ℕ) → (boxes one other ≡ mailboxes one other)
        ⊎ ((one ≡ its_name) × (other ≡ its) × (mailboxes one other ≡ None)
        × (boxes one other ≡ Some (empty_box {T = T} was.buffer_size number)))) → HasCome new new_ports
    came_with read boxes stands came = record {
      read = read;
      boxes = boxes;
      mid = midway_now read boxes stands;
      here = ap (option_map (publisher_by names.publisher new)) items_here
          ∙ ap (λ (found : Option Attached). Some (option_map_or (λ (a : Attached). names.publisher a.publisher) found 0)) has_now;
      others = λ other off. connected_else other off (get_or port.places.items other None) refl;
      expired = same_publishers (publisher_by names.publisher new) (publisher_by names.publisher port) port.expired.items
          (λ at_place below.
          let which = get_or port.expired.items at_place 0 in
          let held_so = key_attached port which midway.fit (expired_key port at_place which (got port.expired.items at_place below)) in
          same_publisher names.publisher port new which held_so.0 (still_has which held_so.0 held_so.1) held_so.1);
      seen = refl;
      again = refl;
      came = came;
    }

    -- then the subscriber reads there
    reads_then : (read : ℕ → ℕ → ℕ) (boxes : ℕ → ℕ → Option (Mailbox T)) (before : List (ℕ × PublisherPort T U))
        → port_of publisher before ≡ Some joined → with_port publisher before (ports_of.attached_at number index joined) ≡ new_ports
        → Stands names lent held buffer old service number first was read port before boxes
        → Stands names lent held buffer old service number first was read new new_ports boxes
    reads_then read boxes before is_joined is_new stands =
        subst (λ all. Stands names lent held buffer old service number first was read new all boxes) is_new
        (attached_stands (record names { reader = read }) lent held buffer (with_both number new before old)
        (service_at names lent held buffer old service number first was new boxes) publisher number index key joined new
        (port_moved names lent held buffer old service number first was there was_there was_is once read port new before boxes
        midway.same same_new
        (λ one_publisher one_index one to is_one led own which has. still_has which
        (record { publisher = one_publisher; index = one_index }) has)
        stands)
        is_joined leads (there_now names lent held buffer old service number first was there was_there was_is once new)
        (midway.same.stands ∙ sym was_is.stands ∙ was_stands) has_now)

    -- there was a connection
    pub came_again : joined ≡ its_port → HasCome new new_ports
    came_again is_joined =
        came_with reader mailboxes
        (reads_then reader mailboxes ports (present.1 ∙ ap (λ (one : PublisherPort T U). Some one) (sym is_joined))
        (ap (with_port publisher ports) (sym is_after) ∙ sym is_ports) midway.stands)
        (λ one other. inl refl)

    -- or it was made
    pub came_first : (limit : ℕ) → limit ≡ was.buffer_size → connection_to number its_port ≡ None
        → ports_of.Connects limit (record { subscriber = number; attached = false }) its_port (Ok index) joined → HasCome new new_ports
    came_first limit is_limit none made =
        came_with read boxes
        (reads_then read boxes (with_port publisher ports joined)
        (same_set (at_number publisher) ports joined its_port present.1)
        (set_twice (at_number publisher) ports joined (ports_of.attached_at number index joined)
        ∙ ap (with_port publisher ports) (sym is_after) ∙ sym is_ports)
        (joined_stands (record names { reader = reader }) lent held buffer (with_both number port ports old)
        (service_at names lent held buffer old service number first was port mailboxes) publisher number its_port joined
        (subscriber_as names.publisher old.sizes.max_publishers was port) midway.stands present.1 present.2 one_there was_stands
        limit index none live_ties made))
        new_box
      where
        read : ℕ → ℕ → ℕ
        read = with_name publisher (with_name index its (reader publisher)) reader

        boxes : ℕ → ℕ → Option (Mailbox T)
        boxes = (with_mailbox its_name its (record { limit = limit; waiting = []; borrowed = [] })
            (service_at names lent held buffer old service number first was port mailboxes)).mailboxes

        live_ties : (at_place tied : ℕ) → get_or its_port.ties.items at_place None ≡ Some tied → is_live tied its_port ≡ true
        live_ties = ((found_of_all (IsWellEntry old.next_port old.subscriber_list.places) (at_number publisher) ports its_port midway.well
            present.1).holds present.2).live

        none_before : mailboxes its_name its ≡ None
        none_before = no_box (record names { reader = reader }) lent held buffer (with_both number port ports old)
            (service_at names lent held buffer old service number first was port mailboxes) publisher number its_port its_port
            (subscriber_as names.publisher old.sizes.max_publishers was port) midway.stands present.1 present.2 one_there was_stands none

        new_box : (one other : ℕ) → (boxes one other ≡ mailboxes one other)
            ⊎ ((one ≡ its_name) × (other ≡ its) × (mailboxes one other ≡ None)
            × (boxes one other ≡ Some (empty_box {T = T} was.buffer_size number)))
        new_box one other = elim (cases_eq one its_name) [
          | inl same ↦ elim (cases_eq other its) [
            | inl own ↦ inr (
              same,
              own,
              ap (λ n. mailboxes n other) same ∙ ap (mailboxes its_name) own ∙ none_before,
              ap (λ b. if b && (other == its) then Some (record { limit = limit; waiting = []; borrowed = [] }) else mailboxes one other)
                  (eq-eqb one its_name same)
                  ∙ ap (λ b. if b then Some (record { limit = limit; waiting = []; borrowed = [] }) else mailboxes one other)
                  (eq-eqb other its own)
                  ∙ ap (λ n. Some (record { limit = n; waiting = []; borrowed = [] })) is_limit,
            )
            | inr off ↦ inl (ap (λ b. if (one == its_name) && b then Some (record { limit = limit; waiting = []; borrowed = [] })
                else mailboxes one other) (ne_eqb other its off)
                ∙ ap (λ b. if b then Some (record { limit = limit; waiting = []; borrowed = [] }) else mailboxes one other)
                (and_false (one == its_name)))
          ]
          | inr off ↦ inl (ap (λ b. if b && (other == its) then Some (record { limit = limit; waiting = []; borrowed = [] })
              else mailboxes one other) (ne_eqb one its_name off))
        ]
          where
            and_false : (b : Bool) → (b && false) ≡ false
            and_false true = refl
            and_false false = refl

  -- a publisher is connected
  module _ (list_once : IsListOnce old.next_port old.publisher_list.places)
      (few : was.buffer_size ≤ old.sizes.subscriber_max_buffer_size) where
    limit_is : min port.buffer_size its_port.sender.uses.most_waiting ≡ was.buffer_size
    limit_is =
        let made = (found_of_all (IsMadeFor (allowed_by old.sizes)) (at_number publisher) ports its_port midway.sized present.1).holds.0 in
        omega (
          arith,
          ap (λ (all : MadeFor). all.most_waiting) made,
          few,
          was_is.buffer_size,
          midway.same.buffer_size,
        )

    by_answer : (answer : Option (Result ℕ AllocError)) (new : SubscriberPort) (new_ports : List (ℕ × PublisherPort T U))
        → AttachesTo publisher port.number port.buffer_size ports answer new_ports → ConnectsBy place publisher answer port new
        → AttachesAtPort publisher number port.buffer_size (Some its_port) ports answer new_ports → HasCome new new_ports
    by_answer None came new_ports attaches kept at_port = absurd at_port
    by_answer (Some (Err error)) came new_ports attaches kept at_port = absurd kept
    by_answer (Some (Ok index)) came new_ports attaches (key, free, is_new) (after, (joined, joins, is_after), is_ports) =
        subst (λ one. HasCome one new_ports) (sym is_new) (by (connection_to number its_port) refl joins)
      where
        by : (found : Option ℕ) → connection_to number its_port ≡ found
            → Joins number (min port.buffer_size its_port.sender.uses.most_waiting) found its_port (Ok index) joined
            → HasCome (kept_at place key (record { publisher = publisher; index = index }) port) new_ports
        by (Some found) is (same, is_joined) =
            let own : index ≡ found = ok_same found index (Ok index) same refl in
            let leads : leads_to number (get_or its_port.readers index None) ≡ true =
            found_leads number index its_port (is ∙ ap (λ n. Some n) (sym own)) in
            let reads = leads_some number (get_or its_port.readers index None) leads in
            let live = (midway.stands.publishers publisher its_port present.1).3.heard index reads.0 reads.1 in
            came_again list_once few index key after joined new_ports attaches is_ports is_after free
            (ap (λ (one : PublisherPort T U). leads_to number (get_or one.readers index None)) is_joined ∙ leads)
            (ap (λ (one : PublisherPort T U). is_live index one) is_joined ∙ live) is_joined
        by None is made =
            let came = connects_made number (min port.buffer_size its_port.sender.uses.most_waiting) index false its_port joined made in
            came_first list_once few index key after joined new_ports attaches is_ports is_after free came.leads_there came.goes
            (min port.buffer_size its_port.sender.uses.most_waiting) limit_is is made

    pub comes : (new : SubscriberPort) (new_ports : List (ℕ × PublisherPort T U))
        → Connects place publisher port ports (Ok tt) new new_ports → HasCome new new_ports
    comes new new_ports (answer, attaches, connects) =
        by_answer answer new new_ports attaches connects
        (subst (λ found. AttachesAtPort publisher number port.buffer_size found ports answer new_ports) present.1
        (subst (λ n. AttachesTo publisher n port.buffer_size ports answer new_ports) midway.reads.named attaches))
