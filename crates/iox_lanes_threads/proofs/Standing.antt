-- Lanes between calls keep what threads need: their words fit their ports, and each port stands where it knows what its next step needs.
use Rattle.std.proofs.Common.{ℕ, zero, suc, ◌≡◌, ◌+◌, ◌<◌, ◌≤◌, ◌^◌, true, List, [], ◌∷◌, length, slice_get, Some, refl, sym, ◌∙◌, ap}
use Rattle.std.proofs.Common.{subst, inl, inr, arith}
use Rattle.std.specs.List.{All}
use Rattle.std.proofs.lemmas.List.Elements.{All-weaker, All-head, All-tail}
use Rattle.std.proofs.lemmas.List.{length-map}
use mathlib.Core.Option.{some, some-injective}
use lib.ListN.{get_elem?}
use Rattle.iox_lanes_machine.specs.QueuesSteps.declared.access.Word.TheVariants.{Write, Read, Cell}
use Rattle.iox_lanes_machine.specs.LanesBase.Numbers.{IsWord}
use Rattle.iox_lanes_machine.specs.LanesBase.declared.words.word.SharedWord.{SharedWord}
use Rattle.iox_lanes_machine.specs.LanesBase.declared.words.word.SharedWord.TheVariants.{Ring, Slot}
use Rattle.iox_lanes_machine.specs.LanesBase.Publishing.{publisher_is_idle}
use Rattle.iox_lanes_machine.specs.LanesBase.Subscribing.{subscriber_is_idle}
use Rattle.iox_lanes_machine.specs.LanesBase.declared.calls.publisher.PublisherCall.{PublisherCall}
use Rattle.iox_lanes_machine.specs.LanesBase.declared.calls.publisher.PublisherCall.TheVariants as publishing
use Rattle.iox_lanes_machine.specs.LanesBase.declared.calls.subscriber.SubscriberCall.{SubscriberCall}
use Rattle.iox_lanes_machine.specs.LanesBase.declared.calls.subscriber.SubscriberCall.TheVariants as subscribing
use Rattle.iox_lanes_machine.specs.LanesBase.declared.calls.route.Route.{Route}
use Rattle.iox_lanes_machine.specs.LanesParties.PublisherKeeping.{BookState}
use Rattle.iox_lanes_machine.specs.LanesParties.Parties.{PublisherLaneState, SubscriberLaneState}
use Rattle.iox_lanes_machine.specs.LanesParties.Within.{IsPublisher, IsSubscriber}
use Rattle.iox_lanes_machine.specs.LanesParties.declared.call.Party.TheVariants.{Publisher, Subscriber}
use Rattle.iox_lanes_machine.proofs.LanesParties.Rings.{all_at}
use Rattle.iox_lanes_machine.specs.Kept.{IsLinkOf, IsWithin, sender, receiver}
use Rattle.iox_lanes_machine.specs.Mailboxes.{PositionsNear, positions_of}
use Rattle.iox_lanes_machine.specs.Opening.{SlotsNamed}
use Rattle.iox_lanes_machine.specs.Reads.{width}
use Rattle.iox_lanes_machine.specs.Rooms.{RoomsFollow}
use Rattle.iox_lanes_machine.specs.Slots.{SlotsInRows}
use Rattle.iox_lanes_machine.specs.Together.{HoldTogether}
use Rattle.iox_lanes_machine.specs.World.{World}
use Rattle.iox_lanes_threads_ports.specs.LanesThreadsRule.Lanes.PublisherLeads.{stays as publisher_stays}
use Rattle.iox_lanes_threads_ports.specs.LanesThreadsRule.Lanes.SubscriberLeads.{stays as subscriber_stays}
use Rattle.iox_lanes_threads_ports.specs.LanesThreadsRule.Lanes.{line_of}
use Rattle.iox_lanes_threads_ports.specs.LanesThreadsRule.Service.{IsCell, read_word}
use Rattle.iox_lanes_threads_ports.specs.LanesThreadsRule.Rule.{held, IsPort, Fits}
use Rattle.iox_lanes_threads_ports.specs.LanesThreadsRule.declared.service.SlotRange.{SlotRange}
use Rattle.iox_lanes_threads_ports.specs.LanesThreadsRule.declared.view.Port.{Port}
use Rattle.iox_lanes_threads_ports.specs.LanesThreadsRule.declared.view.PortParty.{PortParty}
use Rattle.iox_lanes_threads_ports.specs.LanesThreadsRule.declared.view.PortParty.TheVariants as party
use Rattle.iox_lanes_threads_ports.specs.Ports.{sender_of, receiver_of, EachOnce, IsEnd, PublisherKnows, SubscriberKnows, PublisherStands}
use Rattle.iox_lanes_threads_ports.specs.Ports.{SubscriberStands}
use Rattle.iox_lanes_threads.specs.Opening.{range_of, service_of, opened, publishers_from, subscribers_from, ports_of, Fitting}
use Rattle.iox_lanes_threads.specs.Standing.{PublishersStand, SubscribersStand}
use Rattle.iox_lanes_threads.proofs.Backing.{lanes_back}
use Rattle.iox_lanes_threads_rule.proofs.Lists.{none_there, in_either}
use Rattle.iox_lanes_threads.proofs.Lists.{mapped_is, mapped_at}

-- what lanes promise of themselves
pub record Sound (m : World) : Type 0 where
  pub within : IsWithin m
  pub rows : SlotsInRows m
  pub named : SlotsNamed m
  pub near : (connection : ℕ) → PositionsNear m connection (positions_of m.table connection)
  pub together : m.moments ≤ 2 ^ 63 → HoldTogether m
  pub rooms : RoomsFollow m

-- and of their publishers: each has each of its connections once
abbrev pub Apart : World → Type 0
Apart m = (who : ℕ) (lane : PublisherLaneState) → slice_get m.publishers who ≡ Some lane → EachOnce lane.port.routes

-- each subscriber has room for the words of a read
abbrev pub HaveRoom : World → Type 0
HaveRoom m = (place : ℕ) (lane : SubscriberLaneState) → slice_get m.subscribers place ≡ Some lane
    → length lane.port.words ≡ width m.table.sizes

-- a port at its number that knows each word
record IsOpened (m : World) (at : ℕ) (p : Port) : Type 0 where
  port : IsPort (service_of m) at p
  knows : p.known ≡ m.table.words

module _ (m : World) (k : Sound m) where
  opened_publisher : (place at : ℕ) (own : PortParty) → place ≡ at → IsOpened m at (opened m place (Publisher place) own)
  opened_publisher place at own e = record {
    port = record { service = refl; number = e; name = e; wide = k.within.words };
    knows = refl;
  }

  opened_subscriber : (place at : ℕ) (own : PortParty) → length m.publishers + place ≡ at
      → IsOpened m at (opened m (length m.publishers + place) (Subscriber place) own)
  opened_subscriber place at own e = record {
    port = record {
      service = refl;
      number = e;
      name = ap (λ (n : ℕ). n + place) (length-map m.publishers range_of) ∙ e;
      wide
          = k.within.words;
    };
    knows = refl;
  }

  publisher_at : (lanes : List PublisherLaneState) (place i : ℕ) (p : Port) → get_elem? (publishers_from m place lanes) i ≡ some p
      → IsOpened m (place + i) p
  publisher_at [] place i p e = absurd (none_there p i e)
  publisher_at (lane ∷ lanes) place zero p e =
      subst (IsOpened m (place + 0)) (some-injective _ p e) (opened_publisher place (place + 0) (party.Publisher lane) (omega arith))
  publisher_at (lane ∷ lanes) place (suc i) p e =
      let same : place + 1 + i ≡ place + suc i = omega arith in
      subst (λ (n : ℕ). IsOpened m n p) same (publisher_at lanes (place + 1) i p e)

  subscriber_at : (lanes : List SubscriberLaneState) (place i : ℕ) (p : Port) → get_elem? (subscribers_from m place lanes) i ≡ some p
      → IsOpened m (length m.publishers + place + i) p
  subscriber_at [] place i p e = absurd (none_there p i e)
  subscriber_at (lane ∷ lanes) place zero p e =
      subst (IsOpened m (length m.publishers + place + 0)) (some-injective _ p e)
      (opened_subscriber place (length m.publishers + place + 0) (party.Subscriber lane) (omega arith))
  subscriber_at (lane ∷ lanes) place (suc i) p e =
      let same : length m.publishers + (place + 1) + i ≡ length m.publishers + place + suc i = omega arith in
      subst (λ (n : ℕ). IsOpened m n p) same (subscriber_at lanes (place + 1) i p e)

  publishers_many : (lanes : List PublisherLaneState) (place : ℕ) → length (publishers_from m place lanes) ≡ length lanes
  publishers_many [] place = refl
  publishers_many (lane ∷ lanes) place = ap (λ (n : ℕ). suc n) (publishers_many lanes (place + 1))

  port_at : (i : ℕ) (p : Port) → get_elem? (ports_of m) i ≡ some p → IsOpened m i p
  port_at i p e = elim (in_either (publishers_from m 0 m.publishers) (subscribers_from m 0 m.subscribers) i p e) [
    | inl here ↦ let same : 0 + i ≡ i = omega arith in subst (λ (n : ℕ). IsOpened m n p) same (publisher_at m.publishers 0 i p here)
    | inr there ↦
        let same : length m.publishers + 0 + there.0 ≡ i = omega (arith, there.1, publishers_many m.publishers 0) in
        subst (λ (n : ℕ). IsOpened m n p) same (subscriber_at m.subscribers 0 there.0 p there.2)
  ]

  cell_named : (w : SharedWord) → IsWord m.table.sizes w → IsCell w → 0 < m.table.sizes.slots
      → held (service_of m) m.table.words w < m.table.sizes.slots
  cell_named (Ring connection ring Write) is cell some_slot = absurd cell
  cell_named (Ring connection ring Read) is cell some_slot = absurd cell
  cell_named (Ring connection ring (Cell at)) is cell some_slot = k.named.cells some_slot connection ring at is
  cell_named (Slot slot word) is cell some_slot = absurd cell

  fits : m.moments ≤ 2 ^ 63 → Fits (service_of m) m.table.words (ports_of m)
  fits few = record {
    rows = λ one other range behind found found' less.
        let here = mapped_is range_of m.publishers one range found in
        let there = mapped_is range_of m.publishers other behind found' in
        let apart = k.rows one other here.0 there.0 here.1 there.1 less in
        omega (
          arith,
          apart,
          ap (λ (r : SlotRange). r.first) here.2,
          ap (λ (r : SlotRange). r.count) here.2,
          ap
              (λ (r : SlotRange). r.first) there.2,
        );
    spare = k.named.spare;
    wide = k.within.words;
    ports = λ number p at. (port_at number p at).port;
    copied = λ number p w at is own. ap (λ (words : List ℕ). held (service_of m) words w) (port_at number p at).knows;
    grows = λ number p w at is position. let same : held (service_of m) p.known w ≡ held (service_of m) m.table.words w
        = ap (λ (words : List ℕ). held (service_of m) words w) (port_at number p at).knows in omega (arith, same);
    cells = cell_named;
    shared = λ connection line ring.
        let there = mapped_is line_of m.links connection line ring.found in
        (k.near connection few there.0 there.1).behind;
    moved = λ connection line number p ring at name differs. absurd
        (differs (ap (λ (words : List ℕ). held (service_of m) words (read_word connection)) (port_at number p at).knows));
  }

  pub fitting : m.moments ≤ 2 ^ 63 → Fitting m
  fitting few = (fits few, lanes_back m (k.together few) (k.rooms few))

  sending_end : (place : ℕ) (route : Route) → IsLinkOf m.links sender place route → IsEnd (service_of m) sender_of (Publisher place) route
  sending_end place route is = record {
    line = line_of is.link;
    found = mapped_at line_of m.links route.connection is.link is.found;
    own = ap (λ (n : ℕ). Publisher n) (sym is.own);
    kind = is.kind;
    room = let some_room : 0 < is.link.limit = k.named.room route.connection is.link is.found in omega (arith, some_room, is.limit);
  }

  receiving_end : (place : ℕ) (route : Route) → IsLinkOf m.links receiver place route
      → IsEnd (service_of m) receiver_of (Subscriber place) route
  receiving_end place route is = record {
    line = line_of is.link;
    found = mapped_at line_of m.links route.connection is.link is.found;
    own = ap (λ (n : ℕ). Subscriber n) (sym is.own);
    kind = is.kind;
    room = let some_room : 0 < is.link.limit = k.named.room route.connection is.link is.found in omega (arith, some_room, is.limit);
  }

  idle_publisher : (p : Port) (book : BookState) (c : PublisherCall) → publisher_is_idle c ≡ true → PublisherKnows p book c
  idle_publisher p book publishing.Idle h = tt
  idle_publisher p book (publishing.LoanReclaims place route pop) h = absurd (cc h)
  idle_publisher p book publishing.Lending h = absurd (cc h)
  idle_publisher p book (publishing.Writing slot word value) h = absurd (cc h)
  idle_publisher p book (publishing.Written slot) h = absurd (cc h)
  idle_publisher p book (publishing.Heading slot word value) h = absurd (cc h)
  idle_publisher p book (publishing.Remembering slot) h = absurd (cc h)
  idle_publisher p book (publishing.SendReclaims slot place route pop) h = absurd (cc h)
  idle_publisher p book (publishing.Pushing slot place route push delivery) h = absurd (cc h)
  idle_publisher p book (publishing.Sent slot delivery) h = absurd (cc h)
  idle_publisher p book (publishing.Dropping slot) h = absurd (cc h)

  idle_subscriber : (p : Port) (c : SubscriberCall) → subscriber_is_idle c ≡ true → SubscriberKnows p c
  idle_subscriber p subscribing.Idle h = tt
  idle_subscriber p (subscribing.Receiving place route pop seen) h = absurd (cc h)
  idle_subscriber p (subscribing.Received receipt) h = absurd (cc h)
  idle_subscriber p (subscribing.Reading slot word extent) h = absurd (cc h)
  idle_subscriber p (subscribing.WasRead slot) h = absurd (cc h)
  idle_subscriber p (subscribing.Releasing place route push) h = absurd (cc h)
  idle_subscriber p (subscribing.Released done) h = absurd (cc h)

  pub publisher_stands : Apart m → (place : ℕ) (lane : PublisherLaneState) → slice_get m.publishers place ≡ Some lane
      → publisher_is_idle lane.port.call ≡ true → PublisherStands (opened m place (Publisher place) (party.Publisher lane)) lane
  publisher_stands apart place lane found idle = record {
    place = place;
    range = range_of lane;
    name = refl;
    wide = k.within.words;
    within = all_at (IsPublisher m.table.sizes) m.publishers place lane found k.within.publishers;
    routes = All-weaker (IsLinkOf m.links sender place) (IsEnd (service_of m) sender_of (Publisher place)) (sending_end place)
        lane.port.routes (k.within.senders place lane found);
    once = apart place lane found;
    found = mapped_at range_of m.publishers place lane found;
    first = refl;
    count = refl;
    knows = idle_publisher (opened m place (Publisher place) (party.Publisher lane)) lane.port.book lane.port.call idle;
    comes = publisher_stays;
  }

  pub subscriber_stands : HaveRoom m → (place : ℕ) (lane : SubscriberLaneState) → slice_get m.subscribers place ≡ Some lane
      → subscriber_is_idle lane.port.call ≡ true
      → SubscriberStands (opened m (length m.publishers + place) (Subscriber place) (party.Subscriber lane)) lane
  subscriber_stands rooms place lane found idle = record {
    wide = k.within.words;
    room = rooms place lane found;
    within = all_at (IsSubscriber m.table.sizes) m.subscribers place lane found k.within.subscribers;
    routes = All-weaker (IsLinkOf m.links receiver place) (IsEnd (service_of m) receiver_of (Subscriber place)) (receiving_end place)
        lane.port.routes (k.within.receivers place lane found);
    knows = idle_subscriber (opened m (length m.publishers + place) (Subscriber place) (party.Subscriber lane)) lane.port.call idle;
    comes = subscriber_stays;
  }

pub idle_is : (c : SubscriberCall) → subscriber_is_idle c ≡ true → c ≡ subscribing.Idle
idle_is subscribing.Idle h = refl
idle_is (subscribing.Receiving place route pop seen) h = absurd (cc h)
idle_is (subscribing.Received receipt) h = absurd (cc h)
idle_is (subscribing.Reading slot word extent) h = absurd (cc h)
idle_is (subscribing.WasRead slot) h = absurd (cc h)
idle_is (subscribing.Releasing place route push) h = absurd (cc h)
idle_is (subscribing.Released done) h = absurd (cc h)

abbrev IdlePublisher : PublisherLaneState → Type 0
IdlePublisher lane = publisher_is_idle lane.port.call ≡ true

abbrev IdleSubscriber : SubscriberLaneState → Type 0
IdleSubscriber lane = subscriber_is_idle lane.port.call ≡ true

pub publishers_stand : (m : World) → Sound m → Apart m → (lanes : List PublisherLaneState) (place : ℕ)
    → ((i : ℕ) (lane : PublisherLaneState) → slice_get lanes i ≡ Some lane → slice_get m.publishers (place + i) ≡ Some lane)
    → All IdlePublisher lanes → PublishersStand m place lanes
publishers_stand m k apart [] place there idle = tt
publishers_stand m k apart (lane ∷ lanes) place there idle =
    let here : place ≡ place + 0 = omega arith in (
      publisher_stands m k apart place lane (ap (slice_get m.publishers) here ∙ there 0 lane refl) (All-head IdlePublisher lane lanes idle),
      publishers_stand m k apart lanes (place + 1)
          (λ i x e. let next : place + 1 + i ≡ place + suc i = omega arith in ap (slice_get m.publishers) next ∙ there (suc i) x e)
          (All-tail IdlePublisher lane lanes idle),
    )

pub subscribers_stand : (m : World) → Sound m → HaveRoom m → (lanes : List SubscriberLaneState) (place : ℕ)
    → ((i : ℕ) (lane : SubscriberLaneState) → slice_get lanes i ≡ Some lane → slice_get m.subscribers (place + i) ≡ Some lane)
    → All IdleSubscriber lanes → SubscribersStand m place lanes
subscribers_stand m k rooms [] place there idle = tt
subscribers_stand m k rooms (lane ∷ lanes) place there idle =
    let here : place ≡ place + 0 = omega arith in (
      (
        subscriber_stands m k rooms place lane (ap (slice_get m.subscribers) here ∙ there 0 lane refl)
            (All-head IdleSubscriber lane lanes idle),
        idle_is lane.port.call (All-head IdleSubscriber lane lanes idle),
      ),
      subscribers_stand m k rooms lanes (place + 1)
          (λ i x e. let next : place + 1 + i ≡ place + suc i = omega arith in ap (slice_get m.subscribers) next ∙ there (suc i) x e)
          (All-tail IdleSubscriber lane lanes idle),
    )

-- those of lanes between calls, as they are handed in
pub all_publishers_stand : (m seen : World) (lanes : List PublisherLaneState) → Sound m → Apart m → All IdlePublisher m.publishers
    → seen ≡ m → lanes ≡ m.publishers → (lanes ≡ seen.publishers) × PublishersStand seen 0 lanes
all_publishers_stand m seen lanes k apart idle same are =
    let stand : PublishersStand m 0 m.publishers
    = publishers_stand m k apart m.publishers 0
    (λ i lane e. let here : 0 + i ≡ i = omega arith in ap (slice_get m.publishers) here ∙ e) idle in
    subst (λ (z : World × List PublisherLaneState). (z.1 ≡ z.0.publishers) × PublishersStand z.0 0 z.1) (λ i. (sym same i, sym are i))
    (refl, stand)

pub all_subscribers_stand : (m seen : World) (lanes : List SubscriberLaneState) → Sound m → HaveRoom m
    → All IdleSubscriber m.subscribers → seen ≡ m → lanes ≡ m.subscribers → (lanes ≡ seen.subscribers) × SubscribersStand seen 0 lanes
all_subscribers_stand m seen lanes k rooms idle same are =
    let stand : SubscribersStand m 0 m.subscribers
    = subscribers_stand m k rooms m.subscribers 0
    (λ i lane e. let here : 0 + i ≡ i = omega arith in ap (slice_get m.subscribers) here ∙ e) idle in
    subst (λ (z : World × List SubscriberLaneState). (z.1 ≡ z.0.subscribers) × SubscribersStand z.0 0 z.1)
    (λ i. (sym same i, sym are i)) (refl, stand)
