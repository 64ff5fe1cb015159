-- Lanes that were made stand for a service at which ports came and nothing was lent or sent.
use Rattle.std.proofs.Common.{ℕ, zero, suc, ◌≡◌, ◌+◌, ◌-◌, ◌*◌, ◌/◌, ◌%◌, ◌<◌, ◌≤◌, ◌==◌, ◌⊎◌, Bool, true, false, nat_lt, if◌then◌else◌}
use Rattle.std.proofs.Common.{List, [], ◌∷◌, ◌++◌}
use Rattle.std.proofs.Common.{map, get_or, is_some, replicate, slice_get, Option, Some, None, refl, sym, ◌∙◌, ap, subst, inl, inr, arith}
use Rattle.std.specs.Option.{option_map_or}
use Rattle.std.proofs.lemmas.Bool.{eq-eqb, cases_lt}
use Rattle.std.proofs.lemmas.List.{length-replicate, map-append, get_or_past}
use Rattle.std.proofs.lemmas.Nat.{div-mul-add, mod-mul-add, row_fits}
use Rattle.std.proofs.Math.Nat.{mod-lt, div-lt_iff_lt-mul}
use Rattle.iox_lanes_machine.specs.QueuesSteps.Ends.{overflows}
use Rattle.iox_lanes_machine.specs.LanesBase.Publishing.{publisher_is_idle}
use Rattle.iox_lanes_machine.specs.LanesBase.Subscribing.{subscriber_is_idle}
use Rattle.iox_lanes_machine.proofs.Ends.{some_is}
use Rattle.iox_lanes_machine.specs.QueuesSteps.declared.order.Placed.{Placed}
use Rattle.iox_lanes_machine.specs.LanesBase.declared.calls.route.Route.{Route}
use Rattle.iox_lanes_machine.specs.LanesParties.Parties.{PublisherLaneState, SubscriberLaneState, is_out, route_at}
use Rattle.iox_lanes_machine.specs.LanesParties.declared.publisher.slot_book.LoanMark.{LoanMark}
use Rattle.iox_lanes_machine.specs.LanesParties.declared.publisher.slot_book.LoanMark.TheVariants as mark
use Rattle.iox_lanes_machine.specs.Borrowing.{borrows, is_at}
use Rattle.iox_lanes_machine.specs.FullLoans.{IsInUse}
use Rattle.iox_lanes_machine.specs.LedgerUses.{count, one_if}
use Rattle.iox_lanes_machine.specs.Links.{LinkState}
use Rattle.iox_lanes_machine.specs.Made.{listed, link_at, route_to, publisher_at, subscriber_at, start}
use Rattle.iox_lanes_machine.specs.Resting.{AllBetween, mail_at, mail_by}
use Rattle.iox_lanes_machine.specs.World.{World}
use Rattle.iox_lanes_machine.specs.declared.sizes.LaneSizes.{LaneSizes}
use Rattle.iox_lanes_machine.proofs.Entries.{get_replicated}
use Rattle.iox_lanes_machine.proofs.Start.{listed_at, listed_is, listed_get, listed_length}
use Rattle.iox_lanes_laws.specs.Publishing.{is_loan}
use Rattle.iox_lanes_laws.proofs.Chains.{all_from}
use Rattle.iox_lanes_service.specs.Naming.{LaneNaming, LaneLoan, LaneSample, reader_name, writer_name, lane_mailbox, slot_message}
use Rattle.iox_lanes_service.specs.NewLanes.{IsUnusedPublisher, IsUnusedSubscriber, IsUnusedFor, NewLanesStand}
use Rattle.iox_lanes_service.specs.Ports.{LanePublisherIs, LaneSubscriberIs}
use Rattle.iox_lanes_service.specs.Standing.{LanesStandFor}
use Rattle.iox_lanes_service.proofs.Beside.{either_left, either_right}
use Rattle.iox_lanes_service.proofs.Counting.{contained_counted}
use Rattle.iox_lanes_service.proofs.Tables.{counted_stands, not_both}
use Rattle.iox_lanes_service.proofs.Used.{held_split}
use Rattle.iox_machine.specs.Choices.{Choices}
use Rattle.iox_machine.specs.Service.{Publisher, Service, Subscriber}
use Rattle.iox_machine.specs.Table.{contains}

map_listed : {A B : Type 0} (g : A → B) (f : ℕ → A) (h : ℕ → B) (n : ℕ) → ((i : ℕ) → i < n → g (f i) ≡ h i)
    → map g (listed f n) ≡ listed h n
map_listed g f h zero same = refl
map_listed g f h (suc n) same =
    map-append g (listed f n) (f n ∷ [])
    ∙ ap (λ xs. xs ++ g (f n) ∷ []) (map_listed g f h n (λ i below. same i (omega (arith, below))))
    ∙ ap (λ x. listed h n ++ x ∷ []) (same n (omega arith))

contains_at : (xs : List ℕ) (index x : ℕ) → slice_get xs index ≡ Some x → contains xs x ≡ true
contains_at [] index x is = absurd (cc is)
contains_at (y ∷ xs) zero x is = either_left (y == x) (contains xs x) (eq-eqb y x (some_is y x is))
contains_at (y ∷ xs) (suc index) x is = either_right (y == x) (contains xs x) (contains_at xs index x is)

module _ {T : Type 0} (choices : Choices T) (value : List ℕ → T) (names : LaneNaming) (sizes : LaneSizes) (service : Service T)
    (u : IsUnusedFor choices names sizes service) where
  abbrev m : World
  m = start sizes

  abbrev connections : ℕ
  connections = sizes.publishers * sizes.subscribers

  within : (p q : ℕ) → p < sizes.publishers → q < sizes.subscribers → p * sizes.subscribers + q < connections
  within p q a b = omega (arith, row_fits p sizes.subscribers sizes.publishers sizes.subscribers a (omega arith), b)

  link_there : (connection : ℕ) → connection < connections → slice_get m.links connection ≡ Some (link_at sizes connection)
  link_there connection below = listed_at (link_at sizes) connections connection below

  reader_is : (p q : ℕ) → p < sizes.publishers → q < sizes.subscribers
      → reader_name names m.links (p * sizes.subscribers + q) ≡ names.subscriber q
  reader_is p q a b =
      ap (λ (o : Option LinkState). option_map_or (λ (link : LinkState). names.subscriber link.subscriber) o 0)
      (link_there (p * sizes.subscribers + q) (within p q a b))
      ∙ ap names.subscriber (mod-mul-add p sizes.subscribers q b)

  writer_is : (p q : ℕ) → p < sizes.publishers → q < sizes.subscribers
      → writer_name names m.links (p * sizes.subscribers + q) ≡ names.publisher p
  writer_is p q a b =
      ap (λ (o : Option LinkState). option_map_or (λ (link : LinkState). names.publisher link.publisher) o 0)
      (link_there (p * sizes.subscribers + q) (within p q a b))
      ∙ ap names.publisher (div-mul-add p sizes.subscribers q b)

  -- nothing is lent, borrowed, or waits
  no_mail : (connection : ℕ) → mail_at m connection ≡ []
  no_mail connection = by_link (slice_get m.links connection) refl
    where
      no_order : (k : ℕ) (n : ℕ) → get_or (listed {X = List Placed} (λ connection. []) n) k [] ≡ []
      no_order k n = elim (cases_lt k n) [
        | inl lt ↦ listed_get {X = List Placed} (λ connection. []) n k [] lt
        | inr ge ↦ get_or_past (listed {X = List Placed} (λ connection. []) n) k []
            (omega (arith, ge, listed_length {X = List Placed} (λ connection. []) n))
      ]

      by_link : (o : Option LinkState) → slice_get m.links connection ≡ o → mail_at m connection ≡ []
      by_link None e = ap (λ (l : Option LinkState). mail_by l (get_or m.orders connection [])) e
      by_link (Some link) e =
          ap (λ (l : Option LinkState). mail_by l (get_or m.orders connection [])) e
          ∙ ap (λ (order : List Placed). mail_by (Some link) order) (no_order connection connections)
          ∙ ap (λ (l : LinkState). mail_by (Some l) []) (listed_is (link_at sizes) connections connection link e).1

  publisher_is : (place : ℕ) (lane : PublisherLaneState) → slice_get m.publishers place ≡ Some lane
      → (place < sizes.publishers) × (lane ≡ publisher_at sizes place)
  publisher_is place lane found = listed_is (publisher_at sizes) sizes.publishers place lane found

  subscriber_is : (place : ℕ) (lane : SubscriberLaneState) → slice_get m.subscribers place ≡ Some lane
      → (place < sizes.subscribers) × (lane ≡ subscriber_at sizes place)
  subscriber_is place lane found = listed_is (subscriber_at sizes) sizes.subscribers place lane found

  not_lent : (place slot : ℕ) → is_loan (publisher_at sizes place) slot ≡ false
  not_lent place slot = ap is_out (by_test (nat_lt slot (place * sizes.slots)))
    where
      by_test : (b : Bool)
          → (if b then mark.No else get_or (replicate sizes.slots mark.No) (slot - place * sizes.slots) mark.No) ≡ mark.No
      by_test true = refl
      by_test false = get_replicated sizes.slots (slot - place * sizes.slots) mark.No

  none_borrowed : (connection slot who : ℕ) → borrows connection slot (slice_get m.subscribers who) ≡ false
  none_borrowed connection slot who = by_lane (slice_get m.subscribers who) refl
    where
      by_lane : (o : Option SubscriberLaneState) → slice_get m.subscribers who ≡ o → borrows connection slot o ≡ false
      by_lane None e = refl
      by_lane (Some lane) e =
          ap (λ (l : SubscriberLaneState). borrows connection slot (Some l)) (subscriber_is who lane e).1
          ∙ ap (λ (o : Option ℕ). is_at connection (route_at o (subscriber_at sizes who)))
          (get_replicated {X = Option ℕ} (sizes.publishers * sizes.slots) slot None)

  between : AllBetween m
  between = record {
    publishers = all_from (λ (lane : PublisherLaneState). publisher_is_idle lane.port.call ≡ true) m.publishers
        (λ place lane found. ap (λ (l : PublisherLaneState). publisher_is_idle l.port.call) (publisher_is place lane found).1);
    subscribers = all_from (λ (lane : SubscriberLaneState). subscriber_is_idle lane.port.call ≡ true) m.subscribers
        (λ place lane found. ap (λ (l : SubscriberLaneState). subscriber_is_idle l.port.call) (subscriber_is place lane found).1);
  }

  none_used : (place slot : ℕ) → IsInUse m (publisher_at sizes place) slot → ⊥
  none_used place slot (inl out) = not_both (is_loan (publisher_at sizes place) slot) out (not_lent place slot)
  none_used place slot (inr (inl some)) = absurd (omega (arith, some))
  none_used place slot (inr (inr is)) = elim (held_split m slot between is) [
    | inl w ↦ absurd (omega (arith, w.some, ap (count slot) (no_mail w.connection)))
    | inr b ↦ not_both (borrows b.connection slot (slice_get m.subscribers (b.link).subscriber)) b.has
        (none_borrowed b.connection slot (b.link).subscriber)
  ]

  -- where a connection leads
  ends_of : (connection : ℕ) → connection < connections
      → (connection / sizes.subscribers < sizes.publishers) × (connection % sizes.subscribers < sizes.subscribers)
  ends_of connection below = by_some (cases_lt 0 sizes.subscribers)
    where
      by_some : (0 < sizes.subscribers) ⊎ (sizes.subscribers ≤ 0)
          → (connection / sizes.subscribers < sizes.publishers) × (connection % sizes.subscribers < sizes.subscribers)
      by_some (inl some) = ((div-lt_iff_lt-mul some).1 below, mod-lt connection some)
      by_some (inr none) = absurd (omega (
        arith,
        below,
        ap (λ (k : ℕ). sizes.publishers * k) (nothing sizes.subscribers none),
      ))
        where
          nothing : (k : ℕ) → k ≤ 0 → k ≡ 0
          nothing k h = omega (arith, h)

  new_publisher_is : (place : ℕ) → place < sizes.publishers → (publisher : Publisher T)
      → IsUnusedPublisher choices names sizes service place publisher
      → LanePublisherIs choices value names m service place (publisher_at sizes place) publisher
  new_publisher_is place below publisher h = record {
    stands = h.stands;
    free = h.free;
    seen = h.seen;
    most_loans = h.most_loans;
    kept = u.history;
    slots = h.slots ∙ sym (length-replicate {A = LoanMark} sizes.slots mark.No);
    room = h.room;
    connected = h.connected
        ∙ sym (map_listed (λ (route : Route). reader_name names m.links route.connection)
        (λ subscriber. route_to sizes (place * sizes.subscribers + subscriber)) names.subscriber sizes.subscribers
        (λ q b. reader_is place q below b));
    last = h.last;
    history = h.history;
    numbers = record {
      apart = λ one other own_one own_other used_one used_other e. absurd (none_used place one used_one);
      current = λ slot own used. absurd (none_used place slot used);
      below = λ slot own used. absurd (none_used place slot used);
      ahead = h.ahead;
    };
    decides = h.decides;
  }

  new_subscriber_is : (place : ℕ) → place < sizes.subscribers → (subscriber : Subscriber)
      → IsUnusedSubscriber choices names sizes service subscriber
      → LaneSubscriberIs choices value names m service (subscriber_at sizes place) subscriber
  new_subscriber_is place below subscriber h = record {
    stands = h.stands;
    seen = h.seen;
    done = h.done;
    expired = h.expired;
    most_borrowed = u.most_borrowed;
    met = λ at route is.
        let r = listed_is (λ publisher. route_to sizes (publisher * sizes.subscribers + place)) sizes.publishers at route is in
        ap (λ (xs : List ℕ). contains xs (writer_name names m.links route.connection)) h.connected
        ∙ ap (λ (x : Route). contains (listed names.publisher sizes.publishers) (writer_name names m.links x.connection)) r.1
        ∙ ap (contains (listed names.publisher sizes.publishers)) (writer_is at place r.0 below)
        ∙ contains_at (listed names.publisher sizes.publishers) at (names.publisher at)
        (listed_at names.publisher sizes.publishers at r.0);
    only = λ publisher is.
        let some = contained_counted (listed names.publisher sizes.publishers) publisher
        (sym (ap (λ (xs : List ℕ). contains xs publisher) h.connected) ∙ is) in
        let stands = counted_stands (listed names.publisher sizes.publishers) publisher some in
        let r = listed_is names.publisher sizes.publishers stands.0 publisher stands.1 in
        record {
          place = stands.0;
          route = route_to sizes (stands.0 * sizes.subscribers + place);
          at = listed_at (λ from. route_to sizes (from * sizes.subscribers + place)) sizes.publishers stands.0 r.0;
          is = writer_is stands.0 place r.0 below ∙ sym r.1;
        };
  }

  pub new_stands : LanesStandFor choices value names [] [] m service
  new_stands = record {
    between = between;
    numbers = record {
      wide = λ is. not_both names.numbered is u.unnumbered;
      each = λ place lane found. ap (λ (l : PublisherLaneState). is_some l.last) (publisher_is place lane found).1 ∙ sym u.unnumbered;
      low = λ place lane last found is. absurd (no_last place lane last found is);
    };
    publishers = λ place lane found.
        let it = publisher_is place lane found in
        let one = u.publishers place it.0 in (
          one.0,
          one.1,
          subst (λ (l : PublisherLaneState). LanePublisherIs choices value names m service place l one.0) (sym it.1)
              (new_publisher_is place it.0 one.0 one.2),
        );
    subscribers = λ place lane found.
        let it = subscriber_is place lane found in
        let one = u.subscribers place it.0 in (
          one.0,
          one.1,
          subst (λ (l : SubscriberLaneState). LaneSubscriberIs choices value names m service l one.0) (sym it.1)
              (new_subscriber_is place it.0 one.0 one.2),
        );
    publishers_apart = λ one other lane behind found there e.
        u.publishers_apart one other (publisher_is one lane found).0 (publisher_is other behind there).0 e;
    subscribers_apart = λ one other lane behind found there e.
        u.subscribers_apart one other (subscriber_is one lane found).0 (subscriber_is other behind there).0 e;
    joined = λ connection link found.
        let l = listed_is (link_at sizes) connections connection link found in
        let ends = ends_of connection l.0 in (
          (
            publisher_at sizes link.publisher,
            ap (slice_get m.publishers) (ap (λ (x : LinkState). x.publisher) l.1)
                ∙ listed_at (publisher_at sizes) sizes.publishers (connection / sizes.subscribers) ends.0
                ∙ ap (λ (p : ℕ). Some (publisher_at sizes p)) (sym (ap (λ (x : LinkState). x.publisher) l.1)),
          ),
          (
            subscriber_at sizes link.subscriber,
            ap (slice_get m.subscribers) (ap (λ (x : LinkState). x.subscriber) l.1)
                ∙ listed_at (subscriber_at sizes) sizes.subscribers (connection % sizes.subscribers) ends.1
                ∙ ap (λ (p : ℕ). Some (subscriber_at sizes p)) (sym (ap (λ (x : LinkState). x.subscriber) l.1)),
          ),
        );
    mailboxes = λ connection link found.
        let l = listed_is (link_at sizes) connections connection link found in
        let ends = ends_of connection l.0 in
        subst (λ (x : LinkState). service.mailboxes (names.publisher x.publisher) (names.subscriber x.subscriber)
        ≡ Some (lane_mailbox value names m [] connection x)) (sym l.1)
        (u.mailboxes (connection / sizes.subscribers) (connection % sizes.subscribers) ends.0 ends.1
        ∙ ap (λ (xs : List ℕ). Some (record {
          limit = sizes.buffer;
          waiting = map (slot_message value names m.table) xs;
          borrowed = [];
        })) (sym (no_mail connection)));
    kinds = λ connection link found.
        ap (λ (x : LinkState). overflows x.kind) (listed_is (link_at sizes) connections connection link found).1 ∙ u.kind;
    others = λ place other lane found joins.
        let it = publisher_is place lane found in
        u.others place other it.0 (λ q below e. joins (place * sizes.subscribers + q) (link_at sizes (place * sizes.subscribers + q))
        (link_there (place * sizes.subscribers + q) (within place q it.0 below)) (div-mul-add place sizes.subscribers q below)
        (ap names.subscriber (mod-mul-add place sizes.subscribers q below) ∙ e));
    loans = u.loans;
    loans_once = λ number. omega arith;
    loans_there = λ index entry is. absurd (nothing index entry is);
    loans_all = λ place lane slot found.
        sym (ap (λ (l : PublisherLaneState). one_if (is_loan l slot)) (publisher_is place lane found).1 ∙ ap one_if (not_lent place slot));
    samples = u.samples;
    samples_once = λ number. omega arith;
    samples_there = λ index entry is. absurd (nothing_held index entry is);
    samples_all = λ connection link slot found. sym (ap one_if (none_borrowed connection slot link.subscriber));
  }
    where
      no_last : (place : ℕ) (lane : PublisherLaneState) (last : ℕ) → slice_get m.publishers place ≡ Some lane → lane.last ≡ Some last → ⊥
      no_last place lane last found is =
          none (sym (ap (λ (l : PublisherLaneState). l.last) (publisher_is place lane found).1) ∙ is)
        where
          none : None ≡ Some last → ⊥
          none e = cc e

      nothing : (index : ℕ) (entry : ℕ × LaneLoan) → slice_get [] index ≡ Some entry → ⊥
      nothing index entry is = cc is

      nothing_held : (index : ℕ) (entry : ℕ × LaneSample) → slice_get [] index ≡ Some entry → ⊥
      nothing_held index entry is = cc is

pub new_lanes_stand : {T : Type 0} (choices : Choices T) (value : List ℕ → T) → NewLanesStand choices value
new_lanes_stand choices value = λ names sizes service u. new_stands choices value names sizes service u
