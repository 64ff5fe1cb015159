-- What is found of connections keeps all that lanes keep.
use Rattle.std.proofs.Common.{ℕ, ◌≡◌, ◌+◌, ◌==◌, Bool, true, false, nat_lt, List, [], ◌∷◌, ◌++◌, length, set, slice_get}
use Rattle.std.proofs.Common.{slice_index, Option, Some, None, refl, sym, ◌∙◌, ap, subst, inl, inr}
use Rattle.std.proofs.lemmas.Bool.{ltb-true}
use Rattle.std.proofs.lemmas.Bool.Decides.{eqb_tells}
use Rattle.std.proofs.lemmas.List.{length-map, length-set}
use Rattle.iox_lanes_machine.specs.QueuesSteps.Ends.{cells_of}
use Rattle.iox_lanes_machine.specs.LanesBase.Numbers.{IsWord, number_of}
use Rattle.iox_lanes_machine.specs.LanesBase.Table.{TableWords, stored_in}
use Rattle.iox_lanes_machine.specs.LanesBase.declared.words.access.SharedAccess.TheVariants.{Store}
use Rattle.iox_lanes_machine.specs.LanesBase.declared.words.sizes.TableSizes.{TableSizes}
use Rattle.iox_lanes_machine.specs.LanesBase.declared.words.word.ConnectionRing.TheVariants.{Submission, Completion}
use Rattle.iox_lanes_machine.specs.LanesBase.declared.words.word.SharedWord.TheVariants.{Slot}
use Rattle.iox_lanes_machine.specs.LanesBase.declared.words.word.SlotWord.{SlotWord}
use Rattle.iox_lanes_machine.specs.LanesBase.declared.words.word.SlotWord.TheVariants.{Header, UserHeader, Payload}
use Rattle.iox_lanes_machine.specs.LanesBase.Routes.{known_as}
use Rattle.iox_lanes_machine.specs.LanesBase.declared.calls.route.Route.{Route}
use Rattle.iox_lanes_machine.specs.LanesParties.declared.publisher.slot_book.LoanMark.TheVariants as mark
use Rattle.iox_lanes_machine.specs.LanesParties.PublisherKeeping.{may_remember}
use Rattle.iox_lanes_machine.specs.LanesParties.Parties.{PublisherLaneState, SubscriberLaneState, is_out, lane_found, lane_remembers}
use Rattle.iox_lanes_machine.specs.LanesParties.Parties.{lane_resized, lane_named, lane_meets}
use Rattle.iox_lanes_machine.specs.LanesParties.Within.{IsPublisher}
use Rattle.iox_lanes_machine.proofs.LanesParties.Rings.{all_at, and_left, and_right}
use Rattle.iox_lanes_machine.specs.LedgerRooms.{CountsLoans}
use Rattle.iox_lanes_machine.specs.Stored.{between}
use Rattle.iox_lanes_machine.specs.LedgerUses.{one_if, count, entry, UsesCounted}
use Rattle.iox_lanes_machine.proofs.LedgerFindings.{newest_counted, newest_counts, newest_refers}
use Rattle.iox_lanes_machine.specs.Findings.{laid, back_found, waits_of, back_of, newest_of, has_word, finds, finds_now, waiting_in}
use Rattle.iox_lanes_machine.specs.Findings.{waiting_at, waiting_of, given_at, given_of, remembered_of, with_buffer, buffered_in}
use Rattle.iox_lanes_machine.specs.Findings.{buffered_at, buffered_of, resized_of, named_of, swapped_of, with_found, FindsTo, AreFound}
use Rattle.iox_lanes_machine.specs.Fresh.{HasFound, IsFreshPublisher, IsFresh}
use Rattle.iox_lanes_machine.specs.Kept.{IsWithin, IsKept}
use Rattle.iox_lanes_machine.specs.Links.{LinkState}
use Rattle.iox_lanes_machine.specs.Opening.{CellsNameSlots}
use Rattle.iox_lanes_machine.specs.Returns.{back_ring}
use Rattle.iox_lanes_machine.specs.World.{World}
use Rattle.iox_lanes_machine.specs.declared.found.Found.{Found}
use Rattle.iox_lanes_machine.specs.declared.found.Found.TheVariants as found
use Rattle.iox_lanes_machine.proofs.Buffers.{buffers_keep, buffered_moments}
use Rattle.iox_lanes_machine.proofs.Fresh.{fresh_kept}
use Rattle.iox_lanes_machine.proofs.Findings.{MayWait, may_wait_is, MayBeBack, may_be_back_is}
use Rattle.iox_lanes_machine.proofs.FoundFresh.{set_cases, same_ends, after, PublisherAfter}
use Rattle.iox_lanes_machine.proofs.FoundFresh.{fresh_after, link_stays, rows_after}
use Rattle.iox_lanes_machine.proofs.InTable.{access_elsewhere}
use Rattle.iox_lanes_machine.proofs.Kept.{seat}
use Rattle.iox_lanes_machine.proofs.Opening.{after_access}
use Rattle.iox_lanes_machine.proofs.Resized.{resizes_keep, names_keep, resized_moments, named_moments}
use Rattle.iox_lanes_machine.proofs.Swaps.{swaps_keep, swapped_moments}
use Rattle.iox_lanes_machine.proofs.Within.{publisher_within}
use Rattle.iox_lanes_machine.proofs.FoundKept.{back_seat, given_fresh, waiting_fresh}

-- a slot is the newest of its publisher's history
newest_fresh : (m : World) (who slot : ℕ) (lane : PublisherLaneState) → may_remember slot lane.port.book ≡ true
    → slice_get m.publishers who ≡ Some lane → IsWithin m → IsFresh m
    → IsWithin (remembered_of m who slot (Some lane)) × IsFresh (remembered_of m who slot (Some lane))
newest_fresh m who slot lane may found w h = (within, fresh)
  where
    own : IsFreshPublisher m who lane
    own = h.publishers who lane found

    publishers' : List PublisherLaneState
    publishers' = set m.publishers who (lane_remembers slot lane)

    world : World
    world = after m m.table.words m.links publishers'

    lanes : (other : ℕ) (now : PublisherLaneState) → slice_get publishers' other ≡ Some now → PublisherAfter m world other now
    lanes other now e = elim (set_cases m.publishers who lane (lane_remembers slot lane) found other now e) [
      | inl here ↦ record {
        was = lane;
        before = ap (slice_get m.publishers) here.0 ∙ found;
        call = ap (λ (l : PublisherLaneState). l.port.call) (sym here.1);
        routes = ap (λ (l : PublisherLaneState). l.port.routes) (sym here.1);
        counted = subst (λ (l : PublisherLaneState). UsesCounted (length l.port.routes) l.port.book) here.1
            (newest_counted (length lane.port.routes) slot lane.port.book may (own.unlent slot) own.counted);
        counts = subst (λ (l : PublisherLaneState). CountsLoans l.port.book) here.1 (newest_counts slot lane.port.book may own.counts);
        none_out = ap (λ (l : PublisherLaneState). l.port.book.out) (sym here.1) ∙ own.none_out;
        unlent = subst (λ (l : PublisherLaneState). (s : ℕ) → is_out (entry l.port.book.first l.port.book.loans s mark.No) ≡ false)
            here.1 own.unlent;
        has = subst (HasFound world) here.1
            (λ at route link at_is link_is s. own.has at route link at_is link_is s ∙ ap one_if
            (sym (newest_refers slot lane.port.book at s)));
      }
      | inr off ↦
          let is = h.publishers other now off.1 in
          record {
            was = now;
            before = off.1;
            call = refl;
            routes = refl;
            counted = is.counted;
            counts = is.counts;
            none_out
                = is.none_out;
            unlent = is.unlent;
            has = is.has;
          }
    ]

    fresh : IsFresh world
    fresh = fresh_after m m.table.words m.links publishers' (same_ends m.links) h.spare h.named
        (λ d link e. link_stays m m.table.words m.links publishers' d link (length-set m.publishers who (lane_remembers slot lane)) refl
        refl (h.links d link e))
        lanes (rows_after m m.table.words m.links who lane (lane_remembers slot lane) found refl refl h.rows) h

    within : IsWithin world
    within =
        let port : IsPublisher m.table.sizes lane = all_at (IsPublisher m.table.sizes) m.publishers who lane found w.publishers in
        let moved : IsPublisher m.table.sizes (lane_remembers slot lane)
        = record {
          routes = port.routes;
          call = port.call;
          slots = port.slots;
          payload = port.payload;
          head = port.head;
          heads
              = port.heads;
          widths = port.widths;
        } in
        publisher_within m world who lane (lane_remembers slot lane) found moved refl refl refl refl refl refl refl w

-- a slot has the word
pub word_there : (sizes : TableSizes) (slot : ℕ) (word : SlotWord) → nat_lt slot sizes.slots ≡ true → has_word sizes word ≡ true
    → IsWord sizes (Slot slot word)
word_there sizes slot (Header word) below has = (ltb-true slot sizes.slots below, ltb-true word 3 has)
word_there sizes slot (UserHeader word) below has = (ltb-true slot sizes.slots below, ltb-true word sizes.user_header_words has)
word_there sizes slot (Payload word) below has = (ltb-true slot sizes.slots below, ltb-true word sizes.payload_words has)

-- a word of a slot holds something
held_fresh : (m : World) (slot : ℕ) (word : SlotWord) (value : ℕ) → IsWord m.table.sizes (Slot slot word) → IsWithin m → IsFresh m
    → IsWithin (record m { table = stored_in m.table (Slot slot word) value })
    × IsFresh (record m { table = stored_in m.table (Slot slot word) value })
held_fresh m slot word value is w h = (within, fresh)
  where
    table' : TableWords
    table' = stored_in m.table (Slot slot word) value

    size : length table'.words ≡ length m.table.words
    size = length-set m.table.words (number_of m.table.sizes (Slot slot word)) value

    world : World
    world = after m table'.words m.links m.publishers

    named : CellsNameSlots table' × (slice_index table'.words 0 ≡ 0)
    named = after_access m.table w.words (Store (Slot slot word) value) is tt h.named h.spare

    backs : (d : ℕ) (link : LinkState) → slice_get m.links d ≡ Some link
        → back_ring table' d m.table.sizes.completion_cells ≡ back_ring m.table d m.table.sizes.completion_cells
    backs d link e = access_elsewhere Completion m.table d m.table.sizes.completion_cells (Store (Slot slot word) value)
        (back_seat m d link e w h) (is, tt)

    lanes : (who : ℕ) (lane : PublisherLaneState) → slice_get m.publishers who ≡ Some lane → PublisherAfter m world who lane
    lanes who lane e =
        let own = h.publishers who lane e in
        record {
          was = lane;
          before = e;
          call = refl;
          routes = refl;
          counted = own.counted;
          counts = own.counts;
          none_out = own.none_out;
          unlent = own.unlent;
          has = λ at route link at_is link_is s. ap (λ (xs : List ℕ). count s link.found + count s xs)
              (ap between (backs route.connection link link_is)) ∙ own.has at route link at_is link_is s;
        }

    fresh : IsFresh world
    fresh = fresh_after m table'.words m.links m.publishers (same_ends m.links) named.1 named.0
        (λ d link e. link_stays m table'.words m.links m.publishers d link refl
        (access_elsewhere Submission m.table d (cells_of link.kind link.limit) (Store (Slot slot word) value) (seat m d link e w) (is, tt))
        (backs d link e) (h.links d link e))
        lanes h.rows h

    within : IsWithin world
    within = record {
      publishers = w.publishers;
      subscribers = w.subscribers;
      senders = w.senders;
      receivers = w.receivers;
      links = w.links;
      orders = w.orders;
      words = size ∙ w.words;
    }

-- what waits at the connection at a place of a publisher
pub waiting_is : (m : World) (who place slot : ℕ) (lane : PublisherLaneState) (is : MayWait m place slot lane)
    → slice_get m.publishers who ≡ Some lane
    → waiting_in m who place slot lane is.route.connection (Some is.link) ≡ waiting_of m who place slot (slice_get m.publishers who)
waiting_is m who place slot lane is found =
    sym (ap (waiting_in m who place slot lane is.route.connection) is.found)
    ∙ sym (ap (waiting_at m who place slot lane) is.at)
    ∙ sym (ap (waiting_of m who place slot) found)

pub given_is : (m : World) (who place slot : ℕ) (lane : PublisherLaneState) (is : MayBeBack m place slot lane)
    → slice_get m.publishers who ≡ Some lane
    → given_at m who place slot lane (Some is.route) ≡ given_of m who place slot (slice_get m.publishers who)
given_is m who place slot lane is found = sym (ap (given_at m who place slot lane) is.at) ∙ sym (ap (given_of m who place slot) found)

-- lanes before their first step
abbrev pub Both : World → Type 0
Both n = IsWithin n × IsFresh n

waits_keep : (m : World) (who place slot : ℕ) (at : Option PublisherLaneState) → slice_get m.publishers who ≡ at
    → waits_of m place slot at ≡ true → IsWithin m → IsFresh m → Both (waiting_of m who place slot (slice_get m.publishers who))
waits_keep m who place slot None e fit w h = absurd (cc fit)
waits_keep m who place slot (Some lane) e fit w h =
    let is = may_wait_is m place slot lane fit in
    subst Both (waiting_is m who place slot lane is e) (waiting_fresh m who place slot lane is e w h)

backs_keep : (m : World) (who place slot : ℕ) (at : Option PublisherLaneState) → slice_get m.publishers who ≡ at
    → back_of m place slot at ≡ true → IsWithin m → IsFresh m → Both (given_of m who place slot (slice_get m.publishers who))
backs_keep m who place slot None e fit w h = absurd (cc fit)
backs_keep m who place slot (Some lane) e fit w h =
    let is = may_be_back_is m place slot lane fit in
    subst Both (given_is m who place slot lane is e) (given_fresh m who place slot lane is e w h)

newest_keeps : (m : World) (who slot : ℕ) (at : Option PublisherLaneState) → slice_get m.publishers who ≡ at → newest_of slot at ≡ true
    → IsWithin m → IsFresh m → Both (remembered_of m who slot (slice_get m.publishers who))
newest_keeps m who slot None e fit w h = absurd (cc fit)
newest_keeps m who slot (Some lane) e fit w h = subst Both (sym (ap (remembered_of m who slot) e)) (newest_fresh m who slot lane fit e w h)

pub found_both : (m : World) (f : Found) → finds_now m f ≡ true → IsWithin m → IsFresh m → Both (with_found m f)
found_both m (found.Waiting publisher place slot) fit w h
    = waits_keep m publisher place slot (slice_get m.publishers publisher) refl fit w h
found_both m (found.GivenBack publisher place slot) fit w h
    = backs_keep m publisher place slot (slice_get m.publishers publisher) refl fit w h
found_both m (found.Newest publisher slot) fit w h = newest_keeps m publisher slot (slice_get m.publishers publisher) refl fit w h
found_both m (found.Held slot word value) fit w h =
    held_fresh m slot word value (word_there m.table.sizes slot word
    (and_left (nat_lt slot m.table.sizes.slots) (has_word m.table.sizes word) fit)
    (and_right (nat_lt slot m.table.sizes.slots) (has_word m.table.sizes word) fit)) w h
found_both m (found.Buffer publisher place messages) fit w h
    = buffers_keep m publisher place messages (slice_get m.publishers publisher) refl fit w h
found_both m (found.Slots publisher slots most_loans) fit w h
    = resizes_keep m publisher slots most_loans (slice_get m.publishers publisher) refl fit w h
found_both m (found.Sender publisher node_id publisher_id fails last) fit w h
    = names_keep m publisher node_id publisher_id fails last (slice_get m.publishers publisher) refl fit w h
found_both m (found.Swapped subscriber one other) fit w h
    = swaps_keep m subscriber one other (slice_get m.subscribers subscriber) refl fit w h

-- no step was made
waiting_moments : (m : World) (who place slot connection : ℕ) (lane : PublisherLaneState) (at : Option LinkState)
    → (waiting_in m who place slot lane connection at).moments ≡ m.moments
waiting_moments m who place slot connection lane None = refl
waiting_moments m who place slot connection lane (Some link) = refl

waits_moments : (m : World) (who place slot : ℕ) (lane : PublisherLaneState) (at : Option Route)
    → (waiting_at m who place slot lane at).moments ≡ m.moments
waits_moments m who place slot lane None = refl
waits_moments m who place slot lane (Some route)
    = waiting_moments m who place slot route.connection lane (slice_get m.links route.connection)

waits_of_moments : (m : World) (who place slot : ℕ) (at : Option PublisherLaneState) → (waiting_of m who place slot at).moments ≡ m.moments
waits_of_moments m who place slot None = refl
waits_of_moments m who place slot (Some lane) = waits_moments m who place slot lane (slice_get lane.port.routes place)

given_moments : (m : World) (who place slot : ℕ) (lane : PublisherLaneState) (at : Option Route)
    → (given_at m who place slot lane at).moments ≡ m.moments
given_moments m who place slot lane None = refl
given_moments m who place slot lane (Some route) = refl

given_of_moments : (m : World) (who place slot : ℕ) (at : Option PublisherLaneState) → (given_of m who place slot at).moments ≡ m.moments
given_of_moments m who place slot None = refl
given_of_moments m who place slot (Some lane) = given_moments m who place slot lane (slice_get lane.port.routes place)

newest_moments : (m : World) (who slot : ℕ) (at : Option PublisherLaneState) → (remembered_of m who slot at).moments ≡ m.moments
newest_moments m who slot None = refl
newest_moments m who slot (Some lane) = refl

pub found_moments : (m : World) (f : Found) → (with_found m f).moments ≡ m.moments
found_moments m (found.Waiting publisher place slot) = waits_of_moments m publisher place slot (slice_get m.publishers publisher)
found_moments m (found.GivenBack publisher place slot) = given_of_moments m publisher place slot (slice_get m.publishers publisher)
found_moments m (found.Newest publisher slot) = newest_moments m publisher slot (slice_get m.publishers publisher)
found_moments m (found.Held slot word value) = refl
found_moments m (found.Buffer publisher place messages) = buffered_moments m publisher place messages (slice_get m.publishers publisher)
found_moments m (found.Slots publisher slots most_loans) = resized_moments m publisher slots most_loans (slice_get m.publishers publisher)
found_moments m (found.Sender publisher node_id publisher_id fails last)
    = named_moments m publisher node_id publisher_id fails last (slice_get m.publishers publisher)
found_moments m (found.Swapped subscriber one other) = swapped_moments m subscriber one other (slice_get m.subscribers subscriber)

-- before the first step alone
pub finds_first : (m : World) (f : Found) → finds m f ≡ true → (m.moments ≡ 0) × (finds_now m f ≡ true)
finds_first m f fit = (first (and_left (m.moments == 0) (finds_now m f) fit), and_right (m.moments == 0) (finds_now m f) fit)
  where
    first : (m.moments == 0) ≡ true → m.moments ≡ 0
    first e = elim (eqb_tells m.moments 0) [
      | inl same ↦ same.1
      | inr other ↦ absurd (cc (sym e ∙ other.0))
    ]

pub found_keeps : (m : World) (f : Found) → finds m f ≡ true → IsKept m → IsKept (with_found m f)
found_keeps m f fit k =
    let now = finds_first m f fit in
    let both = found_both m f now.1 k.within (k.fresh now.0) in
    fresh_kept (with_found m f) (found_moments m f ∙ now.0) both.0 both.1

pub finds_keep : (m : World) (f : Found) (answer : Bool) (n : World) → FindsTo m f answer n → IsKept m → IsKept n
finds_keep m f true n h k = subst IsKept (sym h.1) (found_keeps m f h.0 k)
finds_keep m f false n h k = subst IsKept (sym h.1) k

-- so does a list of findings
pub all_found : (m : World) (fs : List Found) (n : World) → AreFound m fs n → IsKept m → IsKept n
all_found m [] n h k = subst IsKept (sym h) k
all_found m (f ∷ fs) n h k = all_found (with_found m f) fs n h.1 (found_keeps m f h.0 k)

-- findings leave the sizes of the service, and to each publisher as many connections as it had
pub record SameSizes (m n : World) : Type 0 where
  pub sizes : n.table.sizes ≡ m.table.sizes
  pub routes : (place : ℕ) (lane : PublisherLaneState) → slice_get n.publishers place ≡ Some lane → (was : PublisherLaneState)
      × (slice_get m.publishers place ≡ Some was) × (length lane.port.routes ≡ length was.port.routes)

none_changed : (m : World) → SameSizes m m
none_changed m = record { sizes = refl; routes = λ place lane e. (lane, e, refl) }

one_changed : (m : World) (words : List ℕ) (links : List LinkState) (who : ℕ) (lane now : PublisherLaneState)
    → slice_get m.publishers who ≡ Some lane → length now.port.routes ≡ length lane.port.routes
    → SameSizes m (after m words links (set m.publishers who now))
one_changed m words links who lane now found same = record {
  sizes = refl;
  routes = λ place z e. elim (set_cases m.publishers who lane now found place z e) [
    | inl here ↦ (
      lane,
      ap (slice_get m.publishers) here.0 ∙ found,
      ap (λ (l : PublisherLaneState). length l.port.routes) (sym here.1) ∙
          same,
    )
    | inr off ↦ (z, off.1, refl)
  ];
}

waiting_routes : (m : World) (who place slot : ℕ) (lane : PublisherLaneState) (connection : ℕ) (at : Option LinkState)
    → slice_get m.publishers who ≡ Some lane → SameSizes m (waiting_in m who place slot lane connection at)
waiting_routes m who place slot lane connection None found = none_changed m
waiting_routes m who place slot lane connection (Some link) found =
    one_changed m (laid m.table connection Submission (length link.found) slot).words
    (set m.links connection (record link { found = link.found ++ slot ∷ [] })) who lane (lane_found place slot lane) found refl

waits_routes : (m : World) (who place slot : ℕ) (lane : PublisherLaneState) (at : Option Route) → slice_get m.publishers who ≡ Some lane
    → SameSizes m (waiting_at m who place slot lane at)
waits_routes m who place slot lane None found = none_changed m
waits_routes m who place slot lane (Some route) found
    = waiting_routes m who place slot lane route.connection (slice_get m.links route.connection) found

waits_of_routes : (m : World) (who place slot : ℕ) (at : Option PublisherLaneState) → slice_get m.publishers who ≡ at
    → SameSizes m (waiting_of m who place slot at)
waits_of_routes m who place slot None e = none_changed m
waits_of_routes m who place slot (Some lane) e = waits_routes m who place slot lane (slice_get lane.port.routes place) e

given_routes : (m : World) (who place slot : ℕ) (lane : PublisherLaneState) (at : Option Route) → slice_get m.publishers who ≡ Some lane
    → SameSizes m (given_at m who place slot lane at)
given_routes m who place slot lane None found = none_changed m
given_routes m who place slot lane (Some route) found
    = one_changed m (laid m.table route.connection Completion (back_found m.table route.connection) slot).words m.links who lane
    (lane_found place slot lane) found refl

given_of_routes : (m : World) (who place slot : ℕ) (at : Option PublisherLaneState) → slice_get m.publishers who ≡ at
    → SameSizes m (given_of m who place slot at)
given_of_routes m who place slot None e = none_changed m
given_of_routes m who place slot (Some lane) e = given_routes m who place slot lane (slice_get lane.port.routes place) e

newest_routes : (m : World) (who slot : ℕ) (at : Option PublisherLaneState) → slice_get m.publishers who ≡ at
    → SameSizes m (remembered_of m who slot at)
newest_routes m who slot None e = none_changed m
newest_routes m who slot (Some lane) e = one_changed m m.table.words m.links who lane (lane_remembers slot lane) e refl

buffered_in_routes : (m : World) (who messages : ℕ) (lane : PublisherLaneState) (route : Route) (at : Option LinkState)
    → slice_get m.publishers who ≡ Some lane → SameSizes m (buffered_in m who messages lane route at)
buffered_in_routes m who messages lane route None found = none_changed m
buffered_in_routes m who messages lane route (Some link) found = record {
  sizes = refl;
  routes = (one_changed m m.table.words m.links who lane (lane_meets (with_buffer messages route) lane) found
      (length-map lane.port.routes (known_as (with_buffer messages route)))).routes;
}

buffered_at_routes : (m : World) (who messages : ℕ) (lane : PublisherLaneState) (at : Option Route)
    → slice_get m.publishers who ≡ Some lane → SameSizes m (buffered_at m who messages lane at)
buffered_at_routes m who messages lane None found = none_changed m
buffered_at_routes m who messages lane (Some route) found
    = buffered_in_routes m who messages lane route (slice_get m.links route.connection) found

buffered_of_routes : (m : World) (who place messages : ℕ) (at : Option PublisherLaneState) → slice_get m.publishers who ≡ at
    → SameSizes m (buffered_of m who place messages at)
buffered_of_routes m who place messages None e = none_changed m
buffered_of_routes m who place messages (Some lane) e = buffered_at_routes m who messages lane (slice_get lane.port.routes place) e

resized_routes : (m : World) (who slots most : ℕ) (at : Option PublisherLaneState) → slice_get m.publishers who ≡ at
    → SameSizes m (resized_of m who slots most at)
resized_routes m who slots most None e = none_changed m
resized_routes m who slots most (Some lane) e = one_changed m m.table.words m.links who lane (lane_resized slots most lane) e refl

named_routes : (m : World) (who node publisher : ℕ) (fails : Bool) (last : Option ℕ) (at : Option PublisherLaneState)
    → slice_get m.publishers who ≡ at → SameSizes m (named_of m who node publisher fails last at)
named_routes m who node publisher fails last None e = none_changed m
named_routes m who node publisher fails last (Some lane) e
    = one_changed m m.table.words m.links who lane (lane_named node publisher fails last lane) e refl

swapped_routes : (m : World) (who one other : ℕ) (at : Option SubscriberLaneState) → SameSizes m (swapped_of m who one other at)
swapped_routes m who one other None = none_changed m
swapped_routes m who one other (Some lane) = record { sizes = refl; routes = λ place now e. (now, e, refl) }

pub found_routes : (m : World) (f : Found) → SameSizes m (with_found m f)
found_routes m (found.Waiting publisher place slot) = waits_of_routes m publisher place slot (slice_get m.publishers publisher) refl
found_routes m (found.GivenBack publisher place slot) = given_of_routes m publisher place slot (slice_get m.publishers publisher) refl
found_routes m (found.Newest publisher slot) = newest_routes m publisher slot (slice_get m.publishers publisher) refl
found_routes m (found.Held slot word value) = record { sizes = refl; routes = λ place lane e. (lane, e, refl) }
found_routes m (found.Buffer publisher place messages)
    = buffered_of_routes m publisher place messages (slice_get m.publishers publisher) refl
found_routes m (found.Slots publisher slots most_loans)
    = resized_routes m publisher slots most_loans (slice_get m.publishers publisher) refl
found_routes m (found.Sender publisher node_id publisher_id fails last)
    = named_routes m publisher node_id publisher_id fails last (slice_get m.publishers publisher) refl
found_routes m (found.Swapped subscriber one other) = swapped_routes m subscriber one other (slice_get m.subscribers subscriber)
