-- Who goes on alone comes to the end of its call within a number of steps.
use Rattle.std.proofs.Common.{ℕ, zero, suc, ◌≡◌, ◌+◌, ◌-◌, ◌*◌, ◌<◌, ◌≤◌, ◌^◌, ◌==◌, ◌||◌, not, nat_lt, if◌then◌else◌, Bool, true, false}
use Rattle.std.proofs.Common.{List, length, slice_get, Option, Some, None, refl, sym, ◌∙◌, ap, subst, arith}
use Rattle.std.proofs.lemmas.Bool.{eq-eqb}
use Rattle.std.proofs.lemmas.Option.{slice_get_within}
use Rattle.iox_lanes_machine.specs.QueuesSteps.Access.{successor}
use Rattle.iox_lanes_machine.specs.QueuesSteps.Ends.{pop_first, pop_next}
use Rattle.iox_lanes_machine.specs.QueuesSteps.Overflowing as overflowing
use Rattle.iox_lanes_machine.specs.QueuesSteps.Refusing as refusing
use Rattle.iox_lanes_machine.specs.QueuesSteps.declared.access.Access.TheVariants as own
use Rattle.iox_lanes_machine.specs.QueuesSteps.declared.access.Word.TheVariants.{Read, Write}
use Rattle.iox_lanes_machine.specs.QueuesSteps.declared.order.PushAnswer.TheVariants.{Refused}
use Rattle.iox_lanes_machine.specs.QueuesSteps.declared.rings.ends.Pop.{Pop}
use Rattle.iox_lanes_machine.specs.QueuesSteps.declared.rings.ends.Pop.TheVariants as pop
use Rattle.iox_lanes_machine.specs.QueuesSteps.declared.rings.ends.Push.TheVariants as ring
use Rattle.iox_lanes_machine.specs.QueuesSteps.declared.rings.ends.RingKind.{RingKind}
use Rattle.iox_lanes_machine.specs.QueuesSteps.declared.rings.ends.RingKind.TheVariants as kind
use Rattle.iox_lanes_machine.specs.QueuesSteps.declared.rings.overflowing.pop.Pop.TheVariants as overflowing_pop
use Rattle.iox_lanes_machine.specs.QueuesSteps.declared.rings.refusing.pop.Pop.TheVariants as refusing_pop
use Rattle.iox_lanes_machine.specs.QueuesSteps.declared.rings.refusing.push.Push as refusing_push_type
use Rattle.iox_lanes_machine.specs.QueuesSteps.declared.rings.refusing.push.Push.TheVariants as push
use Rattle.iox_lanes_machine.specs.LanesBase.Answers.{pop_answer, refusing_push_answer}
use Rattle.iox_lanes_machine.specs.LanesBase.Publishing.{publisher_is_idle}
use Rattle.iox_lanes_machine.specs.LanesBase.Subscribing.{is_full_at, receive_at, receive_from, received, released, subscriber_is_idle}
use Rattle.iox_lanes_machine.specs.LanesBase.Subscribing.{subscriber_change, subscriber_is_over, subscriber_next, subscriber_take}
use Rattle.iox_lanes_machine.specs.LanesBase.Table.{TableWords, after_shared, held_by, shared_answer, stored_in}
use Rattle.iox_lanes_machine.specs.LanesBase.declared.calls.publisher.PublisherCall.{PublisherCall}
use Rattle.iox_lanes_machine.specs.LanesBase.declared.calls.publisher.PublisherCall.TheVariants as publishing
use Rattle.iox_lanes_machine.specs.LanesBase.declared.calls.route.Route.{Route}
use Rattle.iox_lanes_machine.specs.LanesBase.declared.calls.subscriber.SlotExtent.{SlotExtent}
use Rattle.iox_lanes_machine.specs.LanesBase.declared.calls.subscriber.SubscriberCall.{SubscriberCall}
use Rattle.iox_lanes_machine.specs.LanesBase.declared.calls.subscriber.SubscriberCall.TheVariants as subscribing
use Rattle.iox_lanes_machine.specs.LanesBase.declared.words.sizes.TableSizes.{TableSizes}
use Rattle.iox_lanes_machine.specs.LanesBase.declared.words.word.ConnectionRing.TheVariants.{Submission}
use Rattle.iox_lanes_machine.specs.LanesBase.declared.words.word.SharedWord.TheVariants.{Ring}
use Rattle.iox_lanes_machine.specs.LanesParties.Parties.{PublisherLaneState, SubscriberLaneState}
use Rattle.iox_lanes_machine.specs.LanesParties.Publishers.{words_of}
use Rattle.iox_lanes_machine.specs.LanesParties.Within.{IsPublisher, IsPublishing, IsSubscriber, IsSubscribing}
use Rattle.iox_lanes_machine.specs.LanesParties.declared.call.Move.TheVariants.{GoOn}
use Rattle.iox_lanes_machine.specs.LanesParties.declared.call.Party.{Party}
use Rattle.iox_lanes_machine.specs.LanesParties.declared.call.Party.TheVariants.{Publisher, Subscriber}
use Rattle.iox_lanes_machine.specs.Kept.{IsKept}
use Rattle.iox_lanes_machine.specs.Pace.{pushing_left, steps_left}
use Rattle.iox_lanes_machine.specs.Reads.{width}
use Rattle.iox_lanes_machine.specs.World.{World, fits, happens, party_ends, publisher_fits_at, subscriber_ends_at}
use Rattle.iox_lanes_machine.specs.World.{subscriber_fits_at, subscriber_given}
use Rattle.iox_lanes_machine.proofs.Connected.{sends_connected}
use Rattle.iox_lanes_machine.proofs.LanesParties.Rings.{all_at}
use Rattle.iox_lanes_machine.proofs.Pace.{StoresWord, steps_fall}
use Rattle.iox_lanes_machine.proofs.PublisherUses as uses
use Rattle.iox_lanes_machine.proofs.ReturnSteps.{happens_ends}
use Rattle.iox_lanes_machine.proofs.SlotMoves.{told}
use Rattle.iox_lanes_machine.proofs.Steps.{happens_moments}
use Rattle.iox_lanes_machine.proofs.Whole.{happens_keeps}
use Rattle.iox_lanes_machine.proofs.Within.{changed_routes, set_same}
use Rattle.iox_lanes_laws.proofs.Chains.{fewer}
use Rattle.iox_lanes_laws.proofs.Publishers as publishers
use Rattle.iox_lanes_laws.proofs.SubscriberCourses.{Goes, goes_on}
use Rattle.iox_lanes_laws.proofs.Subscribers as subscribers
use Rattle.iox_lanes_service.specs.Turning.{GoesThrough}
use Rattle.iox_lanes_service.proofs.Stopping.{gone_inside}

-- ---- how many steps a subscriber's call has left

-- a pop or a look, where the read position holds this; one that saw another goes round once more
abbrev pub popping_left : ℕ → Pop → ℕ
popping_left held (pop.Overflowing overflowing_pop.Idle) = 0
popping_left held (pop.Overflowing overflowing_pop.Begun) = 8
popping_left held (pop.Overflowing (overflowing_pop.SawRead read)) = 7
popping_left held (pop.Overflowing (overflowing_pop.Nonempty read next)) = if held == read then 3 else 6
popping_left held (pop.Overflowing (overflowing_pop.SawCell read next value)) = if held == read then 2 else 5
popping_left held (pop.Overflowing (overflowing_pop.Popped got)) = 0
popping_left held (pop.Overflowing overflowing_pop.LookBegun) = 8
popping_left held (pop.Overflowing (overflowing_pop.LookRead read)) = 7
popping_left held (pop.Overflowing (overflowing_pop.Looked some)) = 0
popping_left held (pop.Refusing refusing_pop.Idle) = 0
popping_left held (pop.Refusing refusing_pop.Begun) = 8
popping_left held (pop.Refusing (refusing_pop.SawRead read)) = 7
popping_left held (pop.Refusing (refusing_pop.Nonempty read next)) = 6
popping_left held (pop.Refusing (refusing_pop.SawCell next value)) = 5
popping_left held (pop.Refusing (refusing_pop.Popped got)) = 0
popping_left held (pop.Refusing refusing_pop.LookBegun) = 8
popping_left held (pop.Refusing (refusing_pop.LookRead read)) = 7
popping_left held (pop.Refusing (refusing_pop.Looked some)) = 0

-- a subscriber's call, with n connections
abbrev pub reader_left : TableWords → ℕ → SubscriberCall → ℕ
reader_left table connections subscribing.Idle = 0
reader_left table connections (subscribing.Receiving at route p waits) =
    popping_left (held_by table (Ring route.connection Submission Read)) p + 8 * (connections - at - 1) + 1
reader_left table connections (subscribing.Received given) = 1
reader_left table connections (subscribing.Reading slot word extent) = width table.sizes - word + 1
reader_left table connections (subscribing.WasRead slot) = 1
reader_left table connections (subscribing.Releasing at route p) = pushing_left (ring.Refusing p) + 1
reader_left table connections (subscribing.Released done) = 1

eight : (held : ℕ) (k : RingKind) (full : Bool) → popping_left held (pop_first k full) ≤ 8
eight held kind.Overflowing true = omega arith
eight held kind.Overflowing false = omega arith
eight held kind.Refusing true = omega arith
eight held kind.Refusing false = omega arith

pub visit_left : (table : TableWords) (routes : List Route) (place : ℕ) (full waits : Bool) (at : Option Route)
    → slice_get routes place ≡ at
    → reader_left table (length routes) (receive_from place full waits at) ≤ 8 * (length routes - place) + 1
visit_left table routes place full waits None e = omega arith
visit_left table routes place full waits (Some route) e =
    let below : place < length routes = slice_get_within routes place route e in
    omega (arith, below, eight (held_by table (Ring route.connection Submission Read)) route.kind full)

-- after a connection
next_left : (table : TableWords) (routes : List Route) (borrowed : List ℕ) (most place : ℕ) (waits : Bool) → place < 2 ^ 62
    → reader_left table (length routes) (receive_at routes borrowed most (successor place) waits) ≤ 8 * (length routes - place - 1) + 1
next_left table routes borrowed most place waits small =
    let next : successor place ≡ place + 1 = omega (arith, small) in
    omega (
      arith,
      visit_left table routes (successor place) (is_full_at borrowed most (successor place)) waits (slice_get routes (successor place))
          refl,
      next,
    )

three_or_six : (b : Bool) → (if b then 3 else 6) ≤ 6
three_or_six true = omega arith
three_or_six false = omega arith

two_below_three : (b : Bool) (x : ℕ) → (if b then 2 else 5) + x + 1 < (if b then 3 else 6) + x + 1
two_below_three true x = omega arith
two_below_three false x = omega arith

module _ (table : TableWords) (routes : List Route) (borrowed : List ℕ) (most : ℕ) where
  -- what a step leaves of a subscriber's call
  abbrev left_behind : SubscriberCall → ℕ
  left_behind c = reader_left (after_shared table (subscriber_next c)) (length routes)
      (subscriber_take routes borrowed most c (shared_answer table (subscriber_next c)))

  receiving_falls : (place : ℕ) (route : Route) (p : Pop) (waits : Bool) → (pop_next p ≡ own.Local → ⊥) → place < 2 ^ 62
      → left_behind (subscribing.Receiving place route p waits)
      < reader_left table (length routes) (subscribing.Receiving place route p waits)
  receiving_falls place route (pop.Overflowing overflowing_pop.Idle) waits goes small = absurd (goes refl)
  receiving_falls place route (pop.Overflowing overflowing_pop.Begun) waits goes small = omega arith
  receiving_falls place route (pop.Overflowing (overflowing_pop.SawRead read)) waits goes small = by_test
      (held_by table (Ring route.connection Submission Write) == read)
    where
      by_test : (b : Bool) → reader_left table (length routes)
          (received routes borrowed most place route (pop.Overflowing (overflowing.pop_emptied b read)) waits
          (pop_answer (pop.Overflowing (overflowing.pop_emptied b read)))) < 7 + 8 * (length routes - place - 1) + 1
      by_test true = omega (arith, next_left table routes borrowed most place waits small)
      by_test false = omega (arith, three_or_six (held_by table (Ring route.connection Submission Read) == read))
  receiving_falls place route (pop.Overflowing (overflowing_pop.Nonempty read next)) waits goes small
      = two_below_three (held_by table (Ring route.connection Submission Read) == read) (8 * (length routes - place - 1))
  receiving_falls place route (pop.Overflowing (overflowing_pop.SawCell read next value)) waits goes small
      = by_test (held == read)
    where
      held : ℕ
      held = held_by table (Ring route.connection Submission Read)

      from_here : Bool → ℕ
      from_here b = if b then 3 else 6

      same : from_here (held == held) ≡ from_here true
      same = ap from_here (eq-eqb held held refl)

      by_test : (b : Bool)
          → reader_left (if b then stored_in table (Ring route.connection Submission Read) next else table) (length routes)
          (received routes borrowed most place route (pop.Overflowing (overflowing.pop_swapped b held value)) waits
          (pop_answer (pop.Overflowing (overflowing.pop_swapped b held value))))
          < (if b then 2 else 5) + 8 * (length routes - place - 1) + 1
      by_test true = omega arith
      by_test false = omega (arith, same)
  receiving_falls place route (pop.Overflowing (overflowing_pop.Popped got)) waits goes small = absurd (goes refl)
  receiving_falls place route (pop.Overflowing overflowing_pop.LookBegun) waits goes small = omega arith
  receiving_falls place route (pop.Overflowing (overflowing_pop.LookRead read)) waits goes small
      = omega (
        arith,
        next_left table routes borrowed most place
            (waits || not (held_by table (Ring route.connection Submission Write) == read)) small,
      )
  receiving_falls place route (pop.Overflowing (overflowing_pop.Looked some)) waits goes small = absurd (goes refl)
  receiving_falls place route (pop.Refusing refusing_pop.Idle) waits goes small = absurd (goes refl)
  receiving_falls place route (pop.Refusing refusing_pop.Begun) waits goes small = omega arith
  receiving_falls place route (pop.Refusing (refusing_pop.SawRead read)) waits goes small = by_test
      (held_by table (Ring route.connection Submission Write) == read)
    where
      by_test : (b : Bool) → reader_left table (length routes)
          (received routes borrowed most place route (pop.Refusing (refusing.pop_emptied b read)) waits
          (pop_answer (pop.Refusing (refusing.pop_emptied b read)))) < 7 + 8 * (length routes - place - 1) + 1
      by_test true = omega (arith, next_left table routes borrowed most place waits small)
      by_test false = omega arith
  receiving_falls place route (pop.Refusing (refusing_pop.Nonempty read next)) waits goes small = omega arith
  receiving_falls place route (pop.Refusing (refusing_pop.SawCell next value)) waits goes small = omega arith
  receiving_falls place route (pop.Refusing (refusing_pop.Popped got)) waits goes small = absurd (goes refl)
  receiving_falls place route (pop.Refusing refusing_pop.LookBegun) waits goes small = omega arith
  receiving_falls place route (pop.Refusing (refusing_pop.LookRead read)) waits goes small
      = omega (
        arith,
        next_left table routes borrowed most place
            (waits || not (held_by table (Ring route.connection Submission Write) == read)) small,
      )
  receiving_falls place route (pop.Refusing (refusing_pop.Looked some)) waits goes small = absurd (goes refl)

  reading_falls : (slot word : ℕ) (extent : SlotExtent) (b : Bool) → word < width table.sizes → word < 2 ^ 62
      → reader_left table (length routes)
      (if b then subscribing.Reading slot (successor word) extent else subscribing.WasRead slot) < width table.sizes - word + 1
  reading_falls slot word extent true low small =
      let next : successor word ≡ word + 1 = omega (arith, small) in
      omega (arith, low, next)
  reading_falls slot word extent false low small = omega (arith, low)

  releasing_falls : (after : TableWords) (place : ℕ) (route : Route) (p : refusing_push_type.Push) (a : ℕ)
      → (refusing.push_next p ≡ own.Local → ⊥)
      → reader_left after (length routes) (released place route (refusing.push_take p a) (refusing_push_answer (refusing.push_take p a)))
      < pushing_left (ring.Refusing p) + 1
  releasing_falls after place route push.Idle a goes = absurd (goes refl)
  releasing_falls after place route (push.Begun limit value) a goes = omega arith
  releasing_falls after place route (push.SawWrite limit value write next) a goes = by_test (nat_lt (write - a) limit)
    where
      by_test : (b : Bool) → reader_left after (length routes)
          (released place route (if b then push.SawRoom value write next else push.Pushed value Refused)
          (refusing_push_answer (if b then push.SawRoom value write next else push.Pushed value Refused))) < 4
      by_test true = omega arith
      by_test false = omega arith
  releasing_falls after place route (push.SawRoom value write next) a goes = omega arith
  releasing_falls after place route (push.Filled value next) a goes = omega arith
  releasing_falls after place route (push.Pushed value answered) a goes = absurd (goes refl)

  -- each step that isn't the last leaves fewer
  reader_falls : (c : SubscriberCall) → Goes c → IsSubscribing table.sizes routes c → length routes < 2 ^ 62
      → width table.sizes < 2 ^ 62 → subscriber_is_idle c ≡ false → subscriber_is_over c ≡ false
      → left_behind c < reader_left table (length routes) c
  reader_falls subscribing.Idle goes lies few narrow busy over = absurd (cc busy)
  reader_falls (subscribing.Receiving place route p waits) goes lies few narrow busy over
      = receiving_falls place route p waits goes (omega (arith, slice_get_within routes place route lies, few))
  reader_falls (subscribing.Received given) goes lies few narrow busy over = absurd (cc over)
  reader_falls (subscribing.Reading slot word extent) goes lies few narrow busy over =
      let low : word < width table.sizes = lies.1 in
      reading_falls slot word extent (nat_lt (successor word) (3 + extent.user_header_words + extent.payload_words)) low
      (omega (arith, low, narrow))
  reader_falls (subscribing.WasRead slot) goes lies few narrow busy over = absurd (cc over)
  reader_falls (subscribing.Releasing place route p) goes lies few narrow busy over
      = releasing_falls (after_shared table (subscriber_next (subscribing.Releasing place route p))) place route p _ goes
  reader_falls (subscribing.Released done) goes lies few narrow busy over = absurd (cc over)

-- ---- how many a party's call has left

abbrev pub publisher_left : World → Option PublisherLaneState → ℕ
publisher_left m None = 0
publisher_left m (Some lane) =
    steps_left m.table.sizes.completion_cells (length lane.port.routes) (width m.table.sizes) lane.port.book lane.port.call

abbrev pub subscriber_left : World → Option SubscriberLaneState → ℕ
subscriber_left m None = 0
subscriber_left m (Some lane) = reader_left m.table (length lane.port.routes) lane.port.call

abbrev pub party_left : World → Party → ℕ
party_left m (Publisher place) = publisher_left m (slice_get m.publishers place)
party_left m (Subscriber place) = subscriber_left m (slice_get m.subscribers place)

-- a party is inside a call, of lanes whose slots have few words, and a subscriber has few connections
pub record IsGoing (m : World) (party : Party) : Type 0 where
  pub kept : IsKept m
  pub inside : fits m party GoOn ≡ true
  pub narrow : width m.table.sizes < 2 ^ 61
  pub reads : (place : ℕ) (lane : SubscriberLaneState) → party ≡ Subscriber place → slice_get m.subscribers place ≡ Some lane
      → Goes lane.port.call × (length lane.port.routes < 2 ^ 61)

not_true : (b : Bool) → not b ≡ true → b ≡ false
not_true true h = absurd (cc h)
not_true false h = refl

publisher_inside : (at : Option PublisherLaneState) → publisher_fits_at at GoOn ≡ true
    → (lane : PublisherLaneState) × (at ≡ Some lane) × (publisher_is_idle lane.port.call ≡ false)
publisher_inside None fit = absurd (cc fit)
publisher_inside (Some lane) fit = (lane, refl, not_true (publisher_is_idle lane.port.call) fit)

subscriber_inside : (at : Option SubscriberLaneState) → subscriber_fits_at at GoOn ≡ true
    → (lane : SubscriberLaneState) × (at ≡ Some lane) × (subscriber_is_idle lane.port.call ≡ false)
subscriber_inside None fit = absurd (cc fit)
subscriber_inside (Some lane) fit = (lane, refl, not_true (subscriber_is_idle lane.port.call) fit)

stores_word : (sizes : TableSizes) (routes : List Route) (stored : List ℕ) (c : PublisherCall) → IsPublishing sizes routes stored c
    → 3 + sizes.user_header_words + sizes.payload_words < 2 ^ 61
    → StoresWord (3 + sizes.user_header_words + sizes.payload_words) c
stores_word sizes routes stored publishing.Idle is narrow = tt
stores_word sizes routes stored (publishing.LoanReclaims at route p) is narrow = tt
stores_word sizes routes stored publishing.Lending is narrow = tt
stores_word sizes routes stored (publishing.Writing slot word value) is narrow = (omega (arith, is.1), omega (arith, is.1, narrow))
stores_word sizes routes stored (publishing.Written slot) is narrow = tt
stores_word sizes routes stored (publishing.Heading slot word value) is narrow = (omega (arith, is.1), omega (arith, is.1, narrow))
stores_word sizes routes stored (publishing.Remembering slot) is narrow = tt
stores_word sizes routes stored (publishing.SendReclaims slot at route p) is narrow = tt
stores_word sizes routes stored (publishing.Pushing slot at route push delivery) is narrow = tt
stores_word sizes routes stored (publishing.Sent slot delivery) is narrow = tt
stores_word sizes routes stored (publishing.Dropping slot) is narrow = tt

publisher_falls : (m : World) (place : ℕ) (lane : PublisherLaneState) → slice_get m.publishers place ≡ Some lane
    → publisher_is_idle lane.port.call ≡ false → m.moments < 2 ^ 63 → IsKept m → width m.table.sizes < 2 ^ 61
    → steps_left m.table.sizes.completion_cells (length lane.port.routes) (width m.table.sizes)
    (publishers.next_lane m lane).port.book (publishers.next_lane m lane).port.call
    < steps_left m.table.sizes.completion_cells (length lane.port.routes) (width m.table.sizes) lane.port.book lane.port.call
publisher_falls m place lane e busy bound k narrow =
    let few : m.moments ≤ 2 ^ 63 = omega (arith, bound) in
    let setting = uses.setting_of m place lane e bound k.within (k.rings few) k.returns (k.returns.rings few)
    (sends_connected m (k.sends few)) in
    let used = (k.uses few).publishers place lane e in
    let is : IsPublisher m.table.sizes lane = all_at (IsPublisher m.table.sizes) m.publishers place lane e (k.within).publishers in
    let fit = uses.change_fits m place lane.port.routes (words_of lane.port) lane.port.book lane.port.call setting
    (k.loans.stages place lane e) used.lacking used.balanced in
    steps_fall m.table.sizes.completion_cells (width m.table.sizes) lane.port.routes (words_of lane.port) lane.port.book lane.port.call
    (told m lane.port.call) busy (uses.is_there m.table.sizes lane.port.routes (words_of lane.port) lane.port.call is.call)
    (stores_word m.table.sizes lane.port.routes (words_of lane.port) lane.port.call is.call narrow) fit used.counted
    ((k.rooms few).publishers place lane e)

-- a step that isn't the last leaves fewer
going_on : (m : World) (party : Party) → IsGoing m party → party_ends m party ≡ false → m.moments < 2 ^ 63
    → IsGoing (happens m party GoOn) party × (party_left (happens m party GoOn) party < party_left m party)
going_on m (Publisher place) g over bound =
    let n : World = happens m (Publisher place) GoOn in
    let there = publisher_inside (slice_get m.publishers place) g.inside in
    let lane : PublisherLaneState = there.0 in
    let found : slice_get m.publishers place ≡ Some lane = there.1 in
    let sizes : n.table.sizes ≡ m.table.sizes = (happens_ends m (Publisher place) GoOn g.inside (g.kept).returns).sizes in
    let now : slice_get n.publishers place ≡ Some (publishers.next_lane m lane) =
    ap (λ (w : World). slice_get w.publishers place) (publishers.goes_is m place lane found)
    ∙ set_same m.publishers place (publishers.next_lane m lane) lane found in
    let was : party_left m (Publisher place) ≡ steps_left m.table.sizes.completion_cells (length lane.port.routes)
    (width m.table.sizes) lane.port.book lane.port.call = ap (publisher_left m) found in
    let is : party_left n (Publisher place) ≡ steps_left m.table.sizes.completion_cells (length lane.port.routes) (width m.table.sizes)
    (publishers.next_lane m lane).port.book (publishers.next_lane m lane).port.call =
    ap (publisher_left n) now
    ∙ ap (λ (s : TableSizes). steps_left s.completion_cells (length lane.port.routes) (width s)
    (publishers.next_lane m lane).port.book (publishers.next_lane m lane).port.call) sizes in (
      record {
        kept = happens_keeps m (Publisher place) GoOn g.inside g.kept;
        inside = gone_inside m (Publisher place) n (g.inside, over, refl);
        narrow = subst (λ (s : TableSizes). width s < 2 ^ 61) (sym sizes) g.narrow;
        reads = λ other lane e there. absurd (cc e);
      },
      subst (λ (left : ℕ). left < party_left m (Publisher place)) (sym is)
          (subst (λ (left : ℕ). steps_left m.table.sizes.completion_cells (length lane.port.routes) (width m.table.sizes)
          (publishers.next_lane m lane).port.book (publishers.next_lane m lane).port.call < left) (sym was)
          (publisher_falls m place lane found there.2 bound g.kept g.narrow)),
    )
going_on m (Subscriber place) g over bound =
    let n : World = happens m (Subscriber place) GoOn in
    let there = subscriber_inside (slice_get m.subscribers place) g.inside in
    let lane : SubscriberLaneState = there.0 in
    let found : slice_get m.subscribers place ≡ Some lane = there.1 in
    let own : Goes lane.port.call × (length lane.port.routes < 2 ^ 61) = g.reads place lane refl found in
    let sizes : n.table.sizes ≡ m.table.sizes = (happens_ends m (Subscriber place) GoOn g.inside (g.kept).returns).sizes in
    let next : SubscriberLaneState = subscribers.next_lane m lane in
    let routes : next.port.routes ≡ lane.port.routes
    = (changed_routes (subscriber_change lane.port.call (subscriber_given m.table lane)) _).0 in
    let now : slice_get n.subscribers place ≡ Some next = ap (λ (w : World). slice_get w.subscribers place)
    (subscribers.goes_is m place lane found) ∙ set_same m.subscribers place next lane found in
    let lies : IsSubscriber m.table.sizes lane
    = all_at (IsSubscriber m.table.sizes) m.subscribers place lane found ((g.kept).within).subscribers in
    let was : party_left m (Subscriber place) ≡ reader_left m.table (length lane.port.routes) lane.port.call
    = ap (subscriber_left m) found in
    let is : party_left n (Subscriber place) ≡ left_behind m.table lane.port.routes lane.port.borrowed lane.port.most_borrowed
    lane.port.call =
    ap (subscriber_left n) now
    ∙ ap (λ (t : TableWords). reader_left t (length next.port.routes) next.port.call) (subscribers.table_is m place lane found)
    ∙ ap (λ (rs : List Route). reader_left (after_shared m.table (subscriber_next lane.port.call)) (length rs) next.port.call) routes
    ∙ ap (reader_left (after_shared m.table (subscriber_next lane.port.call)) (length lane.port.routes)) (subscribers.next_call m lane) in
    let ends_not : subscriber_is_over lane.port.call ≡ false = sym (ap subscriber_ends_at found) ∙ over in
    let falls = reader_falls m.table lane.port.routes lane.port.borrowed lane.port.most_borrowed lane.port.call own.0 lies.call
    (omega (arith, own.1)) (omega (arith, g.narrow)) there.2 ends_not in (
      record {
        kept = happens_keeps m (Subscriber place) GoOn g.inside g.kept;
        inside = gone_inside m (Subscriber place) n (g.inside, over, refl);
        narrow = subst (λ (s : TableSizes). width s < 2 ^ 61) (sym sizes) g.narrow;
        reads = λ other it e its.
            let same : place ≡ other = cc e in
            let is_next : next ≡ it = some_same next it (sym now ∙ ap (slice_get n.subscribers) same ∙ its) in
            subst (λ (x : SubscriberLaneState). Goes x.port.call × (length x.port.routes < 2 ^ 61)) is_next (
              subst Goes (sym (subscribers.next_call m lane))
                  (goes_on lane.port.routes lane.port.borrowed lane.port.most_borrowed lane.port.call (subscriber_given m.table lane)
                  own.0),
              subst (λ (rs : List Route). length rs < 2 ^ 61) (sym routes) own.1,
            );
      },
      subst (λ (left : ℕ). left < party_left m (Subscriber place)) (sym is)
          (subst (λ (left : ℕ). left_behind m.table lane.port.routes lane.port.borrowed lane.port.most_borrowed lane.port.call < left)
          (sym was) falls),
    )
  where
    some_same : (x y : SubscriberLaneState) → Some x ≡ Some y → x ≡ y
    some_same x y e = cc e

-- moments only grow
pub through_grows : (party : Party) (made : ℕ) (m n : World) → GoesThrough party made m n → n.moments ≤ 2 ^ 63 → m.moments ≤ n.moments
through_grows party zero m n goes few = omega (arith, ap (λ (w : World). w.moments) goes)
through_grows party (suc made) m n goes few =
    let next : (goes.0).moments ≡ successor m.moments
    = ap (λ (w : World). w.moments) (goes.1).2 ∙ happens_moments m party GoOn (goes.1).0 in
    omega (arith, next, through_grows party made goes.0 n goes.2 few, few)

-- and by one a step
pub through_moments : (party : Party) (made : ℕ) (m n : World) → GoesThrough party made m n → n.moments ≤ m.moments + made
through_moments party zero m n goes = omega (arith, ap (λ (w : World). w.moments) goes)
through_moments party (suc made) m n goes =
    let next : (goes.0).moments ≡ successor m.moments
    = ap (λ (w : World). w.moments) (goes.1).2 ∙ happens_moments m party GoOn (goes.1).0 in
    omega (arith, next, through_moments party made goes.0 n goes.2)

-- so a party makes no more steps than its call has left
pub through_left : (party : Party) (made : ℕ) (m n : World) → IsGoing m party → GoesThrough party made m n → n.moments ≤ 2 ^ 63
    → party_left n party + made ≤ party_left m party
through_left party zero m n g goes few = omega (arith, ap (λ (w : World). party_left w party) goes)
through_left party (suc made) m n g goes few =
    let is : goes.0 ≡ happens m party GoOn = (goes.1).2 in
    let next : (goes.0).moments ≡ successor m.moments
    = ap (λ (w : World). w.moments) is ∙ happens_moments m party GoOn (goes.1).0 in
    let bound : m.moments < 2 ^ 63 = fewer m.moments (goes.0).moments next
    (omega (arith, through_grows party made goes.0 n goes.2 few, few)) in
    let on = going_on m party g (goes.1).1 bound in
    let rest = through_left party made goes.0 n (subst (λ (w : World). IsGoing w party) (sym is) on.0) goes.2 few in
    omega (arith, rest, on.1, ap (λ (w : World). party_left w party) is)
