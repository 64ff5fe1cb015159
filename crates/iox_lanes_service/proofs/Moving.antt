-- How many steps the calls of lanes in turn make at most.
use Rattle.std.proofs.Common.{ℕ, zero, suc, ◌≡◌, ◌+◌, ◌-◌, ◌*◌, ◌<◌, ◌≤◌, ◌^◌, ◌⊎◌, nat_lt, if◌then◌else◌, Bool, true, false, List, length}
use Rattle.std.proofs.Common.{slice_get, Option, Some, None, refl, sym, ◌∙◌, ap, subst, inl, inr, arith}
use Rattle.std.proofs.lemmas.Bool.{cases_lt}
use Rattle.iox_lanes_machine.specs.QueuesSteps.Access.{successor}
use Rattle.iox_lanes_machine.specs.QueuesSteps.Ends.{pop_first, pop_next}
use Rattle.iox_lanes_machine.specs.QueuesSteps.declared.access.Access.TheVariants as own
use Rattle.iox_lanes_machine.specs.QueuesSteps.declared.rings.ends.RingKind.{RingKind}
use Rattle.iox_lanes_machine.specs.QueuesSteps.declared.rings.ends.RingKind.TheVariants as kind
use Rattle.iox_lanes_machine.specs.QueuesSteps.declared.schedule.Stepped.TheVariants as stepped
use Rattle.iox_lanes_machine.specs.LanesBase.Publishing.{publisher_is_idle, write_from}
use Rattle.iox_lanes_machine.specs.LanesBase.Subscribing.{is_full_at, receive_from, subscriber_is_idle}
use Rattle.iox_lanes_machine.specs.LanesBase.Table.{TableWords}
use Rattle.iox_lanes_machine.specs.LanesBase.declared.calls.route.Route.{Route}
use Rattle.iox_lanes_machine.specs.LanesBase.declared.calls.subscriber.SlotExtent.{SlotExtent}
use Rattle.iox_lanes_machine.specs.LanesBase.declared.calls.subscriber.SubscriberCall.TheVariants as subscribing
use Rattle.iox_lanes_machine.specs.LanesBase.declared.words.sizes.TableSizes.{TableSizes}
use Rattle.iox_lanes_machine.specs.LanesParties.Parties.{PublisherLaneState, SubscriberLaneState, head_of, is_route, place_of}
use Rattle.iox_lanes_machine.specs.LanesParties.Parties.{publisher_begun, publisher_fits, publisher_may, release_begun, route_at}
use Rattle.iox_lanes_machine.specs.LanesParties.Parties.{subscriber_begun, subscriber_fits, subscriber_may}
use Rattle.iox_lanes_machine.specs.LanesParties.PublisherKeeping.{BookState}
use Rattle.iox_lanes_machine.specs.LanesParties.declared.call.Call.{Call}
use Rattle.iox_lanes_machine.specs.LanesParties.declared.call.Call.TheVariants as call
use Rattle.iox_lanes_machine.specs.LanesParties.declared.call.Move.TheVariants.{Begin, GoOn}
use Rattle.iox_lanes_machine.specs.LanesParties.declared.call.Party.{Party}
use Rattle.iox_lanes_machine.specs.LanesParties.declared.call.Party.TheVariants.{Publisher, Subscriber}
use Rattle.iox_lanes_machine.specs.Kept.{IsKept}
use Rattle.iox_lanes_machine.specs.LedgerRooms.{slots_at}
use Rattle.iox_lanes_machine.specs.Made.{table_sizes}
use Rattle.iox_lanes_machine.specs.Pace.{steps_left, sweeps_left}
use Rattle.iox_lanes_machine.specs.Reads.{width}
use Rattle.iox_lanes_machine.specs.World.{World, StepsTo, subscriber_begins, subscriber_fits_at}
use Rattle.iox_lanes_machine.specs.declared.sizes.LaneSizes.{LaneSizes}
use Rattle.iox_lanes_machine.proofs.Calls.{no_place, no_route}
use Rattle.iox_lanes_machine.proofs.LanesParties.Rings.{and_right}
use Rattle.iox_lanes_machine.proofs.Pace.{head_left, loan_left}
use Rattle.iox_lanes_machine.proofs.Paces.{came_kept, may_begin}
use Rattle.iox_lanes_machine.proofs.ReturnSteps.{happens_ends}
use Rattle.iox_lanes_machine.proofs.Steps.{happens_moments}
use Rattle.iox_lanes_machine.proofs.Whole.{happens_keeps}
use Rattle.iox_lanes_machine.proofs.Within.{publisher_routes, set_same, subscriber_routes}
use Rattle.iox_lanes_laws.specs.Turns.{GoesToEnd, IsInTurn}
use Rattle.iox_lanes_laws.proofs.Chains.{fewer}
use Rattle.iox_lanes_laws.proofs.SubscriberCourses.{Goes}
use Rattle.iox_lanes_service.specs.InTurn.{Turns, RunsOut, most_steps}
use Rattle.iox_lanes_service.specs.Turning.{AreTurns, GoesThrough, StopsWithin, TurnsGoOn}
use Rattle.iox_lanes_service.specs.declared.in_turn.RanOut.{RanOut}
use Rattle.iox_lanes_service.specs.declared.in_turn.RanOut.TheVariants as out
use Rattle.iox_lanes_service.proofs.Ending.{IsGoing, party_left, publisher_left, reader_left, subscriber_left, through_grows, through_left}
use Rattle.iox_lanes_service.proofs.Ending.{through_moments, visit_left}
use Rattle.iox_lanes_service.proofs.Stopping.{begun_inside}

-- ---- a publisher's call that begins

write_left : (cells connections words : ℕ) (book : BookState) (slot word : ℕ) (at : Option ℕ)
    → steps_left cells connections words book (write_from slot word at) ≤ words - word + 1
write_left cells connections words book slot word None = omega arith
write_left cells connections words book slot word (Some value) = omega arith

publisher_starts_left : (cells words moment : ℕ) (asking : Call) (lane : PublisherLaneState) → publisher_fits lane (Begin asking) ≡ true
    → ((place : ℕ) → place < length lane.port.routes → slots_at lane.port.book place ≤ cells)
    → steps_left cells (length lane.port.routes) words (publisher_begun moment asking lane).port.book
    (publisher_begun moment asking lane).port.call
    ≤ words + sweeps_left cells (length lane.port.routes) + 6 * length lane.port.routes + 2
publisher_starts_left cells words moment call.LoanUninit lane fit most =
    let all : length lane.port.routes - 0 ≡ length lane.port.routes = omega arith in
    omega (
      arith,
      loan_left cells words lane.port.routes lane.port.book 0 (slice_get lane.port.routes 0) refl most,
      ap (sweeps_left cells) all,
    )
publisher_starts_left cells words moment (call.Write loan payload user_header) lane fit most
    = omega (arith, write_left cells (length lane.port.routes) words lane.port.book loan 0 (slice_get payload.items 0))
publisher_starts_left cells words moment (call.Send loan) lane fit most
    = omega (arith, head_left cells (length lane.port.routes) words lane.port.book loan 0 (slice_get (head_of loan lane) 0))
publisher_starts_left cells words moment (call.DropLoan loan) lane fit most = omega arith
publisher_starts_left cells words moment call.Receive lane fit most
    = absurd (cc (and_right (publisher_is_idle lane.port.call) (publisher_may lane call.Receive) fit))
publisher_starts_left cells words moment (call.Read sample) lane fit most
    = absurd (cc (and_right (publisher_is_idle lane.port.call) (publisher_may lane (call.Read sample)) fit))
publisher_starts_left cells words moment (call.Release sample) lane fit most
    = absurd (cc (and_right (publisher_is_idle lane.port.call) (publisher_may lane (call.Release sample)) fit))

-- ---- a subscriber's

first_goes : (k : RingKind) (full : Bool) → pop_next (pop_first k full) ≡ own.Local → ⊥
first_goes kind.Overflowing true quiet = absurd (cc quiet)
first_goes kind.Overflowing false quiet = absurd (cc quiet)
first_goes kind.Refusing true quiet = absurd (cc quiet)
first_goes kind.Refusing false quiet = absurd (cc quiet)

wide : (table : TableWords) → 3 ≤ width table.sizes
wide table =
    let low : 3 ≤ 3 + table.sizes.user_header_words + table.sizes.payload_words = omega arith in
    low

-- what stands at the begin of a call: it has steps left, and goes on
abbrev Starts : TableWords → SubscriberLaneState → SubscriberLaneState → Type 0
Starts table lane begun =
    Goes begun.port.call
    × (reader_left table (length lane.port.routes) begun.port.call ≤ 8 * length lane.port.routes + width table.sizes + 2)

receive_starts : (table : TableWords) (routes : List Route) (full : Bool) (at : Option Route) → slice_get routes 0 ≡ at
    → Goes (receive_from 0 full false at)
    × (reader_left table (length routes) (receive_from 0 full false at) ≤ 8 * length routes + width table.sizes + 2)
receive_starts table routes full None e = (tt, omega arith)
receive_starts table routes full (Some route) e =
    (first_goes route.kind full, omega (arith, visit_left table routes 0 full false (Some route) e))

read_starts : (table : TableWords) (connections slot : ℕ) (extent : SlotExtent) (b : Bool)
    → Goes (if b then subscribing.Reading slot 0 extent else subscribing.WasRead slot)
    × (reader_left table connections (if b then subscribing.Reading slot 0 extent else subscribing.WasRead slot)
    ≤ 8 * connections + width table.sizes + 2)
read_starts table connections slot extent true = (tt, omega arith)
read_starts table connections slot extent false = (tt, omega arith)

release_starts : (table : TableWords) (moment sample : ℕ) (at : Option ℕ) (route : Option Route) (lane : SubscriberLaneState)
    → (route ≡ None → ⊥) → (at ≡ None → ⊥) → Starts table lane (release_begun moment sample at route lane)
release_starts table moment sample None route lane there some = absurd (some refl)
release_starts table moment sample (Some place) None lane there some = absurd (there refl)
release_starts table moment sample (Some place) (Some route) lane there some = (λ quiet. absurd (cc quiet), omega (arith, wide table))

subscriber_starts : (table : TableWords) (moment : ℕ) (asking : Call) (lane : SubscriberLaneState)
    → subscriber_fits lane (Begin asking) ≡ true → Starts table lane (subscriber_begun moment asking lane)
subscriber_starts table moment call.LoanUninit lane fit
    = absurd (cc (and_right (subscriber_is_idle lane.port.call) (subscriber_may lane call.LoanUninit) fit))
subscriber_starts table moment (call.Write loan payload user_header) lane fit
    = absurd (cc (and_right (subscriber_is_idle lane.port.call) (subscriber_may lane (call.Write loan payload user_header)) fit))
subscriber_starts table moment (call.Send loan) lane fit
    = absurd (cc (and_right (subscriber_is_idle lane.port.call) (subscriber_may lane (call.Send loan)) fit))
subscriber_starts table moment (call.DropLoan loan) lane fit
    = absurd (cc (and_right (subscriber_is_idle lane.port.call) (subscriber_may lane (call.DropLoan loan)) fit))
subscriber_starts table moment call.Receive lane fit = receive_starts table lane.port.routes
    (is_full_at lane.port.borrowed lane.port.most_borrowed 0) (slice_get lane.port.routes 0) refl
subscriber_starts table moment (call.Read sample) lane fit = read_starts table (length lane.port.routes) sample lane.port.extent
    (nat_lt 0 (3 + lane.port.extent.user_header_words + lane.port.extent.payload_words))
subscriber_starts table moment (call.Release sample) lane fit =
    let there : is_route (route_at (place_of sample lane) lane) ≡ true
    = and_right (subscriber_is_idle lane.port.call) (subscriber_may lane (call.Release sample)) fit in
    release_starts table moment sample (place_of sample lane) (route_at (place_of sample lane) lane) lane
    (no_route (route_at (place_of sample lane) lane) there) (no_place (place_of sample lane) lane there)

subscriber_begins_there : (m : World) (place : ℕ) (asking : Call) (at : Option SubscriberLaneState) → slice_get m.subscribers place ≡ at
    → subscriber_fits_at at (Begin asking) ≡ true
    → (lane : SubscriberLaneState) × (slice_get m.subscribers place ≡ Some lane) × (subscriber_fits lane (Begin asking) ≡ true)
    × (slice_get (subscriber_begins m place asking at).subscribers place ≡ Some (subscriber_begun m.moments asking lane))
    × ((subscriber_begins m place asking at).table ≡ m.table)
subscriber_begins_there m place asking None e fit = absurd (cc fit)
subscriber_begins_there m place asking (Some lane) e fit =
    (lane, e, fit, set_same m.subscribers place (subscriber_begun m.moments asking lane) lane e, refl)

-- ---- a call that begins

publisher_bound : (s b r u v p left : ℕ) → left ≤ (3 + u + v) + s * (4 * (b + r + 1) + 2) + 6 * s + 2
    → left + 2 ≤ 4 * s * (b + r + 3) + 8 * p + u + v + 7
publisher_bound s b r u v p left h = omega (arith, h)

subscriber_bound : (s b r u v p left : ℕ) → left ≤ 8 * p + (3 + u + v) + 2 → left + 2 ≤ 4 * s * (b + r + 3) + 8 * p + u + v + 7
subscriber_bound s b r u v p left h = omega (arith, h)

narrow_enough : (s b r u v p : ℕ) → 4 * s * (b + r + 3) + 8 * p + u + v + 7 < 2 ^ 61 → (3 + u + v < 2 ^ 61) × (p < 2 ^ 61)
narrow_enough s b r u v p h = (omega (arith, h), omega (arith, h))

module _ (sizes : LaneSizes) (m : World) (asking : Call) (n : World) (c : TurnsGoOn sizes m) (few : most_steps sizes < 2 ^ 61)
    (moments : m.moments ≤ 2 ^ 63) where
  narrow : (3 + sizes.user_header_words + sizes.payload_words < 2 ^ 61) × (sizes.publishers < 2 ^ 61)
  narrow = narrow_enough sizes.subscribers sizes.buffer sizes.most_borrowed sizes.user_header_words sizes.payload_words sizes.publishers few

  m_kept : IsKept m
  m_kept = (came_kept m c.came).0

  begun_kept : (party : Party) → StepsTo m party (Begin asking) stepped.Went n → IsKept n × (n.table.sizes ≡ table_sizes sizes)
  begun_kept party step = (
    subst IsKept (sym step.2) (happens_keeps m party (Begin asking) step.0 m_kept),
    ap (λ (w : World). w.table.sizes) step.2 ∙ (happens_ends m party (Begin asking) step.0 (m_kept).returns).sizes ∙ c.table,
  )

  publisher_going : (place : ℕ) → StepsTo m (Publisher place) (Begin asking) stepped.Went n
      → IsGoing n (Publisher place) × (party_left n (Publisher place) + 2 ≤ most_steps sizes)
  publisher_going place step =
      let k = begun_kept (Publisher place) step in
      let began = may_begin m place asking (slice_get m.publishers place) refl step.0 in
      let lane : PublisherLaneState = began.0 in
      let next : PublisherLaneState = publisher_begun m.moments asking lane in
      let now : slice_get n.publishers place ≡ Some next = ap (λ (w : World). slice_get w.publishers place) step.2 ∙ began.3 in
      let rooms = ((m_kept.rooms moments).publishers place lane began.1) in
      let routes : length next.port.routes ≡ sizes.subscribers =
      ap (λ (rs : List Route). length rs) (publisher_routes m.moments asking lane) ∙ c.sending place lane began.1 in
      let own_routes : length lane.port.routes ≡ sizes.subscribers = c.sending place lane began.1 in
      let starts = publisher_starts_left m.table.sizes.completion_cells (width m.table.sizes) m.moments asking lane began.2
      rooms.most in
      let starts_so : steps_left m.table.sizes.completion_cells (length lane.port.routes) (width m.table.sizes) next.port.book
      next.port.call ≤ width m.table.sizes + sweeps_left m.table.sizes.completion_cells (length lane.port.routes)
      + 6 * length lane.port.routes + 2 = starts in
      let of_table : steps_left (sizes.buffer + sizes.most_borrowed + 1) (length lane.port.routes)
      (3 + sizes.user_header_words + sizes.payload_words) next.port.book next.port.call
      ≤ (3 + sizes.user_header_words + sizes.payload_words)
      + sweeps_left (sizes.buffer + sizes.most_borrowed + 1) (length lane.port.routes) + 6 * length lane.port.routes + 2 =
      subst (λ (t : TableSizes). steps_left t.completion_cells (length lane.port.routes) (width t) next.port.book next.port.call
      ≤ width t + sweeps_left t.completion_cells (length lane.port.routes) + 6 * length lane.port.routes + 2) c.table starts_so in
      let of_sizes : steps_left (sizes.buffer + sizes.most_borrowed + 1) sizes.subscribers
      (3 + sizes.user_header_words + sizes.payload_words) next.port.book next.port.call
      ≤ (3 + sizes.user_header_words + sizes.payload_words)
      + sizes.subscribers * (4 * (sizes.buffer + sizes.most_borrowed + 1) + 2) + 6 * sizes.subscribers + 2 =
      subst (λ (s : ℕ). steps_left (sizes.buffer + sizes.most_borrowed + 1) s
      (3 + sizes.user_header_words + sizes.payload_words) next.port.book next.port.call
      ≤ (3 + sizes.user_header_words + sizes.payload_words)
      + s * (4 * (sizes.buffer + sizes.most_borrowed + 1) + 2) + 6 * s + 2) own_routes of_table in
      let is : party_left n (Publisher place) ≡ steps_left (sizes.buffer + sizes.most_borrowed + 1) sizes.subscribers
      (3 + sizes.user_header_words + sizes.payload_words) next.port.book next.port.call =
      ap (publisher_left n) now
      ∙ ap (λ (t : TableSizes). steps_left t.completion_cells (length next.port.routes) (width t) next.port.book next.port.call) k.1
      ∙ ap (λ (s : ℕ). steps_left (sizes.buffer + sizes.most_borrowed + 1) s
      (3 + sizes.user_header_words + sizes.payload_words) next.port.book next.port.call) routes in
      let bound = publisher_bound sizes.subscribers sizes.buffer sizes.most_borrowed sizes.user_header_words sizes.payload_words
      sizes.publishers _ of_sizes in (
        record {
          kept = k.0;
          inside = begun_inside m (Publisher place) asking n step;
          narrow = subst (λ (t : TableSizes). width t < 2 ^ 61) (sym k.1) narrow.0;
          reads = λ other it e there. absurd (cc e);
        },
        subst (λ (left : ℕ). left + 2 ≤ most_steps sizes) (sym is) bound,
      )

  subscriber_going : (place : ℕ) → StepsTo m (Subscriber place) (Begin asking) stepped.Went n
      → IsGoing n (Subscriber place) × (party_left n (Subscriber place) + 2 ≤ most_steps sizes)
  subscriber_going place step =
      let k = begun_kept (Subscriber place) step in
      let began = subscriber_begins_there m place asking (slice_get m.subscribers place) refl step.0 in
      let lane : SubscriberLaneState = began.0 in
      let next : SubscriberLaneState = subscriber_begun m.moments asking lane in
      let now : slice_get n.subscribers place ≡ Some next = ap (λ (w : World). slice_get w.subscribers place) step.2 ∙ began.3 in
      let table : n.table ≡ m.table = ap (λ (w : World). w.table) step.2 ∙ began.4 in
      let same : next.port.routes ≡ lane.port.routes = subscriber_routes m.moments asking lane in
      let own_routes : length lane.port.routes ≡ sizes.publishers = c.receiving place lane began.1 in
      let starts : Starts m.table lane next = subscriber_starts m.table m.moments asking lane began.2 in
      let is : party_left n (Subscriber place) ≡ reader_left m.table (length lane.port.routes) next.port.call =
      ap (subscriber_left n) now
      ∙ ap (λ (t : TableWords). reader_left t (length next.port.routes) next.port.call) table
      ∙ ap (λ (rs : List Route). reader_left m.table (length rs) next.port.call) same in
      let of_table : reader_left m.table (length lane.port.routes) next.port.call
      ≤ 8 * length lane.port.routes + (3 + sizes.user_header_words + sizes.payload_words) + 2 =
      subst (λ (t : TableSizes). reader_left m.table (length lane.port.routes) next.port.call
      ≤ 8 * length lane.port.routes + width t + 2) c.table starts.1 in
      let of_sizes : reader_left m.table (length lane.port.routes) next.port.call
      ≤ 8 * sizes.publishers + (3 + sizes.user_header_words + sizes.payload_words) + 2 = omega (arith, of_table, own_routes) in
      let bound = subscriber_bound sizes.subscribers sizes.buffer sizes.most_borrowed sizes.user_header_words sizes.payload_words
      sizes.publishers _ of_sizes in (
        record {
          kept = k.0;
          inside = begun_inside m (Subscriber place) asking n step;
          narrow = subst (λ (t : TableSizes). width t < 2 ^ 61) (sym k.1) narrow.0;
          reads = λ other it e its.
              let at : place ≡ other = cc e in
              let is_next : next ≡ it = some_same next it (sym now ∙ ap (slice_get n.subscribers) at ∙ its) in
              subst (λ (x : SubscriberLaneState). Goes x.port.call × (length x.port.routes < 2 ^ 61)) is_next
              (starts.0, omega (arith, ap (λ (rs : List Route). length rs) same, own_routes, narrow.1));
        },
        subst (λ (left : ℕ). left + 2 ≤ most_steps sizes) (sym is) bound,
      )
    where
      some_same : (x y : SubscriberLaneState) → Some x ≡ Some y → x ≡ y
      some_same x y e = cc e

  -- who began a call has at most n steps left
  begun_going : (party : Party) → StepsTo m party (Begin asking) stepped.Went n
      → IsGoing n party × (party_left n party + 2 ≤ most_steps sizes)
  begun_going (Publisher place) step = publisher_going place step
  begun_going (Subscriber place) step = subscriber_going place step

-- ---- whole calls

-- a call that goes to its end goes through all steps but the last
end_through : (party : Party) (more : ℕ) (m n : World) → GoesToEnd party more m n
    → (k : World) × GoesThrough party more m k × StepsTo k party GoOn stepped.Finished n
end_through party zero m n goes = (m, refl, goes)
end_through party (suc more) m n goes =
    let rest = end_through party more goes.0 n goes.2 in
    (rest.0, (goes.0, goes.1, rest.1), rest.2)

-- the first of some steps
first_through : (party : Party) (some made : ℕ) (m n : World) → some ≤ made → GoesThrough party made m n
    → (k : World) × GoesThrough party some m k
first_through party zero made m n low goes = (m, refl)
first_through party (suc some) zero m n low goes = absurd (omega (arith, low))
first_through party (suc some) (suc made) m n low goes =
    let rest = first_through party some made goes.0 n (omega (arith, low)) goes.2 in
    (rest.0, (goes.0, goes.1, rest.1))

begin_moments : (m : World) (party : Party) (asking : Call) (n : World) → StepsTo m party (Begin asking) stepped.Went n
    → n.moments ≡ successor m.moments
begin_moments m party asking n step =
    ap (λ (w : World). w.moments) step.2 ∙ happens_moments m party (Begin asking) step.0

last_moments : (m : World) (party : Party) (n : World) → StepsTo m party GoOn stepped.Finished n → n.moments ≡ successor m.moments
last_moments m party n step = ap (λ (w : World). w.moments) step.2 ∙ happens_moments m party GoOn step.0

-- a whole call makes at most n steps
pub turn_moves : (sizes : LaneSizes) (m : World) (party : Party) (asking : Call) (n : World) → TurnsGoOn sizes m
    → IsInTurn m party asking n → most_steps sizes < 2 ^ 61 → n.moments ≤ m.moments + most_steps sizes
turn_moves sizes m party asking n c t few =
    let through = end_through party t.more t.begun n t.goes in
    let last = last_moments through.0 party n through.2 in
    let before : (through.0).moments < 2 ^ 63 = fewer (through.0).moments n.moments last t.few in
    let begun = begin_moments m party asking t.begun t.begins in
    let grows = through_grows party t.more t.begun through.0 through.1 (omega (arith, before)) in
    let going = begun_going sizes m asking t.begun c few (omega (arith, grows, begun, before)) party t.begins in
    let left = through_left party t.more t.begun through.0 going.0 through.1 (omega (arith, before)) in
    omega (arith, left, going.1, through_moments party t.more t.begun through.0 through.1, begun, last)

-- so no call goes through as many, from where few steps were made
never_through : (sizes : LaneSizes) (m : World) (party : Party) (asking : Call) (begun : World) (made : ℕ) (n : World)
    → TurnsGoOn sizes m → most_steps sizes < 2 ^ 61 → m.moments < 2 ^ 61 → StepsTo m party (Begin asking) stepped.Went begun
    → GoesThrough party made begun n → most_steps sizes ≤ made → ⊥
never_through sizes m party asking begun made n c few moments begins goes many =
    let part = first_through party (most_steps sizes) made begun n many goes in
    let start = begin_moments m party asking begun begins in
    let end = through_moments party (most_steps sizes) begun part.0 part.1 in
    let going = begun_going sizes m asking begun c few (omega (arith, moments)) party begins in
    let left = through_left party (most_steps sizes) begun part.0 going.0 part.1 (omega (arith, end, start, moments, few)) in
    omega (arith, left, going.1)

part_few : (count most : ℕ) → (count + 1) * most < 2 ^ 61 → most < 2 ^ 61
part_few count most h = omega (arith, h)

rest_few : (count most before : ℕ) → (count + 1) * most < 2 ^ 61 → before ≤ count * most → before < 2 ^ 61
rest_few count most before h low = omega (arith, h, low)

-- what ran out, where a turn stopped
pub runs_out : (turns : Turns) (m : World) (party : Party) (asking : Call) (why : RanOut) (n : World) → AreTurns None turns m
    → StopsWithin m party asking why n → RunsOut turns why
runs_out turns m party asking out.Memory n a s = tt
runs_out turns m party asking (out.Steps made) n a s = (s.stopped.0, by_size (cases_lt (_) (2 ^ 61)))
  where
    by_size : ((length turns.asked + 1) * most_steps turns.sizes < 2 ^ 61) ⊎ (2 ^ 61 ≤ (length turns.asked + 1) * most_steps turns.sizes)
        → 2 ^ 61 ≤ (length turns.asked + 1) * most_steps turns.sizes
    by_size (inr many) = many
    by_size (inl few) =
        let some : most_steps turns.sizes < 2 ^ 61 = part_few (length turns.asked) (most_steps turns.sizes) few in
        absurd (never_through turns.sizes m party asking s.begun made n (a.goes refl) some
        (rest_few (length turns.asked) (most_steps turns.sizes) m.moments few (a.moved refl some)) s.begins s.stopped.1
        (omega (arith, some, s.stopped.0)))
runs_out turns m party asking (out.Moments made) n a s = (s.stopped.0, by_size (cases_lt (_) (2 ^ 61)))
  where
    by_size : ((length turns.asked + 1) * most_steps turns.sizes < 2 ^ 61) ⊎ (2 ^ 61 ≤ (length turns.asked + 1) * most_steps turns.sizes)
        → 2 ^ 61 ≤ (length turns.asked + 1) * most_steps turns.sizes
    by_size (inr many) = many
    by_size (inl few) =
        let some : most_steps turns.sizes < 2 ^ 61 = part_few (length turns.asked) (most_steps turns.sizes) few in
        let low : m.moments < 2 ^ 61 = rest_few (length turns.asked) (most_steps turns.sizes) m.moments few (a.moved refl some) in
        let goes = s.stopped.2 in
        let through = end_through party goes.0 s.begun n goes.1 in
        let last = last_moments through.0 party n through.2 in
        let start = begin_moments m party asking s.begun s.begins in
        let end = through_moments party goes.0 s.begun through.0 through.1 in
        absurd (never_through turns.sizes m party asking s.begun goes.0 through.0 (a.goes refl) some low s.begins through.1
        (omega (arith, some, low, last, start, end, s.stopped.0, s.stopped.1)))

-- so it is told of lanes that weren't stuck before
pub stuck_so : (ran_out : Option RanOut) (turns : Turns) (m n : World) (party : Party) (asking : Call) (why : RanOut)
    → AreTurns ran_out turns m → ran_out ≡ None → StopsWithin m party asking why n → RunsOut turns why
stuck_so ran_out turns m n party asking why a none s =
    runs_out turns m party asking why n (subst (λ (it : Option RanOut). AreTurns it turns m) none a) s
