-- Each step of a call leaves it fewer steps.
use Rattle.std.proofs.Common.{ℕ, suc, ◌≡◌, ◌+◌, ◌-◌, ◌*◌, ◌<◌, ◌≤◌, ◌^◌, ◌==◌, Bool, true, false, nat_lt, if◌then◌else◌, List, length}
use Rattle.std.proofs.Common.{slice_get, Option, Some, None, refl, ◌∙◌, ap, arith}
use Rattle.std.proofs.lemmas.Option.{slice_get_within}
use Rattle.iox_lanes_parties.specs.QueuesSteps.Access.{successor}
use Rattle.iox_lanes_parties.specs.QueuesSteps.declared.order.PushAnswer.TheVariants.{Kept, LeftOut, Refused}
use Rattle.iox_lanes_parties.specs.QueuesSteps.declared.rings.overflowing.push.Push.TheVariants as overflowing_push
use Rattle.iox_lanes_parties.specs.QueuesSteps.Refusing as refusing
use Rattle.iox_lanes_parties.specs.QueuesSteps.declared.rings.refusing.push.Push.TheVariants as refusing_push
use Rattle.iox_lanes_parties.specs.QueuesSteps.declared.rings.refusing.pop.Pop.{Pop}
use Rattle.iox_lanes_parties.specs.QueuesSteps.declared.rings.refusing.pop.Pop.TheVariants as pop
use Rattle.iox_lanes_parties.specs.QueuesSteps.Ends.{push_begun}
use Rattle.iox_lanes_parties.specs.QueuesSteps.declared.rings.ends.RingKind.{RingKind}
use Rattle.iox_lanes_parties.specs.QueuesSteps.declared.rings.ends.RingKind.TheVariants as kind
use Rattle.iox_lanes_parties.specs.QueuesSteps.declared.rings.ends.Push.{Push}
use Rattle.iox_lanes_parties.specs.QueuesSteps.declared.rings.ends.Push.TheVariants as ring
use Rattle.iox_lanes_parties.specs.LanesBase.Answers.{push_answer, refusing_pop_answer}
use Rattle.iox_lanes_parties.specs.LanesBase.Publishing.{publisher_is_idle, loan_from, push_from, sweep_from, nothing_sent, counted}
use Rattle.iox_lanes_parties.specs.LanesBase.Publishing.{pushed, taken_back, loan_reclaimed, send_reclaimed, publisher_take}
use Rattle.iox_lanes_parties.specs.LanesBase.Publishing.{publisher_change, push_change, write_from, head_from}
use Rattle.iox_lanes_parties.specs.LanesBase.declared.calls.publisher.Delivery.{Delivery}
use Rattle.iox_lanes_parties.specs.LanesBase.declared.calls.publisher.PublisherCall.{PublisherCall}
use Rattle.iox_lanes_parties.specs.LanesBase.declared.calls.publisher.PublisherCall.TheVariants as publishing
use Rattle.iox_lanes_parties.specs.LanesBase.declared.calls.publisher.PublisherChange.TheVariants as change
use Rattle.iox_lanes_parties.specs.LanesBase.declared.calls.route.Route.{Route}
use Rattle.iox_lanes_parties.specs.PublisherKeeping.{BookState, changed}
use Rattle.iox_lanes_machine.specs.Pace.{pushing_left, sweeps_left, steps_left}
use Rattle.iox_lanes_machine.specs.LedgerRooms.{slots_at, PushGoes, HasRooms}
use Rattle.iox_lanes_machine.specs.LedgerUses.{UsesCounted, ChangeFits}
use Rattle.iox_lanes_machine.proofs.Rooms.{slots_there, slots_else}
use Rattle.iox_lanes_machine.proofs.Sending.{IsThere}

-- one connection fewer to take back at
one_sweep : (cells connections n : ℕ) → n < connections
    → sweeps_left cells (connections - n) ≡ sweeps_left cells (connections - n - 1) + (4 * cells + 2)
one_sweep cells connections n below =
    let e : connections - n ≡ suc (connections - n - 1) = omega (arith, below) in
    ap (λ (k : ℕ). k * (4 * cells + 2)) e ∙ row (connections - n - 1) (4 * cells + 2)
  where
    row : (k c : ℕ) → suc k * c ≡ k * c + c
    row k c = omega arith

-- the stages after a connection
pub loan_left : (cells words : ℕ) (routes : List Route) (book : BookState) (n : ℕ) (at : Option Route) → slice_get routes n ≡ at
    → ((place : ℕ) → place < length routes → slots_at book place ≤ cells)
    → steps_left cells (length routes) words book (loan_from n at) ≤ sweeps_left cells (length routes - n) + 1
loan_left cells words routes book n None e most = omega arith
loan_left cells words routes book n (Some route) e most =
    let below : n < length routes = slice_get_within routes n route e in
    omega (arith, one_sweep cells (length routes) n below, most n below)

pub push_left : (cells words : ℕ) (routes : List Route) (book : BookState) (slot n : ℕ) (delivery : Delivery) (at : Option Route)
    → slice_get routes n ≡ at
    → steps_left cells (length routes) words book (push_from slot n delivery at) ≤ 6 * (length routes - n) + 1
push_left cells words routes book slot n delivery None e = omega arith
push_left cells words routes book slot n delivery (Some route) e =
    let below : n < length routes = slice_get_within routes n route e in
    omega (arith, below, six route.kind route.limit slot)
  where
    six : (k : RingKind) (limit value : ℕ) → pushing_left (push_begun k limit value) ≤ 6
    six kind.Overflowing limit value = omega arith
    six kind.Refusing limit value = omega arith

pub sweep_left : (cells words : ℕ) (routes : List Route) (book : BookState) (slot n : ℕ) (at : Option Route) → slice_get routes n ≡ at
    → ((place : ℕ) → place < length routes → slots_at book place ≤ cells)
    → steps_left cells (length routes) words book (sweep_from routes slot n at)
    ≤ sweeps_left cells (length routes - n) + 6 * length routes + 1
sweep_left cells words routes book slot n None e most
    = omega (arith, push_left cells words routes book slot 0 nothing_sent (slice_get routes 0) refl)
sweep_left cells words routes book slot n (Some route) e most =
    let below : n < length routes = slice_get_within routes n route e in
    omega (arith, one_sweep cells (length routes) n below, most n below)

-- a loan that takes back
loan_falls : (cells words : ℕ) (routes : List Route) (stored : List ℕ) (book : BookState) (at : ℕ) (route : Route) (p : Pop) (a : ℕ)
    → at < length routes
    → ChangeFits (length routes) book (publisher_change (publishing.LoanReclaims at route p) a) → UsesCounted (length routes) book
    → HasRooms cells (length routes) book (publishing.LoanReclaims at route p)
    → steps_left cells (length routes) words (changed (publisher_change (publishing.LoanReclaims at route p) a) book)
    (publisher_take routes stored (publishing.LoanReclaims at route p) a) < steps_left cells (length routes) words book
    (publishing.LoanReclaims at route p)
loan_falls cells words routes stored book at route pop.Idle a there fits c k = absurd k.takes
loan_falls cells words routes stored book at route pop.Begun a there fits c k = omega arith
loan_falls cells words routes stored book at route (pop.SawRead seen) a there fits c k = by_test (a == seen)
  where
    by_test : (b : Bool) → steps_left cells (length routes) words
        (changed (taken_back at (refusing_pop_answer (refusing.pop_emptied b seen))) book)
        (loan_reclaimed routes at route (refusing.pop_emptied b seen) (refusing_pop_answer (refusing.pop_emptied b seen)))
        < steps_left cells (length routes) words book (publishing.LoanReclaims at route (pop.SawRead seen))
    by_test true =
        let next : successor at ≡ at + 1 = omega (arith, there, c.few) in
        let less : length routes - successor at ≡ length routes - at - 1 = omega (arith, next) in
        omega (
          arith,
          loan_left cells words routes book (successor at) (slice_get routes (successor at)) refl k.most,
          ap
              (sweeps_left cells) less,
        )
    by_test false = omega arith
loan_falls cells words routes stored book at route (pop.Nonempty seen next) a there fits c k = omega (arith, k.takes)
loan_falls cells words routes stored book at route (pop.SawCell next value) a there fits c k
    = omega (arith, k.takes, slots_there (length routes) at (change.TakenBack at value) book refl fits c)
loan_falls cells words routes stored book at route (pop.Popped got) a there fits c k = absurd k.takes
loan_falls cells words routes stored book at route pop.LookBegun a there fits c k = absurd k.takes
loan_falls cells words routes stored book at route (pop.LookRead seen) a there fits c k = absurd k.takes
loan_falls cells words routes stored book at route (pop.Looked some) a there fits c k = absurd k.takes

-- so does a send
send_falls : (cells words : ℕ) (routes : List Route) (stored : List ℕ) (book : BookState) (slot at : ℕ) (route : Route) (p : Pop)
    (a : ℕ) → at < length routes
    → ChangeFits (length routes) book (publisher_change (publishing.SendReclaims slot at route p) a) → UsesCounted (length routes) book
    → HasRooms cells (length routes) book (publishing.SendReclaims slot at route p)
    → steps_left cells (length routes) words (changed (publisher_change (publishing.SendReclaims slot at route p) a) book)
    (publisher_take routes stored (publishing.SendReclaims slot at route p) a) < steps_left cells (length routes) words book
    (publishing.SendReclaims slot at route p)
send_falls cells words routes stored book slot at route pop.Idle a there fits c k = absurd k.takes
send_falls cells words routes stored book slot at route pop.Begun a there fits c k = omega arith
send_falls cells words routes stored book slot at route (pop.SawRead seen) a there fits c k = by_test (a == seen)
  where
    by_test : (b : Bool) → steps_left cells (length routes) words
        (changed (taken_back at (refusing_pop_answer (refusing.pop_emptied b seen))) book)
        (send_reclaimed routes slot at route (refusing.pop_emptied b seen) (refusing_pop_answer (refusing.pop_emptied b seen)))
        < steps_left cells (length routes) words book (publishing.SendReclaims slot at route (pop.SawRead seen))
    by_test true =
        let next : successor at ≡ at + 1 = omega (arith, there, c.few) in
        let less : length routes - successor at ≡ length routes - at - 1 = omega (arith, next) in
        omega (
          arith,
          sweep_left cells words routes book slot (successor at) (slice_get routes (successor at)) refl k.most,
          ap
              (sweeps_left cells) less,
        )
    by_test false = omega arith
send_falls cells words routes stored book slot at route (pop.Nonempty seen next) a there fits c k = omega (arith, k.takes)
send_falls cells words routes stored book slot at route (pop.SawCell next value) a there fits c k
    = omega (arith, k.takes, slots_there (length routes) at (change.TakenBack at value) book refl fits c)
send_falls cells words routes stored book slot at route (pop.Popped got) a there fits c k = absurd k.takes
send_falls cells words routes stored book slot at route pop.LookBegun a there fits c k = absurd k.takes
send_falls cells words routes stored book slot at route (pop.LookRead seen) a there fits c k = absurd k.takes
send_falls cells words routes stored book slot at route (pop.Looked some) a there fits c k = absurd k.takes

-- a push that is over goes on to the next connection
over_left : (cells words : ℕ) (routes : List Route) (book : BookState) (slot at : ℕ) (delivery : Delivery) → at < length routes
    → at < 2 ^ 62
    → steps_left cells (length routes) words book (push_from slot (successor at) delivery (slice_get routes (successor at)))
    ≤ 6 * (length routes - at - 1) + 1
over_left cells words routes book slot at delivery there small =
    let next : successor at ≡ at + 1 = omega (arith, small) in
    omega (arith, push_left cells words routes book slot (successor at) delivery (slice_get routes (successor at)) refl, next)

push_falls : (cells words : ℕ) (routes : List Route) (stored : List ℕ) (book : BookState) (slot at : ℕ) (route : Route) (p : Push)
    (delivery : Delivery) (a : ℕ) → at < length routes → at < 2 ^ 62 → PushGoes p
    → steps_left cells (length routes) words (changed (push_change at p a) book)
    (publisher_take routes stored (publishing.Pushing slot at route p delivery) a) < steps_left cells (length routes) words book
    (publishing.Pushing slot at route p delivery)
push_falls cells words routes stored book slot at route (ring.Overflowing overflowing_push.Idle) delivery a there small goes = absurd goes
push_falls cells words routes stored book slot at route (ring.Overflowing (overflowing_push.Begun limit value)) delivery a there small
    goes = omega arith
push_falls cells words routes stored book slot at route (ring.Overflowing (overflowing_push.SawWrite limit value write next)) delivery a
    there small goes = omega arith
push_falls cells words routes stored book slot at route (ring.Overflowing (overflowing_push.SawRead limit value write next seen))
    delivery a there small goes = omega arith
push_falls cells words routes stored book slot at route (ring.Overflowing (overflowing_push.Filled limit value write next seen))
    delivery a there small goes = by_test (nat_lt limit (next - seen))
  where
    by_test : (b : Bool) → steps_left cells (length routes) words (changed (change.Put at value) book)
        (pushed routes slot at route (ring.Overflowing
        (if b then overflowing_push.Full value seen (successor seen) else overflowing_push.Pushed value Kept)) delivery
        (push_answer (ring.Overflowing (if b then overflowing_push.Full value seen (successor seen) else overflowing_push.Pushed value
        Kept)))) < 3 + 6 * (length routes - at - 1) + 1
    by_test true = omega arith
    by_test false = omega
        (arith, over_left cells words routes (changed (change.Put at value) book) slot at (counted delivery Kept) there small)
push_falls cells words routes stored book slot at route (ring.Overflowing (overflowing_push.Full value seen next)) delivery a there
    small goes = omega arith
push_falls cells words routes stored book slot at route (ring.Overflowing (overflowing_push.SawOldest value seen next oldest)) delivery
    a there small goes = by_test (a == seen)
  where
    by_test : (b : Bool) → steps_left cells (length routes) words
        (changed (if b then change.LeftOut at oldest else change.Nothing) book)
        (push_from slot (successor at) (counted delivery (if b then LeftOut oldest else Kept)) (slice_get routes (successor at))) < 1 +
        6 * (length routes - at - 1) + 1
    by_test true = omega (
      arith,
      over_left cells words routes (changed (change.LeftOut at oldest) book) slot at
          (counted delivery (LeftOut oldest)) there small,
    )
    by_test false = omega (arith, over_left cells words routes book slot at (counted delivery Kept) there small)
push_falls cells words routes stored book slot at route (ring.Overflowing (overflowing_push.Pushed value answered)) delivery a there
    small goes = absurd goes
push_falls cells words routes stored book slot at route (ring.Refusing refusing_push.Idle) delivery a there small goes = absurd goes
push_falls cells words routes stored book slot at route (ring.Refusing (refusing_push.Begun limit value)) delivery a there small goes
    = omega arith
push_falls cells words routes stored book slot at route (ring.Refusing (refusing_push.SawWrite limit value write next)) delivery a there
    small goes = by_test (nat_lt (write - a) limit)
  where
    by_test : (b : Bool) → steps_left cells (length routes) words book
        (pushed routes slot at route (ring.Refusing
        (if b then refusing_push.SawRoom value write next else refusing_push.Pushed value Refused)) delivery
        (push_answer (ring.Refusing (if b then refusing_push.SawRoom value write next else refusing_push.Pushed value Refused)))) < 3 +
        6 * (length routes - at - 1) + 1
    by_test true = omega arith
    by_test false = omega (arith, over_left cells words routes book slot at (counted delivery Refused) there small)
push_falls cells words routes stored book slot at route (ring.Refusing (refusing_push.SawRoom value write next)) delivery a there small
    goes = omega arith
push_falls cells words routes stored book slot at route (ring.Refusing (refusing_push.Filled value next)) delivery a there small goes
    = omega (arith, over_left cells words routes (changed (change.Put at value) book) slot at (counted delivery Kept) there small)
push_falls cells words routes stored book slot at route (ring.Refusing (refusing_push.Pushed value answered)) delivery a there small
    goes = absurd goes

-- the words that a write or a send stores, one a step
write_left : (cells connections words : ℕ) (book : BookState) (slot word : ℕ) (at : Option ℕ)
    → steps_left cells connections words book (write_from slot word at) ≤ words - word + 1
write_left cells connections words book slot word None = omega arith
write_left cells connections words book slot word (Some value) = omega arith

pub head_left : (cells connections words : ℕ) (book : BookState) (slot word : ℕ) (at : Option ℕ)
    → steps_left cells connections words book (head_from slot word at) ≤ words - word + sweeps_left cells connections + 6 * connections + 2
head_left cells connections words book slot word None = omega arith
head_left cells connections words book slot word (Some value) = omega arith

-- a call stands at one of n words
abbrev pub StoresWord : ℕ → PublisherCall → Type 0
StoresWord words publishing.Idle = Unit {0}
StoresWord words (publishing.LoanReclaims at route p) = Unit {0}
StoresWord words publishing.Lending = Unit {0}
StoresWord words (publishing.Writing slot word value) = (word < words) × (word < 2 ^ 62)
StoresWord words (publishing.Written slot) = Unit {0}
StoresWord words (publishing.Heading slot word value) = (word < words) × (word < 2 ^ 62)
StoresWord words (publishing.Remembering slot) = Unit {0}
StoresWord words (publishing.SendReclaims slot at route p) = Unit {0}
StoresWord words (publishing.Pushing slot at route push delivery) = Unit {0}
StoresWord words (publishing.Sent slot delivery) = Unit {0}
StoresWord words (publishing.Dropping slot) = Unit {0}

-- each step of a publisher leaves it fewer
pub steps_fall : (cells words : ℕ) (routes : List Route) (stored : List ℕ) (book : BookState) (call : PublisherCall) (a : ℕ)
    → publisher_is_idle call ≡ false → IsThere routes call → StoresWord words call
    → ChangeFits (length routes) book (publisher_change call a)
    → UsesCounted (length routes) book → HasRooms cells (length routes) book call
    → steps_left cells (length routes) words (changed (publisher_change call a) book) (publisher_take routes stored call a) < steps_left
    cells (length routes) words book call
steps_fall cells words routes stored book publishing.Idle a busy there stores fits c k = absurd (cc busy)
steps_fall cells words routes stored book (publishing.LoanReclaims at route p) a busy there stores fits c k
    = loan_falls cells words routes stored book at route p a (slice_get_within routes at route there) fits c k
steps_fall cells words routes stored book publishing.Lending a busy there stores fits c k = omega arith
steps_fall cells words routes stored book (publishing.Writing slot word value) a busy there stores fits c k
    = omega (
      arith,
      write_left cells (length routes) words book slot (successor word) (slice_get stored (successor word)),
      stores.0,
      stores.1,
    )
steps_fall cells words routes stored book (publishing.Written slot) a busy there stores fits c k = omega arith
steps_fall cells words routes stored book (publishing.Heading slot word value) a busy there stores fits c k
    = omega (
      arith,
      head_left cells (length routes) words book slot (successor word) (slice_get stored (successor word)),
      stores.0,
      stores.1,
    )
steps_fall cells words routes stored book (publishing.Remembering slot) a busy there stores fits c k =
    let all : length routes - 0 ≡ length routes = omega arith in
    omega (
      arith,
      ap (sweeps_left cells) all,
      sweep_left cells words routes (changed (change.Remember slot) book) slot 0
          (slice_get routes 0) refl (λ place below. omega (arith, k.most place below, slots_else (change.Remember slot) book place tt)),
    )
steps_fall cells words routes stored book (publishing.SendReclaims slot at route p) a busy there stores fits c k
    = send_falls cells words routes stored book slot at route p a (slice_get_within routes at route there) fits c k
steps_fall cells words routes stored book (publishing.Pushing slot at route p delivery) a busy there stores fits c k =
    let below : at < length routes = slice_get_within routes at route there in
    push_falls cells words routes stored book slot at route p delivery a below (omega (arith, below, c.few)) k.takes
steps_fall cells words routes stored book (publishing.Sent slot delivery) a busy there stores fits c k = omega arith
steps_fall cells words routes stored book (publishing.Dropping slot) a busy there stores fits c k = omega arith
