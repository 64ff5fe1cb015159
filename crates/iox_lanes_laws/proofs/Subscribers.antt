-- A subscriber's own steps from the begin of a call to its end, and nobody else's between them.
use Rattle.std.proofs.Common.{ℕ, zero, suc, ◌≡◌, ◌+◌, ◌<◌, ◌≤◌, ◌^◌, Bool, true, false, List, [], ◌++◌, length, get_or, slice_get, Option}
use Rattle.std.proofs.Common.{Some, None, refl, sym, ◌∙◌, ap, subst, arith, append-nil}
use Rattle.iox_lanes_machine.specs.QueuesSteps.Access.{successor}
use Rattle.iox_lanes_machine.specs.QueuesSteps.declared.order.Placed.{Placed}
use Rattle.iox_lanes_machine.specs.LanesBase.Subscribing.{subscriber_next, subscriber_change, subscriber_is_idle, subscriber_is_over}
use Rattle.iox_lanes_machine.specs.LanesBase.Subscribing.{subscriber_take}
use Rattle.iox_lanes_machine.specs.LanesBase.declared.calls.route.Route.{Route}
use Rattle.iox_lanes_machine.specs.LanesBase.declared.calls.subscriber.SubscriberCall.{SubscriberCall}
use Rattle.iox_lanes_machine.specs.LanesBase.declared.calls.subscriber.SubscriberCall.TheVariants as subscribing
use Rattle.iox_lanes_machine.specs.LanesParties.Parties.{SubscriberLaneState, name_of, subscriber_may, subscriber_fits, subscriber_begun}
use Rattle.iox_lanes_machine.specs.LanesParties.Parties.{subscriber_after, subscriber_answer, release_begun, place_of, route_at, is_route}
use Rattle.iox_lanes_machine.specs.LanesParties.Parties.{words_read}
use Rattle.iox_lanes_machine.specs.LanesParties.declared.call.Answer.{Answer}
use Rattle.iox_lanes_machine.specs.LanesParties.declared.call.Call.{Call}
use Rattle.iox_lanes_machine.specs.LanesParties.declared.call.Call.TheVariants as call
use Rattle.iox_lanes_machine.specs.LanesParties.declared.call.CallName.{CallName}
use Rattle.iox_lanes_machine.specs.LanesParties.declared.call.FinishedCall.{FinishedCall}
use Rattle.iox_lanes_machine.specs.LanesParties.declared.call.Move.TheVariants.{Begin, GoOn}
use Rattle.iox_lanes_machine.specs.LanesParties.declared.call.Party.TheVariants.{Subscriber}
use Rattle.iox_lanes_machine.specs.LanesBase.Table.{after_shared}
use Rattle.iox_lanes_machine.proofs.LanesParties.Rings.{and_right}
use Rattle.iox_lanes_machine.specs.Kept.{IsKept}
use Rattle.iox_lanes_machine.specs.Links.{LinkState}
use Rattle.iox_lanes_machine.specs.Resting.{mail_at, mail_by}
use Rattle.iox_lanes_machine.specs.World.{World, fits, ends, happens, placed, ended, subscriber_stage, subscriber_fits_at}
use Rattle.iox_lanes_machine.specs.World.{subscriber_ends_at, subscriber_given, subscriber_begins, subscriber_goes_on, pops_from}
use Rattle.iox_lanes_machine.specs.World.{pop_acts, added}
use Rattle.iox_lanes_machine.proofs.Apart.{subscriber_answers}
use Rattle.iox_lanes_machine.proofs.Calls.{no_route, no_place}
use Rattle.iox_lanes_machine.proofs.Ends.{some_is}
use Rattle.iox_lanes_machine.proofs.Paces.{came_kept}
use Rattle.iox_lanes_machine.proofs.Steps.{happens_moments}
use Rattle.iox_lanes_machine.proofs.Whole.{happens_keeps}
use Rattle.iox_lanes_machine.proofs.Within.{set_other, set_same, subscriber_routes, changed_routes}
use Rattle.iox_lanes_machine.proofs.BorrowCounts.{numbers_are}
use Rattle.iox_lanes_machine.proofs.Samples.{samples_are, samples_after}
use Rattle.iox_lanes_laws.specs.Subscribing.{OnlySubscriber}
use Rattle.iox_lanes_laws.specs.Turns.{GoesToEnd, IsInTurn, IsAnswered}
use Rattle.iox_lanes_laws.proofs.Chains.{none_there, fewer}

-- what stands where a subscriber is inside a call, since which only it made steps
pub record Alone (m : World) (place : ℕ) (before : SubscriberLaneState) (called : CallName) (k : World) (lane : SubscriberLaneState) :
    Type 0 where
  pub kept : IsKept k
  pub found : slice_get k.subscribers place ≡ Some lane
  pub others : OnlySubscriber m place k
  pub links : k.links ≡ m.links
  pub finished : k.finished ≡ m.finished
  pub since : k.moments ≤ 2 ^ 63 → m.moments < k.moments
  pub routes : lane.port.routes ≡ before.port.routes
  pub most : lane.port.most_borrowed ≡ before.port.most_borrowed
  pub asked : lane.call ≡ called
  pub first : lane.first ≡ m.moments

abbrev pub next_lane : World → SubscriberLaneState → SubscriberLaneState
next_lane k lane = subscriber_after (subscriber_given k.table lane) lane

-- its next step
pub goes_is : (k : World) (place : ℕ) (lane : SubscriberLaneState) → slice_get k.subscribers place ≡ Some lane
    → happens k (Subscriber place) GoOn ≡ subscriber_goes_on (placed k (Subscriber place)) place (Some lane)
goes_is k place lane found = ap (subscriber_goes_on (placed k (Subscriber place)) place) found

pub orders_are : (k : World) (place : ℕ) (lane : SubscriberLaneState) → slice_get k.subscribers place ≡ Some lane
    → (happens k (Subscriber place) GoOn).orders ≡ added k.orders (pops_from lane.port.call) k.moments (pop_acts k lane.port.call)
orders_are k place lane found =
    ap (λ (w : World). w.orders) (goes_is k place lane found)
    ∙ ap (λ (at : Option SubscriberLaneState). added k.orders (pops_from (subscriber_stage at)) k.moments
    (pop_acts k (subscriber_stage at))) found

pub table_is : (k : World) (place : ℕ) (lane : SubscriberLaneState) → slice_get k.subscribers place ≡ Some lane
    → (happens k (Subscriber place) GoOn).table ≡ after_shared k.table (subscriber_next lane.port.call)
table_is k place lane found = ap (λ (w : World). w.table) (goes_is k place lane found)

pub read_is : (k : World) (place : ℕ) (lane : SubscriberLaneState) → slice_get k.subscribers place ≡ Some lane
    → (happens k (Subscriber place) GoOn).read ≡ k.read ++ words_read lane.port.call lane.port.words
read_is k place lane found = ap (λ (w : World). w.read) (goes_is k place lane found)

pub links_are : (k : World) (place : ℕ) (lane : SubscriberLaneState) → slice_get k.subscribers place ≡ Some lane
    → (happens k (Subscriber place) GoOn).links ≡ k.links
links_are k place lane found = ap (λ (w : World). w.links) (goes_is k place lane found)

-- a step that neither pops nor looks leaves what waits
pub quiet_mail : (k : World) (place : ℕ) (lane : SubscriberLaneState) → slice_get k.subscribers place ≡ Some lane
    → pops_from lane.port.call ≡ None → (connection : ℕ) → mail_at (happens k (Subscriber place) GoOn) connection ≡ mail_at k connection
quiet_mail k place lane found none connection =
    ap (λ (os : List (List Placed)). mail_by (slice_get (happens k (Subscriber place) GoOn).links connection) (get_or os connection []))
    (orders_are k place lane found ∙ ap (λ (to : Option ℕ). added k.orders to k.moments (pop_acts k lane.port.call)) none)
    ∙ ap (λ (ls : List LinkState). mail_by (slice_get ls connection) (get_or k.orders connection [])) (links_are k place lane found)

pub next_call : (k : World) (lane : SubscriberLaneState)
    → (next_lane k lane).port.call ≡ subscriber_take lane.port.routes lane.port.borrowed lane.port.most_borrowed lane.port.call
    (subscriber_given k.table lane)
next_call k lane = (changed_routes (subscriber_change lane.port.call (subscriber_given k.table lane)) _).1

pub next_samples : (k : World) (lane : SubscriberLaneState)
    → (next_lane k lane).port.samples ≡ samples_after (subscriber_change lane.port.call (subscriber_given k.table lane)) lane.port.samples
next_samples k lane = samples_are (subscriber_change lane.port.call (subscriber_given k.table lane)) _

only_on : (m k : World) (place : ℕ) (lane : SubscriberLaneState) → slice_get k.subscribers place ≡ Some lane → OnlySubscriber m place k
    → OnlySubscriber m place (happens k (Subscriber place) GoOn)
only_on m k place lane found h =
    let is = goes_is k place lane found in
    record {
      subscribers = λ other apart. ap (λ (w : World). slice_get w.subscribers other) is ∙ set_other k.subscribers place other
          (next_lane k lane) apart ∙ h.subscribers other apart;
      publishers = ap (λ (w : World). w.publishers) is ∙ h.publishers;
    }

alone_on : (m : World) (place : ℕ) (before : SubscriberLaneState) (called : CallName) (k : World) (lane : SubscriberLaneState)
    → Alone m place before called k lane → fits k (Subscriber place) GoOn ≡ true → subscriber_is_over lane.port.call ≡ false
    → (happens k (Subscriber place) GoOn).moments ≤ 2 ^ 63
    → Alone m place before called (happens k (Subscriber place) GoOn) (next_lane k lane)
alone_on m place before called k lane a fit over few =
    let is = goes_is k place lane a.found in
    let next = happens_moments k (Subscriber place) GoOn fit in
    let bound : k.moments < 2 ^ 63 = fewer k.moments _ next few in
    let silent = none_there (subscriber_answer lane.port.call (length k.read)) (subscriber_is_over lane.port.call)
    (subscriber_answers lane.port.call (length k.read)) over in
    record {
      kept = happens_keeps k (Subscriber place) GoOn fit a.kept;
      found = ap (λ (w : World). slice_get w.subscribers place) is ∙ set_same k.subscribers place (next_lane k lane) lane a.found;
      others = only_on m k place lane a.found a.others;
      links = ap (λ (w : World). w.links) is ∙ a.links;
      finished = ap (λ (w : World). w.finished) is ∙ ap
          (λ (o : Option Answer). k.finished ++ ended (Subscriber place) lane.call lane.first k.moments o) silent ∙ append-nil
          k.finished ∙ a.finished;
      since = λ h. omega (arith, next, bound, a.since (omega (arith, bound)));
      routes = (changed_routes (subscriber_change lane.port.call (subscriber_given k.table lane)) _).0 ∙ a.routes;
      most = (numbers_are (subscriber_change lane.port.call (subscriber_given k.table lane)) _).1 ∙ a.most;
      asked = a.asked;
      first = a.first;
    }

-- the last step of the call, and what stands before it
pub record LastStep (m : World) (place : ℕ) (before : SubscriberLaneState) (called : CallName)
    (P : World → SubscriberLaneState → Type 0) (n : World) : Type 0 where
  pub k : World
  pub lane : SubscriberLaneState
  pub alone : Alone m place before called k lane
  pub holds : P k lane
  pub fit : fits k (Subscriber place) GoOn ≡ true
  pub over : subscriber_is_over lane.port.call ≡ true
  pub now : n ≡ happens k (Subscriber place) GoOn

-- what each step that does not end the call keeps
abbrev pub Keeps : World → ℕ → SubscriberLaneState → CallName → (World → SubscriberLaneState → Type 0) → Type 0
Keeps m place before called P = (k : World) (lane : SubscriberLaneState) → Alone m place before called k lane
    → Alone m place before called (happens k (Subscriber place) GoOn) (next_lane k lane) → k.moments < 2 ^ 63
    → (happens k (Subscriber place) GoOn).moments ≡ k.moments + 1
    → subscriber_is_over lane.port.call ≡ false → P k lane → P (happens k (Subscriber place) GoOn) (next_lane k lane)

ends_is : (k : World) (place : ℕ) (lane : SubscriberLaneState) (b : Bool) → slice_get k.subscribers place ≡ Some lane
    → ends k (Subscriber place) GoOn ≡ b → subscriber_is_over lane.port.call ≡ b
ends_is k place lane b found h = sym (ap subscriber_ends_at found) ∙ h

-- moments only grow
grows_to : (place more : ℕ) (k n : World) → GoesToEnd (Subscriber place) more k n → n.moments ≤ 2 ^ 63 → k.moments ≤ n.moments
grows_to place zero k n h few =
    let next : n.moments ≡ successor k.moments = ap (λ (w : World). w.moments) h.2 ∙ happens_moments k (Subscriber place) GoOn h.0 in
    omega (arith, next, few)
grows_to place (suc more) k n h few =
    let next : (h.0).moments ≡ successor k.moments
    = ap (λ (w : World). w.moments) (h.1).2 ∙ happens_moments k (Subscriber place) GoOn (h.1).0 in
    omega (arith, next, grows_to place more h.0 n h.2 few, few)

reach : (m : World) (place : ℕ) (before : SubscriberLaneState) (called : CallName) (P : World → SubscriberLaneState → Type 0)
    → Keeps m place before called P → (more : ℕ) (k : World) (lane : SubscriberLaneState) (n : World)
    → Alone m place before called k lane → P k lane
    → GoesToEnd (Subscriber place) more k n → n.moments ≤ 2 ^ 63 → LastStep m place before called P n
reach m place before called P keeps zero k lane n a p h few
    = record { k = k; lane = lane; alone = a; holds = p; fit = h.0; over = ends_is k place lane true a.found h.1; now = h.2 }
reach m place before called P keeps (suc more) k lane n a p h few =
    let rest = subst (λ (w : World). GoesToEnd (Subscriber place) more w n) (h.1).2 h.2 in
    let later = grows_to place more (happens k (Subscriber place) GoOn) n rest few in
    let over = ends_is k place lane false a.found (h.1).1 in
    let next = happens_moments k (Subscriber place) GoOn (h.1).0 in
    let bound : k.moments < 2 ^ 63 = fewer k.moments _ next (omega (arith, later, few)) in
    let a' = alone_on m place before called k lane a (h.1).0 over (omega (arith, later, few)) in
    reach m place before called P keeps more (happens k (Subscriber place) GoOn) (next_lane k lane) n a'
    (keeps k lane a a' bound (omega (arith, next, bound)) over p) rest few

-- the call begins
release_asked : (moment sample : ℕ) (at : Option ℕ) (route : Option Route) (lane : SubscriberLaneState) → (route ≡ None → ⊥)
    → (at ≡ None → ⊥)
    → ((release_begun moment sample at route lane).call ≡ name_of (call.Release sample))
    × ((release_begun moment sample at route lane).first ≡ moment)
    × ((release_begun moment sample at route lane).port.most_borrowed ≡ lane.port.most_borrowed)
release_asked moment sample None route lane there place = absurd (place refl)
release_asked moment sample (Some place) None lane there at = absurd (there refl)
release_asked moment sample (Some place) (Some route) lane there at = (refl, refl, refl)

call_asked : (moment : ℕ) (c : Call) (lane : SubscriberLaneState) → subscriber_fits lane (Begin c) ≡ true
    → ((subscriber_begun moment c lane).call ≡ name_of c) × ((subscriber_begun moment c lane).first ≡ moment)
    × ((subscriber_begun moment c lane).port.most_borrowed ≡ lane.port.most_borrowed)
call_asked moment call.LoanUninit lane fit
    = absurd (cc (and_right (subscriber_is_idle lane.port.call) (subscriber_may lane call.LoanUninit) fit))
call_asked moment (call.Write loan payload user_header) lane fit
    = absurd (cc (and_right (subscriber_is_idle lane.port.call) (subscriber_may lane (call.Write loan payload user_header)) fit))
call_asked moment (call.Send loan) lane fit
    = absurd (cc (and_right (subscriber_is_idle lane.port.call) (subscriber_may lane (call.Send loan)) fit))
call_asked moment (call.DropLoan loan) lane fit
    = absurd (cc (and_right (subscriber_is_idle lane.port.call) (subscriber_may lane (call.DropLoan loan)) fit))
call_asked moment call.Receive lane fit = (refl, refl, refl)
call_asked moment (call.Read sample) lane fit = (refl, refl, refl)
call_asked moment (call.Release sample) lane fit =
    let may : is_route (route_at (place_of sample lane) lane) ≡ true
    = and_right (subscriber_is_idle lane.port.call) (subscriber_may lane (call.Release sample)) fit in
    release_asked moment sample (place_of sample lane) (route_at (place_of sample lane) lane) lane
    (no_route (route_at (place_of sample lane) lane) may) (no_place (place_of sample lane) lane may)

pub begins_is : (m : World) (place : ℕ) (c : Call) (before : SubscriberLaneState) → slice_get m.subscribers place ≡ Some before
    → happens m (Subscriber place) (Begin c) ≡ subscriber_begins m place c (Some before)
begins_is m place c before found = ap (subscriber_begins m place c) found

fits_is : (m : World) (place : ℕ) (c : Call) (before : SubscriberLaneState) → slice_get m.subscribers place ≡ Some before
    → fits m (Subscriber place) (Begin c) ≡ true → subscriber_fits before (Begin c) ≡ true
fits_is m place c before found fit = sym (ap (λ (at : Option SubscriberLaneState). subscriber_fits_at at (Begin c)) found) ∙ fit

start : (m : World) (place : ℕ) (c : Call) (before : SubscriberLaneState) → IsKept m → slice_get m.subscribers place ≡ Some before
    → fits m (Subscriber place) (Begin c) ≡ true → (happens m (Subscriber place) (Begin c)).moments ≤ 2 ^ 63
    → Alone m place before (name_of c) (happens m (Subscriber place) (Begin c)) (subscriber_begun m.moments c before)
start m place c before k found fit few =
    let is = begins_is m place c before found in
    let may = fits_is m place c before found fit in
    let next = happens_moments m (Subscriber place) (Begin c) fit in
    let asked = call_asked m.moments c before may in
    record {
      kept = happens_keeps m (Subscriber place) (Begin c) fit k;
      found = ap (λ (w : World). slice_get w.subscribers place) is ∙ set_same m.subscribers place (subscriber_begun m.moments c before)
          before found;
      others = record {
        subscribers = λ other apart. ap (λ (w : World). slice_get w.subscribers other) is ∙ set_other m.subscribers place other
            (subscriber_begun m.moments c before) apart;
        publishers = ap (λ (w : World). w.publishers) is;
      };
      links = ap (λ (w : World). w.links) is;
      finished = ap (λ (w : World). w.finished) is;
      since = λ h. omega (arith, next, fewer m.moments _ next few);
      routes = subscriber_routes m.moments c before;
      most = asked.2;
      asked = asked.0;
      first = asked.1;
    }

-- after a last step no call is in progress
over_idle : (routes : List Route) (borrowed : List ℕ) (most : ℕ) (c : SubscriberCall) (a : ℕ) → subscriber_is_over c ≡ true
    → subscriber_is_idle (subscriber_take routes borrowed most c a) ≡ true
over_idle routes borrowed most subscribing.Idle a h = absurd (cc h)
over_idle routes borrowed most (subscribing.Receiving place route p waits) a h = absurd (cc h)
over_idle routes borrowed most (subscribing.Received given) a h = refl
over_idle routes borrowed most (subscribing.Reading slot word extent) a h = absurd (cc h)
over_idle routes borrowed most (subscribing.WasRead slot) a h = refl
over_idle routes borrowed most (subscribing.Releasing place route p) a h = absurd (cc h)
over_idle routes borrowed most (subscribing.Released done) a h = refl

over_quiet : (c : SubscriberCall) → subscriber_is_over c ≡ true → pops_from c ≡ None
over_quiet subscribing.Idle h = refl
over_quiet (subscribing.Receiving place route p waits) h = absurd (cc h)
over_quiet (subscribing.Received given) h = refl
over_quiet (subscribing.Reading slot word extent) h = refl
over_quiet (subscribing.WasRead slot) h = refl
over_quiet (subscribing.Releasing place route p) h = refl
over_quiet (subscribing.Released done) h = refl

-- a whole call, from its begin to after its end
pub record WholeCall (m : World) (place : ℕ) (c : Call) (before : SubscriberLaneState) (P : World → SubscriberLaneState → Type 0)
    (n : World) (after : SubscriberLaneState) : Type 0 where
  pub last : LastStep m place before (name_of c) P n
  pub after_is : after ≡ next_lane last.k last.lane
  pub others : OnlySubscriber m place n
  pub mail : (connection : ℕ) → mail_at n connection ≡ mail_at (last.k) connection
  pub finished : n.finished ≡ m.finished
      ++ ended (Subscriber place) (name_of c) m.moments (last.k).moments (subscriber_answer (last.lane).port.call (length (last.k).read))
  pub few_before : (last.k).moments < 2 ^ 63
  pub idle : subscriber_is_idle after.port.call ≡ true

-- its last step
the_last : (m : World) (place : ℕ) (c : Call) (before : SubscriberLaneState) (P : World → SubscriberLaneState → Type 0) (n : World)
    → Keeps m place before (name_of c) P
    → (subscriber_fits before (Begin c) ≡ true → IsKept m → m.moments ≤ 2 ^ 63
    → P (happens m (Subscriber place) (Begin c)) (subscriber_begun m.moments c before))
    → IsInTurn m (Subscriber place) c n → slice_get m.subscribers place ≡ Some before → LastStep m place before (name_of c) P n
the_last m place c before P n keeps begins t found =
    let k : IsKept m = (came_kept m t.came).0 in
    let goes = subst (λ (w : World). GoesToEnd (Subscriber place) t.more w n) t.begins.2 t.goes in
    let later = grows_to place t.more (happens m (Subscriber place) (Begin c)) n goes t.few in
    let begun = happens_moments m (Subscriber place) (Begin c) t.begins.0 in
    let bound : m.moments < 2 ^ 63 = fewer m.moments _ begun (omega (arith, later, t.few)) in
    let first = start m place c before k found t.begins.0 (omega (arith, later, t.few)) in
    reach m place before (name_of c) P keeps t.more (happens m (Subscriber place) (Begin c)) (subscriber_begun m.moments c before) n
    first (begins (fits_is m place c before found t.begins.0) k (omega (arith, bound))) goes t.few

stands_after : (m : World) (place : ℕ) (called : CallName) (before : SubscriberLaneState) (P : World → SubscriberLaneState → Type 0)
    (n : World) (last : LastStep m place before called P n) → slice_get n.subscribers place ≡ Some (next_lane last.k last.lane)
stands_after m place called before P n last =
    ap (λ (w : World). slice_get w.subscribers place) (last.now ∙ goes_is last.k place last.lane last.alone.found) ∙ set_same
    (last.k).subscribers place (next_lane last.k last.lane) last.lane last.alone.found

-- the subscriber is there still
pub ends_there : (m : World) (place : ℕ) (c : Call) (before : SubscriberLaneState) (n : World) → IsInTurn m (Subscriber place) c n
    → slice_get m.subscribers place ≡ Some before → (after : SubscriberLaneState) × (slice_get n.subscribers place ≡ Some after)
ends_there m place c before n t found =
    let last = the_last m place c before (λ k lane. Unit {0}) n (λ k lane a a' bound next over s. tt) (λ may k bound. tt) t found in
    (next_lane last.k last.lane, stands_after m place (name_of c) before (λ k lane. Unit {0}) n last)

finished_by : (m : World) (place : ℕ) (called : CallName) (before : SubscriberLaneState) (P : World → SubscriberLaneState → Type 0)
    (n : World) (last : LastStep m place before called P n)
    → n.finished ≡ m.finished ++ ended (Subscriber place) called m.moments (last.k).moments
    (subscriber_answer (last.lane).port.call (length (last.k).read))
finished_by m place called before P n last =
    let said : Option Answer = subscriber_answer (last.lane).port.call (length (last.k).read) in
    ap (λ (w : World). w.finished) (last.now ∙ goes_is last.k place last.lane last.alone.found)
    ∙ ap (λ (xs : List FinishedCall). xs ++ ended (Subscriber place) (last.lane).call (last.lane).first (last.k).moments said)
    last.alone.finished
    ∙ ap (λ (x : CallName). m.finished ++ ended (Subscriber place) x (last.lane).first (last.k).moments said) last.alone.asked
    ∙ ap (λ (first : ℕ). m.finished ++ ended (Subscriber place) called first (last.k).moments said) last.alone.first

whole_by : (m : World) (place : ℕ) (c : Call) (before : SubscriberLaneState) (P : World → SubscriberLaneState → Type 0) (n : World)
    (after : SubscriberLaneState) → n.moments ≤ 2 ^ 63 → LastStep m place before (name_of c) P n
    → slice_get n.subscribers place ≡ Some after
    → WholeCall m place c before P n after
whole_by m place c before P n after few last now =
    let a = last.alone in
    let next : n.moments ≡ successor (last.k).moments
    = ap (λ (w : World). w.moments) last.now ∙ happens_moments last.k (Subscriber place) GoOn last.fit in
    let after_is : after ≡ next_lane last.k last.lane
    = some_is after (next_lane last.k last.lane) (sym now ∙ stands_after m place (name_of c) before P n last) in
    record {
      last = last;
      after_is = after_is;
      others = subst (OnlySubscriber m place) (sym last.now) (only_on m last.k place last.lane a.found a.others);
      mail = λ connection. ap (λ (w : World). mail_at w connection) last.now ∙ quiet_mail last.k place last.lane a.found
          (over_quiet (last.lane).port.call last.over) connection;
      finished = finished_by m place (name_of c) before P n last;
      few_before = fewer (last.k).moments n.moments next few;
      idle = subst (λ (x : SubscriberLaneState). subscriber_is_idle x.port.call ≡ true) (sym after_is)
          (subst (λ (s : SubscriberCall). subscriber_is_idle s ≡ true) (sym (next_call last.k last.lane))
          (over_idle (last.lane).port.routes (last.lane).port.borrowed (last.lane).port.most_borrowed (last.lane).port.call
          (subscriber_given (last.k).table last.lane) last.over));
    }

pub whole : (m : World) (place : ℕ) (c : Call) (before : SubscriberLaneState) (P : World → SubscriberLaneState → Type 0) (n : World)
    (after : SubscriberLaneState) → Keeps m place before (name_of c) P
    → (subscriber_fits before (Begin c) ≡ true → IsKept m → m.moments ≤ 2 ^ 63
    → P (happens m (Subscriber place) (Begin c)) (subscriber_begun m.moments c before))
    → IsInTurn m (Subscriber place) c n → slice_get m.subscribers place ≡ Some before → slice_get n.subscribers place ≡ Some after
    → WholeCall m place c before P n after
whole m place c before P n after keeps begins t found now
    = whole_by m place c before P n after t.few (the_last m place c before P n keeps begins t found) now

-- the call is answered by what its last step says
pub answered_by : (m : World) (place : ℕ) (c : Call) (before : SubscriberLaneState) (P : World → SubscriberLaneState → Type 0)
    (n : World) (after : SubscriberLaneState) (w : WholeCall m place c before P n after) (given : Answer)
    → subscriber_answer (w.last.lane).port.call (length (w.last.k).read) ≡ Some given → IsAnswered m (Subscriber place) c given n
answered_by m place c before P n after w given e = record {
  call = record { party = Subscriber place; call = name_of c; answer = given; first = m.moments; last = (w.last.k).moments };
  more = w.finished ∙ ap (λ (o : Option Answer). m.finished ++ ended (Subscriber place) (name_of c) m.moments (w.last.k).moments o) e;
  own = refl;
  asked = refl;
  answered = refl;
}

-- a begin leaves what waits, and the words of slots
pub begun_mail : (m : World) (place : ℕ) (c : Call) (before : SubscriberLaneState) → slice_get m.subscribers place ≡ Some before
    → (connection : ℕ) → mail_at (happens m (Subscriber place) (Begin c)) connection ≡ mail_at m connection
begun_mail m place c before found connection = ap (λ (w : World). mail_at w connection) (begins_is m place c before found)

-- at most 2^63 steps were made before such a call
pub few_first : (m n : World) (place : ℕ) (c : Call) → IsInTurn m (Subscriber place) c n → m.moments ≤ 2 ^ 63
few_first m n place c t =
    let goes = subst (λ (w : World). GoesToEnd (Subscriber place) t.more w n) t.begins.2 t.goes in
    let later = grows_to place t.more (happens m (Subscriber place) (Begin c)) n goes t.few in
    let begun = happens_moments m (Subscriber place) (Begin c) t.begins.0 in
    let bound : m.moments < 2 ^ 63 = fewer m.moments _ begun (omega (arith, later, t.few)) in
    omega (arith, bound)
