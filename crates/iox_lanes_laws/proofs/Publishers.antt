-- A publisher's own steps from the begin of a call to its end, and nobody else's between them.
use Rattle.std.proofs.Common.{ℕ, zero, suc, ◌≡◌, ◌<◌, ◌≤◌, ◌^◌, Bool, true, false, List, [], ◌∷◌, ◌++◌, slice_get, Option, Some, refl}
use Rattle.std.proofs.Common.{sym, ◌∙◌, ap, subst, arith, append-nil}
use Rattle.iox_lanes_machine.specs.QueuesSteps.Access.{successor}
use Rattle.iox_lanes_machine.specs.LanesBase.Publishing.{publisher_is_idle, publisher_is_over, publisher_take}
use Rattle.iox_lanes_machine.specs.LanesBase.declared.calls.publisher.PublisherCall.{PublisherCall}
use Rattle.iox_lanes_machine.specs.LanesBase.declared.calls.publisher.PublisherCall.TheVariants as publishing
use Rattle.iox_lanes_machine.specs.LanesBase.declared.calls.route.Route.{Route}
use Rattle.iox_lanes_machine.specs.LanesParties.Publishers.{words_of}
use Rattle.iox_lanes_machine.specs.LanesParties.Parties.{PublisherLaneState, name_of, publisher_may, publisher_fits, publisher_begun}
use Rattle.iox_lanes_machine.specs.LanesParties.Parties.{publisher_after}
use Rattle.iox_lanes_machine.specs.LanesParties.declared.call.Answer.{Answer}
use Rattle.iox_lanes_machine.specs.LanesParties.declared.call.Call.{Call}
use Rattle.iox_lanes_machine.specs.LanesParties.declared.call.Call.TheVariants as call
use Rattle.iox_lanes_machine.specs.LanesParties.declared.call.CallName.{CallName}
use Rattle.iox_lanes_machine.specs.LanesParties.declared.call.Entry.{Entry}
use Rattle.iox_lanes_machine.specs.LanesParties.declared.call.FinishedCall.{FinishedCall}
use Rattle.iox_lanes_machine.specs.LanesParties.declared.call.Move.TheVariants.{Begin, GoOn}
use Rattle.iox_lanes_machine.specs.LanesParties.declared.call.Party.TheVariants.{Publisher}
use Rattle.iox_lanes_machine.proofs.LanesParties.Rings.{and_left, and_right}
use Rattle.iox_lanes_machine.specs.Kept.{IsKept}
use Rattle.iox_lanes_machine.specs.Paces.{after_entry, led}
use Rattle.iox_lanes_machine.specs.World.{World, fits, ends, happens, placed, ended, publisher_stage, publisher_fits_at}
use Rattle.iox_lanes_machine.specs.World.{publisher_ends_at, publisher_given, publisher_ending, publisher_begins, publisher_goes_on}
use Rattle.iox_lanes_machine.specs.World.{pushes_to, push_acts, added}
use Rattle.iox_lanes_machine.proofs.Apart.{publisher_answers}
use Rattle.iox_lanes_machine.proofs.Ends.{some_is}
use Rattle.iox_lanes_machine.proofs.Paces.{begun_first, came_kept}
use Rattle.iox_lanes_machine.proofs.Steps.{happens_moments}
use Rattle.iox_lanes_machine.proofs.Whole.{happens_keeps}
use Rattle.iox_lanes_machine.proofs.SendSteps.{begun_fails}
use Rattle.iox_lanes_machine.proofs.Within.{set_other, set_same, publisher_routes}
use Rattle.iox_lanes_laws.specs.Publishing.{OnlyPublisher}
use Rattle.iox_lanes_laws.specs.Turns.{GoesToEnd, IsInTurn}
use Rattle.iox_lanes_laws.proofs.Books.{BookAlone, book_on, book_begun}
use Rattle.iox_lanes_laws.proofs.Chains.{none_there, fewer}
use Rattle.iox_lanes_laws.proofs.Orders.{PutsAlone, puts_none, puts_on}

-- what stands where a publisher is inside a call, since which only it made steps
pub record Alone (m : World) (place : ℕ) (before : PublisherLaneState) (called : CallName) (k : World) (lane : PublisherLaneState) :
    Type 0 where
  pub kept : IsKept k
  pub found : slice_get k.publishers place ≡ Some lane
  pub others : OnlyPublisher m place k
  pub links : k.links ≡ m.links
  pub finished : k.finished ≡ m.finished
  pub since : k.moments ≤ 2 ^ 63 → m.moments < k.moments
  pub routes : lane.port.routes ≡ before.port.routes
  pub fails : lane.fails ≡ before.fails
  pub asked : lane.call ≡ called
  pub first : lane.first ≡ m.moments
  pub puts : PutsAlone m place k.orders
  pub book : BookAlone before.port.book lane.port.call lane.port.book

abbrev pub next_lane : World → PublisherLaneState → PublisherLaneState
next_lane k lane = publisher_after (publisher_given k.table lane) lane

-- its next step
pub goes_is : (k : World) (place : ℕ) (lane : PublisherLaneState) → slice_get k.publishers place ≡ Some lane
    → happens k (Publisher place) GoOn ≡ publisher_goes_on (placed k (Publisher place)) place (Some lane)
goes_is k place lane found = ap (publisher_goes_on (placed k (Publisher place)) place) found

orders_are : (k : World) (place : ℕ) (lane : PublisherLaneState) → slice_get k.publishers place ≡ Some lane
    → (happens k (Publisher place) GoOn).orders ≡ added k.orders (pushes_to lane.port.call) k.moments (push_acts k.table lane.port.call)
orders_are k place lane found =
    ap (λ (w : World). w.orders) (goes_is k place lane found)
    ∙ ap (λ (at : Option PublisherLaneState). added k.orders (pushes_to (publisher_stage at)) k.moments
    (push_acts k.table (publisher_stage at))) found

only_on : (m k : World) (place : ℕ) (lane : PublisherLaneState) → slice_get k.publishers place ≡ Some lane → OnlyPublisher m place k
    → OnlyPublisher m place (happens k (Publisher place) GoOn)
only_on m k place lane found h =
    let is = goes_is k place lane found in
    record {
      publishers = λ other apart. ap (λ (w : World). slice_get w.publishers other) is ∙ set_other k.publishers place other
          (next_lane k lane) apart ∙ h.publishers other apart;
      subscribers = ap (λ (w : World). w.subscribers) is ∙ h.subscribers;
    }

alone_on : (m : World) (place : ℕ) (before : PublisherLaneState) (called : CallName) (k : World) (lane : PublisherLaneState)
    → Alone m place before called k lane → fits k (Publisher place) GoOn ≡ true → publisher_is_over lane.port.call ≡ false
    → (happens k (Publisher place) GoOn).moments ≤ 2 ^ 63
    → Alone m place before called (happens k (Publisher place) GoOn) (next_lane k lane)
alone_on m place before called k lane a fit over few =
    let is = goes_is k place lane a.found in
    let next = happens_moments k (Publisher place) GoOn fit in
    let bound : k.moments < 2 ^ 63 = fewer k.moments _ next few in
    let silent = none_there (publisher_ending k.table lane) (publisher_is_over lane.port.call)
    (publisher_answers lane.fails lane.port.call (next_lane k lane).port.book.answer) over in
    let rooms = (a.kept.rooms (omega (arith, bound))).publishers place lane a.found in
    record {
      kept = happens_keeps k (Publisher place) GoOn fit a.kept;
      found = ap (λ (w : World). slice_get w.publishers place) is ∙ set_same k.publishers place (next_lane k lane) lane a.found;
      others = only_on m k place lane a.found a.others;
      links = ap (λ (w : World). w.links) is ∙ a.links;
      finished = ap (λ (w : World). w.finished) is ∙ ap
          (λ (o : Option Answer). k.finished ++ ended (Publisher place) lane.call lane.first k.moments o) silent ∙ append-nil k.finished
          ∙ a.finished;
      since = λ h. omega (arith, next, bound, a.since (omega (arith, bound)));
      routes = a.routes;
      fails = a.fails;
      asked = a.asked;
      first = a.first;
      puts = puts_on m k place lane _ a.found a.kept.within a.links (orders_are k place lane a.found) a.puts;
      book = book_on before.port.book lane.port.book lane.port.routes (words_of lane.port) lane.port.call (publisher_given k.table lane)
          over rooms.counts.kept a.book;
    }

-- the last step of the call, and what stands before it
pub record LastStep (m : World) (place : ℕ) (before : PublisherLaneState) (called : CallName) (from n : World) : Type 0 where
  pub k : World
  pub lane : PublisherLaneState
  pub alone : Alone m place before called k lane
  pub entries : List Entry
  pub led_to : k ≡ led from entries
  pub fit : fits k (Publisher place) GoOn ≡ true
  pub over : publisher_is_over lane.port.call ≡ true
  pub now : n ≡ happens k (Publisher place) GoOn

ends_is : (k : World) (place : ℕ) (lane : PublisherLaneState) (b : Bool) → slice_get k.publishers place ≡ Some lane
    → ends k (Publisher place) GoOn ≡ b → publisher_is_over lane.port.call ≡ b
ends_is k place lane b found h = sym (ap publisher_ends_at found) ∙ h

-- moments only grow
grows_to : (place more : ℕ) (k n : World) → GoesToEnd (Publisher place) more k n → n.moments ≤ 2 ^ 63 → k.moments ≤ n.moments
grows_to place zero k n h few =
    let next : n.moments ≡ successor k.moments = ap (λ (w : World). w.moments) h.2 ∙ happens_moments k (Publisher place) GoOn h.0 in
    omega (arith, next, few)
grows_to place (suc more) k n h few =
    let next : (h.0).moments ≡ successor k.moments
    = ap (λ (w : World). w.moments) (h.1).2 ∙ happens_moments k (Publisher place) GoOn (h.1).0 in
    omega (arith, next, grows_to place more h.0 n h.2 few, few)

reach : (m : World) (place : ℕ) (before : PublisherLaneState) (called : CallName) (more : ℕ) (k : World) (lane : PublisherLaneState)
    (n : World) → Alone m place before called k lane → GoesToEnd (Publisher place) more k n → n.moments ≤ 2 ^ 63
    → LastStep m place before called k n
reach m place before called zero k lane n a h few
    = record {
      k = k;
      lane = lane;
      alone = a;
      entries = [];
      led_to = refl;
      fit = h.0;
      over = ends_is k place lane true a.found h.1;
      now
          = h.2;
    }
reach m place before called (suc more) k lane n a h few =
    let rest = subst (λ (w : World). GoesToEnd (Publisher place) more w n) (h.1).2 h.2 in
    let later = grows_to place more (happens k (Publisher place) GoOn) n rest few in
    let next = alone_on m place before called k lane a (h.1).0 (ends_is k place lane false a.found (h.1).1) (omega (arith, later, few)) in
    let r = reach m place before called more (happens k (Publisher place) GoOn) (next_lane k lane) n next rest few in
    let entry : Entry = record { party = Publisher place; step = GoOn } in
    record {
      k = r.k;
      lane = r.lane;
      alone = r.alone;
      entries = entry ∷ r.entries;
      led_to = r.led_to ∙ sym (ap (λ (b : Bool). led (after_entry b k entry) r.entries) (h.1).0);
      fit = r.fit;
      over = r.over;
      now = r.now;
    }

-- the call begins
name_asked : (moment : ℕ) (c : Call) (lane : PublisherLaneState) → publisher_fits lane (Begin c) ≡ true
    → (publisher_begun moment c lane).call ≡ name_of c
name_asked moment call.LoanUninit lane fit = refl
name_asked moment (call.Write loan payload user_header) lane fit = refl
name_asked moment (call.Send loan) lane fit = refl
name_asked moment (call.DropLoan loan) lane fit = refl
name_asked moment call.Receive lane fit = absurd (cc (and_right (publisher_is_idle lane.port.call) (publisher_may lane call.Receive) fit))
name_asked moment (call.Read sample) lane fit
    = absurd (cc (and_right (publisher_is_idle lane.port.call) (publisher_may lane (call.Read sample)) fit))
name_asked moment (call.Release sample) lane fit
    = absurd (cc (and_right (publisher_is_idle lane.port.call) (publisher_may lane (call.Release sample)) fit))

pub begins_is : (m : World) (place : ℕ) (c : Call) (before : PublisherLaneState) → slice_get m.publishers place ≡ Some before
    → happens m (Publisher place) (Begin c) ≡ publisher_begins m place c (Some before)
begins_is m place c before found = ap (publisher_begins m place c) found

pub fits_is : (m : World) (place : ℕ) (c : Call) (before : PublisherLaneState) → slice_get m.publishers place ≡ Some before
    → fits m (Publisher place) (Begin c) ≡ true → publisher_fits before (Begin c) ≡ true
fits_is m place c before found fit = sym (ap (λ (at : Option PublisherLaneState). publisher_fits_at at (Begin c)) found) ∙ fit

start : (m : World) (place : ℕ) (c : Call) (before : PublisherLaneState) → IsKept m → slice_get m.publishers place ≡ Some before
    → fits m (Publisher place) (Begin c) ≡ true → (happens m (Publisher place) (Begin c)).moments ≤ 2 ^ 63
    → Alone m place before (name_of c) (happens m (Publisher place) (Begin c)) (publisher_begun m.moments c before)
start m place c before k found fit few =
    let is = begins_is m place c before found in
    let may = fits_is m place c before found fit in
    let next = happens_moments m (Publisher place) (Begin c) fit in
    record {
      kept = happens_keeps m (Publisher place) (Begin c) fit k;
      found = ap (λ (w : World). slice_get w.publishers place) is ∙ set_same m.publishers place (publisher_begun m.moments c before)
          before found;
      others = record {
        publishers = λ other apart. ap (λ (w : World). slice_get w.publishers other) is ∙ set_other m.publishers place other
            (publisher_begun m.moments c before) apart;
        subscribers = ap (λ (w : World). w.subscribers) is;
      };
      links = ap (λ (w : World). w.links) is;
      finished = ap (λ (w : World). w.finished) is;
      since = λ h. omega (arith, next, fewer m.moments _ next few);
      routes = publisher_routes m.moments c before;
      fails = begun_fails m.moments c before;
      asked = name_asked m.moments c before may;
      first = begun_first m.moments c before may;
      puts = subst (PutsAlone m place) (sym (ap (λ (w : World). w.orders) is)) (puts_none m place);
      book = book_begun m.moments c before may;
    }

-- after a last step no call is in progress
over_idle : (routes : List Route) (stored : List ℕ) (c : PublisherCall) (a : ℕ) → publisher_is_over c ≡ true
    → publisher_is_idle (publisher_take routes stored c a) ≡ true
over_idle routes stored publishing.Idle a h = absurd (cc h)
over_idle routes stored (publishing.LoanReclaims place route p) a h = absurd (cc h)
over_idle routes stored publishing.Lending a h = refl
over_idle routes stored (publishing.Writing slot word value) a h = absurd (cc h)
over_idle routes stored (publishing.Written slot) a h = refl
over_idle routes stored (publishing.Heading slot word value) a h = absurd (cc h)
over_idle routes stored (publishing.Remembering slot) a h = absurd (cc h)
over_idle routes stored (publishing.SendReclaims slot place route p) a h = absurd (cc h)
over_idle routes stored (publishing.Pushing slot place route p delivery) a h = absurd (cc h)
over_idle routes stored (publishing.Sent slot delivery) a h = refl
over_idle routes stored (publishing.Dropping slot) a h = refl

-- a whole call, from its begin to after its end
pub record WholeCall (m : World) (place : ℕ) (c : Call) (before : PublisherLaneState) (n : World) (after : PublisherLaneState) : Type 0
  where
    pub was : IsKept m
    pub may : publisher_fits before (Begin c) ≡ true
    pub fit : fits m (Publisher place) (Begin c) ≡ true
    pub last : LastStep m place before (name_of c) (happens m (Publisher place) (Begin c)) n
    pub after_is : after ≡ next_lane last.k last.lane
    pub kept : IsKept n
    pub others : OnlyPublisher m place n
    pub links : n.links ≡ m.links
    pub finished : n.finished ≡ m.finished
        ++ ended (Publisher place) (name_of c) m.moments (last.k).moments (publisher_ending (last.k).table last.lane)
    pub puts : PutsAlone m place n.orders
    pub few : n.moments ≤ 2 ^ 63
    pub few_before : (last.k).moments < 2 ^ 63
    pub few_first : m.moments ≤ 2 ^ 63
    pub idle : publisher_is_idle after.port.call ≡ true
    pub was_idle : publisher_is_idle before.port.call ≡ true

-- its last step
the_last : (m : World) (place : ℕ) (c : Call) (before : PublisherLaneState) (n : World) → IsInTurn m (Publisher place) c n
    → slice_get m.publishers place ≡ Some before → LastStep m place before (name_of c) (happens m (Publisher place) (Begin c)) n
the_last m place c before n t found =
    let goes = subst (λ (w : World). GoesToEnd (Publisher place) t.more w n) t.begins.2 t.goes in
    let later = grows_to place t.more (happens m (Publisher place) (Begin c)) n goes t.few in
    let first = start m place c before (came_kept m t.came).0 found t.begins.0 (omega (arith, later, t.few)) in
    reach m place before (name_of c) t.more (happens m (Publisher place) (Begin c)) (publisher_begun m.moments c before) n first goes t.few

stands_after : (m : World) (place : ℕ) (called : CallName) (before : PublisherLaneState) (from n : World)
    (last : LastStep m place before called from n) → slice_get n.publishers place ≡ Some (next_lane last.k last.lane)
stands_after m place called before from n last =
    ap (λ (w : World). slice_get w.publishers place) (last.now ∙ goes_is last.k place last.lane last.alone.found) ∙ set_same
    (last.k).publishers place (next_lane last.k last.lane) last.lane last.alone.found

-- the publisher is there still
pub ends_there : (m : World) (place : ℕ) (c : Call) (before : PublisherLaneState) (n : World) → IsInTurn m (Publisher place) c n
    → slice_get m.publishers place ≡ Some before → (after : PublisherLaneState) × (slice_get n.publishers place ≡ Some after)
ends_there m place c before n t found =
    let last = the_last m place c before n t found in
    (next_lane last.k last.lane, stands_after m place (name_of c) before (happens m (Publisher place) (Begin c)) n last)

finished_by : (m : World) (place : ℕ) (called : CallName) (before : PublisherLaneState) (from n : World)
    (last : LastStep m place before called from n)
    → n.finished ≡ m.finished ++ ended (Publisher place) called m.moments (last.k).moments (publisher_ending (last.k).table last.lane)
finished_by m place called before from n last =
    let said : Option Answer = publisher_ending (last.k).table last.lane in
    ap (λ (w : World). w.finished) (last.now ∙ goes_is last.k place last.lane last.alone.found)
    ∙ ap (λ (xs : List FinishedCall). xs ++ ended (Publisher place) (last.lane).call (last.lane).first (last.k).moments said)
    last.alone.finished
    ∙ ap (λ (x : CallName). m.finished ++ ended (Publisher place) x (last.lane).first (last.k).moments said) last.alone.asked
    ∙ ap (λ (first : ℕ). m.finished ++ ended (Publisher place) called first (last.k).moments said) last.alone.first

whole_by : (m : World) (place : ℕ) (c : Call) (before : PublisherLaneState) (n : World) (after : PublisherLaneState) → IsKept m
    → publisher_fits before (Begin c) ≡ true → fits m (Publisher place) (Begin c) ≡ true → n.moments ≤ 2 ^ 63
    → LastStep m place before (name_of c) (happens m (Publisher place) (Begin c)) n → slice_get n.publishers place ≡ Some after
    → WholeCall m place c before n after
whole_by m place c before n after k may fit few last now =
    let a = last.alone in
    let next : n.moments ≡ successor (last.k).moments
    = ap (λ (w : World). w.moments) last.now ∙ happens_moments last.k (Publisher place) GoOn last.fit in
    let bound : (last.k).moments < 2 ^ 63 = fewer (last.k).moments n.moments next few in
    let after_is : after ≡ next_lane last.k last.lane
    = some_is after (next_lane last.k last.lane)
    (sym now ∙ stands_after m place (name_of c) before (happens m (Publisher place) (Begin c)) n last) in
    record {
      was = k;
      may = may;
      fit = fit;
      last = last;
      after_is = after_is;
      kept = subst IsKept (sym last.now) (happens_keeps last.k (Publisher place) GoOn last.fit a.kept);
      others = subst (OnlyPublisher m place) (sym last.now) (only_on m last.k place last.lane a.found a.others);
      links = ap (λ (w : World). w.links) (last.now ∙ goes_is last.k place last.lane a.found) ∙ a.links;
      finished = finished_by m place (name_of c) before (happens m (Publisher place) (Begin c)) n last;
      puts = subst (λ (w : World). PutsAlone m place w.orders) (sym last.now)
          (puts_on m last.k place last.lane _ a.found a.kept.within a.links (orders_are last.k place last.lane a.found) a.puts);
      few = few;
      few_before = bound;
      few_first = omega (arith, a.since (omega (arith, bound)), bound);
      idle = subst (λ (x : PublisherLaneState). publisher_is_idle x.port.call ≡ true) (sym after_is)
          (over_idle (last.lane).port.routes (words_of (last.lane).port) (last.lane).port.call
          (publisher_given (last.k).table last.lane) last.over);
      was_idle = and_left (publisher_is_idle before.port.call) (publisher_may before c) may;
    }

pub whole : (m : World) (place : ℕ) (c : Call) (before : PublisherLaneState) (n : World) (after : PublisherLaneState)
    → IsInTurn m (Publisher place) c n → slice_get m.publishers place ≡ Some before → slice_get n.publishers place ≡ Some after
    → WholeCall m place c before n after
whole m place c before n after t found now =
    whole_by m place c before n after (came_kept m t.came).0 (fits_is m place c before found t.begins.0) t.begins.0 t.few
    (the_last m place c before n t found) now
