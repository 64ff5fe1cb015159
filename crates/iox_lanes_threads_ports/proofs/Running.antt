-- A port that goes on step by step.
use Rattle.std.proofs.Common.{ℕ, ◌≡◌, ◌+◌, ◌<◌, ◌≤◌, ◌⊎◌, true, false, List, Option, Some, None, is_some, refl, sym, ◌∙◌, ap, subst, inl}
use Rattle.std.proofs.Common.{inr, arith}
use Rattle.std.proofs.lemmas.Option.{slice_get_within}
use Rattle.atomic_table.specs.Table.{Me}
use Rattle.iox_lanes_machine.specs.LanesBase.Numbers.{IsSmall}
use Rattle.iox_lanes_machine.specs.LanesBase.declared.words.sizes.TableSizes.{TableSizes}
use Rattle.iox_lanes_machine.specs.LanesBase.Publishing.{publisher_next, publisher_is_over, publisher_change}
use Rattle.iox_lanes_machine.specs.LanesBase.declared.calls.route.Route.{Route}
use Rattle.iox_lanes_machine.specs.LanesBase.Subscribing.{subscriber_next, subscriber_is_over}
use Rattle.iox_lanes_machine.specs.LanesBase.declared.calls.publisher.PublisherCall.{PublisherCall}
use Rattle.iox_lanes_machine.specs.LanesBase.declared.calls.publisher.PublisherCall.TheVariants as publishing
use Rattle.iox_lanes_machine.specs.LanesBase.declared.calls.subscriber.SubscriberCall.{SubscriberCall}
use Rattle.iox_lanes_machine.specs.LanesBase.declared.calls.subscriber.SubscriberCall.TheVariants as subscribing
use Rattle.iox_lanes_machine.specs.LanesBase.declared.words.access.SharedAccess.{SharedAccess}
use Rattle.iox_lanes_machine.specs.LanesBase.declared.words.access.SharedAccess.TheVariants.{Local}
use Rattle.iox_lanes_machine.specs.LanesParties.Parties.{PublisherLaneState, SubscriberLaneState, publisher_after, publisher_answer}
use Rattle.iox_lanes_machine.specs.LanesParties.Parties.{publisher_fits, subscriber_after}
use Rattle.iox_lanes_machine.specs.LanesParties.Within.{IsPublisher}
use Rattle.iox_lanes_machine.specs.LanesParties.declared.call.Answer.{Answer}
use Rattle.iox_lanes_machine.specs.LanesParties.Publishers.{words_of as call_words}
use Rattle.iox_lanes_threads_rule.specs.declared.service.Service.{Service}
use Rattle.iox_lanes_threads_rule.specs.Acts.{single, port_of, stepped, ToldBy}
use Rattle.iox_lanes_threads_rule.specs.declared.view.Port.{Port}
use Rattle.iox_lanes_threads_rule.specs.declared.view.PortParty.{PortParty}
use Rattle.iox_lanes_threads_rule.specs.declared.view.View.{View}
use Rattle.iox_lanes_threads_ports.specs.Courses.{publisher_party, publisher_stepped, subscriber_party, subscriber_stepped, PublisherGoes}
use Rattle.iox_lanes_threads_ports.specs.Courses.{PublisherSteps, SubscriberGoes, SubscriberSteps}
use Rattle.iox_lanes_threads_ports.specs.Pace.{IsGoing, steps_to_go, HasNotLoaded, StartsWithin}
use Rattle.iox_lanes_threads_ports.specs.Paces.{back_at, steps_in, taken_in, PublisherEnds, StaysInside, PublisherRuns}
use Rattle.iox_lanes_threads_ports.specs.Courses.PublisherGoes.{stays as publisher_stays, goes as publisher_goes}
use Rattle.iox_lanes_threads_ports.specs.Courses.SubscriberGoes.{stays as subscriber_stays, goes as subscriber_goes}
use Rattle.iox_lanes_machine.specs.LanesParties.declared.call.Move.{Move}
use Rattle.iox_lanes_machine.specs.LanesParties.declared.call.Move.TheVariants.{Begin, GoOn}
use Rattle.iox_lanes_threads_ports.specs.Ports.{PublisherStands, SubscriberStands}
use Rattle.iox_lanes_threads_ports.specs.Values.{publisher_begins}
use Rattle.iox_lanes_threads_ports.proofs.Connections.{few_connections, small_connections}
use Rattle.iox_lanes_threads_ports.proofs.Pacing.{TooMany, placed, some_to_go, steps_fall}
use Rattle.iox_lanes_threads_ports.proofs.PublisherSteps as publishers
use Rattle.iox_lanes_threads_ports.proofs.SubscriberSteps as subscribers
use Rattle.iox_lanes_threads_ports.proofs.Swept.{few_taken}

-- a port in progress, with a seat of its own
pub record SeatIs (p : Port) (me : Me ℕ View) : Type 0 where
  pub alone : me ≡ single (port_of me)
  pub service : (port_of me).service ≡ p.service
  pub name : (port_of me).name ≡ p.name

pub seat_stepped : (p q : Port) (me now : Me ℕ View) (access : SharedAccess) (n : ℕ) (after : ℕ → PortParty) → SeatIs p me
    → now ≡ single (stepped (port_of me) access n after) → SeatIs p now
seat_stepped p q me now access n after seat is =
    let same = publishers.step_same (port_of me) access n after in
    let port : port_of now ≡ stepped (port_of me) access n after = ap port_of is in
    record {
      alone = is ∙ ap single (sym port);
      service = ap (λ (z : Port). z.service) port ∙ same.service ∙ seat.service;
      name = ap (λ (z : Port). z.name) port ∙ same.name ∙ seat.name;
    }

-- a publisher in progress
pub record Publishes (p : Port) (me : Me ℕ View) (now : PublisherLaneState) : Type 0 where
  pub seat : SeatIs p me
  pub stands : PublisherStands (port_of me) now

-- n steps that it made, not the last among them
pub record Paced (most made : ℕ) (p : Port) (lane : PublisherLaneState) (q : Port) (now : PublisherLaneState) : Type 0 where
  pub goes : PublisherGoes p lane q now
  pub all : steps_in goes ≡ made
  pub words : ℕ
  pub going : IsGoing p.service.sizes words now.port.call
  pub routes : now.port.routes ≡ lane.port.routes
  pub pace : (made + steps_to_go (p.service.sizes.completion_cells + 1) p.service.sizes.connections words (taken_in goes) now.port.call
      ≤ most) ⊎ TooMany (p.service.sizes.completion_cells + 1) lane.port.routes (taken_in goes)

pub publishes : (p : Port) (me : Me ℕ View) (lane : PublisherLaneState) → me ≡ single (port_of me) → p ≡ port_of me
    → PublisherStands (port_of me) lane → Publishes p me lane
publishes p me lane alone is stands = record {
  seat = record { alone = alone; service = ap (λ (z : Port). z.service) (sym is); name = ap (λ (z : Port). z.name) (sym is) };
  stands = stands;
}

pub publishes_on : (p : Port) (me : Me ℕ View) (now : PublisherLaneState) (me' : Me ℕ View) (now' : PublisherLaneState)
    → Publishes p me now → PublisherSteps (port_of me) now me' now' → Publishes p me' now'
publishes_on p me now me' now' run step =
    let port : port_of me' ≡ publisher_stepped (port_of me) now step.0 = ap port_of step.2 in
    record {
      seat = seat_stepped p p me me' (publisher_next now.port.call) step.0 (publisher_party now) run.seat step.2;
      stands = subst (λ (z : Port × PublisherLaneState). PublisherStands z.0 z.1) (λ i. (sym port i, sym step.3 i))
          (publishers.goes_on (port_of me) now run.stands step.0 step.1);
    }

-- a call that begins
pub paced : (p : Port) (lane : PublisherLaneState) (sizes : TableSizes) (most : ℕ) → p.service.sizes ≡ sizes
    → StartsWithin sizes most lane.port.call → Paced most 0 p lane p lane
paced p lane sizes most same start =
    let start' : StartsWithin p.service.sizes most lane.port.call
    = subst (λ (z : TableSizes). StartsWithin z most lane.port.call) (sym same) start in
    let few = start'.few in
    record {
      goes = publisher_stays;
      all = refl;
      words = start'.words;
      going = start'.going;
      routes = refl;
      pace
          = inl (omega (arith, few));
    }

more_taken : (most : ℕ) (routes : List Route) (taken more : ℕ → ℕ) → TooMany most routes taken
    → TooMany most routes (λ place. taken place + more place)
more_taken most routes taken more many = let m
    = many.more in record { place = many.place; route = many.route; found = many.found; more = omega (arith, m) }

pub step_paced : (most made : ℕ) (p : Port) (lane : PublisherLaneState) (q : Port) (now : PublisherLaneState) (n : ℕ)
    → IsSmall p.service.sizes → q.service ≡ p.service → PublisherStands q now → Paced most made p lane q now
    → publisher_is_over now.port.call ≡ false → ToldBy q (publisher_next now.port.call) n
    → Paced most (made + 1) p lane (publisher_stepped q now n) (publisher_after n now)
step_paced most made p lane q now n small service stands run busy told =
    let within : IsPublisher p.service.sizes now = subst (λ (s : Service). IsPublisher s.sizes now) service stands.within in
    let wide = few_connections p.service.sizes now.port.routes stands.once within.routes in
    let falls = steps_fall p.service.sizes (p.service.sizes.completion_cells + 1) p.service.sizes.connections run.words now.port.routes
    wide (small_connections p.service.sizes small) (call_words now.port) (taken_in run.goes) now.port.call n
    run.going busy (placed p.service.sizes now.port.routes (call_words now.port) run.words now.port.call small run.going within.call) in
    record {
      goes = publisher_goes q now n run.goes told;
      all = ap (λ (k : ℕ). k + 1) run.all;
      words = run.words;
      going = falls.going;
      routes = run.routes;
      pace = elim run.pace [
        | inl few ↦ elim falls.left [
          | inl less ↦ inl (omega (arith, few, less))
          | inr many ↦ inr (more_taken (p.service.sizes.completion_cells + 1) lane.port.routes (taken_in run.goes)
              (λ place. back_at place (publisher_change now.port.call n))
              (subst (λ (rs : List Route). TooMany (p.service.sizes.completion_cells + 1) rs (taken_in run.goes)) run.routes many))
        ]
        | inr many ↦ inr (more_taken (p.service.sizes.completion_cells + 1) lane.port.routes (taken_in run.goes)
            (λ place. back_at place (publisher_change now.port.call n)) many)
      ];
    }

pub paced_on : (most made : ℕ) (p : Port) (lane : PublisherLaneState) (me : Me ℕ View) (now : PublisherLaneState) (me' : Me ℕ View)
    (now' : PublisherLaneState) → IsSmall p.service.sizes → Publishes p me now → Paced most made p lane (port_of me) now
    → publisher_is_over now.port.call ≡ false → PublisherSteps (port_of me) now me' now' → Paced most (made + 1) p lane (port_of me') now'
paced_on most made p lane me now me' now' small run pace busy step =
    let port : port_of me' ≡ publisher_stepped (port_of me) now step.0 = ap port_of step.2 in
    subst (λ (z : Port × PublisherLaneState). Paced most (made + 1) p lane z.0 z.1) (λ i. (sym port i, sym step.3 i))
    (step_paced most made p lane (port_of me) now step.0 small run.seat.service run.stands pace busy step.1)

-- the last step of a call touches no shared word
publisher_over : (c : PublisherCall) → publisher_is_over c ≡ true → publisher_next c ≡ Local
publisher_over publishing.Idle h = absurd (cc h)
publisher_over (publishing.LoanReclaims place route pop) h = absurd (cc h)
publisher_over publishing.Lending h = refl
publisher_over (publishing.Writing slot word value) h = absurd (cc h)
publisher_over (publishing.Written slot) h = refl
publisher_over (publishing.Heading slot word value) h = absurd (cc h)
publisher_over (publishing.Remembering slot) h = absurd (cc h)
publisher_over (publishing.SendReclaims slot place route pop) h = absurd (cc h)
publisher_over (publishing.Pushing slot place route push delivery) h = absurd (cc h)
publisher_over (publishing.Sent slot delivery) h = refl
publisher_over (publishing.Dropping slot) h = refl

-- a step that touches no shared word leaves the seat as it is
pub steps_alone : (me : Me ℕ View) (lane lane' : PublisherLaneState) → me ≡ single (port_of me) → publisher_next lane.port.call ≡ Local
    → lane' ≡ publisher_after 0 lane → PublisherSteps (port_of me) lane me lane'
steps_alone me lane lane' alone local after = (
  0,
  subst (λ (a : SharedAccess). ToldBy (port_of me) a 0) (sym local) refl,
  subst (λ (a : SharedAccess). me ≡ single (stepped (port_of me) a 0 (publisher_party lane))) (sym local) alone,
  after,
)

-- the last step of a call is such a step
pub ends_alone : (me : Me ℕ View) (lane lane' : PublisherLaneState) → me ≡ single (port_of me) → publisher_is_over lane.port.call ≡ true
    → lane' ≡ publisher_after 0 lane → PublisherSteps (port_of me) lane me lane'
ends_alone me lane lane' alone over after = steps_alone me lane lane' alone (publisher_over lane.port.call over) after

stays_local : (p : Port) (access : SharedAccess) (n : ℕ) (after : ℕ → PortParty) → access ≡ Local → ToldBy p access n
    → (stepped p access n after ≡ p) × (n ≡ 0)
stays_local p access n after e told
    = (subst (λ (a : SharedAccess). stepped p a n after ≡ p) (sym e) refl, subst (λ (a : SharedAccess). ToldBy p a n) e told)

publisher_ends : (most made : ℕ) (p : Port) (lane : PublisherLaneState) (me : Me ℕ View) (now : PublisherLaneState) (me' : Me ℕ View)
    (now' : PublisherLaneState) (a : Answer) → made < most → Paced most made p lane (port_of me) now
    → PublisherSteps (port_of me) now me' now' → publisher_is_over now.port.call ≡ true
    → publisher_answer now.fails now.port.call now'.port.book.answer ≡ Some a → PublisherEnds most p lane (port_of me') now' a
publisher_ends most made p lane me now me' now' a few run step over answers =
    let same = stays_local (port_of me) (publisher_next now.port.call) step.0 (publisher_party now) (publisher_over now.port.call over)
    step.1 in
    let port : port_of me' ≡ port_of me = ap port_of step.2 ∙ same.0 in
    let counted : (g : PublisherGoes p lane (port_of me) now)
    × (steps_in g < most) = let all = run.all in (run.goes, omega (arith, all, few)) in
    let there : (g : PublisherGoes p lane (port_of me') now)
    × (steps_in g < most) = subst (λ (z : Port). (g : PublisherGoes p lane z now) × (steps_in g < most)) (sym port) counted in
    record {
      last = now;
      goes = there.0;
      few = there.1;
      ends = over;
      after = step.3 ∙ ap (λ (n : ℕ). publisher_after n now) same.1;
      answers = answers;
    }

-- a run that stops after its last step, by what that step answered
pub publisher_stops : (most made : ℕ) (p : Port) (lane : PublisherLaneState) (me : Me ℕ View) (now : PublisherLaneState)
    (me' : Me ℕ View) (now' : PublisherLaneState) (a : Option Answer) → made < most → Paced most made p lane (port_of me) now
    → PublisherSteps (port_of me) now me' now' → a ≡ publisher_answer now.fails now.port.call now'.port.book.answer
    → is_some a ≡ publisher_is_over now.port.call → is_some a ≡ true → PublisherRuns most p lane (port_of me') now' a
publisher_stops most made p lane me now me' now' None few run step answers ends some = absurd (cc some)
publisher_stops most made p lane me now me' now' (Some a) few run step answers ends some
    = publisher_ends most made p lane me now me' now' a few run step (sym ends) (sym answers)

-- and one that made all the steps that it may
pub publisher_stays_inside : (most : ℕ) (p : Port) (lane : PublisherLaneState) (q : Port) (now : PublisherLaneState)
    → PublisherStands p lane → HasNotLoaded lane.port.call → Paced most most p lane q now → StaysInside most p lane q now
publisher_stays_inside most p lane q now stands first run = elim run.pace [
  | inl few ↦ let some = some_to_go p.service.sizes (p.service.sizes.completion_cells + 1) p.service.sizes.connections run.words
      (taken_in run.goes) now.port.call run.going in absurd (omega (arith, few, some))
  | inr many ↦
      let more = many.more in
      record {
        goes = run.goes;
        all = run.all;
        place = many.place;
        route = many.route;
        found = many.found;
        more = omega (arith, more);
        late = λ early.
            let few = few_taken p lane q now run.goes stands first early many.place
            (slice_get_within lane.port.routes many.place many.route many.found) in
            absurd (omega (arith, more, few));
      }
]

-- a subscriber in progress
pub record Subscribes (p : Port) (lane : SubscriberLaneState) (me : Me ℕ View) (now : SubscriberLaneState) : Type 0 where
  pub seat : SeatIs p me
  pub stands : SubscriberStands (port_of me) now
  pub goes : SubscriberGoes p lane (port_of me) now

pub subscribes : (p : Port) (lane : SubscriberLaneState) (me : Me ℕ View) → me ≡ single (port_of me) → p ≡ port_of me
    → SubscriberStands (port_of me) lane → Subscribes p lane me lane
subscribes p lane me alone is stands = record {
  seat = record { alone = alone; service = ap (λ (z : Port). z.service) (sym is); name = ap (λ (z : Port). z.name) (sym is) };
  stands = stands;
  goes = subst (λ (z : Port). SubscriberGoes p lane z lane) is subscriber_stays;
}

pub subscribes_on : (p : Port) (lane : SubscriberLaneState) (me : Me ℕ View) (now : SubscriberLaneState) (me' : Me ℕ View)
    (now' : SubscriberLaneState) → Subscribes p lane me now
    → SubscriberSteps (port_of me) now me' now' → Subscribes p lane me' now'
subscribes_on p lane me now me' now' run step =
    let port : port_of me' ≡ subscriber_stepped (port_of me) now step.0 = ap port_of step.2 in
    record {
      seat = seat_stepped p p me me' (subscriber_next now.port.call) step.0 (subscriber_party now) run.seat step.2;
      stands = subst (λ (z : Port × SubscriberLaneState). SubscriberStands z.0 z.1) (λ i. (sym port i, sym step.3 i))
          (subscribers.goes_on (port_of me) now run.stands step.0 step.1);
      goes = subst (λ (z : Port × SubscriberLaneState). SubscriberGoes p lane z.0 z.1) (λ i. (sym port i, sym step.3 i))
          (subscriber_goes (port_of me) now step.0 run.goes step.1);
    }

subscriber_over : (c : SubscriberCall) → subscriber_is_over c ≡ true → subscriber_next c ≡ Local
subscriber_over subscribing.Idle h = absurd (cc h)
subscriber_over (subscribing.Receiving place route pop waits) h = absurd (cc h)
subscriber_over (subscribing.Received receipt) h = refl
subscriber_over (subscribing.Reading slot word extent) h = absurd (cc h)
subscriber_over (subscribing.WasRead slot) h = refl
subscriber_over (subscribing.Releasing place route push) h = absurd (cc h)
subscriber_over (subscribing.Released done) h = refl

-- the last step of a subscriber's call leaves its port
pub subscriber_last : (p : Port) (lane : SubscriberLaneState) → SubscriberStands p lane → subscriber_is_over lane.port.call ≡ true
    → SubscriberStands p (subscriber_after 0 lane)
subscriber_last p lane stands over =
    let local = subscriber_over lane.port.call over in
    let told : ToldBy p (subscriber_next lane.port.call) 0 = subst (λ (a : SharedAccess). ToldBy p a 0) (sym local) refl in
    let same = stays_local p (subscriber_next lane.port.call) 0 (subscriber_party lane) local told in
    subst (λ (z : Port). SubscriberStands z (subscriber_after 0 lane)) same.0 (subscribers.goes_on p lane stands 0 told)

-- the last step of a publisher's call leaves its port
pub publisher_last : (p : Port) (lane : PublisherLaneState) → PublisherStands p lane → publisher_is_over lane.port.call ≡ true
    → PublisherStands p (publisher_after 0 lane)
publisher_last p lane stands over =
    let local = publisher_over lane.port.call over in
    let told : ToldBy p (publisher_next lane.port.call) 0 = subst (λ (a : SharedAccess). ToldBy p a 0) (sym local) refl in
    let same = stays_local p (publisher_next lane.port.call) 0 (publisher_party lane) local told in
    subst (λ (z : Port). PublisherStands z (publisher_after 0 lane)) same.0 (publishers.goes_on p lane stands 0 told)

-- a publisher that begins what fits stands as before
pub publisher_begun_stands : (p : Port) (lane : PublisherLaneState) (step : Move) → PublisherStands p lane
    → publisher_fits lane step ≡ true → PublisherStands p (publisher_begins step lane)
publisher_begun_stands p lane GoOn stands fit = stands
publisher_begun_stands p lane (Begin c) stands fit = publishers.begins p lane 0 c stands fit
