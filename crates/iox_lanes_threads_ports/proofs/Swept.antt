-- What the steps of a call take back at a connection, as long as no write position stood at 2^64 - 1 when they loaded a word.
use Rattle.std.proofs.Common.{ℕ, ◌≡◌, ◌<◌, ◌≤◌, List, length, refl, sym, ◌∙◌, subst}
use Rattle.iox_lanes_machine.specs.LanesBase.Publishing.{publisher_next}
use Rattle.iox_lanes_machine.specs.LanesBase.declared.calls.route.Route.{Route}
use Rattle.iox_lanes_machine.specs.LanesParties.Parties.{PublisherLaneState, publisher_after}
use Rattle.iox_lanes_machine.specs.LanesParties.Publishers.{words_of as call_words}
use Rattle.iox_lanes_threads_rule.specs.declared.service.Service.{Service}
use Rattle.iox_lanes_threads_rule.specs.declared.view.Port.{Port}
use Rattle.iox_lanes_threads_ports.specs.Courses.{publisher_party, PublisherGoes}
use Rattle.iox_lanes_threads_ports.specs.Courses.PublisherGoes.{stays, goes}
use Rattle.iox_lanes_threads_ports.specs.Pace.{HasNotLoaded}
use Rattle.iox_lanes_threads_ports.specs.Paces.{taken_in, AreLoadedEarly}
use Rattle.iox_lanes_threads_ports.specs.Ports.{PublisherStands}
use Rattle.iox_lanes_threads_ports.proofs.Moments.{loaded_slots}
use Rattle.iox_lanes_threads_ports.proofs.PublisherSteps.{step_same, goes_on}
use Rattle.iox_lanes_threads_ports.proofs.Sweeping.{CallSweeps, HasItsSlots, IfLoaded, none_taken_first, sweeps_few, sweeps_on}

-- a publisher after steps of its call that took back n at each place
record TookBack (p : Port) (lane : PublisherLaneState) (q : Port) (now : PublisherLaneState) (taken : ℕ → ℕ) : Type 0 where
  service : q.service ≡ p.service
  stands : PublisherStands q now
  routes : now.port.routes ≡ lane.port.routes
  sweeps : CallSweeps p.service.sizes.completion_cells (length now.port.routes) taken now.port.book now.port.call

swept_along : (p : Port) (lane : PublisherLaneState) (q : Port) (now : PublisherLaneState) (steps : PublisherGoes p lane q now)
    → PublisherStands p lane → HasNotLoaded lane.port.call → AreLoadedEarly steps → TookBack p lane q now (taken_in steps)
swept_along p lane q now stays stands first early = record {
  service = refl;
  stands = stands;
  routes = refl;
  sweeps = none_taken_first p.service.sizes.completion_cells (length lane.port.routes) lane.port.book lane.port.call first;
}
swept_along p lane q now (goes last was n before told) stands first early =
    let run = swept_along p lane last was before stands first early.0 in
    let slots = subst (λ (s : Service). IfLoaded (publisher_next was.port.call)
    (HasItsSlots s.sizes.completion_cells (length was.port.routes) (publisher_after n was).port.book (publisher_after n was).port.call))
    run.service (loaded_slots last was n run.stands told early.1) in
    record {
      service = (step_same last (publisher_next was.port.call) n (publisher_party was)).service ∙ run.service;
      stands = goes_on last was run.stands n told;
      routes = run.routes;
      sweeps = sweeps_on p.service.sizes.completion_cells was.port.routes (call_words was.port) (taken_in before) was.port.book
          was.port.call n run.sweeps slots;
    }

-- no more than its ring of samples given back has cells
pub few_taken : (p : Port) (lane : PublisherLaneState) (q : Port) (now : PublisherLaneState) (steps : PublisherGoes p lane q now)
    → PublisherStands p lane → HasNotLoaded lane.port.call → AreLoadedEarly steps → (place : ℕ) → place < length lane.port.routes
    → taken_in steps place ≤ p.service.sizes.completion_cells
few_taken p lane q now steps stands first early place below =
    let run = swept_along p lane q now steps stands first early in
    sweeps_few p.service.sizes.completion_cells (length now.port.routes) (taken_in steps) now.port.book now.port.call run.sweeps place
    (subst (λ (rs : List Route). place < length rs) (sym run.routes) below)
