use Rattle.std.proofs.Common.{ℕ, ◌≡◌, ◌∷◌, [], ◌++◌, true, List, length, set, slice_get, Option, Some, sym, ◌∙◌, ap, subst, arith}
use Rattle.iox_lanes_machine.specs.LanesBase.Table.{TableWords}
use Rattle.iox_lanes_machine.specs.LanesBase.declared.words.word.ConnectionRing.TheVariants.{Submission}
use Rattle.iox_lanes_machine.specs.LanesBase.declared.calls.route.Route.{Route}
use Rattle.iox_lanes_machine.specs.LanesParties.Publishers.{PublisherState}
use Rattle.iox_lanes_machine.specs.LanesParties.Parties.{PublisherLaneState}
use Rattle.iox_lanes_machine.specs.Findings.{laid, waits_of, waiting_at, waiting_in, waiting_of}
use Rattle.iox_lanes_machine.specs.Links.{LinkState}
use Rattle.iox_lanes_machine.specs.State.{world_of}
use Rattle.iox_lanes_machine.specs.World.{World}
use Rattle.iox_lanes_machine.proofs.Findings.{get_is, waiting_cell}
use Rattle.iox_lanes_machine.proofs.state.State.find_waiting.Goals as goal

pub lay-requires : goal.lay-requires
lay-requires c =
    let m : World = world_of c.args.self.now in
    let lane : PublisherLaneState = c.in-Some.lane.now in
    let route : Route = c.in-Some-route.route in
    let link : LinkState = c.in-Some-get_mut.link.now in
    let found : slice_get m.publishers c.args.publisher ≡ Some lane
    = get_is m.publishers c.args.publisher lane ((c.in-Some.ensures.item).3).0 (c.in-Some.ensures.item).1 in
    let here : slice_get lane.port.routes c.args.place ≡ Some route
    = sym (c.route.ensures ∙ ap (λ (port : PublisherState). slice_get port.routes c.args.place) c.port.ensures) ∙ c.in-Some-route.is in
    let there : slice_get m.links route.connection ≡ Some link
    = get_is m.links route.connection link ((c.in-Some-get_mut.ensures.item).3).0 (c.in-Some-get_mut.ensures.item).1 in
    let is = waiting_cell m c.args.place c.args.slot lane route link c.requires.within
    (subst (λ (at : Option PublisherLaneState). waits_of m c.args.place c.args.slot at ≡ true) found c.requires.fits) here there in
    (is.0, omega (arith, is.1, ap (λ (xs : List ℕ). length xs) c.found.ensures))

pub returns-clause-found : goal.returns-clause-found
returns-clause-found c =
    let m : World = world_of c.args.self.now in
    let lane : PublisherLaneState = c.in-Some.lane.now in
    let route : Route = c.in-Some-route.route in
    let link : LinkState = c.in-Some-get_mut.link.now in
    let after : LinkState = record link { found = link.found ++ c.args.slot ∷ [] } in
    let found : slice_get m.publishers c.args.publisher ≡ Some lane
    = get_is m.publishers c.args.publisher lane ((c.in-Some.ensures.item).3).0 (c.in-Some.ensures.item).1 in
    let here : slice_get lane.port.routes c.args.place ≡ Some route
    = sym (c.route.ensures ∙ ap (λ (port : PublisherState). slice_get port.routes c.args.place) c.port.ensures) ∙ c.in-Some-route.is in
    let there : slice_get m.links route.connection ≡ Some link
    = get_is m.links route.connection link ((c.in-Some-get_mut.ensures.item).3).0 (c.in-Some-get_mut.ensures.item).1 in
    ap (λ (t : TableWords). record m
    { table = t; links = set m.links route.connection c.find.new.self; publishers = set m.publishers c.args.publisher c.find-2.new.self })
    (c.lay.ensures ∙ ap (λ (xs : List ℕ). laid m.table route.connection Submission (length xs) c.args.slot) c.found.ensures)
    ∙ ap (λ (l : LinkState). record m {
      table = laid m.table route.connection Submission (length link.found) c.args.slot;
      links = set m.links route.connection l;
      publishers
          = set m.publishers c.args.publisher c.find-2.new.self;
    }) c.in_ok-find.ensures.found
    ∙ ap (λ (l : PublisherLaneState). record m {
      table = laid m.table route.connection Submission (length link.found) c.args.slot;
      links
          = set m.links route.connection after;
      publishers = set m.publishers c.args.publisher l;
    }) c.find-2.ensures
    ∙ sym (ap (waiting_in m c.args.publisher c.args.place c.args.slot lane route.connection) there)
    ∙ sym (ap (waiting_at m c.args.publisher c.args.place c.args.slot lane) here)
    ∙ sym (ap (waiting_of m c.args.publisher c.args.place c.args.slot) found)
