use Rattle.std.proofs.Common.{ℕ, ◌≡◌, ◌<◌, true, set, slice_get, Option, Some, sym, ◌∙◌, ap, subst}
use Rattle.iox_lanes_machine.specs.LanesBase.Table.{TableWords}
use Rattle.iox_lanes_machine.specs.LanesBase.declared.words.word.ConnectionRing.TheVariants.{Completion}
use Rattle.iox_lanes_machine.specs.LanesBase.declared.calls.route.Route.{Route}
use Rattle.iox_lanes_machine.specs.LanesParties.Publishers.{PublisherState}
use Rattle.iox_lanes_machine.specs.LanesParties.Parties.{PublisherLaneState}
use Rattle.iox_lanes_machine.specs.Findings.{back_found, back_of, laid, given_at, given_of}
use Rattle.iox_lanes_machine.specs.State.{world_of}
use Rattle.iox_lanes_machine.specs.World.{World}
use Rattle.iox_lanes_machine.proofs.Findings.{back_cell, get_is}
use Rattle.iox_lanes_machine.proofs.state.State.find_given_back.Goals as goal

pub back_found-cell-requires : goal.back_found-cell-requires
back_found-cell-requires c =
    let m : World = world_of c.args.self.now in
    let lane : PublisherLaneState = c.in-Some.lane.now in
    let route : Route = c.in-Some-route.route in
    let found : slice_get m.publishers c.args.publisher ≡ Some lane
    = get_is m.publishers c.args.publisher lane ((c.in-Some.ensures.item).3).0 (c.in-Some.ensures.item).1 in
    let here : slice_get lane.port.routes c.args.place ≡ Some route
    = sym (c.route.ensures ∙ ap (λ (port : PublisherState). slice_get port.routes c.args.place) c.port.ensures) ∙ c.in-Some-route.is in
    (back_cell m c.args.place c.args.slot lane route c.requires.within
    (subst (λ (at : Option PublisherLaneState). back_of m c.args.place c.args.slot at ≡ true) found c.requires.fits) here).0

pub lay-requires : goal.lay-requires
lay-requires c =
    let m : World = world_of c.args.self.now in
    let lane : PublisherLaneState = c.in-Some.lane.now in
    let route : Route = c.in-Some-route.route in
    let found : slice_get m.publishers c.args.publisher ≡ Some lane
    = get_is m.publishers c.args.publisher lane ((c.in-Some.ensures.item).3).0 (c.in-Some.ensures.item).1 in
    let here : slice_get lane.port.routes c.args.place ≡ Some route
    = sym (c.route.ensures ∙ ap (λ (port : PublisherState). slice_get port.routes c.args.place) c.port.ensures) ∙ c.in-Some-route.is in
    let is = back_cell m c.args.place c.args.slot lane route c.requires.within
    (subst (λ (at : Option PublisherLaneState). back_of m c.args.place c.args.slot at ≡ true) found c.requires.fits) here in
    (is.0, subst (λ (cell : ℕ). cell < m.table.sizes.completion_cells) (sym c.back_found-cell.ensures) is.1)

pub returns : goal.returns
returns c =
    let m : World = world_of c.args.self.now in
    let lane : PublisherLaneState = c.in-Some.lane.now in
    let route : Route = c.in-Some-route.route in
    let found : slice_get m.publishers c.args.publisher ≡ Some lane
    = get_is m.publishers c.args.publisher lane ((c.in-Some.ensures.item).3).0 (c.in-Some.ensures.item).1 in
    let here : slice_get lane.port.routes c.args.place ≡ Some route
    = sym (c.route.ensures ∙ ap (λ (port : PublisherState). slice_get port.routes c.args.place) c.port.ensures) ∙ c.in-Some-route.is in
    ap (λ (t : TableWords). record m { table = t; publishers = set m.publishers c.args.publisher c.find.new.self })
    (c.lay.ensures ∙ ap (λ (cell : ℕ). laid m.table route.connection Completion cell c.args.slot) c.back_found-cell.ensures)
    ∙ ap (λ (l : PublisherLaneState). record m {
      table = laid m.table route.connection Completion (back_found m.table route.connection) c.args.slot;
      publishers
          = set m.publishers c.args.publisher l;
    }) c.find.ensures
    ∙ sym (ap (given_at m c.args.publisher c.args.place c.args.slot lane) here)
    ∙ sym (ap (given_of m c.args.publisher c.args.place c.args.slot) found)
