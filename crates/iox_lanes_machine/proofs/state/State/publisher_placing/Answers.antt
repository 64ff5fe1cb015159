use Rattle.std.proofs.Common.{rules, ◌≡◌, slice_get, Some, sym, subst}
use Rattle.iox_lanes_machine.specs.LanesBase.declared.calls.publisher.PublisherCall.{PublisherCall}
use Rattle.iox_lanes_machine.specs.LanesParties.Parties.{PublisherLaneState}
use Rattle.iox_lanes_machine.specs.Kept.{StandsInService}
use Rattle.iox_lanes_machine.specs.State.{world_of}
use Rattle.iox_lanes_machine.specs.World.{World, pushes_to}
use Rattle.iox_lanes_machine.proofs.StandsWithin.{publisher_call_stands}
use Rattle.iox_lanes_machine.proofs.state.State.publisher_placing.Goals as goal

pub pushed-requires : goal.pushed-requires
pushed-requires c =
    let m : World = world_of c.args.self.now in
    let lane : PublisherLaneState = c.in-Some.lane.now in
    let found : slice_get m.publishers c.args.place ≡ Some lane = search rules in
    subst (λ (call : PublisherCall). StandsInService m.table.sizes (pushes_to call)) (sym c.stage.ensures)
    (publisher_call_stands m c.args.place lane c.requires found)
