use Rattle.std.proofs.Common.{rules, ◌≡◌, slice_get, Some, sym, subst}
use Rattle.iox_lanes_machine.specs.LanesBase.declared.calls.subscriber.SubscriberCall.{SubscriberCall}
use Rattle.iox_lanes_machine.specs.LanesParties.Parties.{SubscriberLaneState}
use Rattle.iox_lanes_machine.specs.Kept.{StandsInService}
use Rattle.iox_lanes_machine.specs.State.{world_of}
use Rattle.iox_lanes_machine.specs.World.{World, pops_from}
use Rattle.iox_lanes_machine.proofs.StandsWithin.{subscriber_call_stands}
use Rattle.iox_lanes_machine.proofs.state.State.subscriber_placing.Goals as goal

pub popped-requires : goal.popped-requires
popped-requires c =
    let m : World = world_of c.args.self.now in
    let lane : SubscriberLaneState = c.in-Some.lane.now in
    let found : slice_get m.subscribers c.args.place ≡ Some lane = search rules in
    subst (λ (call : SubscriberCall). StandsInService m.table.sizes (pops_from call)) (sym c.stage.ensures)
    (subscriber_call_stands m c.args.place lane c.requires found)
