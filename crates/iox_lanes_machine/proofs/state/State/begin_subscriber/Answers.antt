use Rattle.iox_lanes_machine.specs.LanesParties.Parties.{SubscriberLaneState}
use Rattle.iox_lanes_machine.specs.State.{world_of}
use Rattle.iox_lanes_machine.specs.World.{World}
use Rattle.iox_lanes_machine.proofs.Findings.{get_is}
use Rattle.iox_lanes_machine.proofs.StateSteps.{subscriber_began}
use Rattle.iox_lanes_machine.proofs.state.State.begin_subscriber.Goals as goal

pub returns : goal.returns
returns c =
    let m : World = world_of c.args.self.now in
    let lane : SubscriberLaneState = c.in-Some.lane.now in
    subscriber_began m c.args.place c.args.call.now lane c.begin.new.self c.saturating_add-self.result
    (get_is m.subscribers c.args.place lane ((c.in-Some.ensures.item).3).0 (c.in-Some.ensures.item).1) c.begin.ensures
    c.saturating_add-self.ensures
