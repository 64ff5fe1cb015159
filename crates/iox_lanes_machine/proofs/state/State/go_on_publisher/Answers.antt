use Rattle.iox_lanes_machine.specs.LanesParties.Parties.{PublisherLaneState}
use Rattle.iox_lanes_machine.specs.State.{world_of}
use Rattle.iox_lanes_machine.specs.World.{World}
use Rattle.iox_lanes_machine.proofs.Findings.{get_is}
use Rattle.iox_lanes_machine.proofs.StateSteps.{publisher_went}
use Rattle.iox_lanes_machine.proofs.state.State.go_on_publisher.Goals as goal

pub returns : goal.returns
returns c =
    let m : World = world_of c.args.self.now in
    let lane : PublisherLaneState = c.in-Some.lane.now in
    let went = c.go_on_publisher-answer in
    publisher_went m c.args.place lane went.new.lane went.new.table c.call.result c.first.result went.result
    c.end_call.new.finished.items c.saturating_add-self.result
    (get_is m.publishers c.args.place lane ((c.in-Some.ensures.item).3).0 (c.in-Some.ensures.item).1) went.ensures.table
    went.ensures.lane went.ensures.answer c.call.ensures c.first.ensures c.end_call.ensures c.saturating_add-self.ensures
