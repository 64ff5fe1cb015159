use Rattle.std.proofs.Common.{rules, ◌≡◌, length}
use Rattle.iox_lanes_machine.specs.LanesParties.Parties.{SubscriberLaneState}
use Rattle.iox_lanes_machine.specs.State.{world_of}
use Rattle.iox_lanes_machine.specs.World.{World}
use Rattle.iox_lanes_machine.proofs.Findings.{get_is}
use Rattle.iox_lanes_machine.proofs.StateSteps.{subscriber_went}
use Rattle.iox_lanes_machine.proofs.state.State.go_on_subscriber.Goals as goal

pub returns : goal.returns
returns c =
    let m : World = world_of c.args.self.now in
    let lane : SubscriberLaneState = c.in-Some.lane.now in
    let went = c.go_on_subscriber-answer in
    let from_is : c.len-from.result ≡ length m.read = search rules in
    subscriber_went m c.args.place lane went.new.lane went.new.table c.call.result c.first.result c.len-from.result went.result
    c.words_read.result.now c.add_reserved.new.list.items c.end_call.new.finished.items c.saturating_add-self.result
    (get_is m.subscribers c.args.place lane ((c.in-Some.ensures.item).3).0 (c.in-Some.ensures.item).1) went.ensures.table
    went.ensures.lane went.ensures.answer from_is c.words_read.ensures c.add_reserved.ensures c.call.ensures
    c.first.ensures c.end_call.ensures c.saturating_add-self.ensures
