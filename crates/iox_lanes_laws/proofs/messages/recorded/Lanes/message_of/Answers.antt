use Rattle.std.proofs.Common.{◌≡◌, ◌<◌, Some, slice_get, ap, subst, sym}
use Rattle.iox_lanes_machine.specs.LanesBase.Table.{TableWords}
use Rattle.iox_lanes_machine.specs.World.{World}
use Rattle.iox_lanes_laws.specs.Recorded.{RecordState}
use Rattle.iox_lanes_laws.proofs.Lanes.{loan_there}
use Rattle.iox_lanes_laws.proofs.messages.recorded.Lanes.message_of.Goals as goal

pub new-requires : goal.new-requires
new-requires c =
    let is : c.args.self.now.lanes ≡ c.self.inside.lanes = sym (ap (λ (r : RecordState). r.lanes) c.self.view_is) in
    subst (λ (t : TableWords). c.args.loan < t.sizes.slots) (sym c.table.ensures)
    (loan_there c.self.inside.lanes c.args.place c.args.loan c.args.lane.now
    (subst (λ (m : World). slice_get m.publishers c.args.place ≡ Some c.args.lane.now) is c.requires.lane) c.requires.out
    c.are_of_one_service.ensures.within)
