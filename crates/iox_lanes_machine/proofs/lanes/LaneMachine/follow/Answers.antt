use Rattle.std.proofs.Common.{◌≡◌, subst, sym}
use Rattle.iox_lanes_machine.specs.Alone.{LoansStandAlone}
use Rattle.iox_lanes_machine.specs.Calls.{CallsKeepTime}
use Rattle.iox_lanes_machine.specs.Mailboxes.{OrdersFollow}
use Rattle.iox_lanes_machine.specs.Reads.{ReadsLie}
use Rattle.iox_lanes_machine.specs.Receipts.{ReceiptsFollow}
use Rattle.iox_lanes_machine.specs.Rooms.{ReleasesFollow}
use Rattle.iox_lanes_machine.specs.Sends.{SendsFollow}
use Rattle.iox_lanes_machine.specs.Slots.{LoansApart}
use Rattle.iox_lanes_machine.specs.State.{world_of}
use Rattle.iox_lanes_machine.proofs.Alone.{loans_alone}
use Rattle.iox_lanes_machine.proofs.Mailboxes.{orders_follow}
use Rattle.iox_lanes_machine.proofs.Slots.{loans_apart}
use Rattle.iox_lanes_machine.proofs.lanes.LaneMachine.follow.Goals as goal

pub returns-clause-orders : goal.returns-clause-orders
returns-clause-orders c =
    let is : c.args.self.now ≡ world_of c.self.inside.state = cc c.self.view_is in
    subst OrdersFollow (sym is) (orders_follow (world_of c.self.inside.state) c.self.invariant)

pub returns-clause-receipts : goal.returns-clause-receipts
returns-clause-receipts c =
    let is : c.args.self.now ≡ world_of c.self.inside.state = cc c.self.view_is in
    subst ReceiptsFollow (sym is) c.self.invariant.receipts

pub returns-clause-sends : goal.returns-clause-sends
returns-clause-sends c =
    let is : c.args.self.now ≡ world_of c.self.inside.state = cc c.self.view_is in
    subst SendsFollow (sym is) c.self.invariant.sends

pub returns-clause-calls : goal.returns-clause-calls
returns-clause-calls c =
    let is : c.args.self.now ≡ world_of c.self.inside.state = cc c.self.view_is in
    subst CallsKeepTime (sym is) c.self.invariant.calls

pub returns-clause-loans : goal.returns-clause-loans
returns-clause-loans c =
    let is : c.args.self.now ≡ world_of c.self.inside.state = cc c.self.view_is in
    subst LoansApart (sym is) (loans_apart (world_of c.self.inside.state) c.self.invariant.loans)

pub returns-clause-reads : goal.returns-clause-reads
returns-clause-reads c =
    let is : c.args.self.now ≡ world_of c.self.inside.state = cc c.self.view_is in
    subst ReadsLie (sym is) c.self.invariant.reads

pub returns-clause-alone : goal.returns-clause-alone
returns-clause-alone c =
    let is : c.args.self.now ≡ world_of c.self.inside.state = cc c.self.view_is in
    subst LoansStandAlone (sym is) (loans_alone (world_of c.self.inside.state) c.self.invariant)

pub returns-clause-releases : goal.returns-clause-releases
returns-clause-releases c =
    let is : c.args.self.now ≡ world_of c.self.inside.state = cc c.self.view_is in
    subst ReleasesFollow (sym is) (λ few. (c.self.invariant.rooms few).releases)
