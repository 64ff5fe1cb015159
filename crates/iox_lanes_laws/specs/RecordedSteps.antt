-- A step of lanes that keep messages, compared with a step of the lanes alone.
use Rattle.iox_lanes_machine.specs.QueuesSteps.declared.schedule.Stepped.{Stepped}
use Rattle.iox_lanes_machine.specs.LanesParties.declared.call.Move.{Move}
use Rattle.iox_lanes_machine.specs.LanesParties.declared.call.Party.{Party}
use Rattle.iox_lanes_machine.specs.Alone.{LoansStandAlone, UsedSlotsStay}
use Rattle.iox_lanes_machine.specs.Apart.{StaysApart}
use Rattle.iox_lanes_machine.specs.Calls.{CallsKeepTime}
use Rattle.iox_lanes_machine.specs.Fixed.{StaysFixed}
use Rattle.iox_lanes_machine.specs.Held.{ReadsWhole}
use Rattle.iox_lanes_machine.specs.Left.{StoresLeft}
use Rattle.iox_lanes_machine.specs.Loans.{LoansLent}
use Rattle.iox_lanes_machine.specs.Mailboxes.{OrdersFollow}
use Rattle.iox_lanes_machine.specs.Queues.{GivenBackInTurn}
use Rattle.iox_lanes_machine.specs.Reads.{ReadsLie}
use Rattle.iox_lanes_machine.specs.Receipts.{ReceiptsFollow}
use Rattle.iox_lanes_machine.specs.Rooms.{ReleasesFollow}
use Rattle.iox_lanes_machine.specs.Sends.{SendsFollow}
use Rattle.iox_lanes_machine.specs.Slots.{LoansApart, SlotsStay}
use Rattle.iox_lanes_machine.specs.Told.{Told}
use Rattle.iox_lanes_machine.specs.World.{World}
use Rattle.iox_lanes_laws.specs.Recorded.{RecordState, RecordsTo}

-- What `Lanes::run` ensures of all lanes: of their orders, the calls that ended, their loans, and the words read.
pub record AllFollow (m : World) : Type 0 where
  pub orders : OrdersFollow m
  pub receipts : ReceiptsFollow m
  pub sends : SendsFollow m
  pub calls : CallsKeepTime m
  pub loans : LoansApart m
  pub alone : LoansStandAlone m
  pub reads : ReadsLie m
  pub releases : ReleasesFollow m

-- A step of lanes that keep messages ensures all that `Lanes::step` says of a step, also if no message could be kept and nothing changed.
pub record MakesStep (r : RecordState) (party : Party) (step : Move) (answer : Stepped) (n : RecordState) : Type 0 where
  pub steps : RecordsTo r party step answer n
  pub apart : StaysApart r.lanes party step answer n.lanes
  pub told : Told r.lanes party step answer n.lanes
  pub slots : SlotsStay r.lanes party n.lanes
  pub fixed : StaysFixed r.lanes n.lanes
  pub uses : UsedSlotsStay r.lanes n.lanes
  pub left : StoresLeft r.lanes n.lanes
  pub lent : LoansLent r.lanes n.lanes
  pub turns : GivenBackInTurn r.lanes party n.lanes
  pub whole : ReadsWhole r.lanes n.lanes
  pub follow : AllFollow n.lanes
