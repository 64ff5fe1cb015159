use Rattle.std.proofs.Common.{arith, length, ap}
use Rattle.iox_hub_base.specs.Room.{loans_left_in}
use Rattle.iox_hub_commands.proofs.PortRooms.{more_pledges, anew_pledges}
use Rattle.iox_hub_commands.proofs.numbered_hub.NumberedHub.pledge_loans.Goals as goal

pub returns-in-Some-clause-room : goal.returns-in-Some-clause-room
returns-in-Some-clause-room g c = λ room. let same = ap length c.in-Some.ensures.same.0 in
    more_pledges c.pledged_more.new.numbers (loans_left_in c.args.self.now.hub.services.domains) c.args.more c.args.self.now.pledged.loans
    c.in-Some.pledged c.in-Some.ensures.some.0 c.in-Some.ensures.some.1 (omega (arith, same, room.0))

pub returns-clause-room : goal.returns-clause-room
returns-clause-room g c = λ room.
    let left = loans_left_in c.args.self.now.hub.services.domains in
    anew_pledges c.pledged_anew.new.numbers left left c.loans_left-left.result c.args.more c.in_ok-self.field-0 (omega arith)
    c.loans_left-left.ensures c.in_ok-self.ensures.room c.in_ok-self.ensures.small
