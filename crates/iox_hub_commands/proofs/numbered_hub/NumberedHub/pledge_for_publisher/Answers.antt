use Rattle.std.proofs.Common.{◌∙◌, ◌^◌, ◌-◌, ◌+◌, min, ap}
use Rattle.iox_hub_base.specs.Room.{loans_left_in, samples_left_in}
use Rattle.iox_hub_commands.specs.PortRoom.{most_samples_from}
use Rattle.iox_hub_commands.proofs.PortRooms.{keeps_on, roomier_grows_on, roomier_samples, loans_pledged, samples_pledged, pledges_still}
use Rattle.iox_hub_commands.proofs.PortRooms.{pledges_brought, where_it_works}
use Rattle.iox_hub_commands.proofs.Rooms.{roomier_and_roomier}
use Rattle.iox_hub_commands.proofs.GrowingFor.{grows_loans, grows_both, least}
use Rattle.iox_hub_commands.proofs.numbered_hub.NumberedHub.pledge_for_publisher.Goals as goal

pub returns-in_err-pledge_loans-clause-keeps : goal.returns-in_err-pledge_loans-clause-keeps
returns-in_err-pledge_loans-clause-keeps g c =
    loans_pledged c.pledge_loans.result c.args.loans c.args.self.now c.pledge_loans.new.self c.pledge_loans.ensures.same
    c.pledge_loans.ensures.room c.pledge_loans.ensures.stays c.pledge_loans.ensures.samples

pub returns-clause-same : goal.returns-clause-same
returns-clause-same g c =
    roomier_and_roomier c.args.self.now c.pledge_loans.new.self c.pledge_samples.new.self c.pledge_loans.ensures.same
    c.pledge_samples.ensures.same

pub returns-clause-keeps : goal.returns-clause-keeps
returns-clause-keeps g c =
    let mid = c.pledge_loans.new.self in
    keeps_on c.args.self.now mid c.pledge_samples.new.self (roomier_grows_on c.args.self.now mid c.pledge_loans.ensures.same)
    (loans_pledged c.pledge_loans.result c.args.loans c.args.self.now mid c.pledge_loans.ensures.same c.pledge_loans.ensures.room
    c.pledge_loans.ensures.stays c.pledge_loans.ensures.samples)
    (samples_pledged c.pledge_samples.result c.most_samples_of.result mid c.pledge_samples.new.self c.pledge_samples.ensures.same
    c.pledge_samples.ensures.room c.pledge_samples.ensures.stays c.pledge_samples.ensures.loans)

pub returns-clause-loans : goal.returns-clause-loans
returns-clause-loans g c = λ room.
    let (tables, is) = c.pledge_samples.ensures.same in
    where_it_works c.pledge_samples.result
    (pledges_still (loans_left_in c.args.self.now.hub.services.domains + c.args.loans) c.pledge_loans.new.self.pledged.loans
    c.pledge_samples.new.self.pledged.loans c.pledge_loans.new.self.made.loans c.pledge_samples.new.self.made.loans tables.2
    c.pledge_samples.ensures.loans (c.in_ok-pledge_loans.ensures.room room))

pub returns-clause-samples : goal.returns-clause-samples
returns-clause-samples g c = λ room.
    let (tables, is) = c.pledge_loans.ensures.same in
    let kept = roomier_samples c.args.self.now c.pledge_loans.new.self c.pledge_loans.ensures.same c.pledge_loans.ensures.samples room in
    pledges_brought c.pledge_samples.result (samples_left_in c.args.self.now.hub.services.domains)
    (samples_left_in c.pledge_loans.new.self.hub.services.domains) c.most_samples_of.result
    (most_samples_from c.args.domain c.args.self.now)
    c.pledge_samples.new.self.pledged.samples c.pledge_samples.new.self.made.samples
    (ap (λ hub. samples_left_in hub.hub.services.domains) is)
    (c.most_samples_of.ensures ∙ ap (λ hub. min (most_samples_from c.args.domain hub) (2 ^ 64 - 1)) is)
    (c.pledge_samples.ensures.room kept) c.pledge_samples.ensures.small

pub returns-in_err-pledge_loans-clause-grows : goal.returns-in_err-pledge_loans-clause-grows
returns-in_err-pledge_loans-clause-grows g c =
    grows_loans c.args.loans (most_samples_from c.args.domain c.args.self.now) c.args.self.now c.pledge_loans.new.self
    c.pledge_loans.ensures.grows c.pledge_loans.ensures.samples_stay

pub returns-clause-grows : goal.returns-clause-grows
returns-clause-grows g c =
    let mid = c.pledge_loans.new.self in
    grows_both c.args.loans (most_samples_from c.args.domain c.args.self.now) c.most_samples_of.result c.args.self.now mid
    c.pledge_samples.new.self c.pledge_loans.ensures.same c.pledge_loans.ensures.grows c.pledge_loans.ensures.samples_stay
    (least (most_samples_from c.args.domain c.args.self.now) (2 ^ 64 - 1) c.most_samples_of.result
    (c.most_samples_of.ensures
    ∙ ap (λ hub. min (most_samples_from c.args.domain hub) (2 ^ 64 - 1)) c.pledge_loans.ensures.same.1))
    c.pledge_samples.ensures.grows c.pledge_samples.ensures.loans_stay
