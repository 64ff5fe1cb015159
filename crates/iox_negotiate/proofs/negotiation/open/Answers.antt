use Rattle.iox_negotiate.proofs.Meeting.{opens-met}
use Rattle.iox_negotiate.proofs.negotiation.open.Goals as goal

pub new-requires : goal.new-requires
new-requires g c =
    let met = opens-met _ _ _ _ c.in-Ok.ensures.made c.in-Ok.service c.in-Ok.ensures.told in
    g.met.P.RequiredPattern.met_is_of_pattern c.args.asked.now.requirement.now c.in-Ok.service.description met.1
