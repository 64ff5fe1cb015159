use Rattle.std.proofs.Common.{⊎_elim, ap, ◌∙◌}
use Rattle.iox_negotiate.proofs.Meeting.{either-met, some-is}
use Rattle.iox_negotiate.proofs.negotiation.open_or_create.Goals as goal

pub new-requires : goal.new-requires
new-requires g c =
    ⊎_elim
    (λ met. g.met.P.RequiredPattern.met_is_of_pattern c.args.asked.now.requirement.now c.in-Ok.service.description met.1)
    (λ is. some-is _ _
    (ap (λ a. g.P.AgreedPattern.static_config a.settings) is.0 ∙ g.met.P.AgreedPattern.found_again c.args.asked.now.config))
    (either-met _ _ _ _ _ _ c.in-Ok.ensures.made c.in-Ok.service c.in-Ok.ensures.told)
