use Rattle.std.proofs.Common.{◌∙◌, ap}
use Rattle.iox_hub_commands.specs.Refusing.{open_absent, open_locked, open_told}
use Rattle.iox_hub_commands.proofs.services.factories.Factories.open.Goals as goal

pub returns-clause-absent_first : goal.returns-clause-absent_first
returns-clause-absent_first g c is_there finds =
    c.called.ensures.told_first is_there (open_absent c.args.asked.now.options)
    (λ told so. so ∙ ap (λ found. open_told c.args.asked.now.options found) finds)

pub returns-clause-locked_first : goal.returns-clause-locked_first
returns-clause-locked_first g c is_there finds =
    c.called.ensures.told_first is_there (open_locked c.args.asked.now.options)
    (λ told so. so ∙ ap (λ found. open_told c.args.asked.now.options found) finds)
