use Rattle.std.proofs.Common.{◌∙◌, Some, ap}
use Rattle.iox_hub_commands.specs.Refusing.{either_locked, either_refused, either_told, first_look}
use Rattle.iox_hub_commands.proofs.Uncreated.{one_refusal}
use Rattle.iox_hub_commands.proofs.services.factories.Factories.open_or_create.Goals as goal

pub returns-clause-settings_first : goal.returns-clause-settings_first
returns-clause-settings_first g c is_there failure is finds =
    let options = c.args.asked.now.options in
    c.called.ensures.told_first is_there (either_refused options failure)
    (λ told so. so.2 ∙ ap (λ it. either_told options it (first_look c.args.asked.now c.args.steps.now c.args.hub.now))
    (one_refusal _ so.0 (Some failure) so.1 is) ∙ ap (λ found. either_told options (Some failure) found) finds)

pub returns-clause-locked_first : goal.returns-clause-locked_first
returns-clause-locked_first g c is_there finds =
    let options = c.args.asked.now.options in
    c.called.ensures.told_first is_there (either_locked options)
    (λ told so. so.2 ∙ ap (λ found. either_told options so.0 found) finds)
