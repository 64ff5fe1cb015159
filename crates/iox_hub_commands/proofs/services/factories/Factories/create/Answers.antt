use Rattle.std.proofs.Common.{◌∙◌, None, Some, ap}
use Rattle.iox_command.specs.NegotiateBase.declared.failure.CreateFailure.TheVariants as uncreated
use Rattle.iox_hub_commands.specs.Refusing.{create_refused, create_told, first_look}
use Rattle.iox_hub_commands.proofs.Uncreated.{one_refusal}
use Rattle.iox_hub_commands.proofs.services.factories.Factories.create.Goals as goal

pub returns-clause-settings_first : goal.returns-clause-settings_first
returns-clause-settings_first g c is_there failure is =
    let options = c.args.asked.now.options in
    c.called.ensures.told_first is_there (create_refused options failure)
    (λ told so. so.2 ∙ ap (λ it. create_told options it (first_look c.args.asked.now c.args.steps.now c.args.hub.now))
    (one_refusal _ so.0 (Some failure) so.1 is))

pub returns-clause-locked_first : goal.returns-clause-locked_first
returns-clause-locked_first g c is_there accepted finds =
    let options = c.args.asked.now.options in
    c.called.ensures.told_first is_there (create_refused options uncreated.HangsInCreation)
    (λ told so. so.2 ∙ ap (λ it. create_told options it (first_look c.args.asked.now c.args.steps.now c.args.hub.now))
    (one_refusal _ so.0 None so.1 accepted) ∙ ap (λ found. create_told options None found) finds)

pub returns-clause-standing_first : goal.returns-clause-standing_first
returns-clause-standing_first g c is_there accepted finds =
    let options = c.args.asked.now.options in
    c.called.ensures.told_first is_there (create_refused options uncreated.AlreadyExists)
    (λ told so. so.2 ∙ ap (λ it. create_told options it (first_look c.args.asked.now c.args.steps.now c.args.hub.now))
    (one_refusal _ so.0 None so.1 accepted) ∙ ap (λ found. create_told options None found) finds)
