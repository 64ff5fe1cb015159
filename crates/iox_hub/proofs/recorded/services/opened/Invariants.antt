use Rattle.std.proofs.Common.{[]}
use Rattle.iox_command.specs.declared.command.Command.TheVariants as command
use Rattle.iox_command.specs.declared.refusal.Refusal.TheVariants as refusal
use Rattle.iox_command.specs.declared.service.ServiceOptions.TheVariants as options
use Rattle.iox_hub_commands.specs.declared.services.made.MadeFactory.TheVariants as made_factory
use Rattle.iox_hub.specs.RecordedNames.{as_made}
use Rattle.iox_hub.specs.Recording.{calls_opened}
use Rattle.iox_hub.proofs.recorded.services.opened.Given as goal

abbrev pub ghost-told : goal.ghost-told
ghost-told g a = calls_opened
    (command.Open a._asked.now.0 a._asked.now.1 (options.PublishSubscribe a._asked.now.2) g.required []) refusal.PublishSubscribeOpen
    (as_made (λ it. made_factory.PublishSubscribe it) a._answer.now) a._before.now.calls
