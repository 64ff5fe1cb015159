use Rattle.iox_hub_commands.proofs.Ruled.{settings_by_rules}
use Rattle.iox_hub_commands.proofs.services.requests.described.settings.Goals as goal

pub returns-in-PublishSubscribe : goal.returns-in-PublishSubscribe
returns-in-PublishSubscribe c =
    settings_by_rules c.args.types c.args.options.now _
    (rw c.in-PublishSubscribe.is (rw c.publish_subscribe.ensures at c.created_settings.ensures))

pub returns-in-Event : goal.returns-in-Event
returns-in-Event c =
    settings_by_rules c.args.types c.args.options.now _
    (rw c.in-Event.is (rw c.event.ensures at c.created_settings-in-Event.ensures))

pub returns-in-RequestResponse : goal.returns-in-RequestResponse
returns-in-RequestResponse c =
    settings_by_rules c.args.types c.args.options.now _
    (rw c.in-RequestResponse.is (rw c.request_response.ensures at c.created_settings-in-RequestResponse.ensures))
