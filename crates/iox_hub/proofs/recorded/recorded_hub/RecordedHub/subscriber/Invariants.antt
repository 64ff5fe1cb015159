use Rattle.iox_hub.proofs.Recording.{calls_subscriber}
use Rattle.iox_hub.proofs.recorded.recorded_hub.RecordedHub.subscriber.Given as goal

abbrev pub ghost-given : goal.ghost-given
ghost-given g a = a._from.now.calls.made.subscribers.next

abbrev pub ghost-told : goal.ghost-told
ghost-told g a = calls_subscriber a._asked.now.value a._after.now.1 a._after.now.0 a._answer.now a._before.now.calls
