use Rattle.iox_hub.proofs.Recording.{calls_publisher}
use Rattle.iox_hub.proofs.recorded.recorded_hub.RecordedHub.publisher.Given as goal

abbrev pub ghost-given : goal.ghost-given
ghost-given g a = a._from.now.calls.made.publishers.next

abbrev pub ghost-told : goal.ghost-told
ghost-told g a = calls_publisher a._asked.now.value a._after.now.1 a._after.now.0 a._answer.now a._before.now.calls
