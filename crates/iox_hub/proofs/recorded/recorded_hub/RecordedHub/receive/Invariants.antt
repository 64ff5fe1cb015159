use Rattle.iox_hub.proofs.Recording.{calls_received}
use Rattle.iox_hub.proofs.recorded.recorded_hub.RecordedHub.receive.Given as goal

abbrev pub ghost-given : goal.ghost-given
ghost-given g a = a._from.now.calls.made.samples.next

abbrev pub ghost-told_received : goal.ghost-told_received
ghost-told_received g a = calls_received a._hub.now a.number.now.value a._answer.now a.history.now.calls
