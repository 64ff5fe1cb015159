use Rattle.std.specs.Result.{result_map_both}
use Rattle.iox_hub.specs.Recording.{calls_closed}
use Rattle.iox_hub.proofs.recorded.recorded_hub.RecordedHub.close.Given as goal

abbrev pub ghost-told : goal.ghost-told
ghost-told g a = calls_closed a._asked.now.value
    (result_map_both (λ done. done) (λ refused. (refused.error, refused.factory)) a._answer.now)
    a._before.now.calls
