use Rattle.iox_hub.specs.Recording.{no_calls}
use Rattle.iox_hub.proofs.recorded.recorded_hub.RecordedHub.new.Given as goal

abbrev pub ghost-told : goal.ghost-told
ghost-told g a = no_calls a._before.now
