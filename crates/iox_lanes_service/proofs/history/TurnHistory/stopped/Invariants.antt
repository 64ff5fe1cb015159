use Rattle.std.proofs.Common.{true, Some}
use Rattle.iox_lanes_service.proofs.history.TurnHistory.stopped.Given as goal

abbrev pub ghost-told : goal.ghost-told
ghost-told a = record a._before.now.turns { stuck = true; ran_out = Some a._asked.now }
