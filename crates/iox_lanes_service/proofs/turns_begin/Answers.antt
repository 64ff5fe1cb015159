use Rattle.iox_lanes_service.proofs.Begins.{turns_begin}
use Rattle.iox_lanes_service.proofs.turns_begin.Goals as goal

pub returns : goal.returns
returns c = turns_begin
