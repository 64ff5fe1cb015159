use Rattle.std.specs.Bool.{passes}
use Rattle.iox_queues_base.proofs.words.floats.holds_f32.Goals as goal

pub returns : goal.returns
returns c = passes _ c.well_formed.0.1
