use Rattle.std.proofs.Common.{subst}
use Rattle.iox_lanes_threads_ports.specs.Values.{HasRoom}
use Rattle.iox_lanes_threads_ports.proofs.publisher.fill.Goals as goal

pub returns-in-Begin-clause-refuses : goal.returns-in-Begin-clause-refuses
returns-in-Begin-clause-refuses c = λ sizes room. c.fill_call.ensures.refuses sizes (subst (HasRoom sizes) c.in-Begin.is room)
