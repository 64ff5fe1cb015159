use Rattle.std.proofs.Common.{rules, Some}
use Rattle.example_bus.proofs.bus.hear.Goals as goal

-- src/bus.rt:144:1
pub returns : goal.returns
returns g c = (Some c.in-Some.sample, c.receive-received.new.home, search rules, search rules, search rules)
