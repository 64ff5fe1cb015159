use Rattle.std.proofs.Common.{sym}
use Rattle.iox_line.proofs.PortLemmas.{no_port_verb}
use Rattle.iox_line.proofs.read.of_port_verb.Goals as goal

pub returns-in-Node : goal.returns-in-Node
returns-in-Node c = sym (no_port_verb c.args.verb c.args.words c.in-Node.is)
