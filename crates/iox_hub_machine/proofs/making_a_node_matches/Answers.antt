use Rattle.iox_hub_machine.proofs.Nodes.{node_matches}
use Rattle.iox_hub_machine.proofs.making_a_node_matches.Goals as goal

pub returns : goal.returns
returns g c = λ handed. node_matches _ _
