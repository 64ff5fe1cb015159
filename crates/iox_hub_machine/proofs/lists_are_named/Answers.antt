use Rattle.iox_hub_machine.proofs.Listed.{lists_are_named as are_named}
use Rattle.iox_hub_machine.proofs.lists_are_named.Goals as goal

pub returns : goal.returns
returns c = are_named
