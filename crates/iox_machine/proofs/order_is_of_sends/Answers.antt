use Rattle.iox_machine.proofs.Swapped.{order-of-sends}
use Rattle.iox_machine.proofs.order_is_of_sends.Goals as goal

pub returns : goal.returns
returns c = order-of-sends
