use Rattle.iox_lanes_laws.proofs.HaveNumbers as lemmas
use Rattle.iox_lanes_laws.proofs.messages.orders_have_numbers.Goals as goal

pub returns : goal.returns
returns c = lemmas.orders_have_numbers
