use Rattle.iox_domain_values.proofs.Powers.{next_past}
use Rattle.iox_domain_values.proofs.data_segment.next_power_of_two.Goals as goal

pub returns-else-values-le2147483648 : goal.returns-else-values-le2147483648
returns-else-values-le2147483648 c = λ power next. next_past c.args.values power c.if-values-le2147483648.false next
