use Rattle.std.proofs.Common.{rules, ap}
use Rattle.iox_domain.proofs.Trimmed.{ends_new}
use Rattle.iox_domain.proofs.ports.roll.Roll.new.Goals as goal

pub invariant_of-result : goal.invariant_of-result
invariant_of-result g c = (
  search rules,
  search rules,
  rw (ap (λ container. container.members) c.in_ok-new.ensures) (ends_new c.args.places),
)
