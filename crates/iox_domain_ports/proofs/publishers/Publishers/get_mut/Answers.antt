use Rattle.std.proofs.Common.{refl}
use Rattle.std.specs.BTreeMap.{is_at}
use Rattle.std.specs.Map.{set_value}
use Rattle.std.specs.Ordering.{nat_cmp}
use Rattle.iox_domain_ports.specs.Census.{publisher_share}
use Rattle.iox_domain_ports.proofs.Tallied.{changed_told}
use Rattle.iox_domain_ports.proofs.publishers.Publishers.get_mut.Goals as goal

pub invariant_of-self-lent : goal.invariant_of-self-lent
invariant_of-self-lent g c = λ found. (
  λ after.
      changed_told publisher_share c.args.number c.note_lent.new.census c.self.inside.ports
      (set_value (is_at (nat_cmp c.args.number)) c.self.inside.ports after) after c.note_lent.ensures.tells c.note_lent.ensures.lent refl,
  c.note_lent.ensures.tells,
)
