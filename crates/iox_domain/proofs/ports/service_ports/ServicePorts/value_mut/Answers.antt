use Rattle.std.proofs.Common.{rules, ◌≡◌, Some, refl}
use Rattle.std.proofs.lemmas.Map.Steps.{set_value_same}
use Rattle.std.specs.BTreeMap.{is_at}
use Rattle.std.specs.Ordering.{nat_cmp}
use Rattle.iox_domain_ports.specs.Publishers.{port_of, with_port}
use Rattle.iox_domain.proofs.ports.service_ports.ServicePorts.value_mut.Goals as goal

pub returns-in-Some : goal.returns-in-Some
returns-in-Some g c =
    let there : port_of c.args.number c.args.self.now.publishers ≡ Some c.in-Some.port.now = search (rules, c.in-Some.ensures.value) in
    let same : with_port c.args.number c.args.self.now.publishers c.in-Some.port.now ≡ c.args.self.now.publishers
    = set_value_same (is_at (nat_cmp c.args.number)) c.args.self.now.publishers c.in-Some.port.now there in
    (rw there (rw same refl), record { writes_back = tt; value = rw there c.value_mut.ensures.value })
