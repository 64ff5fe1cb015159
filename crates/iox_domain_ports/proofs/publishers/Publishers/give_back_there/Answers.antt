use Rattle.std.proofs.Common.{rules, ◌≡◌, Some, sym, ap}
use Rattle.std.specs.BTreeMap.{is_at}
use Rattle.std.specs.Ordering.{nat_cmp}
use Rattle.iox_domain_ports.specs.Publishers.{port_of, port_stands}
use Rattle.iox_domain_ports.proofs.Staying.{found_same}
use Rattle.iox_domain_ports.proofs.publishers.Publishers.give_back_there.Goals as goal

pub returns-then-give_back_at-clause-stands : goal.returns-then-give_back_at-clause-stands
returns-then-give_back_at-clause-stands g c =
    let there : port_of c.args.number c.args.self.now ≡ Some c.in_ok-port.port.now = search (rules, c.in_ok-port.ensures.value) in
    sym (ap port_stands (found_same (is_at (nat_cmp c.args.number)) c.args.self.now c.give_back_at.new.port c.in_ok-port.port.now there))
