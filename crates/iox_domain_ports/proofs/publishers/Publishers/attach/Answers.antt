use Rattle.std.proofs.Common.{rules, ◌≡◌, min, Some}
use Rattle.iox_domain_ports.specs.Ports.{Attaches}
use Rattle.iox_domain_ports.specs.Publishers.{port_of}
use Rattle.iox_domain_ports.proofs.Staying.{attaches_there}
use Rattle.iox_domain_ports.proofs.publishers.Publishers.attach.Goals as goal

pub returns : goal.returns
returns g c =
    let there : port_of c.args.number c.args.self.now ≡ Some c.in_ok-port.port.now = search (rules, c.in_ok-port.ensures.value) in
    let attaches : Attaches c.args.subscriber (min c.args.limit c.in_ok-port.port.now.sender.uses.most_waiting) c.in_ok-port.port.now
    c.attach.result c.attach.new.self = search (rules, c.attach.ensures.attaches) in
    rw there (attaches_there c.args.number c.args.subscriber c.args.limit c.args.self.now c.in_ok-port.port.now c.attach.new.self
    c.attach.result there attaches)
