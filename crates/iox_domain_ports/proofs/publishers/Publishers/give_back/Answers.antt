use Rattle.std.proofs.Common.{sym}
use Rattle.iox_domain_ports.specs.Reading.{place_of}
use Rattle.iox_domain_ports.specs.Publishers.{connection_in}
use Rattle.iox_domain_ports.proofs.Staying.{nothing_given}
use Rattle.iox_domain_ports.proofs.publishers.Publishers.give_back.Goals as goal

pub returns-in_default-clause-new : goal.returns-in_default-clause-new
returns-in_default-clause-new g c =
    nothing_given c.args.number c.args.index (place_of c.args.slot (connection_in c.args.number c.args.index c.args.self.now))
    c.args.self.now c.give_back_there.new.self (sym c.in_default.ensures.answer) c.in_default.ensures.new
