use Rattle.std.proofs.Common.{rules, ◌∙◌, ap, sym}
use Rattle.iox_domain_ports.specs.Ports.{connection_of}
use Rattle.iox_domain_ports.specs.Reading.{given_back_at}
use Rattle.iox_domain_ports.proofs.Located.{given_there, no_place}
use Rattle.iox_domain_ports.proofs.reading.give_back_at.Goals as goal

pub returns-then-not-has_at-clause-new : goal.returns-then-not-has_at-clause-new
returns-then-not-has_at-clause-new g c =
    ap (λ at. given_back_at c.args.index at c.args.port.now) (no_place c.args.slot (connection_of c.args.index c.args.port.now)
    (sym c.has_at.ensures.answer ∙ search (rules, c.if-not-has_at.true)))

pub returns-clause-new : goal.returns-clause-new
returns-clause-new g c = given_there c.args.index c.args.slot c.args.port.now _
    (sym c.has_at.ensures.answer ∙ search (rules, c.if-not-has_at.false))
    (ap (λ sender. record c.args.port.now { sender = sender }) c.give_back.ensures)
