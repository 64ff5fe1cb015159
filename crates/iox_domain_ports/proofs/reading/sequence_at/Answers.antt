use Rattle.std.proofs.Common.{rules, ◌∙◌, sym}
use Rattle.iox_domain_ports.specs.Messages.{Message}
use Rattle.iox_domain_ports.specs.MessagesSending.{borrowed_place}
use Rattle.iox_domain_ports.specs.Ports.{connection_of}
use Rattle.iox_domain_ports.proofs.Located.{no_place, place_there, read_there, read_none}
use Rattle.iox_domain_ports.proofs.reading.sequence_at.Goals as goal

pub returns-then-not-has_at : goal.returns-then-not-has_at
returns-then-not-has_at g c =
    read_none (λ (message : Message g.row.T.Denot g.row.U.Denot). message.sequence) c.args.index c.args.slot c.args.port.now
    (no_place c.args.slot (connection_of c.args.index c.args.port.now)
    (sym c.has_at.ensures.answer ∙ search (rules, c.if-not-has_at.true)))

pub returns : goal.returns
returns g c =
    read_there (λ (message : Message g.row.T.Denot g.row.U.Denot). message.sequence) c.args.index c.args.slot
    (borrowed_place c.args.slot (connection_of c.args.index c.args.port.now)) c.args.port.now _
    (place_there c.args.slot (connection_of c.args.index c.args.port.now)
    (sym c.has_at.ensures.answer ∙ search (rules, c.if-not-has_at.false))) c.sequence.ensures.borrowed
