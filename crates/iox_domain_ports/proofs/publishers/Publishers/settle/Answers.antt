use Rattle.iox_domain_ports.specs.Census.{publisher_share}
use Rattle.iox_domain_ports.proofs.Tallied.{publisher_small, removed_told, roomy_none}
use Rattle.iox_domain_ports.proofs.publishers.Publishers.settle.Goals as goal

pub note-requires : goal.note-requires
note-requires g c = roomy_none publisher_share c.note_lent.new.census c.self.inside.ports publisher_small c.note_lent.ensures.tells

pub invariant_of-self : goal.invariant_of-self
invariant_of-self g c =
    removed_told publisher_share c.args.number c.note_lent.new.census c.note.new.self c.self.inside.ports
    c.remove_port.new.ports
    c.note_lent.ensures.tells c.note_lent.ensures.lent c.note.ensures.counts c.note.ensures.room c.note.ensures.lent
    c.note.ensures.noted c.remove_port.ensures.removed c.remove_port.ensures.gone
