use Rattle.iox_domain_ports.specs.Census.{subscriber_share}
use Rattle.iox_domain_ports.proofs.Tallied.{subscriber_small, removed_told, roomy_none}
use Rattle.iox_domain.proofs.ports.subscribers.Subscribers.settle.Goals as goal

pub note-requires : goal.note-requires
note-requires c = roomy_none subscriber_share c.note_lent.new.census c.self.inside.ports subscriber_small c.note_lent.ensures.tells

pub invariant_of-self : goal.invariant_of-self
invariant_of-self c =
    removed_told subscriber_share c.args.number c.note_lent.new.census c.note.new.self c.self.inside.ports
    c.remove.new.self
    c.note_lent.ensures.tells c.note_lent.ensures.lent c.note.ensures.counts c.note.ensures.room c.note.ensures.lent
    c.note.ensures.noted c.remove.ensures.new c.remove.ensures.gone
