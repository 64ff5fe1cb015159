use Rattle.iox_domain_ports.proofs.Marking.{push_seen}
use Rattle.iox_domain_ports.proofs.messages.marks.Marks.push.Goals as goal

pub returns : goal.returns
returns c = push_seen c.self.inside.markings.items c.self.inside.rows c.push.new.self c.args.self.now c.args.segment c.self.view_is
    c.self.invariant.1 c.push.ensures
