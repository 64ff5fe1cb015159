use Rattle.iox_domain_ports.proofs.Marking.{none_seen}
use Rattle.iox_domain_ports.proofs.messages.marks.Marks.new.Goals as goal

pub returns : goal.returns
returns c = none_seen c.in_ok-vec.field-0.items c.in_ok-new.field-0 c.args.size c.args.most_segments c.in_ok-new.ensures
