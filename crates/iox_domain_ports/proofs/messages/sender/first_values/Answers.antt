use Rattle.iox_domain_ports.proofs.Seen.{first_segment}
use Rattle.iox_domain_ports.proofs.messages.sender.first_values.Goals as goal

pub returns : goal.returns
returns g c =
    first_segment c.push.new.self c.in_ok-values.values c.in_ok-new.field-0 c.args.config.slots c.args.config.most_segments
    c.args.config.room c.push.ensures c.in_ok-values.ensures c.in_ok-new.ensures
