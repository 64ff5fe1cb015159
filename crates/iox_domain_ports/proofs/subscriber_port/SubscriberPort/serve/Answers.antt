use Rattle.iox_domain_ports.proofs.Idling.{serves_from}
use Rattle.iox_domain_ports.proofs.subscriber_port.SubscriberPort.serve.Goals as goal

pub returns : goal.returns
returns g c = serves_from c.args.self.now c.sweep.new.self c.args.publishers.now c.take_of-taken.new.publishers c.sweep.new.publishers
    c.args.met.count c.args.met.idle c.args.giver c.take_of-taken.result c.requires.met c.requires.idle c.requires.busy c.requires.giver
    c.take_of-taken.ensures.there c.take_of-taken.ensures.taken c.take_of-taken.ensures.publishers
    c.sweep.ensures.port c.sweep.ensures.publishers
