use Rattle.iox_domain_ports.proofs.publisher_port.PublisherPort.retry.Goals as goal

pub returns : goal.returns
returns g c = rw c.try_again.ensures at c.deliver.ensures.sends
