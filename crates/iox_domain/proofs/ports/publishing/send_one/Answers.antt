use Rattle.iox_domain_ports.specs.DomainValues.declared.degradation.DegradationCause.TheVariants as cause
use Rattle.iox_domain.proofs.Putting.{sender_stands}
use Rattle.iox_domain.proofs.ports.publishing.send_one.Goals as goal

pub returns-clause-sends : goal.returns-clause-sends
returns-clause-sends g c = (c.listed.result.now, c.listed.ensures.whole, rw c.changes.ensures at c.send.ensures.sends)

pub returns-clause-stands : goal.returns-clause-stands
returns-clause-stands g c =
    sender_stands (g.B.Degrades.degrades c.args.handlers.now cause.FailedToEstablishConnection) (g.B.Decides.decides c.args.handlers.now)
    c.args.list.now c.args.slot c.args.port.now c.send.result c.send.new.self
    (c.listed.result.now, c.listed.ensures.whole, rw c.changes.ensures at c.send.ensures.sends)
