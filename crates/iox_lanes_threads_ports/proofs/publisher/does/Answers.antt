use Rattle.std.proofs.Common.{sym, subst, ◌∙◌}
use Rattle.iox_lanes_machine.specs.LanesParties.Parties.{PublisherLaneState}
use Rattle.iox_lanes_threads_rule.specs.Acts.{port_of}
use Rattle.iox_lanes_threads_ports.specs.Pace.{StartsWithin}
use Rattle.iox_lanes_threads_ports.specs.Ports.{PublisherStands}
use Rattle.iox_lanes_threads_ports.proofs.Running.{publisher_begun_stands}
use Rattle.iox_lanes_threads_ports.proofs.Starting.{starts}
use Rattle.iox_lanes_threads_ports.proofs.publisher.does.Goals as goal

pub run-requires-clause-stands : goal.run-requires-clause-stands
run-requires-clause-stands g c =
    subst (PublisherStands (port_of c.args.seat.now.me)) (sym c.begin.ensures)
    (publisher_begun_stands (port_of c.args.seat.now.me) c.args.lane.now c.args.step.now c.requires.stands
    (sym c.fits.ensures ∙ c.if-not-fits.false))

pub run-requires-clause-begins : goal.run-requires-clause-begins
run-requires-clause-begins g c =
    subst (λ (l : PublisherLaneState). StartsWithin c.args.sizes.now c.args.most l.port.call) (sym c.begin.ensures)
    (starts (port_of c.args.seat.now.me) c.args.lane.now c.args.sizes.now c.args.step.now c.args.most c.requires.stands
    c.requires.seat.sizes_are c.requires.seat.small c.requires.enough)
