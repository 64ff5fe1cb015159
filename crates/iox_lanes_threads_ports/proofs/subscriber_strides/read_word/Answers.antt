use Rattle.std.proofs.Common.{sym, subst}
use Rattle.iox_lanes_machine.specs.LanesBase.Numbers.{IsSmall}
use Rattle.iox_lanes_threads_rule.specs.Acts.{port_of}
use Rattle.iox_lanes_threads_ports.specs.Strides.{SubscriberStrode}
use Rattle.iox_lanes_threads_ports.proofs.SubscriberStriding.{read_on}
use Rattle.iox_lanes_threads_ports.proofs.subscriber_strides.read_word.Goals as goal

pub returns-clause-strode : goal.returns-clause-strode
returns-clause-strode g c p begun run =
    subst (SubscriberStrode p begun c.access_ahead-value.new.seat.me)
    (read_on c.args.lane.now c.note.new.self c.args.sample.slot c.args.word c.access_ahead-value.result c.args.sample.extent
    (port_of c.args.seat.now.me).service.sizes (subst IsSmall (sym c.requires.seat.1) c.requires.table.2)
    c.requires.stands.within.call.1 c.note.ensures) (c.access_ahead-value.ensures.strode tt p begun 0 run)
