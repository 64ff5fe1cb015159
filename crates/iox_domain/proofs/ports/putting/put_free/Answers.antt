use Rattle.std.proofs.Common.{rules, refl, length, Some, Err}
use Rattle.iox_domain_ports.specs.DomainValues.declared.degradation.DegradationCause.TheVariants as cause
use Rattle.iox_domain.proofs.Putting.{lends_one, puts_sent, puts_answers, puts_stand}
use Rattle.iox_domain.proofs.ports.putting.put_free.Goals as goal

pub returns-clause-puts : goal.returns-clause-puts
returns-clause-puts g c =
    puts_sent (g.B.Degrades.degrades c.args.handlers.now cause.FailedToEstablishConnection) (g.B.Decides.decides c.args.handlers.now)
    c.args.list.now c.args.values.now c.args.port.now c.lend_free.new.port c.write_from_slice.new.self c.send_one.new.port
    c.in_ok-slot.slot c.in-Some.sent c.requires.stands c.in_ok-slot.ensures c.write_from_slice.ensures.after c.in-Some.ensures.sends

pub returns-clause-stands : goal.returns-clause-stands
returns-clause-stands g c =
    puts_stand (g.B.Degrades.degrades c.args.handlers.now cause.FailedToEstablishConnection) (g.B.Decides.decides c.args.handlers.now)
    c.args.list.now c.args.values.now c.args.port.now c.lend_free.new.port c.write_from_slice.new.self c.send_one.new.port
    c.in_ok-slot.slot c.send_one.result c.requires.stands c.in_ok-slot.ensures c.write_from_slice.ensures.after c.send_one.ensures.sends

pub unreachable-requires : goal.unreachable-requires
unreachable-requires g c =
    puts_answers (g.B.Degrades.degrades c.args.handlers.now cause.FailedToEstablishConnection) (g.B.Decides.decides c.args.handlers.now)
    c.args.list.now c.args.values.now c.args.port.now c.lend_free.new.port c.write_from_slice.new.self c.send_one.new.port
    c.in_ok-slot.slot c.in_ok-slot.ensures c.write_from_slice.ensures.after c.in-None.ensures.sends

pub returns-in_err-slot-clause-puts : goal.returns-in_err-slot-clause-puts
returns-in_err-slot-clause-puts g c = (
  Err _,
  c.lend_free.new.port,
  lends_one c.args.port.now.stands (length c.args.values.now) c.args.port.now c.lend_free.new.port (Some (Err _)) c.requires.stands
      c.in_err-slot.ensures,
  (search (rules, c.from_residual.ensures), refl),
)
