use Rattle.std.proofs.Common.{refl, ◌∙◌}
use Rattle.iox_lanes_threads_rule.specs.Acts.{port_of}
use Rattle.iox_lanes_threads_ports.proofs.Running.{subscribes}
use Rattle.iox_lanes_threads_ports.proofs.SubscriberStriding.{subscribes_along}
use Rattle.iox_lanes_threads_ports.proofs.subscribing.run_on.Goals as goal

pub loop-init : goal.loop-init
loop-init g c = (
  refl,
  refl,
  subscribes (port_of c.args.seat.now.me) c.args.lane.now c.args.seat.now.me c.requires.seat.0 refl
      c.requires.stands,
)

pub loop-preserved : goal.loop-preserved
loop-preserved g c = (
  c.receive_on.ensures.table.0 ∙ c.loop.invariant.0,
  c.receive_on.ensures.table.1 ∙ c.loop.invariant.1,
  subscribes_along (port_of c.args.seat.now.me) c.args.lane.now c.loop.seat.me c.loop.lane c.receive_on.new.seat.me
      c.receive_on.new.lane c.loop.invariant.2 c.receive_on.ensures.strode,
)
