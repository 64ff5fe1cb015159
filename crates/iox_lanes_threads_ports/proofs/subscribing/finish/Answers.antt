use Rattle.std.proofs.Common.{sym, ap, subst, ◌∙◌, ◌≡◌, ◌<◌}
use Rattle.iox_lanes_machine.specs.LanesBase.Numbers.{IsSmall}
use Rattle.iox_lanes_machine.specs.LanesBase.Subscribing.{subscriber_is_over}
use Rattle.iox_lanes_machine.specs.LanesParties.Parties.{SubscriberLaneState}
use Rattle.iox_lanes_threads_rule.specs.Acts.{port_of}
use Rattle.iox_lanes_threads_rule.specs.declared.service.Service.{Service}
use Rattle.iox_lanes_threads_ports.specs.Values.{IsShort, steps_left}
use Rattle.iox_lanes_threads_ports.proofs.Between.{nearer}
use Rattle.iox_lanes_threads_ports.proofs.Running.{subscribes_on}
use Rattle.iox_lanes_threads_ports.proofs.SubscriberStriding.{strode_subscribes}
use Rattle.iox_lanes_threads_ports.proofs.subscribing.finish.Goals as goal

pub loop-seat-init : goal.loop-seat-init
loop-seat-init g c = (
  c.stride_on.ensures.table.0,
  c.stride_on.ensures.table.1,
  strode_subscribes (port_of c.args.seat.now.me) c.args.lane.now c.stride_on.new.seat.me c.stride_on.new.lane c.stride_on.ensures.strode,
  c.stride_on.ensures.short,
)

pub loop-seat-preserved : goal.loop-seat-preserved
loop-seat-preserved g c =
    let run = c.loop-seat.invariant.2 in
    let same : (port_of c.loop-seat.seat.me).service.sizes ≡ c.args.sizes.now
    = ap (λ (s : Service). s.sizes) run.seat.service ∙ c.requires.seat.1 in
    let near = nearer (port_of c.loop-seat.seat.me).service.sizes c.loop-seat.lane c.step.ensures.steps.0
    (subst IsSmall (sym same) c.requires.table.2) run.stands.within c.loop-seat.invariant.3
    (sym (c.is_over.ensures ∙ ap subscriber_is_over (c.call.ensures ∙ ap (λ port. port.call) c.port.ensures)) ∙ c.loop-seat-test.true) in (
      c.step.ensures.table.0 ∙ c.loop-seat.invariant.0,
      c.step.ensures.table.1 ∙ c.loop-seat.invariant.1,
      subscribes_on (port_of c.args.seat.now.me) c.args.lane.now c.loop-seat.seat.me c.loop-seat.lane c.step.new.seat.me c.step.new.lane
          c.loop-seat.invariant.2 c.step.ensures.steps,
      subst (λ (l : SubscriberLaneState). IsShort l.port.call) (sym c.step.ensures.steps.3) near.0,
    )

pub loop-seat-smaller : goal.loop-seat-smaller
loop-seat-smaller g c =
    let run = c.loop-seat.invariant.2 in
    let same : (port_of c.loop-seat.seat.me).service.sizes ≡ c.args.sizes.now
    = ap (λ (s : Service). s.sizes) run.seat.service ∙ c.requires.seat.1 in
    let near = nearer (port_of c.loop-seat.seat.me).service.sizes c.loop-seat.lane c.step.ensures.steps.0
    (subst IsSmall (sym same) c.requires.table.2) run.stands.within c.loop-seat.invariant.3
    (sym (c.is_over.ensures ∙ ap subscriber_is_over (c.call.ensures ∙ ap (λ port. port.call) c.port.ensures)) ∙ c.loop-seat-test.true) in
    subst (λ (l : SubscriberLaneState). steps_left l.port.call < steps_left c.loop-seat.lane.port.call) (sym c.step.ensures.steps.3) near.1
