use Rattle.std.proofs.Common.{ℕ, ◌≡◌, refl, sym, ap, subst, ◌∙◌, arith}
use Rattle.iox_lanes_machine.specs.LanesBase.Numbers.{IsSmall}
use Rattle.iox_lanes_machine.specs.LanesBase.Publishing.{publisher_is_over}
use Rattle.iox_lanes_threads_rule.specs.Acts.{port_of}
use Rattle.iox_lanes_threads_ports.proofs.Running.{Paced, publishes, publishes_on, paced, publisher_stops, publisher_stays_inside}
use Rattle.iox_lanes_threads_ports.proofs.Running.{ends_alone}
use Rattle.iox_lanes_threads_ports.proofs.Striding.{paced_along, publishes_along}
use Rattle.iox_lanes_threads_ports.proofs.publishing.run.Goals as goal

pub loop-made-init : goal.loop-made-init
loop-made-init g c = (
  refl,
  refl,
  publishes (port_of c.args.seat.now.me) c.args.seat.now.me c.args.lane.now c.requires.seat.0 refl c.requires.stands,
  paced (port_of c.args.seat.now.me) c.args.lane.now c.args.sizes.now c.args.most c.requires.seat.1 c.requires.begins,
  omega arith,
)

pub loop-made-preserved : goal.loop-made-preserved
loop-made-preserved g c =
    let run = c.loop-made.invariant.2 in
    let some = c.stride-made.ensures.some.1 in
    let test = c.loop-made-test.true in (
      c.stride-made.ensures.table.0 ∙ c.loop-made.invariant.0,
      c.stride-made.ensures.table.1 ∙ c.loop-made.invariant.1,
      publishes_along (port_of c.args.seat.now.me) c.loop-made.seat.me c.loop-made.lane c.stride-made.result c.stride-made.new.seat.me
          c.stride-made.new.lane run c.stride-made.ensures.strode,
      (paced_along c.args.most c.loop-made.made (port_of c.args.seat.now.me) c.args.lane.now (port_of c.loop-made.seat.me)
          c.loop-made.lane c.stride-made.result (port_of c.stride-made.new.seat.me) c.stride-made.new.lane
          (subst IsSmall (sym c.requires.seat.1) c.requires.table.2) run.seat.service run.stands c.loop-made.invariant.3
          c.stride-made.ensures.strode.strides).2,
      omega (arith, some, test),
    )

pub returns-then-is_over-clause-stands : goal.returns-then-is_over-clause-stands
returns-then-is_over-clause-stands g c =
    let steps = ends_alone c.loop-made.seat.me c.loop-made.lane c.go_on.new.self c.loop-made.invariant.2.seat.alone
    (sym (c.is_over.ensures ∙ ap publisher_is_over (c.call.ensures ∙ ap (λ port. port.call) c.port.ensures)) ∙ c.if-is_over.true)
    c.go_on.ensures.lane in
    (publishes_on (port_of c.args.seat.now.me) c.loop-made.seat.me c.loop-made.lane c.loop-made.seat.me c.go_on.new.self
    c.loop-made.invariant.2 steps).stands

pub returns-then-is_over-clause-seat : goal.returns-then-is_over-clause-seat
returns-then-is_over-clause-seat g c =
    let seat = c.loop-made.invariant.2.seat in
    (seat.alone, seat.service, seat.name)

pub returns-then-is_over-clause-runs : goal.returns-then-is_over-clause-runs
returns-then-is_over-clause-runs g c =
    let steps = ends_alone c.loop-made.seat.me c.loop-made.lane c.go_on.new.self c.loop-made.invariant.2.seat.alone
    (sym (c.is_over.ensures ∙ ap publisher_is_over (c.call.ensures ∙ ap (λ port. port.call) c.port.ensures)) ∙ c.if-is_over.true)
    c.go_on.ensures.lane in
    publisher_stops c.args.most c.loop-made.made (port_of c.args.seat.now.me) c.args.lane.now c.loop-made.seat.me c.loop-made.lane
    c.loop-made.seat.me c.go_on.new.self c.go_on.result c.loop-made-test.true
    c.loop-made.invariant.3 steps c.go_on.ensures.answer c.go_on.ensures.ends
    (c.go_on.ensures.ends ∙ sym (c.is_over.ensures ∙ ap publisher_is_over (c.call.ensures ∙ ap (λ port. port.call) c.port.ensures)) ∙
    c.if-is_over.true)

pub returns-clause-runs : goal.returns-clause-runs
returns-clause-runs g c =
    let below = c.loop-made.invariant.4 in
    let past = c.loop-made-test.false in
    let all : c.loop-made.made ≡ c.args.most = omega (arith, below, past) in
    publisher_stays_inside c.args.most (port_of c.args.seat.now.me) c.args.lane.now (port_of c.loop-made.seat.me) c.loop-made.lane
    c.requires.stands c.requires.begins.first
    (subst (λ (k : ℕ). Paced c.args.most k (port_of c.args.seat.now.me) c.args.lane.now (port_of c.loop-made.seat.me) c.loop-made.lane)
    all c.loop-made.invariant.3)
