use Rattle.std.proofs.Common.{ap, subst, sym, ◌∙◌}
use Rattle.iox_lanes_machine.specs.LanesBase.Words.{on_ring}
use Rattle.iox_lanes_threads_ports.specs.Strides.{StridesOn}
use Rattle.iox_lanes_threads_ports.specs.declared.ring_calls.RouteRing.{RouteRing}
use Rattle.iox_lanes_threads_ports.proofs.RingStriding.{asked_touches}
use Rattle.iox_lanes_threads_ports.proofs.ring_strides.access_at.Goals as goal

pub access_ahead-requires-clause-next : goal.access_ahead-requires-clause-next
access_ahead-requires-clause-next g c =
    let ring : RouteRing = g.C.RingCall.ring c.args.call in
    ap g.L.Ahead.kind.next c.stage.ensures
    ∙ g.met.C.RingCall.accesses c.args.call c.args.state
    ∙ sym (c.access-access.ensures ∙ ap (λ (r : RouteRing). on_ring r.connection r.ring r.cells c.next.result) c.ring.ensures
    ∙ ap (on_ring ring.connection ring.ring ring.cells) c.next.ensures)

pub returns-clause-strode : goal.returns-clause-strode
returns-clause-strode g c =
    let kind = g.L.Ahead.kind in
    subst (λ stage. StridesOn kind 1 c.args.seat.now.me (kind.called stage c.args.lane.now) c.access_ahead.new.seat.me
    (kind.after c.access_ahead.result (kind.called stage c.args.lane.now))) c.stage.ensures (c.access_ahead.ensures.strode
    (asked_touches c.ring.result.connection c.ring.result.ring c.ring.result.cells c.next.result (g.S.End.asks c.args.state)
    c.access-access.result c.next.ensures c.requires.asks c.access-access.ensures))
