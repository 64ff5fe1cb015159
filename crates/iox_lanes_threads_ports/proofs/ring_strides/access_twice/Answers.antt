use Rattle.iox_lanes_threads_ports.proofs.RingStriding.{stands_second, strides_along}
use Rattle.iox_lanes_threads_ports.proofs.Striding.{stride_next}
use Rattle.iox_lanes_threads_ports.proofs.ring_strides.access_twice.Goals as goal

pub access_at-first-requires-clause-asks : goal.access_at-first-requires-clause-asks
access_at-first-requires-clause-asks g c = c.requires.two.first

pub access_at-second-requires-clause-asks : goal.access_at-second-requires-clause-asks
access_at-second-requires-clause-asks g c =
    (stands_second g.L.Ahead.kind (g.C.RingCall.stage c.args.call) g.S.End.asks g.S.End.takes
    (λ lane state answer. g.met.C.RingCall.goes_on lane c.args.call state answer) c.args.lane.now c.args.seat.now.me
    c.access_at-first.new.seat.me c.args.state c.take-next.result c.access_at-first.result c.requires.two c.take-next.ensures
    c.access_at-first.ensures.strode).0

pub access_at-second-requires-clause-may : goal.access_at-second-requires-clause-may
access_at-second-requires-clause-may g c =
    stride_next c.goes_ahead.ensures c.args.words.now.table_id c.args.seat.now.table_id c.access_at-first.new.seat.table_id
    c.args.seat.now.me c.access_at-first.new.seat.me c.args.sizes.now
    (g.L.Ahead.kind.called (g.C.RingCall.stage c.args.call c.args.state) c.args.lane.now)
    (g.L.Ahead.kind.called (g.C.RingCall.stage c.args.call c.take-next.result) c.args.lane.now)
    ((g.C.RingCall.ring c.args.call).cells) 1 c.requires.may c.access_at-first.ensures.table.0
    (stands_second g.L.Ahead.kind (g.C.RingCall.stage c.args.call) g.S.End.asks g.S.End.takes
    (λ lane state answer. g.met.C.RingCall.goes_on lane c.args.call state answer) c.args.lane.now c.args.seat.now.me
    c.access_at-first.new.seat.me c.args.state c.take-next.result c.access_at-first.result c.requires.two c.take-next.ensures
    c.access_at-first.ensures.strode).1

pub returns-clause-second : goal.returns-clause-second
returns-clause-second g c = (c.access_at-first.result, c.take-next.ensures)

pub returns-clause-strode : goal.returns-clause-strode
returns-clause-strode g c =
    strides_along g.L.Ahead.kind 1 1 c.args.seat.now.me c.access_at-first.new.seat.me c.access_at-second.new.seat.me
    (g.L.Ahead.kind.called (g.C.RingCall.stage c.args.call c.args.state) c.args.lane.now)
    (g.L.Ahead.kind.called (g.C.RingCall.stage c.args.call c.take-next.result) c.args.lane.now)
    (g.L.Ahead.kind.after c.access_at-second.result
    (g.L.Ahead.kind.called (g.C.RingCall.stage c.args.call c.take-next.result) c.args.lane.now))
    (stands_second g.L.Ahead.kind (g.C.RingCall.stage c.args.call) g.S.End.asks g.S.End.takes
    (λ lane state answer. g.met.C.RingCall.goes_on lane c.args.call state answer) c.args.lane.now c.args.seat.now.me
    c.access_at-first.new.seat.me c.args.state c.take-next.result c.access_at-first.result c.requires.two c.take-next.ensures
    c.access_at-first.ensures.strode).1
    c.access_at-second.ensures.strode
