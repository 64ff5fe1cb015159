use Rattle.std.proofs.Common.{sym, ap, subst, ◌∙◌}
use Rattle.iox_lanes_threads_rule.specs.Acts.{port_of}
use Rattle.iox_lanes_threads_ports.specs.Strides.{AsksWord, StrodeBy}
use Rattle.iox_lanes_threads_ports.proofs.Striding.{strode_begun, stride_begun, stride_next}
use Rattle.iox_lanes_threads_ports.proofs.RingStriding.{found_more, strides_to}
use Rattle.iox_lanes_threads_ports.proofs.ring_strides.ring_stride.Goals as goal

pub access_twice-seen-requires-clause-may : goal.access_twice-seen-requires-clause-may
access_twice-seen-requires-clause-may g c =
    stride_begun c.goes_ahead.ensures c.args.words.now.table_id c.args.seat.now.table_id c.args.seat.now.me c.args.sizes.now c.args.lane.now
    (g.C.RingCall.stage c.args.call c.args.begun) ((g.C.RingCall.ring c.args.call).cells) c.requires.may c.requires.call

pub access_twice-seen-requires-clause-two : goal.access_twice-seen-requires-clause-two
access_twice-seen-requires-clause-two g c = c.requires.runs.two

pub access_twice-last-requires-clause-two : goal.access_twice-last-requires-clause-two
access_twice-last-requires-clause-two g c =
    let more = found_more g.S.End.asks g.S.End.takes g.S.End.over c.args.begun c.access_twice-seen.result.0 c.take-found.result
    c.access_twice-seen.ensures.second.0 c.access_twice-seen.result.1 c.requires.runs c.access_twice-seen.ensures.second.1
    c.take-found.ensures
    (sym c.is_over.ensures ∙ c.if-is_over.false) in
    more.1

pub access_twice-last-requires-clause-may : goal.access_twice-last-requires-clause-may
access_twice-last-requires-clause-may g c =
    let kind = g.L.Ahead.kind in
    let stage = g.C.RingCall.stage c.args.call in
    let lane = c.args.lane.now in
    let more = found_more g.S.End.asks g.S.End.takes g.S.End.over c.args.begun c.access_twice-seen.result.0 c.take-found.result
    c.access_twice-seen.ensures.second.0 c.access_twice-seen.result.1 c.requires.runs c.access_twice-seen.ensures.second.1
    c.take-found.ensures
    (sym c.is_over.ensures ∙ c.if-is_over.false) in
    let on = strides_to kind stage g.S.End.asks g.S.End.takes (λ lane state answer. g.met.C.RingCall.goes_on lane c.args.call state answer)
    lane (kind.called (stage c.args.begun) lane) c.args.seat.now.me c.access_twice-seen.new.seat.me 2 c.access_twice-seen.result.0
    c.take-found.result c.access_twice-seen.result.1 more.0 more.1.first c.take-found.ensures c.access_twice-seen.ensures.strode in
    let may = stride_begun c.goes_ahead.ensures c.args.words.now.table_id c.args.seat.now.table_id c.args.seat.now.me c.args.sizes.now lane
    (stage c.args.begun) ((g.C.RingCall.ring c.args.call).cells) c.requires.may c.requires.call in
    stride_next c.goes_ahead.ensures c.args.words.now.table_id c.args.seat.now.table_id c.access_twice-seen.new.seat.table_id
    c.args.seat.now.me c.access_twice-seen.new.seat.me c.args.sizes.now (kind.called (stage c.args.begun) lane)
    (kind.called (stage c.take-found.result) lane) ((g.C.RingCall.ring c.args.call).cells) 2 may
    c.access_twice-seen.ensures.table.0 on

pub returns-then-is_over-clause-ends : goal.returns-then-is_over-clause-ends
returns-then-is_over-clause-ends g c = (
  c.access_twice-seen.result.0,
  c.access_twice-seen.result.1,
  subst (λ state. AsksWord (g.S.End.asks state)) (sym c.access_twice-seen.ensures.second.1)
      (c.requires.runs.two.second c.access_twice-seen.ensures.second.0),
  c.go_on_from.ensures
      ∙ ap (λ call. g.L.Ahead.kind.after c.access_twice-seen.result.1 (g.L.Ahead.kind.called call c.args.lane.now)) c.stage.ensures,
)

pub returns-then-is_over-clause-strode : goal.returns-then-is_over-clause-strode
returns-then-is_over-clause-strode g c =
    let kind = g.L.Ahead.kind in
    let stage = g.C.RingCall.stage c.args.call in
    let lane = c.args.lane.now in
    let p = port_of c.args.seat.now.me in
    let run = strode_begun c.goes_ahead.ensures c.args.seat.now.me lane (stage c.args.begun) c.requires.call c.requires.may.own.0
    c.requires.may.stands in
    subst (StrodeBy kind p lane 2 c.access_twice-seen.new.seat.me) (sym (c.go_on_from.ensures
    ∙ ap (λ call. kind.after c.access_twice-seen.result.1 (kind.called call lane)) c.stage.ensures))
    (c.access_twice-seen.ensures.strode p lane 0 run)

pub returns-clause-ends : goal.returns-clause-ends
returns-clause-ends g c =
    let more = found_more g.S.End.asks g.S.End.takes g.S.End.over c.args.begun c.access_twice-seen.result.0 c.take-found.result
    c.access_twice-seen.ensures.second.0 c.access_twice-seen.result.1 c.requires.runs c.access_twice-seen.ensures.second.1
    c.take-found.ensures
    (sym c.is_over.ensures ∙ c.if-is_over.false) in (
      c.access_twice-last.result.0,
      c.access_twice-last.result.1,
      subst (λ state. AsksWord (g.S.End.asks state)) (sym c.access_twice-last.ensures.second.1)
          (more.1.second c.access_twice-last.ensures.second.0),
      c.go_on_from-2.ensures
          ∙ ap (λ call. g.L.Ahead.kind.after c.access_twice-last.result.1 (g.L.Ahead.kind.called call c.args.lane.now)) c.stage-2.ensures,
    )

pub returns-clause-strode : goal.returns-clause-strode
returns-clause-strode g c =
    let kind = g.L.Ahead.kind in
    let stage = g.C.RingCall.stage c.args.call in
    let lane = c.args.lane.now in
    let p = port_of c.args.seat.now.me in
    let run = strode_begun c.goes_ahead.ensures c.args.seat.now.me lane (stage c.args.begun) c.requires.call c.requires.may.own.0
    c.requires.may.stands in
    let more = found_more g.S.End.asks g.S.End.takes g.S.End.over c.args.begun c.access_twice-seen.result.0 c.take-found.result
    c.access_twice-seen.ensures.second.0 c.access_twice-seen.result.1 c.requires.runs c.access_twice-seen.ensures.second.1
    c.take-found.ensures
    (sym c.is_over.ensures ∙ c.if-is_over.false) in
    let on = strides_to kind stage g.S.End.asks g.S.End.takes (λ lane state answer. g.met.C.RingCall.goes_on lane c.args.call state answer)
    lane (kind.called (stage c.args.begun) lane) c.args.seat.now.me c.access_twice-seen.new.seat.me 2 c.access_twice-seen.result.0
    c.take-found.result c.access_twice-seen.result.1 more.0 more.1.first c.take-found.ensures c.access_twice-seen.ensures.strode in
    subst (StrodeBy kind p lane 4 c.access_twice-last.new.seat.me) (sym (c.go_on_from-2.ensures
    ∙ ap (λ call. kind.after c.access_twice-last.result.1 (kind.called call lane)) c.stage-2.ensures))
    (c.access_twice-last.ensures.strode p lane 2 (on p lane 0 run))
