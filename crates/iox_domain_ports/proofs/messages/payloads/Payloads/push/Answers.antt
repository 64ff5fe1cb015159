use Rattle.std.proofs.Common.{rules, ◌<◌, ◌∙◌, length, arith, ap, sym}
use Rattle.iox_domain_ports.proofs.Segments.{segment_added, sizes_with}
use Rattle.iox_domain_ports.proofs.messages.payloads.Payloads.push.Goals as goal

pub push_reserved-requires : goal.push_reserved-requires
push_reserved-requires g c =
    let room : length c.self.inside.segments.items < c.self.inside.most_segments
    = omega (arith, c.requires.room, ap (λ s. s.segments) c.self.view_is, ap (λ s. s.most_segments) c.self.view_is) in
    search (rules, room, c.self.invariant.1)

pub invariant_of-self : goal.invariant_of-self
invariant_of-self g c = (
  sizes_with c.self.inside.size c.args.segment c.self.inside.segments.items c.push_reserved.new.self.items c.self.invariant.0
      (c.requires.size ∙ ap (λ s. s.size) (sym c.self.view_is)) c.push_reserved.ensures.items,
  search (rules, c.push_reserved.ensures.capacity, c.self.invariant.1),
)

pub returns : goal.returns
returns g c = segment_added c.args.self.now c.self.inside.size c.self.inside.most_segments c.self.inside.segments.items
    c.push_reserved.new.self.items c.args.segment c.self.view_is c.push_reserved.ensures.items
