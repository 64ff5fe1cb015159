use Rattle.std.proofs.Common.{arith, ◌≡◌, ◌+◌, ◌^◌, ◌<◌, get_or, Some, None, true, is_some}
use Rattle.iox_domain_slots.specs.Counting.{times, uses_of, Covers}
use Rattle.iox_domain_slots.specs.Uses.{offered}
use Rattle.iox_domain_slots.specs.Links.{connection_of, all_slots}
use Rattle.iox_domain_slots.proofs.AllSlots.{covers_one, moves_all, link_is, link_within, seen_set, kind_of, besides_one, all_length}
use Rattle.iox_domain_slots.proofs.links.Links.offer.Goals as goal

-- the connection that was found is the one of the index
found : (c : goal.After-offer-arg-1) → get_or c.self.inside.items.items c.args.index None ≡ Some c.in-Some.link
found c =
    let there : is_some (get_or c.self.inside.items.items c.args.index None) ≡ true = rw (← c.self.view_is) at c.requires.there in
    link_is c.self.inside.items.items c.args.index c.in-Some.link c.index_mut.result.now there c.index_mut.ensures.value c.in-Some.is

pub offer-requires-clause-covered : goal.offer-requires-clause-covered
offer-requires-clause-covered c =
    let covered : Covers c.args.slots.now (all_slots c.self.inside.items.items) = rw (← c.self.view_is) at c.requires.covered in
    covers_one c.args.slots.now c.self.inside.items.items c.args.index c.in-Some.link (found c) covered

pub offer-requires-clause-besides : goal.offer-requires-clause-besides
offer-requires-clause-besides c =
    let besides : times c.args.slot (all_slots c.self.inside.items.items) < uses_of c.args.slot c.args.slots.now
    = rw (← c.self.view_is) at c.requires.besides in
    besides_one c.args.slots.now c.self.inside.items.items c.args.index c.args.slot c.in-Some.link (found c) besides

pub offer-requires-clause-room : goal.offer-requires-clause-room
offer-requires-clause-room c =
    let others : uses_of c.args.slot c.args.slots.now < 2 ^ 62 + times c.args.slot (all_slots c.self.inside.items.items)
    = rw (← c.self.view_is) at c.requires.others in
    omega (
      arith,
      others,
      c.self.invariant.0,
      all_length c.self.inside.overflows c.self.inside.most_waiting c.self.inside.most_borrowed c.self.inside.items.items
          c.self.invariant.2 c.self.invariant.3 c.self.invariant.1 c.args.slot,
    )

pub returns-clause-after : goal.returns-clause-after
returns-clause-after c = rw (← c.self.view_is) (
    let kind = kind_of c.self.inside.items.items c.args.index c.self.inside.overflows c.self.inside.most_waiting
    c.self.inside.most_borrowed c.in-Some.link c.self.invariant.1 (found c.before.before) in
    let after : connection_of c.offer.new.self ≡ offered c.self.inside.overflows c.args.slot (connection_of c.in-Some.link)
    = rw (← kind.0) c.offer.ensures.after in
    rw (found c.before.before) (seen_set c.self.inside.items.items c.args.index c.offer.new.self
    (offered c.self.inside.overflows c.args.slot (connection_of c.in-Some.link)) after))

pub returns-clause-moved : goal.returns-clause-moved
returns-clause-moved c = rw (← c.self.view_is) (
    let there : is_some (get_or c.self.inside.items.items c.args.index None) ≡ true = rw (← c.self.view_is) at c.requires.there in
    moves_all c.args.slots.now c.offer.new.slots c.self.inside.items.items c.args.index c.in-Some.link c.offer.new.self
    (link_within c.self.inside.items.items c.args.index there) (found c.before.before) c.offer.ensures.moved)
