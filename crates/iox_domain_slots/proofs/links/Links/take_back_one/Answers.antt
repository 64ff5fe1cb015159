use Rattle.std.proofs.Common.{◌≡◌, ◌<◌, length, get_or, Some, None}
use Rattle.iox_domain_slots.specs.Counting.{Covers}
use Rattle.iox_domain_slots.specs.Links.{all_slots}
use Rattle.iox_domain_slots.proofs.AllSlots.{covers_one, moves_all, link_of_found}
use Rattle.iox_domain_slots.proofs.links.Links.take_back_one.Goals as goal

-- the connection that was found is the one of the index
found : (c : goal.After-take_back-arg-1) → get_or c.self.inside.items.items c.args.index None ≡ Some c.in-Some.link
found c =
    let within : c.args.index < length c.self.inside.items.items = rw (← c.self.view_is) at c.requires.within in
    link_of_found c.self.inside.items.items c.args.index c.in-Some.link c.index_mut.result.now within c.index_mut.ensures.value c.in-Some.is

pub take_back-requires : goal.take_back-requires
take_back-requires c =
    let covered : Covers c.args.slots.now (all_slots c.self.inside.items.items) = rw (← c.self.view_is) at c.requires.covered in
    covers_one c.args.slots.now c.self.inside.items.items c.args.index c.in-Some.link (found c) covered

pub returns-clause-moved : goal.returns-clause-moved
returns-clause-moved c = rw (← c.self.view_is) (
    let within : c.args.index < length c.self.inside.items.items = rw (← c.self.view_is) at c.requires.within in
    moves_all c.args.slots.now c.take_back.new.slots c.self.inside.items.items c.args.index c.in-Some.link c.take_back.new.self
    within (found c.before.before) c.take_back.ensures.moved)
