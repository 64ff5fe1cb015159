use Rattle.std.proofs.Common.{ap, ◌≡◌, [], get_or, Some, None, true, is_some}
use Rattle.iox_domain_slots.specs.Counting.{Covers}
use Rattle.iox_domain_slots.specs.Links.{connection_of, all_slots}
use Rattle.iox_domain_slots.proofs.AllSlots.{covers_one, moves_all, link_is, link_within, seen_set}
use Rattle.iox_domain_slots.proofs.links.Links.lose_waiting.Goals as goal

-- the connection that was found is the one of the index
found : (c : goal.After-lose_waiting-arg-1) → get_or c.self.inside.items.items c.args.index None ≡ Some c.in-Some.link
found c =
    let there : is_some (get_or c.self.inside.items.items c.args.index None) ≡ true = rw (← c.self.view_is) at c.requires.there in
    link_is c.self.inside.items.items c.args.index c.in-Some.link c.index_mut.result.now there c.index_mut.ensures.value c.in-Some.is

pub lose_waiting-requires : goal.lose_waiting-requires
lose_waiting-requires c =
    let covered : Covers c.args.slots.now (all_slots c.self.inside.items.items) = rw (← c.self.view_is) at c.requires.covered in
    covers_one c.args.slots.now c.self.inside.items.items c.args.index c.in-Some.link (found c) covered

pub returns-clause-after : goal.returns-clause-after
returns-clause-after c = rw (← c.self.view_is) (
    rw (found c.before.before) (seen_set c.self.inside.items.items c.args.index c.lose_waiting.new.self
    (record (connection_of c.in-Some.link) { waiting = [] }) (ap connection_of c.lose_waiting.ensures.after)))

pub returns-clause-moved : goal.returns-clause-moved
returns-clause-moved c = rw (← c.self.view_is) (
    let there : is_some (get_or c.self.inside.items.items c.args.index None) ≡ true = rw (← c.self.view_is) at c.requires.there in
    moves_all c.args.slots.now c.lose_waiting.new.slots c.self.inside.items.items c.args.index c.in-Some.link c.lose_waiting.new.self
    (link_within c.self.inside.items.items c.args.index there) (found c.before.before) c.lose_waiting.ensures.moved)
