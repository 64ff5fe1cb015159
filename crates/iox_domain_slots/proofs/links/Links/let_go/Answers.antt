use Rattle.std.proofs.Common.{ap, ◌≡◌, get_or, remove, Some, None, true, is_some}
use Rattle.iox_domain_slots.specs.Counting.{Covers}
use Rattle.iox_domain_slots.specs.Links.{connection_of, all_slots}
use Rattle.iox_domain_slots.specs.Loans.{place_in}
use Rattle.iox_domain_slots.proofs.AllSlots.{covers_one, moves_all, link_is, link_within, seen_set}
use Rattle.iox_domain_slots.proofs.links.Links.let_go.Goals as goal

-- the connection that was found is the one of the index
found : (c : goal.After-let_go-arg-1) → get_or c.self.inside.items.items c.args.index None ≡ Some c.in-Some.link
found c =
    let there : is_some (get_or c.self.inside.items.items c.args.index None) ≡ true = rw (← c.self.view_is) at c.requires.there in
    link_is c.self.inside.items.items c.args.index c.in-Some.link c.index_mut.result.now there c.index_mut.ensures.value c.in-Some.is

pub let_go-requires-clause-covered : goal.let_go-requires-clause-covered
let_go-requires-clause-covered c =
    let covered : Covers c.args.slots.now (all_slots c.self.inside.items.items) = rw (← c.self.view_is) at c.requires.covered in
    covers_one c.args.slots.now c.self.inside.items.items c.args.index c.in-Some.link (found c) covered

pub returns-clause-after : goal.returns-clause-after
returns-clause-after c = rw (← c.self.view_is) (
    rw (found c.before.before) (seen_set c.self.inside.items.items c.args.index c.let_go.new.self
    (record (connection_of c.in-Some.link) { borrowed = remove c.in-Some.link.borrowed (place_in c.args.slot c.in-Some.link.borrowed) })
    (ap connection_of c.let_go.ensures.after)))

pub returns-clause-moved : goal.returns-clause-moved
returns-clause-moved c = rw (← c.self.view_is) (
    let there : is_some (get_or c.self.inside.items.items c.args.index None) ≡ true = rw (← c.self.view_is) at c.requires.there in
    moves_all c.args.slots.now c.let_go.new.slots c.self.inside.items.items c.args.index c.in-Some.link c.let_go.new.self
    (link_within c.self.inside.items.items c.args.index there) (found c.before.before) c.let_go.ensures.moved)
