use Rattle.std.proofs.Common.{◌≡◌, get_or, Some, None, true, is_some}
use Rattle.iox_domain_slots.specs.Uses.{taken}
use Rattle.iox_domain_slots.specs.Links.{connection_of}
use Rattle.iox_domain_slots.proofs.AllSlots.{link_is, link_within, seen_set, uses_all}
use Rattle.iox_domain_slots.proofs.links.Links.take.Goals as goal

-- the connection that was found is the one of the index
found : (c : goal.After-self-2-1) → get_or c.self.inside.items.items c.args.index None ≡ Some c.in-Some.link
found c =
    let there : is_some (get_or c.self.inside.items.items c.args.index None) ≡ true = rw (← c.self.view_is) at c.requires.there in
    link_is c.self.inside.items.items c.args.index c.in-Some.link c.index_mut.result.now there c.index_mut.ensures.value c.in-Some.is

pub returns-clause-after : goal.returns-clause-after
returns-clause-after c = rw (← c.self.view_is) (
    rw (found c) (seen_set c.self.inside.items.items c.args.index c.take.new.self (taken (connection_of c.in-Some.link))
    c.take.ensures.after))

pub returns-clause-uses : goal.returns-clause-uses
returns-clause-uses c = rw (← c.self.view_is) (
    let there : is_some (get_or c.self.inside.items.items c.args.index None) ≡ true = rw (← c.self.view_is) at c.requires.there in
    uses_all c.self.inside.items.items c.args.index c.in-Some.link c.take.new.self
    (link_within c.self.inside.items.items c.args.index there) (found c) c.take.ensures.uses)
