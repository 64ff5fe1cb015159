use Rattle.std.proofs.Common.{refl, subst, ◌∙◌, ◌≡◌, get_or, remove, Some, None, true, is_some}
use Rattle.iox_domain_slots.specs.Uses.{given_back}
use Rattle.iox_domain_slots.specs.Links.{connection_of, seen}
use Rattle.iox_domain_slots.specs.declared.stage.Stage.TheVariants as stage
use Rattle.iox_domain_slots.specs.Loans.{place_in}
use Rattle.iox_domain_slots.proofs.AllSlots.{link_is, link_within, seen_set, uses_all, given_back_live}
use Rattle.iox_domain_slots.proofs.links.Links.put_back.Goals as goal

-- the connection that was found is the one of the index
found : (c : goal.After-self-2-1) → get_or c.self.inside.items.items c.args.index None ≡ Some c.in-Some.link
found c =
    let there : is_some (get_or c.self.inside.items.items c.args.index None) ≡ true = rw (← c.self.view_is) at c.requires.there in
    link_is c.self.inside.items.items c.args.index c.in-Some.link c.index_mut.result.now there c.index_mut.ensures.value c.in-Some.is

pub returns-clause-after : goal.returns-clause-after
returns-clause-after c =
    let before : (seen (get_or c.self.inside.items.items c.args.index None)).stage ≡ stage.Live
    = rw (← c.self.view_is) at c.requires.live in
    let live : (connection_of c.in-Some.link).stage ≡ stage.Live = subst (λ it. (seen it).stage ≡ stage.Live) (found c) before in
    let gave : c.give_back.new.self ≡ record c.in-Some.link
    { borrowed = remove c.in-Some.link.borrowed (place_in c.args.slot c.in-Some.link.borrowed); returned = c.give_back.new.self.returned } =
    c.give_back.ensures.after ∙ rw c.give_back.ensures.after refl in
    rw (← c.self.view_is) (rw (found c)
    (seen_set c.self.inside.items.items c.args.index c.give_back.new.self
    (given_back (place_in c.args.slot c.in-Some.link.borrowed) (connection_of c.in-Some.link))
    (given_back_live c.in-Some.link c.give_back.new.self (place_in c.args.slot c.in-Some.link.borrowed) live gave)))

pub returns-clause-uses : goal.returns-clause-uses
returns-clause-uses c = rw (← c.self.view_is) (
    let there : is_some (get_or c.self.inside.items.items c.args.index None) ≡ true = rw (← c.self.view_is) at c.requires.there in
    uses_all c.self.inside.items.items c.args.index c.in-Some.link c.give_back.new.self
    (link_within c.self.inside.items.items c.args.index there) (found c) c.give_back.ensures.uses)
