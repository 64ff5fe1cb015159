use Rattle.std.proofs.Common.{ap, length, ◌≡◌, ◌∙◌, sym}
use Rattle.std.proofs.lemmas.List.{length-map}
use Rattle.iox_domain_slots.specs.Links.{seen}
use Rattle.iox_domain_slots.proofs.AllSlots.{seen_there, seen_nobody}
use Rattle.iox_domain_slots.proofs.uses.SlotUses.top.Goals as goal

pub returns-clause-within : goal.returns-clause-within
returns-clause-within c =
    let long : length c.args.self.now.connections ≡ length c.self.inside.links.links =
    sym (ap (λ uses. length uses.connections) c.self.view_is) ∙ length-map c.self.inside.links.links seen in
    rw long c.top.ensures.within

pub returns-clause-none : goal.returns-clause-none
returns-clause-none c = λ index past. rw (← c.self.view_is) (
    seen_nobody c.self.inside.links.links index (c.top.ensures.none index past))

pub returns-clause-last : goal.returns-clause-last
returns-clause-last c = λ index last. rw (← c.self.view_is) (
    seen_there c.self.inside.links.links index (c.top.ensures.last index last))
