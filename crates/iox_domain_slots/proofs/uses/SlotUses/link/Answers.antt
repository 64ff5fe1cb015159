use Rattle.std.proofs.Common.{◌∙◌, ap}
use Rattle.iox_domain_slots.specs.Uses.{connection_at}
use Rattle.iox_domain_slots.specs.Links.{seen}
use Rattle.iox_domain_slots.proofs.AllSlots.{seen_at}
use Rattle.iox_domain_slots.proofs.uses.SlotUses.link.Goals as goal

pub returns : goal.returns
returns c = ap seen c.get.ensures ∙ seen_at c.self.inside.links.links c.args.index ∙ ap (connection_at c.args.index) c.self.view_is
