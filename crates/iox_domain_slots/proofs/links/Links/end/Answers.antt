use Rattle.std.proofs.Common.{[], get_or, None}
use Rattle.iox_domain_slots.specs.Links.{seen}
use Rattle.iox_domain_slots.specs.declared.stage.Stage.TheVariants as stage
use Rattle.iox_domain_slots.proofs.AllSlots.{link_within, then_settled}
use Rattle.iox_domain_slots.proofs.links.Links.end.Goals as goal

pub returns-clause-after : goal.returns-clause-after
returns-clause-after c = then_settled c.args.self.now.links c.end_link.new.self.links c.settle.new.self.links c.args.index
    (record (seen (get_or c.args.self.now.links c.args.index None)) { stage = stage.Ended; waiting = [] })
    (link_within c.args.self.now.links c.args.index c.requires.there) c.end_link.ensures.after c.settle.ensures.after
