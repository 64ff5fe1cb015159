use Rattle.std.proofs.Common.{get_or, remove, None}
use Rattle.iox_domain_slots.specs.Links.{seen}
use Rattle.iox_domain_slots.specs.Loans.{place_in}
use Rattle.iox_domain_slots.proofs.AllSlots.{link_within, then_settled}
use Rattle.iox_domain_slots.proofs.links.Links.give_back.Goals as goal

pub returns-clause-after : goal.returns-clause-after
returns-clause-after c = then_settled c.args.self.now.links c.let_go.new.self.links c.settle.new.self.links c.args.index
    (record (seen (get_or c.args.self.now.links c.args.index None)) {
      borrowed = remove (seen (get_or c.args.self.now.links c.args.index None)).borrowed
          (place_in c.args.slot (seen (get_or c.args.self.now.links c.args.index None)).borrowed);
    })
    (link_within c.args.self.now.links c.args.index c.requires.there) c.let_go.ensures.after c.settle.ensures.after
