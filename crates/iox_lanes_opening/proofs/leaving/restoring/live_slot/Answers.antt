use Rattle.std.proofs.Common.{◌≡◌, sym, ap, ◌∙◌, if◌then◌else◌}
use Rattle.iox_domain_ports.specs.DomainSlots.Uses.{connection_at}
use Rattle.iox_domain_ports.specs.DomainSlots.declared.stage.Stage.TheVariants as stage
use Rattle.iox_lanes_opening.specs.Restoring.{IsOwn}
use Rattle.iox_lanes_opening.proofs.Returning.{own_and_live}
use Rattle.iox_lanes_opening.proofs.leaving.restoring.live_slot.Goals as goal

pub returns-clause-some : goal.returns-clause-some
returns-clause-some g c =
    own_and_live c.args.slots.now.first c.args.slot
    (IsOwn c.args.slots.now.first c.args.slot c.args.slots.now.table.now.sizes.slots c.args.sender.now.uses)
    ((connection_at c.args.index c.args.sender.now.uses).stage ≡ stage.Live) c.own_slot.result c.own_slot.ensures.some
    (c.in-Some.ensures.stage ∙ ap (λ ended. if ended then stage.Ended else stage.Live) (sym c.is_ended.ensures ∙ c.if-is_ended.false))

pub returns-clause-none : goal.returns-clause-none
returns-clause-none g c none own live = c.own_slot.ensures.none none own
