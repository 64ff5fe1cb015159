use Rattle.std.proofs.Common.{refl, arith, sym, ◌∙◌}
use Rattle.iox_domain.specs.DomainSlots.Uses.{nobody}
use Rattle.iox_lanes_opening.specs.Slices.{slice_waits}
use Rattle.iox_lanes_opening.proofs.Going.{some_is, none_is, none_more}
use Rattle.iox_lanes_opening.proofs.refusals.slices.has_slice_waiting.Goals as goal

pub returns-then-slice_waits_at : goal.returns-then-slice_waits_at
returns-then-slice_waits_at g c = sym
    (some_is slice_waits nobody c.args.port.now.sender.uses.connections c.loop-index.index refl
    (sym c.slice_waits_at.ensures ∙ c.if-slice_waits_at.true))

pub loop-index-preserved : goal.loop-index-preserved
loop-index-preserved g c = none_more slice_waits nobody c.args.port.now.sender.uses.connections c.loop-index.index
    c.loop-index.invariant (sym c.slice_waits_at.ensures ∙ c.if-slice_waits_at.false)

pub returns : goal.returns
returns g c = sym (none_is slice_waits nobody c.args.port.now.sender.uses.connections c.loop-index.index
    (omega (arith, c.loop-index-test.false, c.indices-index-end.ensures.value)) c.loop-index.invariant)
