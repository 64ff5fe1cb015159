use Rattle.std.proofs.Common.{refl, arith, sym, ◌∙◌}
use Rattle.iox_domain.specs.DomainSlots.Uses.{nobody}
use Rattle.iox_lanes_opening.specs.Soundness.{waits_ill}
use Rattle.iox_lanes_opening.proofs.Going.{some_is, none_is, none_more}
use Rattle.iox_lanes_opening.proofs.refusals.soundness.has_ill_connection.Goals as goal

pub returns-then-waits_ill_at : goal.returns-then-waits_ill_at
returns-then-waits_ill_at g c = sym
    (some_is (waits_ill c.args.sizes) nobody c.args.port.now.sender.uses.connections c.loop-index.index refl
    (sym c.waits_ill_at.ensures ∙ c.if-waits_ill_at.true))

pub loop-index-preserved : goal.loop-index-preserved
loop-index-preserved g c = none_more (waits_ill c.args.sizes) nobody c.args.port.now.sender.uses.connections c.loop-index.index
    c.loop-index.invariant (sym c.waits_ill_at.ensures ∙ c.if-waits_ill_at.false)

pub returns : goal.returns
returns g c = sym (none_is (waits_ill c.args.sizes) nobody c.args.port.now.sender.uses.connections c.loop-index.index
    (omega (arith, c.loop-index-test.false, c.indices-index-end.ensures.value)) c.loop-index.invariant)
