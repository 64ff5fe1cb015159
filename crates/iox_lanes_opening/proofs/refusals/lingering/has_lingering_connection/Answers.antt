use Rattle.std.proofs.Common.{refl, arith, sym, ◌∙◌}
use Rattle.iox_domain.specs.DomainSlots.Uses.{nobody}
use Rattle.iox_lanes_opening.specs.Lingering.{connection_lingers}
use Rattle.iox_lanes_opening.proofs.Going.{some_is, none_is, none_more}
use Rattle.iox_lanes_opening.proofs.refusals.lingering.has_lingering_connection.Goals as goal

pub returns-then-connection_lingers : goal.returns-then-connection_lingers
returns-then-connection_lingers g c
    = sym (some_is connection_lingers nobody c.args.port.now.sender.uses.connections c.loop-index.index refl
    (sym c.connection_lingers.ensures ∙ c.if-connection_lingers.true))

pub loop-index-preserved : goal.loop-index-preserved
loop-index-preserved g c = none_more connection_lingers nobody c.args.port.now.sender.uses.connections c.loop-index.index
    c.loop-index.invariant (sym c.connection_lingers.ensures ∙ c.if-connection_lingers.false)

pub returns : goal.returns
returns g c = sym (none_is connection_lingers nobody c.args.port.now.sender.uses.connections c.loop-index.index
    (omega (arith, c.loop-index-test.false, c.indices-index-end.ensures.value)) c.loop-index.invariant)
