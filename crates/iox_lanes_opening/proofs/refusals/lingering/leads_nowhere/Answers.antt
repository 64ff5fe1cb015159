use Rattle.std.proofs.Common.{refl, arith, sym, ◌∙◌}
use Rattle.std.proofs.Common.{None}
use Rattle.iox_lanes_opening.specs.Lingering.{leads_nowhere}
use Rattle.iox_lanes_opening.proofs.Going.{some_is, none_more, none_reached}
use Rattle.iox_lanes_opening.proofs.refusals.lingering.leads_nowhere.Goals as goal

pub returns-then-leads_nowhere_by : goal.returns-then-leads_nowhere_by
returns-then-leads_nowhere_by g c = sym
    (some_is (leads_nowhere c.args.publishers.now) None c.args.port.now.connections.values c.loop-key.key refl
    (sym c.leads_nowhere_by.ensures ∙ c.if-leads_nowhere_by.true))

pub loop-key-preserved : goal.loop-key-preserved
loop-key-preserved g c = none_more (leads_nowhere c.args.publishers.now) None c.args.port.now.connections.values c.loop-key.key
    c.loop-key.invariant (sym c.leads_nowhere_by.ensures ∙ c.if-leads_nowhere_by.false)

pub returns : goal.returns
returns g c = sym (none_reached (leads_nowhere c.args.publishers.now) None c.args.port.now.connections.values c.loop-key.key refl
    (λ k behind. c.reached-key-end.ensures.none k (omega (arith, behind, c.loop-key-test.false))) c.loop-key.invariant)
