use Rattle.std.proofs.Common.{arith, sym, ◌∙◌, length}
use Rattle.iox_lanes_opening.specs.Soundness.{comes_again}
use Rattle.iox_lanes_opening.proofs.Again.{any_at, comes_none, none_beyond, none_next}
use Rattle.iox_lanes_opening.proofs.refusals.soundness.attaches_twice.Goals as goal

pub returns-then-comes_again : goal.returns-then-comes_again
returns-then-comes_again c = sym (any_at (comes_again c.args.port.now) (length c.args.port.now.connections.values) c.loop-key.key
    (omega (arith, c.loop-key-test.true, c.reached-key-end.ensures.bound)) (sym c.comes_again.ensures ∙ c.if-comes_again.true))

pub loop-key-preserved : goal.loop-key-preserved
loop-key-preserved c = none_next (comes_again c.args.port.now) c.loop-key.key c.comes_again.result c.loop-key.invariant
    c.comes_again.ensures c.if-comes_again.false

pub returns : goal.returns
returns c = sym (none_beyond (comes_again c.args.port.now) (length c.args.port.now.connections.values) c.loop-key.key
    (λ k behind. comes_none c.args.port.now k (c.reached-key-end.ensures.none k (omega (arith, behind, c.loop-key-test.false))))
    c.loop-key.invariant)
