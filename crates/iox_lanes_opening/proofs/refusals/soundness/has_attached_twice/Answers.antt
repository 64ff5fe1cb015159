use Rattle.std.proofs.Common.{sym, ◌∙◌}
use Rattle.iox_lanes_opening.specs.Soundness.{attaches_twice}
use Rattle.iox_lanes_opening.proofs.Going.{any_here, any_later, any_over}
use Rattle.iox_lanes_opening.proofs.refusals.soundness.has_attached_twice.Goals as goal

pub returns-then-attaches_twice : goal.returns-then-attaches_twice
returns-then-attaches_twice g c = sym (any_here (λ entry. attaches_twice entry.1) c.args.ports.now.subscribers
    c.loop-number._number-iterator _ _ c.loop-number.invariant c.in-Some.ensures.steps
    (sym c.attaches_twice.ensures ∙ c.if-attaches_twice.true))

pub loop-number-preserved : goal.loop-number-preserved
loop-number-preserved g c = any_later (λ entry. attaches_twice entry.1) c.args.ports.now.subscribers c.loop-number._number-iterator
    _ _ c.loop-number.invariant c.in-Some.ensures.steps (sym c.attaches_twice.ensures ∙ c.if-attaches_twice.false)

pub returns : goal.returns
returns g c = sym (any_over (λ entry. attaches_twice entry.1) c.args.ports.now.subscribers c.loop-number._number-iterator
    c.loop-number.invariant c.in-None.ensures.steps.0)
