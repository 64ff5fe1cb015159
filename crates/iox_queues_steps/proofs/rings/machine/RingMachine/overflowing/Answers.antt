use Rattle.std.proofs.Common.{rules, ℕ, ◌≡◌, List, sym, subst}
use Rattle.iox_queues_steps.specs.RingMachine.{IsKept, start}
use Rattle.iox_queues_steps.specs.declared.rings.ends.RingKind.TheVariants as kind
use Rattle.iox_queues_steps.proofs.Runs.{overflowing_kept}
use Rattle.iox_queues_steps.proofs.rings.machine.RingMachine.overflowing.Goals as goal

pub invariant_of-result : goal.invariant_of-result
invariant_of-result c =
    let items : c.in_ok-initial.initial.items ≡ c.args.waiting.now = search rules in
    subst IsKept (sym c.new.ensures)
    (subst (λ (q : List ℕ). IsKept (start kind.Overflowing c.args.limit q)) (sym items)
    (overflowing_kept c.args.limit c.args.waiting.now c.requires.some c.if-limit.false c.requires.room))
