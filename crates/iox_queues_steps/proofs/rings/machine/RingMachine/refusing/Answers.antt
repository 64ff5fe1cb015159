use Rattle.std.proofs.Common.{rules, ℕ, ◌≡◌, List, sym, subst}
use Rattle.iox_queues_steps.specs.RingMachine.{IsKept, start}
use Rattle.iox_queues_steps.specs.declared.rings.ends.RingKind.TheVariants as kind
use Rattle.iox_queues_steps.proofs.Runs.{refusing_kept}
use Rattle.iox_queues_steps.proofs.rings.machine.RingMachine.refusing.Goals as goal

pub invariant_of-result : goal.invariant_of-result
invariant_of-result c =
    let items : c.in_ok-initial.initial.items ≡ c.args.waiting.now = search rules in
    subst IsKept (sym c.new.ensures)
    (subst (λ (q : List ℕ). IsKept (start kind.Refusing c.args.limit q)) (sym items)
    (refusing_kept c.args.limit c.args.waiting.now c.if-limit.false c.requires.room))
