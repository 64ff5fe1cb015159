use Rattle.std.proofs.Common.{arith, ◌<◌, ◌%◌}
use Rattle.iox_domain_slots.proofs.Borrowing.{some_free}
use Rattle.iox_domain_slots.proofs.borrowed.free_step_behind.Goals as goal

pub unreachable-requires : goal.unreachable-requires
unreachable-requires c =
    let low : c.args.slot % c.args.cells < c.args.cells = grind (arith, c.requires) in
    some_free c.args.order.now.items c.args.cells c.args.slot low
    (λ step below. c.loop-step.invariant step (omega (arith, below, c.loop-step-test.false))) c.requires
