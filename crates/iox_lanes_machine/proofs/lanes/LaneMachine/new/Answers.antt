use Rattle.std.proofs.Common.{rules, arith, ◌+◌, ◌≡◌, ◌<◌, ◌^◌, subst, sym}
use Rattle.iox_lanes_machine.specs.Kept.{IsKept}
use Rattle.iox_lanes_machine.specs.Made.{start}
use Rattle.iox_lanes_machine.specs.State.{world_of}
use Rattle.iox_lanes_machine.proofs.StartUses.{start_kept}
use Rattle.iox_lanes_machine.proofs.lanes.LaneMachine.new.Goals as goal

pub invariant_of-result : goal.invariant_of-result
invariant_of-result c =
    let is : world_of c.in_ok-state.state ≡ start c.args.sizes = search rules in
    let few : c.args.sizes.buffer < 2 ^ 61 = search rules in
    let ports : c.args.sizes.subscribers < 2 ^ 61 = search rules in
    let borrowed : c.args.sizes.most_borrowed < 2 ^ 61 = search rules in
    let small : c.args.sizes.buffer + c.args.sizes.most_borrowed + 1 < 2 ^ 62 = omega (arith, few, borrowed) in
    subst IsKept (sym is) (start_kept c.args.sizes c.requires ports small)
