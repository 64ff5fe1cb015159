use Rattle.std.proofs.Common.{rules, arith, ◌<◌, ◌*◌, ◌^◌}
use Rattle.iox_lanes_service.proofs.Turns.{new_turns}
use Rattle.iox_lanes_service.proofs.in_turn.LanesInTurn.new.Goals as goal

pub invariant_of-result : goal.invariant_of-result
invariant_of-result c =
    let small : c.args.sizes.publishers * c.args.sizes.slots < 2 ^ 64 = search rules in
    rw c.told.ensures (new_turns c.args.sizes c.in_ok-new.field-0 c.in_ok-new.ensures c.requires (omega arith) (omega arith) (omega arith)
    small)

pub returns : goal.returns
returns c = record { begun = c.told.ensures }
