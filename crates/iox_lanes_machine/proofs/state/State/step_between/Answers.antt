use Rattle.std.proofs.Common.{rules, ◌≡◌, sym, subst}
use Rattle.iox_lanes_machine.specs.State.{world_of}
use Rattle.iox_lanes_machine.specs.World.{placed}
use Rattle.iox_lanes_machine.specs.Kept.{IsWithin}
use Rattle.iox_lanes_machine.proofs.Within.{placed_within}
use Rattle.iox_lanes_machine.proofs.state.State.step_between.Goals as goal

pub go_on-requires-clause-within : goal.go_on-requires-clause-within
go_on-requires-clause-within c =
    let is : world_of c.record.new.self ≡ placed (world_of c.args.self.now) c.args.party = search rules in
    subst IsWithin (sym is) (placed_within (world_of c.args.self.now) c.args.party c.requires.within)
