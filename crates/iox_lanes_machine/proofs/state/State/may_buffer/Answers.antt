use Rattle.std.proofs.Common.{rules, ◌≡◌, slice_get, Some}
use Rattle.iox_lanes_machine.specs.State.{world_of}
use Rattle.iox_lanes_machine.proofs.Findings.{link_there}
use Rattle.iox_lanes_machine.proofs.state.State.may_buffer.Goals as goal

pub takes_buffer-requires : goal.takes_buffer-requires
takes_buffer-requires c =
    let found : slice_get (world_of c.args.self.now).links c.args.connection ≡ Some c.in-Some.link.now = search rules in
    link_there (world_of c.args.self.now) c.args.connection c.in-Some.link.now c.requires found
