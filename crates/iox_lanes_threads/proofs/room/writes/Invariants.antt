use Rattle.std.proofs.Common.{◌≡◌, length}
use Rattle.std.specs.List.{All}
use Rattle.iox_lanes_threads_ports.specs.Values.{HasRoom}
use Rattle.iox_lanes_threads.proofs.room.writes.Given as goal

abbrev pub invariant-loop-write : goal.invariant-loop-write
invariant-loop-write l = (length l.list.items ≡ l._write) × All (HasRoom l.sizes) l.list.items
