use Rattle.std.proofs.Common.{◌≡◌, length}
use Rattle.std.specs.List.{All}
use Rattle.atomic_table.specs.Seated.{TableId}
use Rattle.iox_lanes_threads.proofs.room.shares.Given as goal

abbrev pub invariant-loop-share : goal.invariant-loop-share
invariant-loop-share l = (length l.list.items ≡ l._share) × All (λ (share : TableId). share ≡ l.words) l.list.items
