use Rattle.std.proofs.Common.{◌≡◌, replicate}
use Rattle.iox_delivery.specs.Slices.{each_written}
use Rattle.iox_delivery.proofs.slices.filling.fill_each.Given as goal

-- n values are written
abbrev pub invariant-loop-place : goal.invariant-loop-place
invariant-loop-place g l = l.publisher ≡ each_written l.slot 0 (replicate l.place l.value) l.initial.publisher
