use Rattle.std.proofs.Common.{◌≡◌, replicate}
use Rattle.iox_lanes_machine.specs.Made.{first_head}
use Rattle.iox_lanes_machine.proofs.made.heads.Given as goal

abbrev pub invariant-loop-slot : goal.invariant-loop-slot
invariant-loop-slot l = l.list.items ≡ replicate l._slot (first_head l.fn.sizes l.fn.place)
