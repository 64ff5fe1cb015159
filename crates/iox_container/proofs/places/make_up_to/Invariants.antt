use Rattle.std.proofs.Common.{◌≡◌, ◌+◌, ◌-◌, ◌≤◌, ◌++◌, length, None, replicate, vec_capacity}
use Rattle.iox_container.proofs.places.make_up_to.Given as goal

-- this number of empty cells was added after the existing ones
abbrev pub invariant-loop-cells : goal.invariant-loop-cells
invariant-loop-cells g l =
    (l.cells.items ≡ l.fn.cells.items ++ replicate (length l.cells.items - length l.fn.cells.items) None)
    × (length l.fn.cells.items ≤ length l.cells.items)
    × (length l.cells.items - length l.fn.cells.items ≤ l.index + 1 - length l.fn.cells.items)
    × (vec_capacity l.cells ≡ vec_capacity l.fn.cells)

abbrev pub decreases-loop-cells : goal.decreases-loop-cells
decreases-loop-cells g l = l.index + 1 - length l.cells.items
