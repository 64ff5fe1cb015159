use Rattle.std.proofs.Common.{ℕ, ◌≡◌, ◌≤◌, length, get_or, vec_capacity}
use Rattle.iox_domain_slots.proofs.borrowed.make_up_to.Given as goal

abbrev pub invariant-loop : goal.invariant-loop
invariant-loop l = (length l.slots.items ≡ l.counter) × (l.order ≡ record l.fn.order { made = length l.slots.items })
    × ((at : ℕ) → get_or l.slots.items at 0 ≡ get_or l.fn.slots.items at 0) × (l.cells ≤ vec_capacity l.slots)
    × (length l.slots.items ≤ l.cells)
