use Rattle.std.proofs.Common.{◌≡◌, ℕ, ◌<◌, get_or, true}
use Rattle.iox_container.specs.Unique.{is_among}
use Rattle.iox_domain_slots.specs.Borrowed.{cell_of}
use Rattle.iox_domain_slots.proofs.borrowed.near_behind.Given as goal

abbrev pub invariant-loop-step : goal.invariant-loop-step
invariant-loop-step l = (before : ℕ) → before < l.step → is_among (cell_of l.cells l.slot before) l.order.items ≡ true
    → get_or l.slots (cell_of l.cells l.slot before) 0 ≡ l.slot → ⊥
