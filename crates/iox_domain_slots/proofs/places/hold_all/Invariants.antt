use Rattle.std.proofs.Common.{◌≡◌, length}
use Rattle.iox_domain_slots.proofs.places.hold_all.Given as goal

abbrev pub invariant-loop : goal.invariant-loop
invariant-loop l = l.places ≡ record l.fn.places { free = l.places.free }

abbrev pub decreases-loop : goal.decreases-loop
decreases-loop l = length l.places.free
