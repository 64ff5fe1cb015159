use Rattle.std.proofs.Common.{ℕ, ◌≡◌, ◌<◌, false}
use Rattle.iox_lanes_machine.specs.LanesParties.Parties.{is_borrowed, place_of}
use Rattle.iox_lanes_machine.proofs.resting.has_sample.Given as goal

abbrev pub invariant-loop-slot : goal.invariant-loop-slot
invariant-loop-slot l = (slot : ℕ) → slot < l.slot → is_borrowed (place_of slot l.lane) ≡ false
