use Rattle.std.proofs.Common.{ℕ, ◌≡◌, false, take}
use Rattle.std.specs.List.{All}
use Rattle.iox_lanes_machine.specs.LanesParties.Parties.{SubscriberLaneState, is_borrowed, place_of}
use Rattle.iox_lanes_machine.proofs.resting.have_samples.Given as goal

abbrev pub invariant-loop-lane : goal.invariant-loop-lane
invariant-loop-lane l = All (λ (lane : SubscriberLaneState). (slot : ℕ) → is_borrowed (place_of slot lane) ≡ false)
    (take l.lane-index l.lanes)
