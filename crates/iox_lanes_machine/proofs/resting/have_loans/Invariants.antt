use Rattle.std.proofs.Common.{ℕ, ◌≡◌, false, take}
use Rattle.std.specs.List.{All}
use Rattle.iox_lanes_machine.specs.LanesParties.PublisherKeeping.{loan_of}
use Rattle.iox_lanes_machine.specs.LanesParties.Parties.{PublisherLaneState, is_out}
use Rattle.iox_lanes_machine.proofs.resting.have_loans.Given as goal

abbrev pub invariant-loop-lane : goal.invariant-loop-lane
invariant-loop-lane l = All (λ (lane : PublisherLaneState). (slot : ℕ) → is_out (loan_of slot lane.port.book) ≡ false)
    (take l.lane-index l.lanes)
