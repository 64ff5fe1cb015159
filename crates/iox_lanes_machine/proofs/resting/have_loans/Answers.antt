use Rattle.std.proofs.Common.{ℕ, ◌≡◌, ◌+◌, ◌≤◌, false, length, sym, subst}
use Rattle.std.proofs.lemmas.List.{take_all}
use Rattle.std.proofs.lemmas.List.Elements.{All-get_or, All-more, All-same}
use Rattle.iox_lanes_machine.specs.LanesParties.PublisherKeeping.{loan_of}
use Rattle.iox_lanes_machine.specs.LanesParties.Parties.{PublisherLaneState, is_out}
use Rattle.iox_lanes_machine.proofs.FreeSlots.{free_beyond}
use Rattle.iox_lanes_machine.proofs.resting.have_loans.Goals as goal

abbrev IsFree : PublisherLaneState → Type 0
IsFree lane = (slot : ℕ) → is_out (loan_of slot lane.port.book) ≡ false

pub loop-lane-preserved : goal.loop-lane-preserved
loop-lane-preserved c =
    let lane : PublisherLaneState = c.lane-item.result in
    let few : lane.port.book.first + length lane.port.book.loans ≤ c.args.slots =
    subst (λ (x : PublisherLaneState). x.port.book.first + length x.port.book.loans ≤ c.args.slots) (sym c.lane-item.is)
    (All-get_or (λ (x : PublisherLaneState). x.port.book.first + length x.port.book.loans ≤ c.args.slots) c.args.lanes.now
    c.loop-lane.lane-index lane c.loop-lane-test.true c.requires.slots) in
    All-more IsFree c.args.lanes.now c.loop-lane.lane-index lane c.loop-lane-test.true c.loop-lane.invariant
    (subst IsFree c.lane-item.is (free_beyond c.args.slots lane few (c.has_loan.ensures.none c.if-has_loan.false)))

pub returns-clause-none : goal.returns-clause-none
returns-clause-none c = λ e. All-same IsFree c.args.lanes.now _
    (sym (take_all c.loop-lane.lane-index c.args.lanes.now c.loop-lane-test.false)) c.loop-lane.invariant
