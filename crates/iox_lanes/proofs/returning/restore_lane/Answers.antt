use Rattle.iox_lanes.proofs.PortsLeft.{told}
use Rattle.iox_lanes.proofs.returning.restore_lane.Goals as goal

pub returns-clause-restored : goal.returns-clause-restored
returns-clause-restored g c = λ rested. rw c.port.ensures at (rw c.book-book.ensures at (rw c.first.ensures at (rw c.history.ensures at
    (told c.restore-rested.result (λ no. c.restore-rested.ensures.not no rested) c.restore-rested.ensures.restored))))
