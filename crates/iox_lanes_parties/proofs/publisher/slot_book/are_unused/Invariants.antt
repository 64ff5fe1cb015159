use Rattle.std.proofs.Common.{◌≡◌, length}
use Rattle.iox_lanes_parties.specs.PublisherKeeping.{are_unused}
use Rattle.iox_lanes_parties.proofs.publisher.slot_book.are_unused.Given as goal

abbrev pub invariant-loop-count : goal.invariant-loop-count
invariant-loop-count l = are_unused l.fn.uses ≡ are_unused l.rest

abbrev pub decreases-loop-count : goal.decreases-loop-count
decreases-loop-count l = length l.rest
