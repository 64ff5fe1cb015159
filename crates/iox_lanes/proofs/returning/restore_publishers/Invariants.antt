use Rattle.std.proofs.Common.{ℕ, ◌≡◌, vec_capacity}
use Rattle.iox_lanes.specs.Joined.{IsJoined}
use Rattle.iox_lanes.specs.Returning.{AllRest}
use Rattle.iox_lanes.specs.Spelling.{reading_back, spelling_of}
use Rattle.iox_lanes.proofs.JoinedLanes.{LeftSoFar}
use Rattle.iox_lanes.proofs.returning.restore_publishers.Given as goal

abbrev pub invariant-loop-place : goal.invariant-loop-place
invariant-loop-place g l = (AllRest l.left.lanes.now → (places : ℕ)
    → IsJoined (spelling_of l.left.numbered g.T.Words.parts g.T.Words.WORDS g.U.Words.parts g.U.Words.WORDS) places l.left.lanes.now
    l.fn.publishers l.numbers l.left.readers l.left.indices.now
    → LeftSoFar (reading_back l.left.numbered g.T.Words.of_parts g.U.Words.of_parts) l.left.lanes.now l.numbers l.left.readers
    l.left.indices.now l.fn.publishers
    l.publishers l.place)
    × (vec_capacity l.one ≡ vec_capacity l.fn.one)
