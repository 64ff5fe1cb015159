-- What each connection's order and positions say of its mailbox, as long as at most 2^63 steps were made.
use Rattle.std.specs.Prelude.{ℕ, ◌≡◌, ◌+◌, ◌≤◌, ◌^◌, List, if◌then◌else◌, slice_get, Some}
use Rattle.iox_lanes_machine.specs.QueuesSteps.declared.access.Word.TheVariants.{Write, Read}
use Rattle.iox_lanes_machine.specs.QueuesSteps.declared.order.Placed.{Placed}
use Rattle.iox_lanes_machine.specs.QueuesSteps.Ends.{overflows}
use Rattle.iox_lanes_machine.specs.LanesBase.Table.{TableWords, held_by}
use Rattle.iox_lanes_machine.specs.LanesBase.declared.words.word.ConnectionRing.TheVariants.{Submission, Completion}
use Rattle.iox_lanes_machine.specs.LanesBase.declared.words.word.SharedWord.TheVariants.{Ring}
use Rattle.iox_lanes_machine.specs.Kept.{FollowsMailbox}
use Rattle.iox_lanes_machine.specs.World.{World}
use Rattle.iox_lanes_machine.specs.declared.link.Positions.{Positions}
use Rattle.iox_lanes_machine.specs.Links.{LinkState}

-- The order answers as the connection's mailbox does, as long as at most 2^63 steps were made.
abbrev pub OrderFollows : World → ℕ → List Placed → Type 0
OrderFollows m connection order = m.moments ≤ 2 ^ 63 → (link : LinkState) → slice_get m.links connection ≡ Some link
    → FollowsMailbox link order m.moments

-- The order of each connection answers as its mailbox does, as long as at most 2^63 steps were made.
abbrev pub OrdersFollow : World → Type 0
OrdersFollow m = (connection : ℕ) (order : List Placed) → slice_get m.orders connection ≡ Some order → OrderFollows m connection order

-- The four positions of a connection, which are words of the table.
abbrev pub positions_of : TableWords → ℕ → Positions
positions_of table connection = record {
  submission_write = held_by table (Ring connection Submission Write);
  submission_read = held_by table (Ring connection Submission Read);
  completion_write = held_by table (Ring connection Completion Write);
  completion_read = held_by table (Ring connection Completion Read);
}

-- At most as many messages as may wait are between the two positions of the submission ring, or one more on an overflowing ring.
pub record AreNear (link : LinkState) (positions : Positions) : Type 0 where
  pub behind : positions.submission_read ≤ positions.submission_write
  pub near : positions.submission_write ≤ positions.submission_read + link.limit + (if overflows link.kind then 1 else 0)

-- The positions of this connection are near (`AreNear`), as long as at most 2^63 steps were made.
abbrev pub PositionsNear : World → ℕ → Positions → Type 0
PositionsNear m connection positions = m.moments ≤ 2 ^ 63 → (link : LinkState) → slice_get m.links connection ≡ Some link
    → AreNear link positions
