-- The completion ring of a connection, and what every step keeps of it.
use Rattle.std.specs.Prelude.{ℕ, ◌≡◌, ◌+◌, ◌<◌, ◌≤◌, ◌^◌, ◌==◌, if◌then◌else◌, List, take, drop, slice_get, Some}
use Rattle.std.specs.List.{All}
use Rattle.iox_lanes_machine.specs.QueuesSteps.Access.{RingWords}
use Rattle.iox_lanes_machine.specs.QueuesSteps.declared.access.Word.{Word}
use Rattle.iox_lanes_machine.specs.QueuesSteps.declared.access.Word.TheVariants.{Write, Read, Cell}
use Rattle.iox_lanes_machine.specs.QueuesSteps.Refusing.{Shape}
use Rattle.iox_lanes_machine.specs.QueuesSteps.declared.rings.refusing.push.Push.{Push}
use Rattle.iox_lanes_machine.specs.QueuesSteps.declared.rings.refusing.push.Push.TheVariants as push
use Rattle.iox_lanes_machine.specs.QueuesSteps.declared.rings.refusing.pop.Pop.{Pop}
use Rattle.iox_lanes_machine.specs.QueuesSteps.declared.rings.refusing.pop.Pop.TheVariants as pop
use Rattle.iox_lanes_machine.specs.LanesBase.Numbers.{number_of}
use Rattle.iox_lanes_machine.specs.LanesBase.Table.{TableWords, held_by}
use Rattle.iox_lanes_machine.specs.LanesBase.declared.words.word.ConnectionRing.TheVariants.{Completion}
use Rattle.iox_lanes_machine.specs.LanesBase.declared.words.word.SharedWord.{SharedWord}
use Rattle.iox_lanes_machine.specs.LanesBase.declared.words.word.SharedWord.TheVariants.{Ring}
use Rattle.iox_lanes_machine.specs.LanesBase.declared.calls.publisher.PublisherCall.{PublisherCall}
use Rattle.iox_lanes_machine.specs.LanesBase.declared.calls.publisher.PublisherCall.TheVariants as publishing
use Rattle.iox_lanes_machine.specs.LanesBase.declared.calls.route.Route.{Route}
use Rattle.iox_lanes_machine.specs.LanesBase.declared.calls.subscriber.SubscriberCall.{SubscriberCall}
use Rattle.iox_lanes_machine.specs.LanesBase.declared.calls.subscriber.SubscriberCall.TheVariants as subscribing
use Rattle.iox_lanes_machine.specs.LanesParties.Parties.{PublisherLaneState, SubscriberLaneState}
use Rattle.iox_lanes_machine.specs.World.{World, publisher_stage, subscriber_stage}
use Rattle.iox_lanes_machine.specs.Links.{LinkState}
use Rattle.iox_lanes_machine.specs.declared.link.Positions.{Positions}

-- A word of the completion ring of a connection.
abbrev pub back_word : ℕ → Word → SharedWord
back_word connection word = Ring connection Completion word

-- The first `cells` cells of the completion ring of a connection.
abbrev pub back_cells : TableWords → ℕ → ℕ → List ℕ
back_cells table connection cells = take cells (drop (number_of table.sizes (back_word connection (Cell 0))) table.words)

-- The completion ring of a connection, with this many cells.
abbrev pub back_ring : TableWords → ℕ → ℕ → RingWords
back_ring table connection cells = record {
  cells = back_cells table connection cells;
  write = held_by table (back_word connection Write);
  read = held_by table (back_word connection Read);
}

-- The pop by which a publisher takes samples back at this connection; an idle one if it makes none there.
abbrev pub reclaim_on : ℕ → PublisherCall → Pop
reclaim_on connection publishing.Idle = pop.Idle
reclaim_on connection (publishing.LoanReclaims place route p) = if route.connection == connection then p else pop.Idle
reclaim_on connection publishing.Lending = pop.Idle
reclaim_on connection (publishing.Writing slot word value) = pop.Idle
reclaim_on connection (publishing.Written slot) = pop.Idle
reclaim_on connection (publishing.Heading slot word value) = pop.Idle
reclaim_on connection (publishing.Remembering slot) = pop.Idle
reclaim_on connection (publishing.SendReclaims slot place route p) = if route.connection == connection then p else pop.Idle
reclaim_on connection (publishing.Pushing slot place route push delivery) = pop.Idle
reclaim_on connection (publishing.Sent slot delivery) = pop.Idle
reclaim_on connection (publishing.Dropping slot) = pop.Idle

-- The push by which a subscriber returns a sample at this connection; an idle one if it makes none there.
abbrev pub release_on : ℕ → SubscriberCall → Push
release_on connection subscribing.Idle = push.Idle
release_on connection (subscribing.Receiving place route pop waits) = push.Idle
release_on connection (subscribing.Received given) = push.Idle
release_on connection (subscribing.Reading slot word extent) = push.Idle
release_on connection (subscribing.WasRead slot) = push.Idle
release_on connection (subscribing.Releasing place route p) = if route.connection == connection then p else push.Idle
release_on connection (subscribing.Released done) = push.Idle

-- The completion ring contains a list of samples, which its two ends know, and its write position is less than the number of steps plus
-- 2^63.
pub record IsReturning (cells : ℕ) (table : TableWords) (moments connection : ℕ) (sends : PublisherCall) (receives : SubscriberCall) :
    Type 0 where
  pub list : List ℕ
  pub shape : Shape cells (back_ring table connection cells) list (release_on connection receives) (reclaim_on connection sends)
  pub few : (back_ring table connection cells).write < moments + 2 ^ 63

-- The completion ring of each connection contains a list of samples, which its two ends know (`IsReturning`).
abbrev pub AreReturning : World → Type 0
AreReturning m = (connection : ℕ) (link : LinkState) → slice_get m.links connection ≡ Some link
    → IsReturning m.table.sizes.completion_cells m.table m.moments connection (publisher_stage (slice_get m.publishers link.publisher))
    (subscriber_stage (slice_get m.subscribers link.subscriber))

-- The connections of a port have completion rings with this many cells.
abbrev pub GoesRound : ℕ → List Route → Type 0
GoesRound cells routes = All (λ route. route.completion_cells ≡ cells) routes

-- What every step keeps of the completion rings.
pub record ReturnsKept (m : World) : Type 0 where
  pub some : 0 < m.table.sizes.completion_cells
  pub publishers : (place : ℕ) (lane : PublisherLaneState) → slice_get m.publishers place ≡ Some lane
      → GoesRound m.table.sizes.completion_cells lane.port.routes
  pub subscribers : (place : ℕ) (lane : SubscriberLaneState) → slice_get m.subscribers place ≡ Some lane
      → GoesRound m.table.sizes.completion_cells lane.port.routes
  pub rings : m.moments ≤ 2 ^ 63 → AreReturning m

-- At most as many samples as the completion ring has cells are between its two positions.
pub record BackNear (cells : ℕ) (positions : Positions) : Type 0 where
  pub behind : positions.completion_read ≤ positions.completion_write
  pub near : positions.completion_write ≤ positions.completion_read + cells

-- The positions of the completion ring are near (`BackNear`), as long as at most 2^63 steps were made.
abbrev pub ReturnsNear : World → Positions → Type 0
ReturnsNear m positions = m.moments ≤ 2 ^ 63 → BackNear m.table.sizes.completion_cells positions
