-- The number of slots at each connection: at most as many as its completion ring has cells, and fewer after a call took all samples back;
-- so no release is refused.
use Rattle.std.specs.Prelude.{ℕ, ◌≡◌, ◌+◌, ◌<◌, ◌≤◌, ◌^◌, true, List, length, slice_get, Option, Some, None}
use Rattle.std.specs.List.{All}
use Rattle.iox_lanes_machine.specs.LanesBase.declared.calls.route.Route.{Route}
use Rattle.iox_lanes_machine.specs.LanesParties.Parties.{PublisherLaneState, SubscriberLaneState}
use Rattle.iox_lanes_machine.specs.LanesParties.declared.call.Answer.{Answer}
use Rattle.iox_lanes_machine.specs.LanesParties.declared.call.Answer.TheVariants as answer
use Rattle.iox_lanes_machine.specs.LedgerRooms.{HasRooms, CountsBorrowed}
use Rattle.iox_lanes_machine.specs.Sends.{IsAmong}
use Rattle.iox_lanes_machine.specs.World.{World}
use Rattle.iox_lanes_machine.specs.Links.{LinkState}

-- The maximum number of samples that a subscriber borrows from each connection; 0 if there is no subscriber.
abbrev pub may_borrow : Option SubscriberLaneState → ℕ
may_borrow None = 0
may_borrow (Some lane) = lane.port.most_borrowed

-- The list has each connection of the subscriber, and each only once.
pub record HasReceived (links : List LinkState) (who : ℕ) (routes : List Route) : Type 0 where
  pub each : (connection : ℕ) (link : LinkState) → slice_get links connection ≡ Some link → link.subscriber ≡ who
      → IsAmong routes connection
  pub once : (i j : ℕ) (one other : Route) → slice_get routes i ≡ Some one → slice_get routes j ≡ Some other
      → one.connection ≡ other.connection → i ≡ j

-- If the answer is a release's, the sample went back.
abbrev pub GaveBack : Answer → Type 0
GaveBack (answer.Lent loan) = Unit {0}
GaveBack answer.Written = Unit {0}
GaveBack (answer.Sent given) = Unit {0}
GaveBack answer.Dropped = Unit {0}
GaveBack (answer.Received given) = Unit {0}
GaveBack (answer.Read from) = Unit {0}
GaveBack (answer.Released done) = done ≡ true

-- Each release that ended returned its sample.
abbrev pub ReleasesGaveBack : World → Type 0
ReleasesGaveBack m = All (λ call. GaveBack call.answer) m.finished

-- Each release that ended returned its sample, as long as at most 2^63 steps were made.
abbrev pub ReleasesFollow : World → Type 0
ReleasesFollow m = m.moments ≤ 2 ^ 63 → ReleasesGaveBack m

-- What every step keeps of the counts at connections: the counts of publishers' records and of subscribers stay within the numbers of
-- cells, which are larger than what may wait and be borrowed together.
pub record RoomsKept (m : World) : Type 0 where
  pub publishers : (place : ℕ) (lane : PublisherLaneState) → slice_get m.publishers place ≡ Some lane
      → HasRooms m.table.sizes.completion_cells (length lane.port.routes) lane.port.book lane.port.call
  pub subscribers : (place : ℕ) (lane : SubscriberLaneState) → slice_get m.subscribers place ≡ Some lane → CountsBorrowed lane
  pub receivers : (place : ℕ) (lane : SubscriberLaneState) → slice_get m.subscribers place ≡ Some lane
      → HasReceived m.links place lane.port.routes
  pub cells : (connection : ℕ) (link : LinkState) → slice_get m.links connection ≡ Some link
      → link.limit + may_borrow (slice_get m.subscribers link.subscriber) < m.table.sizes.completion_cells
  pub releases : ReleasesGaveBack m

-- The counts at connections stay within the numbers of cells (`RoomsKept`), as long as at most 2^63 steps were made.
abbrev pub RoomsFollow : World → Type 0
RoomsFollow m = m.moments ≤ 2 ^ 63 → RoomsKept m
