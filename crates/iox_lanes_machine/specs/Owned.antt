-- What waits at a connection, and what is in a history, are slots of the publisher's own.
use Rattle.std.specs.Prelude.{ℕ, ◌≡◌, ◌+◌, ◌<◌, ◌≤◌, ◌^◌, length, slice_get, Some}
use Rattle.iox_lanes_machine.specs.LanesParties.Parties.{PublisherLaneState}
use Rattle.iox_lanes_machine.specs.Links.{LinkState}
use Rattle.iox_lanes_machine.specs.Resting.{Rests, mail_at}
use Rattle.iox_lanes_machine.specs.World.{World}

-- There is a publisher at this place, and the slot is one of its own.
pub record IsSlotOf (m : World) (place slot : ℕ) : Type 0 where
  pub lane : PublisherLaneState
  pub found : slice_get m.publishers place ≡ Some lane
  pub above : lane.port.book.first ≤ slot
  pub below : slot < lane.port.book.first + length lane.port.book.loans

-- What waits at a connection by its order are slots of its publisher, as long as at most 2^63 steps were made.
abbrev pub MailIsOwn : World → ℕ → Type 0
MailIsOwn m connection = m.moments ≤ 2 ^ 63 → (link : LinkState) → slice_get m.links connection ≡ Some link
    → (at slot : ℕ) → slice_get (mail_at m connection) at ≡ Some slot → IsSlotOf m link.publisher slot

-- The history of the publisher at this place has only slots of its own, and at most as many as its history size.
pub record RemembersOwn (m : World) (place : ℕ) (lane : PublisherLaneState) : Type 0 where
  pub own : (at slot : ℕ) → slice_get lane.port.book.history at ≡ Some slot → IsSlotOf m place slot
  pub few : length lane.port.book.history ≤ lane.port.book.kept

-- As long as at most 2^63 steps were made: the history of each publisher has only slots of its own, and at most as many as its history
-- size.
abbrev pub HistoriesAreOwn : World → Type 0
HistoriesAreOwn m = m.moments ≤ 2 ^ 63 → (place : ℕ) (lane : PublisherLaneState) → slice_get m.publishers place ≡ Some lane
    → RemembersOwn m place lane

-- The number of messages that wait at a connection at rest is at most the connection's maximum.
abbrev pub MailHasRoom : World → ℕ → Type 0
MailHasRoom m connection = Rests m connection → (link : LinkState) → slice_get m.links connection ≡ Some link
    → length (mail_at m connection) ≤ link.limit
