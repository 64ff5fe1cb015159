-- A loan is used for nothing else, so the words of a slot don't change from the end of its send until nothing has the slot any longer.
use Rattle.std.specs.Prelude.{ℕ, ◌≡◌, ◌<◌, ◌≤◌, ◌^◌, ◌⊎◌, false, slice_get, Some, List}
use Rattle.iox_lanes_machine.specs.QueuesSteps.declared.order.Placed.{Placed}
use Rattle.iox_lanes_machine.specs.LanesBase.Numbers.{IsWord}
use Rattle.iox_lanes_machine.specs.LanesBase.Table.{held_by}
use Rattle.iox_lanes_machine.specs.LanesBase.declared.words.word.SlotWord.{SlotWord}
use Rattle.iox_lanes_machine.specs.LanesBase.declared.words.word.SharedWord.TheVariants.{Slot}
use Rattle.iox_lanes_machine.specs.LanesParties.Parties.{PublisherLaneState}
use Rattle.iox_lanes_machine.specs.Borrowing.{borrows}
use Rattle.iox_lanes_machine.specs.LedgerUses.{count}
use Rattle.iox_lanes_machine.specs.Rings.{waiting}
use Rattle.iox_lanes_machine.specs.Slots.{IsLoanAt}
use Rattle.iox_lanes_machine.specs.Uses.{aside_at, given_back, stands_at}
use Rattle.iox_lanes_machine.specs.World.{World, publisher_stage}
use Rattle.iox_lanes_machine.specs.Links.{LinkState}

-- The slot is in no publisher's history.
abbrev pub InNoHistory : World → ℕ → Type 0
InNoHistory m slot = (place : ℕ) (lane : PublisherLaneState) → slice_get m.publishers place ≡ Some lane
    → count slot lane.port.book.history ≡ 0

-- The slot isn't at the connection: it doesn't wait there, doesn't lie aside for a push, isn't borrowed from it, and isn't in its
-- completion ring.
pub record IsNotAt (m : World) (connection : ℕ) (link : LinkState) (order : List Placed) (slot : ℕ) : Type 0 where
  pub waits : count slot (waiting link order) ≡ 0
  pub aside : count slot (aside_at m.table connection link (publisher_stage (slice_get m.publishers link.publisher))) ≡ 0
  pub borrowed : borrows connection slot (slice_get m.subscribers link.subscriber) ≡ false
  pub given_back : count slot (given_back m.table connection) ≡ 0

-- The slot is at no connection.
abbrev pub AtNoConnection : World → ℕ → Type 0
AtNoConnection m slot = (connection : ℕ) (link : LinkState) (order : List Placed) → slice_get m.links connection ≡ Some link
    → slice_get m.orders connection ≡ Some order → IsNotAt m connection link order slot

-- Each loan is in no history and at no connection.
abbrev pub LoansAlone : World → Type 0
LoansAlone m = (place slot : ℕ) → IsLoanAt m place slot → InNoHistory m slot × AtNoConnection m slot

-- Each loan is in no history and at no connection, as long as at most 2^63 steps were made.
abbrev pub LoansStandAlone : World → Type 0
LoansStandAlone m = m.moments ≤ 2 ^ 63 → LoansAlone m

-- The slot is in some publisher's history.
pub record IsRemembered (m : World) (slot : ℕ) : Type 0 where
  pub place : ℕ
  pub lane : PublisherLaneState
  pub found : slice_get m.publishers place ≡ Some lane
  pub has : 0 < count slot lane.port.book.history

-- The slot is at some connection: it waits there, lies aside, is borrowed from it, or is in its completion ring.
pub record IsAtConnection (m : World) (slot : ℕ) : Type 0 where
  pub connection : ℕ
  pub link : LinkState
  pub order : List Placed
  pub found : slice_get m.links connection ≡ Some link
  pub got : slice_get m.orders connection ≡ Some order
  pub has : 0 < stands_at m.table connection link order (publisher_stage (slice_get m.publishers link.publisher))
      (slice_get m.subscribers link.subscriber) slot

-- A step changes no word of a slot that is in a history or at a connection, as long as at most 2^63 steps were made.
abbrev pub UsedSlotsStay : World → World → Type 0
UsedSlotsStay m n = m.moments ≤ 2 ^ 63 → (slot : ℕ) (word : SlotWord) → IsWord m.table.sizes (Slot slot word) → IsRemembered m slot
    ⊎ IsAtConnection m slot → held_by n.table (Slot slot word) ≡ held_by m.table (Slot slot word)
