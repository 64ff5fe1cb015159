-- Words of slots are stored only while the slot is a loan of the publisher that stores them, and no slot is a loan of two publishers.
use Rattle.std.specs.Prelude.{ℕ, ◌≡◌, ◌+◌, ◌<◌, ◌≤◌, true, length, slice_get, Some}
use Rattle.iox_lanes_machine.specs.LanesBase.Numbers.{IsWord}
use Rattle.iox_lanes_machine.specs.LanesBase.Table.{held_by}
use Rattle.iox_lanes_machine.specs.LanesBase.declared.words.word.SlotWord.{SlotWord}
use Rattle.iox_lanes_machine.specs.LanesBase.declared.words.word.SharedWord.TheVariants.{Slot}
use Rattle.iox_lanes_machine.specs.LanesBase.declared.calls.publisher.PublisherCall.{PublisherCall}
use Rattle.iox_lanes_machine.specs.LanesBase.declared.calls.publisher.PublisherCall.TheVariants as publishing
use Rattle.iox_lanes_machine.specs.LanesParties.PublisherKeeping.{BookState, loan_of}
use Rattle.iox_lanes_machine.specs.LanesParties.Parties.{PublisherLaneState, is_out}
use Rattle.iox_lanes_machine.specs.LanesParties.declared.call.Party.{Party}
use Rattle.iox_lanes_machine.specs.LanesParties.declared.call.Party.TheVariants.{Publisher, Subscriber}
use Rattle.iox_lanes_machine.specs.World.{World}

-- The slot is a loan of the publisher at this place.
pub record IsLoanAt (m : World) (place slot : ℕ) : Type 0 where
  pub lane : PublisherLaneState
  pub found : slice_get m.publishers place ≡ Some lane
  pub out : is_out (loan_of slot lane.port.book) ≡ true

-- The slot is a loan of the party, which must be a publisher.
abbrev pub IsLoanOf : World → Party → ℕ → Type 0
IsLoanOf m (Publisher place) slot = IsLoanAt m place slot
IsLoanOf m (Subscriber place) slot = ⊥

-- A step changes no word of a slot that isn't a loan of its party.
abbrev pub SlotsStay : World → Party → World → Type 0
SlotsStay m party n = (slot : ℕ) (word : SlotWord) → IsWord m.table.sizes (Slot slot word) → (IsLoanOf m party slot → ⊥)
    → held_by n.table (Slot slot word) ≡ held_by m.table (Slot slot word)

-- No slot is a loan of two publishers.
abbrev pub LoansApart : World → Type 0
LoansApart m = (one other slot : ℕ) → IsLoanAt m one slot → IsLoanAt m other slot → one ≡ other

-- A call that stores words of a slot, marks it as written, puts it into the history or drops it does so with a loan.
abbrev pub StandsAtLoan : BookState → PublisherCall → Type 0
StandsAtLoan book publishing.Idle = Unit {0}
StandsAtLoan book (publishing.LoanReclaims place route pop) = Unit {0}
StandsAtLoan book publishing.Lending = Unit {0}
StandsAtLoan book (publishing.Writing slot word value) = is_out (loan_of slot book) ≡ true
StandsAtLoan book (publishing.Written slot) = is_out (loan_of slot book) ≡ true
StandsAtLoan book (publishing.Heading slot word value) = is_out (loan_of slot book) ≡ true
StandsAtLoan book (publishing.Remembering slot) = is_out (loan_of slot book) ≡ true
StandsAtLoan book (publishing.SendReclaims slot place route pop) = Unit {0}
StandsAtLoan book (publishing.Pushing slot place route push delivery) = Unit {0}
StandsAtLoan book (publishing.Sent slot delivery) = Unit {0}
StandsAtLoan book (publishing.Dropping slot) = is_out (loan_of slot book) ≡ true

-- The slots of a publisher come before those of later publishers.
abbrev pub SlotsInRows : World → Type 0
SlotsInRows m = (one other : ℕ) (lane behind : PublisherLaneState) → slice_get m.publishers one ≡ Some lane
    → slice_get m.publishers other ≡ Some behind → one < other
    → lane.port.book.first + length lane.port.book.loans ≤ behind.port.book.first

-- Each publisher's call names only a loan of its own where it needs one, and the slots of a publisher come before those of later
-- publishers.
pub record LoansStand (m : World) : Type 0 where
  pub stages : (place : ℕ) (lane : PublisherLaneState) → slice_get m.publishers place ≡ Some lane
      → StandsAtLoan lane.port.book lane.port.call
  pub rows : SlotsInRows m
