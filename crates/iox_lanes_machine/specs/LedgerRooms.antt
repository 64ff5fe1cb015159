-- The number of slots that a connection has, the number of them that its subscriber borrows, and the number of loans.
use Rattle.std.specs.Prelude.{ℕ, ◌≡◌, ◌+◌, ◌<◌, ◌≤◌, ◌^◌, ◌⊎◌, Bool, true, false, length, get_or, slice_get, Some}
use Rattle.iox_lanes_parties.specs.QueuesSteps.declared.rings.overflowing.push.Push as overflowing_type
use Rattle.iox_lanes_parties.specs.QueuesSteps.declared.rings.overflowing.push.Push.TheVariants as overflowing
use Rattle.iox_lanes_parties.specs.QueuesSteps.declared.rings.overflowing.pop.Pop.TheVariants as overflowing_pop
use Rattle.iox_lanes_parties.specs.QueuesSteps.declared.rings.refusing.push.Push as refusing_type
use Rattle.iox_lanes_parties.specs.QueuesSteps.declared.rings.refusing.push.Push.TheVariants as refusing
use Rattle.iox_lanes_parties.specs.QueuesSteps.declared.rings.refusing.pop.Pop.{Pop}
use Rattle.iox_lanes_parties.specs.QueuesSteps.declared.rings.refusing.pop.Pop.TheVariants as pop
use Rattle.iox_lanes_parties.specs.QueuesSteps.declared.rings.ends.Pop as ring_pop
use Rattle.iox_lanes_parties.specs.QueuesSteps.declared.rings.ends.Pop.TheVariants as rings
use Rattle.iox_lanes_parties.specs.QueuesSteps.declared.rings.ends.Push.{Push}
use Rattle.iox_lanes_parties.specs.QueuesSteps.declared.rings.ends.Push.TheVariants as ring
use Rattle.iox_lanes_parties.specs.LanesBase.declared.calls.publisher.PublisherCall.{PublisherCall}
use Rattle.iox_lanes_parties.specs.LanesBase.declared.calls.publisher.PublisherCall.TheVariants as publishing
use Rattle.iox_lanes_parties.specs.LanesBase.declared.calls.route.Route.{Route}
use Rattle.iox_lanes_parties.specs.LanesBase.declared.calls.subscriber.SubscriberCall.{SubscriberCall}
use Rattle.iox_lanes_parties.specs.LanesBase.declared.calls.subscriber.SubscriberCall.TheVariants as subscribing
use Rattle.iox_lanes_parties.specs.PublisherKeeping.{BookState}
use Rattle.iox_lanes_parties.specs.declared.publisher.slot_book.LoanMark.TheVariants as mark
use Rattle.iox_lanes_parties.specs.Parties.{SubscriberLaneState, is_out}
use Rattle.iox_lanes_machine.specs.Borrowing.{borrows}
use Rattle.iox_lanes_machine.specs.LedgerUses.{total, refers_to}

-- The number of slots that the connection at this place has, by the publisher's own record.
abbrev pub slots_at : BookState → ℕ → ℕ
slots_at book place = total (λ index. refers_to book place (book.first + index)) (length book.uses)

-- The number of slots of a publisher that are loans.
abbrev pub loans_out : BookState → ℕ
loans_out book = total (λ index. is_out (get_or book.loans index mark.No)) (length book.loans)

-- The number of samples that a subscriber borrows from the connection.
abbrev pub borrowed_of : ℕ → SubscriberLaneState → ℕ
borrowed_of connection lane = total (λ slot. borrows connection slot (Some lane)) (length lane.port.samples)

-- A push on an overflowing ring is in progress, and hasn't stored its write position yet.
abbrev pub OverflowingWaits : overflowing_type.Push → Type 0
OverflowingWaits overflowing.Idle = ⊥
OverflowingWaits (overflowing.Begun limit value) = Unit {0}
OverflowingWaits (overflowing.SawWrite limit value write next) = Unit {0}
OverflowingWaits (overflowing.SawRead limit value write next seen) = Unit {0}
OverflowingWaits (overflowing.Filled limit value write next seen) = Unit {0}
OverflowingWaits (overflowing.Full value seen next) = ⊥
OverflowingWaits (overflowing.SawOldest value seen next oldest) = ⊥
OverflowingWaits (overflowing.Pushed value answer) = ⊥

-- A push on a refusing ring is in progress, and hasn't stored its write position yet.
abbrev pub RefusingWaits : refusing_type.Push → Type 0
RefusingWaits refusing.Idle = ⊥
RefusingWaits (refusing.Begun limit value) = Unit {0}
RefusingWaits (refusing.SawWrite limit value write next) = Unit {0}
RefusingWaits (refusing.SawRoom value write next) = Unit {0}
RefusingWaits (refusing.Filled value next) = Unit {0}
RefusingWaits (refusing.Pushed value answer) = ⊥

-- A push on a ring of either kind is in progress, and hasn't stored its write position yet.
abbrev pub PushWaits : Push → Type 0
PushWaits (ring.Overflowing push) = OverflowingWaits push
PushWaits (ring.Refusing push) = RefusingWaits push

-- The call has taken back all samples of the connection at this place, and has put nothing there since.
abbrev pub HasSwept : PublisherCall → ℕ → Type 0
HasSwept publishing.Idle place = ⊥
HasSwept (publishing.LoanReclaims at route pop) place = place < at
HasSwept publishing.Lending place = Unit {0}
HasSwept (publishing.Writing slot word value) place = ⊥
HasSwept (publishing.Written slot) place = ⊥
HasSwept (publishing.Heading slot word value) place = ⊥
HasSwept (publishing.Remembering slot) place = ⊥
HasSwept (publishing.SendReclaims slot at route pop) place = place < at
HasSwept (publishing.Pushing slot at route push delivery) place = (at < place) ⊎ ((at ≡ place) × PushWaits push)
HasSwept (publishing.Sent slot delivery) place = ⊥
HasSwept (publishing.Dropping slot) place = ⊥

-- A pop that takes a sample back is in progress; if it found a sample, the connection has at least one slot.
abbrev pub TakesSome : ℕ → Pop → Type 0
TakesSome slots pop.Idle = ⊥
TakesSome slots pop.Begun = Unit {0}
TakesSome slots (pop.SawRead seen) = Unit {0}
TakesSome slots (pop.Nonempty seen next) = 0 < slots
TakesSome slots (pop.SawCell next value) = 0 < slots
TakesSome slots (pop.Popped got) = ⊥
TakesSome slots pop.LookBegun = ⊥
TakesSome slots (pop.LookRead seen) = ⊥
TakesSome slots (pop.Looked some) = ⊥

-- A push on an overflowing ring is in progress.
abbrev pub OverflowingGoes : overflowing_type.Push → Type 0
OverflowingGoes overflowing.Idle = ⊥
OverflowingGoes (overflowing.Begun limit value) = Unit {0}
OverflowingGoes (overflowing.SawWrite limit value write next) = Unit {0}
OverflowingGoes (overflowing.SawRead limit value write next seen) = Unit {0}
OverflowingGoes (overflowing.Filled limit value write next seen) = Unit {0}
OverflowingGoes (overflowing.Full value seen next) = Unit {0}
OverflowingGoes (overflowing.SawOldest value seen next oldest) = Unit {0}
OverflowingGoes (overflowing.Pushed value answer) = ⊥

-- A push on a ring of either kind is in progress.
abbrev pub PushGoes : Push → Type 0
PushGoes (ring.Overflowing push) = OverflowingGoes push
PushGoes (ring.Refusing push) = RefusingWaits push

-- If the call takes a sample back or pushes, its pop or push is in progress.
abbrev pub CallGoes : BookState → PublisherCall → Type 0
CallGoes book publishing.Idle = Unit {0}
CallGoes book (publishing.LoanReclaims at route pop) = TakesSome (slots_at book at) pop
CallGoes book publishing.Lending = Unit {0}
CallGoes book (publishing.Writing slot word value) = Unit {0}
CallGoes book (publishing.Written slot) = Unit {0}
CallGoes book (publishing.Heading slot word value) = Unit {0}
CallGoes book (publishing.Remembering slot) = Unit {0}
CallGoes book (publishing.SendReclaims slot at route pop) = TakesSome (slots_at book at) pop
CallGoes book (publishing.Pushing slot at route push delivery) = PushGoes push
CallGoes book (publishing.Sent slot delivery) = Unit {0}
CallGoes book (publishing.Dropping slot) = Unit {0}

-- The loans of a publisher are counted, if it has fewer than 2^64 slots. There are no more than its loan limit, and the history isn't
-- longer than the history size.
pub record CountsLoans (book : BookState) : Type 0 where
  pub out : length book.loans < 2 ^ 64 → book.out ≡ loans_out book
  pub few : book.out ≤ book.most_loans
  pub kept : length book.history ≤ book.kept

-- What a publisher's record says at this stage of its call: each of the `connections` connections has at most as many slots as its
-- completion ring has cells, and at least one fewer if the call has taken back all its samples.
pub record HasRooms (cells connections : ℕ) (book : BookState) (call : PublisherCall) : Type 0 where
  pub most : (place : ℕ) → place < connections → slots_at book place ≤ cells
  pub swept : (place : ℕ) → place < connections → HasSwept call place → slots_at book place < cells
  pub takes : CallGoes book call
  pub counts : CountsLoans book

-- Whether a pop may still take a slot: it isn't a look, and isn't over.
abbrev pub may_take : ring_pop.Pop → Bool
may_take (rings.Overflowing overflowing_pop.Idle) = false
may_take (rings.Overflowing overflowing_pop.Begun) = true
may_take (rings.Overflowing (overflowing_pop.SawRead seen)) = true
may_take (rings.Overflowing (overflowing_pop.Nonempty seen next)) = true
may_take (rings.Overflowing (overflowing_pop.SawCell seen next value)) = true
may_take (rings.Overflowing (overflowing_pop.Popped got)) = false
may_take (rings.Overflowing overflowing_pop.LookBegun) = false
may_take (rings.Overflowing (overflowing_pop.LookRead seen)) = false
may_take (rings.Overflowing (overflowing_pop.Looked some)) = false
may_take (rings.Refusing pop.Idle) = false
may_take (rings.Refusing pop.Begun) = true
may_take (rings.Refusing (pop.SawRead seen)) = true
may_take (rings.Refusing (pop.Nonempty seen next)) = true
may_take (rings.Refusing (pop.SawCell next value)) = true
may_take (rings.Refusing (pop.Popped got)) = false
may_take (rings.Refusing pop.LookBegun) = false
may_take (rings.Refusing (pop.LookRead seen)) = false
may_take (rings.Refusing (pop.Looked some)) = false

-- A receive whose pop may still take a slot borrows fewer samples from the connection than its maximum.
abbrev pub MayBorrow : SubscriberLaneState → SubscriberCall → Type 0
MayBorrow lane subscribing.Idle = Unit {0}
MayBorrow lane (subscribing.Receiving place route p waits) = may_take p ≡ true → borrowed_of route.connection lane < lane.port.most_borrowed
MayBorrow lane (subscribing.Received given) = Unit {0}
MayBorrow lane (subscribing.Reading slot word extent) = Unit {0}
MayBorrow lane (subscribing.WasRead slot) = Unit {0}
MayBorrow lane (subscribing.Releasing place route push) = Unit {0}
MayBorrow lane (subscribing.Released done) = Unit {0}

-- A release that is over has returned its sample.
abbrev pub ReleasesOk : SubscriberCall → Type 0
ReleasesOk subscribing.Idle = Unit {0}
ReleasesOk (subscribing.Receiving place route pop waits) = Unit {0}
ReleasesOk (subscribing.Received given) = Unit {0}
ReleasesOk (subscribing.Reading slot word extent) = Unit {0}
ReleasesOk (subscribing.WasRead slot) = Unit {0}
ReleasesOk (subscribing.Releasing place route push) = Unit {0}
ReleasesOk (subscribing.Released done) = done ≡ true

-- A subscriber counts the samples that it borrows from each of its connections, and borrows no more than its maximum from each.
pub record CountsBorrowed (lane : SubscriberLaneState) : Type 0 where
  pub numbers : (place : ℕ) (route : Route) → slice_get lane.port.routes place ≡ Some route
      → (slice_get lane.port.borrowed place ≡ Some (borrowed_of route.connection lane))
      × (borrowed_of route.connection lane ≤ lane.port.most_borrowed)
  pub may : MayBorrow lane lane.port.call
  pub ok : ReleasesOk lane.port.call
