-- What a send in progress knows of its slot: the connections that it hasn't come to don't have the slot.
use Rattle.std.specs.Prelude.{ℕ, ◌≡◌, ◌+◌, ◌<◌, ◌≤◌, false}
use Rattle.iox_lanes_parties.specs.QueuesSteps.declared.rings.overflowing.push.Push as overflowing_type
use Rattle.iox_lanes_parties.specs.QueuesSteps.declared.rings.overflowing.push.Push.TheVariants as overflowing
use Rattle.iox_lanes_parties.specs.QueuesSteps.declared.rings.refusing.push.Push as refusing_type
use Rattle.iox_lanes_parties.specs.QueuesSteps.declared.rings.refusing.push.Push.TheVariants as refusing
use Rattle.iox_lanes_parties.specs.QueuesSteps.declared.rings.ends.Push.{Push}
use Rattle.iox_lanes_parties.specs.QueuesSteps.declared.rings.ends.Push.TheVariants as ring
use Rattle.iox_lanes_parties.specs.LanesBase.declared.calls.publisher.PublisherCall.{PublisherCall}
use Rattle.iox_lanes_parties.specs.LanesBase.declared.calls.publisher.PublisherCall.TheVariants as publishing
use Rattle.iox_lanes_parties.specs.PublisherKeeping.{BookState, loan_of}
use Rattle.iox_lanes_parties.specs.Parties.{is_out}
use Rattle.iox_lanes_machine.specs.LedgerUses.{refers_to, IsOwn}

-- The slot that a send puts is the publisher's, and isn't a loan any longer.
pub record IsSending (book : BookState) (slot : ℕ) : Type 0 where
  pub own : IsOwn book slot
  pub not_out : is_out (loan_of slot book) ≡ false

-- The value that a push hasn't stored yet is the slot of the send, which the connection doesn't have.
pub record IsLacking (book : BookState) (place slot value : ℕ) : Type 0 where
  pub same : value ≡ slot
  pub lacks : refers_to book place slot ≡ false

-- Until a push on an overflowing ring stores its value, the connection doesn't have it.
abbrev pub OverflowingLacks : BookState → ℕ → ℕ → overflowing_type.Push → Type 0
OverflowingLacks book place slot overflowing.Idle = Unit {0}
OverflowingLacks book place slot (overflowing.Begun limit value) = IsLacking book place slot value
OverflowingLacks book place slot (overflowing.SawWrite limit value write next) = IsLacking book place slot value
OverflowingLacks book place slot (overflowing.SawRead limit value write next seen) = IsLacking book place slot value
OverflowingLacks book place slot (overflowing.Filled limit value write next seen) = IsLacking book place slot value
OverflowingLacks book place slot (overflowing.Full value seen next) = Unit {0}
OverflowingLacks book place slot (overflowing.SawOldest value seen next oldest) = Unit {0}
OverflowingLacks book place slot (overflowing.Pushed value answer) = Unit {0}

-- Until a push on a refusing ring stores its value, the connection doesn't have it.
abbrev pub RefusingLacks : BookState → ℕ → ℕ → refusing_type.Push → Type 0
RefusingLacks book place slot refusing.Idle = Unit {0}
RefusingLacks book place slot (refusing.Begun limit value) = IsLacking book place slot value
RefusingLacks book place slot (refusing.SawWrite limit value write next) = IsLacking book place slot value
RefusingLacks book place slot (refusing.SawRoom value write next) = IsLacking book place slot value
RefusingLacks book place slot (refusing.Filled value next) = IsLacking book place slot value
RefusingLacks book place slot (refusing.Pushed value answer) = Unit {0}

-- Until a push on a ring of either kind stores its value, the connection doesn't have it.
abbrev pub PushLacks : BookState → ℕ → ℕ → Push → Type 0
PushLacks book place slot (ring.Overflowing push) = OverflowingLacks book place slot push
PushLacks book place slot (ring.Refusing push) = RefusingLacks book place slot push

-- The connections from this place on don't have the slot.
abbrev pub LacksFrom : ℕ → BookState → ℕ → ℕ → Type 0
LacksFrom connections book place slot = (later : ℕ) → place ≤ later → later < connections → refers_to book later slot ≡ false

-- The connections that a send hasn't come to don't have its slot.
abbrev pub SendsLacking : ℕ → BookState → PublisherCall → Type 0
SendsLacking connections book publishing.Idle = Unit {0}
SendsLacking connections book (publishing.LoanReclaims place route pop) = Unit {0}
SendsLacking connections book publishing.Lending = Unit {0}
SendsLacking connections book (publishing.Writing slot word value) = Unit {0}
SendsLacking connections book (publishing.Written slot) = Unit {0}
SendsLacking connections book (publishing.Heading slot word value) = Unit {0}
SendsLacking connections book (publishing.Remembering slot) = Unit {0}
SendsLacking connections book (publishing.SendReclaims slot place route pop) = IsSending book slot × LacksFrom connections book 0 slot
SendsLacking connections book (publishing.Pushing slot place route push delivery) = IsSending book slot × PushLacks book place slot push
    × LacksFrom connections book (place + 1) slot
SendsLacking connections book (publishing.Sent slot delivery) = IsSending book slot
SendsLacking connections book (publishing.Dropping slot) = Unit {0}
