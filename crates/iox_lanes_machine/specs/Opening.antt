-- What every step keeps for the use of lanes in threads: each cell names a slot, as does what a port is about to put into a cell, and the
-- first word of the table is 0.
use Rattle.std.specs.Prelude.{ℕ, ◌≡◌, ◌<◌, slice_get, slice_index, Some}
use Rattle.iox_lanes_machine.specs.QueuesSteps.declared.access.Word.TheVariants.{Cell}
use Rattle.iox_lanes_machine.specs.QueuesSteps.declared.rings.overflowing.push.Push as overflowing_push_type
use Rattle.iox_lanes_machine.specs.QueuesSteps.declared.rings.overflowing.push.Push.TheVariants as overflowing_push
use Rattle.iox_lanes_machine.specs.QueuesSteps.declared.rings.refusing.push.Push as refusing_push_type
use Rattle.iox_lanes_machine.specs.QueuesSteps.declared.rings.refusing.push.Push.TheVariants as refusing_push
use Rattle.iox_lanes_machine.specs.QueuesSteps.declared.rings.ends.Push.{Push}
use Rattle.iox_lanes_machine.specs.QueuesSteps.declared.rings.ends.Push.TheVariants as push
use Rattle.iox_lanes_machine.specs.LanesBase.Numbers.{IsWord}
use Rattle.iox_lanes_machine.specs.LanesBase.Table.{TableWords, held_by}
use Rattle.iox_lanes_machine.specs.LanesBase.declared.words.word.ConnectionRing.{ConnectionRing}
use Rattle.iox_lanes_machine.specs.LanesBase.declared.words.word.SharedWord.{SharedWord}
use Rattle.iox_lanes_machine.specs.LanesBase.declared.words.word.SharedWord.TheVariants.{Ring}
use Rattle.iox_lanes_machine.specs.LanesBase.declared.calls.publisher.PublisherCall.{PublisherCall}
use Rattle.iox_lanes_machine.specs.LanesBase.declared.calls.publisher.PublisherCall.TheVariants as publishing
use Rattle.iox_lanes_machine.specs.LanesBase.declared.calls.subscriber.SubscriberCall.{SubscriberCall}
use Rattle.iox_lanes_machine.specs.LanesBase.declared.calls.subscriber.SubscriberCall.TheVariants as subscribing
use Rattle.iox_lanes_machine.specs.LanesParties.Parties.{PublisherLaneState, SubscriberLaneState}
use Rattle.iox_lanes_machine.specs.World.{World}
use Rattle.iox_lanes_machine.specs.Links.{LinkState}

-- The word of a cell of a connection's ring.
abbrev pub cell_of : ℕ → ConnectionRing → ℕ → SharedWord
cell_of connection ring cell = Ring connection ring (Cell cell)

-- If there are slots, each cell of a ring names one.
abbrev pub CellsNameSlots : TableWords → Type 0
CellsNameSlots table = 0 < table.sizes.slots → (connection : ℕ) (ring : ConnectionRing) (cell : ℕ)
    → IsWord table.sizes (cell_of connection ring cell)
    → held_by table (cell_of connection ring cell) < table.sizes.slots

-- What a push on an overflowing ring is yet to put is one of `slots` slots.
abbrev pub OverPuts : ℕ → overflowing_push_type.Push → Type 0
OverPuts slots overflowing_push.Idle = Unit {0}
OverPuts slots (overflowing_push.Begun limit value) = value < slots
OverPuts slots (overflowing_push.SawWrite limit value write next) = value < slots
OverPuts slots (overflowing_push.SawRead limit value write next read) = value < slots
OverPuts slots (overflowing_push.Filled limit value write next read) = Unit {0}
OverPuts slots (overflowing_push.Full value read next) = Unit {0}
OverPuts slots (overflowing_push.SawOldest value read next oldest) = Unit {0}
OverPuts slots (overflowing_push.Pushed value answer) = Unit {0}

-- What a push on a refusing ring is yet to put is one of `slots` slots.
abbrev pub LonePuts : ℕ → refusing_push_type.Push → Type 0
LonePuts slots refusing_push.Idle = Unit {0}
LonePuts slots (refusing_push.Begun limit value) = value < slots
LonePuts slots (refusing_push.SawWrite limit value write next) = value < slots
LonePuts slots (refusing_push.SawRoom value write next) = value < slots
LonePuts slots (refusing_push.Filled value next) = Unit {0}
LonePuts slots (refusing_push.Pushed value answer) = Unit {0}

-- What a push on a ring of either kind is yet to put is one of `slots` slots.
abbrev pub Puts : ℕ → Push → Type 0
Puts slots (push.Overflowing own) = OverPuts slots own
Puts slots (push.Refusing own) = LonePuts slots own

-- A publisher sends one of `slots` slots.
abbrev pub SendsSlot : ℕ → PublisherCall → Type 0
SendsSlot slots publishing.Idle = Unit {0}
SendsSlot slots (publishing.LoanReclaims place route pop) = Unit {0}
SendsSlot slots publishing.Lending = Unit {0}
SendsSlot slots (publishing.Writing slot word value) = Unit {0}
SendsSlot slots (publishing.Written slot) = Unit {0}
SendsSlot slots (publishing.Heading slot word value) = slot < slots
SendsSlot slots (publishing.Remembering slot) = slot < slots
SendsSlot slots (publishing.SendReclaims slot place route pop) = slot < slots
SendsSlot slots (publishing.Pushing slot place route push delivery) = (slot < slots) × Puts slots push
SendsSlot slots (publishing.Sent slot delivery) = Unit {0}
SendsSlot slots (publishing.Dropping slot) = Unit {0}

-- A subscriber returns one of `slots` slots.
abbrev pub GivesSlot : ℕ → SubscriberCall → Type 0
GivesSlot slots subscribing.Idle = Unit {0}
GivesSlot slots (subscribing.Receiving place route pop waits) = Unit {0}
GivesSlot slots (subscribing.Received receipt) = Unit {0}
GivesSlot slots (subscribing.Reading slot word extent) = Unit {0}
GivesSlot slots (subscribing.WasRead slot) = Unit {0}
GivesSlot slots (subscribing.Releasing place route push) = LonePuts slots push
GivesSlot slots (subscribing.Released done) = Unit {0}

-- The first word of the table is 0, each cell and each slot that a party is about to put names a slot, and at least one message may wait at
-- each connection.
pub record SlotsNamed (m : World) : Type 0 where
  pub spare : slice_index m.table.words 0 ≡ 0
  pub cells : CellsNameSlots m.table
  pub publishers : (place : ℕ) (lane : PublisherLaneState) → slice_get m.publishers place ≡ Some lane
      → SendsSlot m.table.sizes.slots lane.port.call
  pub subscribers : (place : ℕ) (lane : SubscriberLaneState) → slice_get m.subscribers place ≡ Some lane
      → GivesSlot m.table.sizes.slots lane.port.call
  pub room : (connection : ℕ) (link : LinkState) → slice_get m.links connection ≡ Some link → 0 < link.limit
