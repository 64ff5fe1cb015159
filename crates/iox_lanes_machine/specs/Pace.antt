-- The number of steps that a publisher's call still makes at most.
use Rattle.std.specs.Prelude.{ℕ, ◌+◌, ◌-◌, ◌*◌}
use Rattle.iox_lanes_parties.specs.QueuesSteps.declared.rings.overflowing.push.Push.TheVariants as overflowing
use Rattle.iox_lanes_parties.specs.QueuesSteps.declared.rings.refusing.push.Push.TheVariants as refusing
use Rattle.iox_lanes_parties.specs.QueuesSteps.declared.rings.refusing.pop.Pop.{Pop}
use Rattle.iox_lanes_parties.specs.QueuesSteps.declared.rings.refusing.pop.Pop.TheVariants as pop
use Rattle.iox_lanes_parties.specs.QueuesSteps.declared.rings.ends.Push.{Push}
use Rattle.iox_lanes_parties.specs.QueuesSteps.declared.rings.ends.Push.TheVariants as ring
use Rattle.iox_lanes_parties.specs.LanesBase.declared.calls.publisher.PublisherCall.{PublisherCall}
use Rattle.iox_lanes_parties.specs.LanesBase.declared.calls.publisher.PublisherCall.TheVariants as publishing
use Rattle.iox_lanes_parties.specs.PublisherKeeping.{BookState}
use Rattle.iox_lanes_machine.specs.LedgerRooms.{slots_at}

-- The number of steps that a pop which takes samples back still makes at most, at a connection with this many slots: four for each of them,
-- and two that find no more.
abbrev pub taking_left : ℕ → Pop → ℕ
taking_left slots pop.Idle = 0
taking_left slots pop.Begun = 4 * slots + 2
taking_left slots (pop.SawRead seen) = 4 * slots + 1
taking_left slots (pop.Nonempty seen next) = 4 * slots
taking_left slots (pop.SawCell next value) = 4 * slots - 1
taking_left slots (pop.Popped got) = 0
taking_left slots pop.LookBegun = 0
taking_left slots (pop.LookRead seen) = 0
taking_left slots (pop.Looked some) = 0

-- The number of steps that a push still makes at most, which is at most six.
abbrev pub pushing_left : Push → ℕ
pushing_left (ring.Overflowing overflowing.Idle) = 0
pushing_left (ring.Overflowing (overflowing.Begun limit value)) = 6
pushing_left (ring.Overflowing (overflowing.SawWrite limit value write next)) = 5
pushing_left (ring.Overflowing (overflowing.SawRead limit value write next seen)) = 4
pushing_left (ring.Overflowing (overflowing.Filled limit value write next seen)) = 3
pushing_left (ring.Overflowing (overflowing.Full value seen next)) = 2
pushing_left (ring.Overflowing (overflowing.SawOldest value seen next oldest)) = 1
pushing_left (ring.Overflowing (overflowing.Pushed value answer)) = 0
pushing_left (ring.Refusing refusing.Idle) = 0
pushing_left (ring.Refusing (refusing.Begun limit value)) = 4
pushing_left (ring.Refusing (refusing.SawWrite limit value write next)) = 3
pushing_left (ring.Refusing (refusing.SawRoom value write next)) = 2
pushing_left (ring.Refusing (refusing.Filled value next)) = 1
pushing_left (ring.Refusing (refusing.Pushed value answer)) = 0

-- The maximum number of steps that take samples back at this many connections, each with at most `cells` slots.
abbrev pub sweeps_left : ℕ → ℕ → ℕ
sweeps_left cells connections = connections * (4 * cells + 2)

-- The number of steps that a call still makes at most, if it stores `words` words.
abbrev pub steps_left : ℕ → ℕ → ℕ → BookState → PublisherCall → ℕ
steps_left cells connections words book publishing.Idle = 0
steps_left cells connections words book (publishing.LoanReclaims at route pop)
    = taking_left (slots_at book at) pop + sweeps_left cells (connections - at - 1) + 1
steps_left cells connections words book publishing.Lending = 1
steps_left cells connections words book (publishing.Writing slot word value) = words - word + 1
steps_left cells connections words book (publishing.Written slot) = 1
steps_left cells connections words book (publishing.Heading slot word value)
    = words - word + sweeps_left cells connections + 6 * connections + 2
steps_left cells connections words book (publishing.Remembering slot) = sweeps_left cells connections + 6 * connections + 2
steps_left cells connections words book (publishing.SendReclaims slot at route pop)
    = taking_left (slots_at book at) pop + sweeps_left cells (connections - at - 1) + 6 * connections + 1
steps_left cells connections words book (publishing.Pushing slot at route push delivery)
    = pushing_left push + 6 * (connections - at - 1) + 1
steps_left cells connections words book (publishing.Sent slot delivery) = 1
steps_left cells connections words book (publishing.Dropping slot) = 1
