-- Ports of lanes that know what their next step needs.
use Rattle.std.specs.Prelude.{ℕ, ◌≡◌, ◌+◌, List, [], ◌∷◌, length}
use Rattle.iox_lanes_machine.specs.LanesBase.declared.calls.subscriber.SubscriberCall.TheVariants as subscribing
use Rattle.iox_lanes_machine.specs.LanesParties.Parties.{PublisherLaneState, SubscriberLaneState}
use Rattle.iox_lanes_machine.specs.LanesParties.declared.call.Party.TheVariants.{Publisher, Subscriber}
use Rattle.iox_lanes_machine.specs.World.{World}
use Rattle.iox_lanes_threads_ports.specs.LanesThreadsRule.declared.view.PortParty.TheVariants as party
use Rattle.iox_lanes_threads_ports.specs.Ports.{PublisherStands, SubscriberStands}
use Rattle.iox_lanes_threads.specs.Opening.{opened}

-- Each publisher of a list, the first of them at this place, knows what its next step needs and is between calls.
abbrev pub PublishersStand : World → ℕ → List PublisherLaneState → Type 0
PublishersStand m place [] = Unit {0}
PublishersStand m place (lane ∷ lanes) = PublisherStands (opened m place (Publisher place) (party.Publisher lane)) lane
    × PublishersStand m (place + 1) lanes

-- Each subscriber of a list, the first of them at this place, knows what its next step needs and is between calls.
abbrev pub SubscribersStand : World → ℕ → List SubscriberLaneState → Type 0
SubscribersStand m place [] = Unit {0}
SubscribersStand m place (lane ∷ lanes) =
    (SubscriberStands (opened m (length m.publishers + place) (Subscriber place) (party.Subscriber lane)) lane
    × (lane.port.call ≡ subscribing.Idle)) × SubscribersStand m (place + 1) lanes
