-- A party's call stands at a connection of the service, or at none.
use Rattle.std.proofs.Common.{ℕ, ◌≡◌, List, slice_get, Some}
use Rattle.std.specs.List.{All}
use Rattle.iox_lanes_machine.specs.LanesBase.declared.words.sizes.TableSizes.{TableSizes}
use Rattle.iox_lanes_machine.specs.LanesBase.declared.calls.route.Route.{Route}
use Rattle.iox_lanes_machine.specs.LanesBase.declared.calls.publisher.PublisherCall.{PublisherCall}
use Rattle.iox_lanes_machine.specs.LanesBase.declared.calls.publisher.PublisherCall.TheVariants as publishing
use Rattle.iox_lanes_machine.specs.LanesBase.declared.calls.subscriber.SubscriberCall.{SubscriberCall}
use Rattle.iox_lanes_machine.specs.LanesBase.declared.calls.subscriber.SubscriberCall.TheVariants as subscribing
use Rattle.iox_lanes_machine.specs.LanesParties.Parties.{PublisherLaneState, SubscriberLaneState}
use Rattle.iox_lanes_machine.specs.LanesParties.Publishers.{words_of}
use Rattle.iox_lanes_machine.specs.LanesParties.Within.{IsRoute, IsPublishing, IsPublisher, IsSubscribing, IsSubscriber}
use Rattle.iox_lanes_machine.proofs.LanesParties.Rings.{all_at}
use Rattle.iox_lanes_machine.specs.Kept.{IsWithin, StandsInService}
use Rattle.iox_lanes_machine.specs.World.{World, pushes_to, pops_from}

publishing_call_stands : (sizes : TableSizes) (routes : List Route) (words : List ℕ) (c : PublisherCall) → All (IsRoute sizes) routes
    → IsPublishing sizes routes words c → StandsInService sizes (pushes_to c)
publishing_call_stands sizes routes words publishing.Idle all is = tt
publishing_call_stands sizes routes words (publishing.LoanReclaims place route pop) all is = tt
publishing_call_stands sizes routes words publishing.Lending all is = tt
publishing_call_stands sizes routes words (publishing.Writing slot word value) all is = tt
publishing_call_stands sizes routes words (publishing.Written slot) all is = tt
publishing_call_stands sizes routes words (publishing.Heading slot word value) all is = tt
publishing_call_stands sizes routes words (publishing.Remembering slot) all is = tt
publishing_call_stands sizes routes words (publishing.SendReclaims slot place route pop) all is = tt
publishing_call_stands sizes routes words (publishing.Pushing slot place route push delivery) all is
    = (all_at (IsRoute sizes) routes place route is all).connection
publishing_call_stands sizes routes words (publishing.Sent slot delivery) all is = tt
publishing_call_stands sizes routes words (publishing.Dropping slot) all is = tt

pub publisher_call_stands : (m : World) (place : ℕ) (lane : PublisherLaneState) → IsWithin m → slice_get m.publishers place ≡ Some lane
    → StandsInService m.table.sizes (pushes_to lane.port.call)
publisher_call_stands m place lane w found =
    let is : IsPublisher m.table.sizes lane = all_at (IsPublisher m.table.sizes) m.publishers place lane found w.publishers in
    publishing_call_stands m.table.sizes lane.port.routes (words_of lane.port) lane.port.call is.routes is.call

subscribing_call_stands : (sizes : TableSizes) (routes : List Route) (c : SubscriberCall) → All (IsRoute sizes) routes
    → IsSubscribing sizes routes c → StandsInService sizes (pops_from c)
subscribing_call_stands sizes routes subscribing.Idle all is = tt
subscribing_call_stands sizes routes (subscribing.Receiving place route pop waits) all is
    = (all_at (IsRoute sizes) routes place route is all).connection
subscribing_call_stands sizes routes (subscribing.Received receipt) all is = tt
subscribing_call_stands sizes routes (subscribing.Reading slot word extent) all is = tt
subscribing_call_stands sizes routes (subscribing.WasRead slot) all is = tt
subscribing_call_stands sizes routes (subscribing.Releasing place route push) all is = tt
subscribing_call_stands sizes routes (subscribing.Released done) all is = tt

pub subscriber_call_stands : (m : World) (place : ℕ) (lane : SubscriberLaneState) → IsWithin m → slice_get m.subscribers place ≡ Some lane
    → StandsInService m.table.sizes (pops_from lane.port.call)
subscriber_call_stands m place lane w found =
    let is : IsSubscriber m.table.sizes lane = all_at (IsSubscriber m.table.sizes) m.subscribers place lane found w.subscribers in
    subscribing_call_stands m.table.sizes lane.port.routes lane.port.call is.routes is.call
