-- Ports that stay within their own service: each call names only connections, slots and words of the service.
use Rattle.std.specs.Prelude.{ℕ, ◌≡◌, ◌+◌, ◌<◌, ◌≤◌, true, List, length, slice_get, Some}
use Rattle.std.specs.List.{All}
use Rattle.iox_lanes_parties.specs.LanesBase.Table.{IsOfTable}
use Rattle.iox_lanes_parties.specs.LanesBase.declared.words.sizes.TableSizes.{TableSizes}
use Rattle.iox_lanes_parties.specs.LanesBase.Publishing.{publisher_next}
use Rattle.iox_lanes_parties.specs.LanesBase.Subscribing.{subscriber_next}
use Rattle.iox_lanes_parties.specs.LanesBase.declared.calls.publisher.PublisherCall.{PublisherCall}
use Rattle.iox_lanes_parties.specs.LanesBase.declared.calls.publisher.PublisherCall.TheVariants as publishing
use Rattle.iox_lanes_parties.specs.LanesBase.declared.calls.route.Route.{Route}
use Rattle.iox_lanes_parties.specs.LanesBase.declared.calls.subscriber.SlotExtent.{SlotExtent}
use Rattle.iox_lanes_parties.specs.LanesBase.declared.calls.subscriber.SubscriberCall.{SubscriberCall}
use Rattle.iox_lanes_parties.specs.LanesBase.declared.calls.subscriber.SubscriberCall.TheVariants as subscribing
use Rattle.iox_lanes_parties.specs.Publishers.{words_of}
use Rattle.iox_lanes_parties.specs.Parties.{PublisherLaneState, SubscriberLaneState, publisher_fits, publisher_begun, publisher_after}
use Rattle.iox_lanes_parties.specs.Parties.{subscriber_fits, subscriber_begun, subscriber_after}
use Rattle.iox_lanes_parties.specs.declared.call.Call.{Call}
use Rattle.iox_lanes_parties.specs.declared.call.Move.TheVariants.{Begin}

-- The connection is one of the service, and both its rings have cells.
pub record IsRoute (sizes : TableSizes) (route : Route) : Type 0 where
  pub connection : route.connection < sizes.connections
  pub sends : 0 < route.submission_cells
  pub submission : route.submission_cells ≤ sizes.submission_cells
  pub gives_back : 0 < route.completion_cells
  pub completion : route.completion_cells ≤ sizes.completion_cells

-- The connection is the one at this place.
abbrev pub IsAt : List Route → ℕ → Route → Type 0
IsAt routes place route = slice_get routes place ≡ Some route

-- A publisher's call is at a connection of its own, or at a word of a slot; `words` are those that a write or a send stores.
abbrev pub IsPublishing : TableSizes → List Route → List ℕ → PublisherCall → Type 0
IsPublishing sizes routes words publishing.Idle = Unit {0}
IsPublishing sizes routes words (publishing.LoanReclaims place route pop) = IsAt routes place route
IsPublishing sizes routes words publishing.Lending = Unit {0}
IsPublishing sizes routes words (publishing.Writing slot word value) =
    (slot < sizes.slots) × (word < sizes.payload_words) × (length words ≤ sizes.payload_words)
IsPublishing sizes routes words (publishing.Written slot) = Unit {0}
IsPublishing sizes routes words (publishing.Heading slot word value) =
    (slot < sizes.slots) × (word < 3 + sizes.user_header_words) × (length words ≤ 3 + sizes.user_header_words)
IsPublishing sizes routes words (publishing.Remembering slot) = Unit {0}
IsPublishing sizes routes words (publishing.SendReclaims slot place route pop) = IsAt routes place route
IsPublishing sizes routes words (publishing.Pushing slot place route push delivery) = IsAt routes place route
IsPublishing sizes routes words (publishing.Sent slot delivery) = Unit {0}
IsPublishing sizes routes words (publishing.Dropping slot) = Unit {0}

-- A publisher of the service: its connections, its slots, the words of a slot and the stage of its call are the service's.
pub record IsPublisher (sizes : TableSizes) (lane : PublisherLaneState) : Type 0 where
  pub routes : All (IsRoute sizes) lane.port.routes
  pub call : IsPublishing sizes lane.port.routes (words_of lane.port) lane.port.call
  pub slots : lane.port.book.first + length lane.port.book.loans ≤ sizes.slots
  pub payload : length lane.port.payload ≡ sizes.payload_words
  pub head : length lane.port.head ≡ 3 + sizes.user_header_words
  pub heads : length lane.heads ≡ length lane.port.book.loans
  pub widths : All (λ head. length head ≡ 3 + sizes.user_header_words) lane.heads

-- The slots of the service have this extent.
pub record IsExtent (sizes : TableSizes) (extent : SlotExtent) : Type 0 where
  pub user_header : extent.user_header_words ≡ sizes.user_header_words
  pub payload : extent.payload_words ≡ sizes.payload_words

-- A subscriber's call is at a connection of its own, or at a word of a slot.
abbrev pub IsSubscribing : TableSizes → List Route → SubscriberCall → Type 0
IsSubscribing sizes routes subscribing.Idle = Unit {0}
IsSubscribing sizes routes (subscribing.Receiving place route pop waits) = IsAt routes place route
IsSubscribing sizes routes (subscribing.Received receipt) = Unit {0}
IsSubscribing sizes routes (subscribing.Reading slot word extent) =
    (slot < sizes.slots) × (word < 3 + sizes.user_header_words + sizes.payload_words) × IsExtent sizes extent
IsSubscribing sizes routes (subscribing.WasRead slot) = Unit {0}
IsSubscribing sizes routes (subscribing.Releasing place route push) = IsAt routes place route
IsSubscribing sizes routes (subscribing.Released done) = Unit {0}

-- A subscriber of the service: its connections, the slots that it may borrow, the words of a slot and the stage of its call are the
-- service's.
pub record IsSubscriber (sizes : TableSizes) (lane : SubscriberLaneState) : Type 0 where
  pub routes : All (IsRoute sizes) lane.port.routes
  pub call : IsSubscribing sizes lane.port.routes lane.port.call
  pub slots : length lane.port.samples ≤ sizes.slots
  pub extent : IsExtent sizes lane.port.extent

-- A publisher of the service stays within the service when it begins a call that fits, and by its next step, which touches a word of the
-- service or none.
abbrev pub PublishersStayWithin : Type 0
PublishersStayWithin = (sizes : TableSizes) (lane : PublisherLaneState) → IsPublisher sizes lane
    → ((moment : ℕ) (call : Call) → publisher_fits lane (Begin call) ≡ true → IsPublisher sizes (publisher_begun moment call lane))
    × ((answer : ℕ) → IsPublisher sizes (publisher_after answer lane))
    × IsOfTable sizes (publisher_next lane.port.call)

-- A subscriber of the service stays within the service when it begins a call that fits, and by its next step, which touches a word of the
-- service or none.
abbrev pub SubscribersStayWithin : Type 0
SubscribersStayWithin = (sizes : TableSizes) (lane : SubscriberLaneState) → IsSubscriber sizes lane
    → ((moment : ℕ) (call : Call) → subscriber_fits lane (Begin call) ≡ true → IsSubscriber sizes (subscriber_begun moment call lane))
    × ((answer : ℕ) → IsSubscriber sizes (subscriber_after answer lane))
    × IsOfTable sizes (subscriber_next lane.port.call)
