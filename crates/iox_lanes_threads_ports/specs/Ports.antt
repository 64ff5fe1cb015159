-- A port in threads: its lane, what it knows, and how the two fit together.
use Rattle.std.specs.Prelude.{ℕ, ◌≡◌, ◌+◌, ◌<◌, ◌≤◌, List, length, slice_get, Some, true}
use Rattle.std.specs.List.{All}
use Rattle.iox_lanes_machine.specs.QueuesSteps.declared.access.Word.TheVariants.{Write, Read}
use Rattle.iox_lanes_machine.specs.LanesBase.Numbers.{slot_words, words_of}
use Rattle.iox_lanes_machine.specs.LanesBase.declared.words.word.ConnectionRing.TheVariants.{Completion}
use Rattle.iox_lanes_machine.specs.LanesBase.declared.words.word.SharedWord.{SharedWord}
use Rattle.iox_lanes_machine.specs.LanesBase.declared.words.word.SharedWord.TheVariants.{Ring}
use Rattle.iox_lanes_machine.specs.LanesBase.declared.calls.publisher.PublisherCall.{PublisherCall}
use Rattle.iox_lanes_machine.specs.LanesBase.declared.calls.publisher.PublisherCall.TheVariants as publishing
use Rattle.iox_lanes_machine.specs.LanesBase.declared.calls.route.Route.{Route}
use Rattle.iox_lanes_machine.specs.LanesBase.declared.calls.subscriber.SubscriberCall.{SubscriberCall}
use Rattle.iox_lanes_machine.specs.LanesBase.declared.calls.subscriber.SubscriberCall.TheVariants as subscribing
use Rattle.iox_lanes_machine.specs.LanesParties.PublisherKeeping.{BookState}
use Rattle.iox_lanes_machine.specs.LanesBase.Publishing.{publisher_next}
use Rattle.iox_lanes_machine.specs.LanesBase.Subscribing.{subscriber_next}
use Rattle.iox_lanes_machine.specs.LanesParties.Parties.{PublisherLaneState, SubscriberLaneState, publisher_fits, publisher_begun}
use Rattle.iox_lanes_machine.specs.LanesParties.Parties.{publisher_after, subscriber_fits, subscriber_begun, subscriber_after}
use Rattle.iox_lanes_machine.specs.LanesParties.declared.call.Call.{Call}
use Rattle.iox_lanes_machine.specs.LanesParties.declared.call.Move.TheVariants.{Begin}
use Rattle.iox_lanes_threads_rule.specs.Acts.{MayAct, ToldBy}
use Rattle.iox_lanes_threads_ports.specs.Courses.{publisher_stepped, subscriber_stepped}
use Rattle.iox_lanes_machine.specs.LanesParties.Within.{IsPublisher, IsSubscriber}
use Rattle.iox_lanes_machine.specs.LanesParties.declared.call.Party.{Party}
use Rattle.iox_lanes_machine.specs.LanesParties.declared.call.Party.TheVariants.{Publisher, Subscriber}
use Rattle.iox_lanes_threads_rule.specs.Lanes.{ComesToPublisher, ComesToSubscriber}
use Rattle.iox_lanes_threads_rule.specs.declared.service.Line.{Line}
use Rattle.iox_lanes_threads_rule.specs.declared.service.Service.{Service}
use Rattle.iox_lanes_threads_rule.specs.declared.service.SlotRange.{SlotRange}
use Rattle.iox_lanes_threads_rule.specs.declared.view.Port.{Port}
use Rattle.iox_lanes_threads_ports.specs.Ends.{LonePop, LonePush, PushKnows, PopKnows}

-- The publisher of a line.
abbrev pub sender_of : Line → Party
sender_of line = Publisher line.publisher

-- The subscriber of a line.
abbrev pub receiver_of : Line → Party
receiver_of line = Subscriber line.subscriber

-- A port's connection is a line of its service, and the port itself is this end of the line.
pub record IsEnd (s : Service) (end : Line → Party) (name : Party) (route : Route) : Type 0 where
  pub line : Line
  pub found : slice_get s.lines route.connection ≡ Some line
  pub own : name ≡ end line
  pub kind : route.kind ≡ line.kind
  pub room : 0 < route.limit

-- No connection is in the list twice.
abbrev pub EachOnce : List Route → Type 0
EachOnce routes = (i j : ℕ) (one other : Route) → slice_get routes i ≡ Some one → slice_get routes j ≡ Some other
    → one.connection ≡ other.connection → i ≡ j

-- The slot is one of the publisher's own.
abbrev pub IsOwnSlot : BookState → ℕ → Type 0
IsOwnSlot book slot = (book.first ≤ slot) × (slot < book.first + length book.loans)

-- The word with the read position of a connection's completion ring.
abbrev pub back_read : Route → SharedWord
back_read route = Ring route.connection Completion Read

-- The word with the write position of a connection's completion ring.
abbrev pub back_write : Route → SharedWord
back_write route = Ring route.connection Completion Write

-- What a publisher knows at each stage of its calls.
abbrev pub PublisherKnows : Port → BookState → PublisherCall → Type 0
PublisherKnows p book publishing.Idle = Unit {0}
PublisherKnows p book (publishing.LoanReclaims place route pop) = LonePop p (back_read route) pop
PublisherKnows p book publishing.Lending = Unit {0}
PublisherKnows p book (publishing.Writing slot word value) = IsOwnSlot book slot
PublisherKnows p book (publishing.Written slot) = Unit {0}
PublisherKnows p book (publishing.Heading slot word value) = IsOwnSlot book slot
PublisherKnows p book (publishing.Remembering slot) = IsOwnSlot book slot
PublisherKnows p book (publishing.SendReclaims slot place route pop) = IsOwnSlot book slot × LonePop p (back_read route) pop
PublisherKnows p book (publishing.Pushing slot place route push delivery) = IsOwnSlot book slot × PushKnows p route push
PublisherKnows p book (publishing.Sent slot delivery) = Unit {0}
PublisherKnows p book (publishing.Dropping slot) = Unit {0}

-- What a subscriber knows at each stage of its calls.
abbrev pub SubscriberKnows : Port → SubscriberCall → Type 0
SubscriberKnows p subscribing.Idle = Unit {0}
SubscriberKnows p (subscribing.Receiving place route pop waits) = PopKnows p route pop
SubscriberKnows p (subscribing.Received receipt) = Unit {0}
SubscriberKnows p (subscribing.Reading slot word extent) = Unit {0}
SubscriberKnows p (subscribing.WasRead slot) = Unit {0}
SubscriberKnows p (subscribing.Releasing place route push) = LonePush p (back_write route) push
SubscriberKnows p (subscribing.Released done) = Unit {0}

-- A publisher's lane is at a stage at which its port knows what the next step needs, and the party in its port's view comes to this lane.
pub record PublisherStands (p : Port) (lane : PublisherLaneState) : Type 0 where
  pub place : ℕ
  pub range : SlotRange
  pub name : p.name ≡ Publisher place
  pub wide : length p.known ≡ words_of p.service.sizes
  pub within : IsPublisher p.service.sizes lane
  pub routes : All (IsEnd p.service sender_of p.name) lane.port.routes
  pub once : EachOnce lane.port.routes
  pub found : slice_get p.service.ranges place ≡ Some range
  pub first : range.first ≡ lane.port.book.first
  pub count : range.count ≡ length lane.port.book.loans
  pub knows : PublisherKnows p lane.port.book lane.port.call
  pub comes : ComesToPublisher p.party lane

-- A subscriber's lane is at a stage at which its port knows what the next step needs, and the party in its port's view comes to this lane.
pub record SubscriberStands (p : Port) (lane : SubscriberLaneState) : Type 0 where
  pub wide : length p.known ≡ words_of p.service.sizes
  pub room : length lane.port.words ≡ slot_words p.service.sizes
  pub within : IsSubscriber p.service.sizes lane
  pub routes : All (IsEnd p.service receiver_of p.name) lane.port.routes
  pub knows : SubscriberKnows p lane.port.call
  pub comes : ComesToSubscriber p.party lane

-- `PublisherStands` still holds after the publisher begins a call that fits. Where it holds, the port may make its next access, and it
-- holds again after the answer of that access.
abbrev pub PublishersGoOn : Type 0
PublishersGoOn = (p : Port) (lane : PublisherLaneState) → PublisherStands p lane
    → ((moment : ℕ) (call : Call) → publisher_fits lane (Begin call) ≡ true → PublisherStands p (publisher_begun moment call lane))
    × MayAct p (publisher_next lane.port.call)
    × ((answer : ℕ) → ToldBy p (publisher_next lane.port.call) answer
    → PublisherStands (publisher_stepped p lane answer) (publisher_after answer lane))

-- `SubscriberStands` still holds after the subscriber begins a call that fits. Where it holds, the port may make its next access, and it
-- holds again after the answer of that access.
abbrev pub SubscribersGoOn : Type 0
SubscribersGoOn = (p : Port) (lane : SubscriberLaneState) → SubscriberStands p lane
    → ((moment : ℕ) (call : Call) → subscriber_fits lane (Begin call) ≡ true → SubscriberStands p (subscriber_begun moment call lane))
    × MayAct p (subscriber_next lane.port.call)
    × ((answer : ℕ) → ToldBy p (subscriber_next lane.port.call) answer
    → SubscriberStands (subscriber_stepped p lane answer) (subscriber_after answer lane))
