-- The sends of a publisher made exactly the puts of its connections' orders: each send one put of its slot at each connection, within its
-- own time.
use Rattle.std.specs.Prelude.{ℕ, ◌≡◌, ◌+◌, ◌≤◌, ◌^◌, ◌==◌, ◌&&◌, Bool, true, false, nat_lt, if◌then◌else◌, List, [], ◌∷◌, ◌++◌, length}
use Rattle.std.specs.Prelude.{map, take, drop, get_or, slice_get, Some}
use Rattle.std.specs.List.{AllZip}
use Rattle.iox_lanes_machine.specs.QueuesSteps.Order.{puts, push_call, IsInside, PutInside}
use Rattle.iox_lanes_machine.specs.QueuesSteps.declared.access.Word.TheVariants.{Read}
use Rattle.iox_lanes_machine.specs.QueuesSteps.declared.order.PushAnswer.{PushAnswer}
use Rattle.iox_lanes_machine.specs.QueuesSteps.declared.order.PushAnswer.TheVariants.{Kept, LeftOut, Refused}
use Rattle.iox_lanes_machine.specs.QueuesSteps.declared.order.Placed.{Placed}
use Rattle.iox_lanes_machine.specs.QueuesSteps.declared.order.PushCall.{PushCall}
use Rattle.iox_lanes_machine.specs.QueuesSteps.Ends.{push_value, put_in_hand}
use Rattle.iox_lanes_machine.specs.QueuesSteps.declared.rings.ends.Push.{Push}
use Rattle.iox_lanes_machine.specs.LanesBase.Table.{TableWords, held_by}
use Rattle.iox_lanes_machine.specs.LanesBase.declared.calls.publisher.Delivery.{Delivery}
use Rattle.iox_lanes_machine.specs.LanesBase.declared.calls.publisher.PublisherCall.{PublisherCall}
use Rattle.iox_lanes_machine.specs.LanesBase.declared.calls.publisher.PublisherCall.TheVariants as publishing
use Rattle.iox_lanes_machine.specs.LanesBase.declared.calls.route.Route.{Route}
use Rattle.iox_lanes_machine.specs.LanesParties.Parties.{PublisherLaneState}
use Rattle.iox_lanes_machine.specs.LanesParties.SendAnswers.{send_answer}
use Rattle.iox_lanes_machine.specs.LanesParties.declared.call.Answer.{Answer}
use Rattle.iox_lanes_machine.specs.LanesParties.declared.call.Answer.TheVariants as answer
use Rattle.iox_lanes_machine.specs.LanesParties.declared.call.CallName.TheVariants as name
use Rattle.iox_lanes_machine.specs.LanesParties.declared.call.FinishedCall.{FinishedCall}
use Rattle.iox_lanes_machine.specs.LanesParties.declared.call.Party.{Party}
use Rattle.iox_lanes_machine.specs.LanesParties.declared.call.Party.TheVariants.{Publisher, Subscriber}
use Rattle.iox_lanes_machine.specs.Rings.{sent_word, push_on}
use Rattle.iox_lanes_machine.specs.World.{World}
use Rattle.iox_lanes_machine.specs.Links.{LinkState}

-- The number of these puts that were taken.
abbrev pub taken_among : List PushAnswer → ℕ
taken_among [] = 0
taken_among (Kept ∷ answers) = taken_among answers + 1
taken_among (LeftOut oldest ∷ answers) = taken_among answers + 1
taken_among (Refused ∷ answers) = taken_among answers

-- The number of these puts that were refused.
abbrev pub refused_among : List PushAnswer → ℕ
refused_among [] = 0
refused_among (Kept ∷ answers) = refused_among answers
refused_among (LeftOut oldest ∷ answers) = refused_among answers
refused_among (Refused ∷ answers) = refused_among answers + 1

-- The delivery that a send counts, if its puts have these answers.
abbrev pub delivery_of : List PushAnswer → Delivery
delivery_of answers = record { taken = taken_among answers; refused = refused_among answers }

-- The puts at a connection, by its order.
abbrev pub puts_at : List (List Placed) → Route → List PushCall
puts_at orders route = puts (get_or orders route.connection [])

-- The put with this number at the connection has this slot and this answer, and is between the two moments.
pub record IsPutAt (orders : List (List Placed)) (number slot first last : ℕ) (route : Route) (answer : PushAnswer) : Type 0 where
  pub put : PushCall
  pub found : slice_get (puts_at orders route) number ≡ Some put
  pub value : put.value ≡ slot
  pub answered : put.answer ≡ answer
  pub inside : IsInside first last put.first

-- The puts with this number at these connections come one after the other, between the two moments.
abbrev pub PutsRise : List (List Placed) → ℕ → ℕ → List Route → ℕ → Type 0
PutsRise orders number low [] high = low ≤ high
PutsRise orders number low (route ∷ routes) high =
    (put : PushCall) × (slice_get (puts_at orders route) number ≡ Some put) × (low ≤ put.first)
    × PutsRise orders number put.first routes high

-- The slot has one put at each of these connections, all with the same number and in the order of the connections, and the delivery counts
-- their answers.
pub record ArePut (orders : List (List Placed)) (routes : List Route) (number slot first last : ℕ) (delivery : Delivery) : Type 0 where
  pub answers : List PushAnswer
  pub puts : AllZip (IsPutAt orders number slot first last) routes answers
  pub in_order : PutsRise orders number first routes last
  pub counted : delivery ≡ delivery_of answers

-- The call is a send: its slot has one put at each connection of its publisher, within the time of the call, and its answer counts their
-- answers. The answer is `UnableToDeliver` exactly if the publisher's sends fail at a full mailbox and some put was refused.
pub record IsSent (orders : List (List Placed)) (fails : Bool) (routes : List Route) (number : ℕ) (call : FinishedCall) : Type 0 where
  pub slot : ℕ
  pub delivery : Delivery
  pub asked : call.call ≡ name.Send slot
  pub answered : call.answer ≡ answer.Sent (send_answer fails delivery)
  pub puts : ArePut orders routes number slot call.first call.last delivery

-- Whether the party is this publisher.
abbrev pub is_sender : Party → ℕ → Bool
is_sender (Publisher place) who = place == who
is_sender (Subscriber place) who = false

-- Whether the answer is a send's.
abbrev pub is_send : Answer → Bool
is_send (answer.Lent loan) = false
is_send answer.Written = false
is_send (answer.Sent given) = true
is_send answer.Dropped = false
is_send (answer.Received given) = false
is_send (answer.Read from) = false
is_send (answer.Released done) = false

-- The sends of a publisher among these calls.
abbrev pub sends_of : ℕ → List FinishedCall → List FinishedCall
sends_of who [] = []
sends_of who (call ∷ calls) = (if is_sender call.party who && is_send call.answer then call ∷ [] else []) ++ sends_of who calls

-- The read position of a connection's submission ring.
abbrev pub read_at : TableWords → Route → ℕ
read_at table route = held_by table (sent_word route.connection Read)

-- A send that pushes has made its puts at each connection before its place, up to some moment; after that moment its push has put at its
-- place what it has put so far.
pub record IsPushing (orders : List (List Placed)) (routes : List Route) (number first last slot place read : ℕ) (route : Route)
    (push : Push) (delivery : Delivery) : Type 0 where
  pub at : slice_get routes place ≡ Some route
  pub few : place ≤ last
  pub value : push_value push ≡ slot
  pub since : ℕ
  pub begun : since ≤ last
  pub before : ArePut orders (take place routes) number slot first since delivery
  pub here : AllZip PutInside (map (push_call since last) (put_in_hand read push)) (drop number (puts_at orders route))

-- What the send that a publisher is in has put so far.
abbrev pub PutSoFar : TableWords → List (List Placed) → List Route → ℕ → ℕ → ℕ → PublisherCall → Type 0
PutSoFar table orders routes number first last publishing.Idle = Unit {0}
PutSoFar table orders routes number first last (publishing.LoanReclaims place route pop) = Unit {0}
PutSoFar table orders routes number first last publishing.Lending = Unit {0}
PutSoFar table orders routes number first last (publishing.Writing slot word value) = Unit {0}
PutSoFar table orders routes number first last (publishing.Written slot) = Unit {0}
PutSoFar table orders routes number first last (publishing.Heading slot word value) = Unit {0}
PutSoFar table orders routes number first last (publishing.Remembering slot) = Unit {0}
PutSoFar table orders routes number first last (publishing.SendReclaims slot place route pop) = Unit {0}
PutSoFar table orders routes number first last (publishing.Pushing slot place route push delivery) =
    IsPushing orders routes number first last slot place (read_at table route) route push delivery
PutSoFar table orders routes number first last (publishing.Sent slot delivery) = ArePut orders routes number slot first last delivery
PutSoFar table orders routes number first last (publishing.Dropping slot) = Unit {0}

-- The number of puts that the send in progress has finished at the connection of this place: one or none.
abbrev pub done_at : ℕ → PublisherCall → ℕ
done_at place publishing.Idle = 0
done_at place (publishing.LoanReclaims at route pop) = 0
done_at place publishing.Lending = 0
done_at place (publishing.Writing slot word value) = 0
done_at place (publishing.Written slot) = 0
done_at place (publishing.Heading slot word value) = 0
done_at place (publishing.Remembering slot) = 0
done_at place (publishing.SendReclaims slot at route pop) = 0
done_at place (publishing.Pushing slot at route push delivery) = if nat_lt place at then 1 else 0
done_at place (publishing.Sent slot delivery) = 1
done_at place (publishing.Dropping slot) = 0

-- The number of puts that the push in progress has made at a connection.
abbrev pub in_hand_at : TableWords → Route → PublisherCall → ℕ
in_hand_at table route call = length (put_in_hand (read_at table route) (push_on route.connection route.kind call))

-- The connection is in the list.
pub record IsAmong (routes : List Route) (connection : ℕ) : Type 0 where
  pub place : ℕ
  pub route : Route
  pub found : slice_get routes place ≡ Some route
  pub same : route.connection ≡ connection

-- The list has each connection of the publisher, and each only once.
pub record HasConnections (links : List LinkState) (who : ℕ) (routes : List Route) : Type 0 where
  pub each : (connection : ℕ) (link : LinkState) → slice_get links connection ≡ Some link → link.publisher ≡ who → IsAmong routes connection
  pub once : (i j : ℕ) (one other : Route) → slice_get routes i ≡ Some one → slice_get routes j ≡ Some other
      → one.connection ≡ other.connection → i ≡ j

-- Each publisher has each of its connections, and each only once.
abbrev pub AreConnected : World → Type 0
AreConnected m = (who : ℕ) (lane : PublisherLaneState) → slice_get m.publishers who ≡ Some lane
    → HasConnections m.links who lane.port.routes

-- The sends of a publisher, in their order, made exactly the puts at its connections, except those that the send in progress has made so
-- far.
pub record SendsPut (m : World) (who : ℕ) (fails : Bool) (routes : List Route) (first : ℕ) (call : PublisherCall) : Type 0 where
  pub connections : HasConnections m.links who routes
  pub sent : (number : ℕ) (send : FinishedCall) → slice_get (sends_of who m.finished) number ≡ Some send
      → IsSent m.orders fails routes number send
  pub so_far : PutSoFar m.table m.orders routes (length (sends_of who m.finished)) first m.moments call
  pub no_more : (place : ℕ) (route : Route) → slice_get routes place ≡ Some route
      → length (puts_at m.orders route) ≡ length (sends_of who m.finished) + done_at place call + in_hand_at m.table route call

-- The sends of each publisher made exactly the puts at its connections (`SendsPut`).
abbrev pub AllSendsPut : World → Type 0
AllSendsPut m = (who : ℕ) (lane : PublisherLaneState) → slice_get m.publishers who ≡ Some lane
    → SendsPut m who lane.fails lane.port.routes lane.first lane.port.call

-- The sends of each publisher made exactly the puts at its connections, as long as at most 2^63 steps were made.
abbrev pub SendsFollow : World → Type 0
SendsFollow m = m.moments ≤ 2 ^ 63 → AllSendsPut m
