-- The receives of a subscriber returned exactly the slots that were taken, in that order.
use Rattle.std.specs.Prelude.{ℕ, ◌≡◌, ◌≤◌, ◌^◌, ◌==◌, Bool, false, if◌then◌else◌, List, [], ◌∷◌, ◌++◌, slice_get, Option, Some, None}
use Rattle.iox_lanes_machine.specs.QueuesSteps.Order.{acts_of, take_values}
use Rattle.iox_lanes_machine.specs.QueuesSteps.declared.order.PopAnswer.{PopAnswer}
use Rattle.iox_lanes_machine.specs.QueuesSteps.declared.order.PopAnswer.TheVariants.{Got, Saw}
use Rattle.iox_lanes_machine.specs.QueuesSteps.declared.order.Placed.{Placed}
use Rattle.iox_lanes_machine.specs.LanesBase.declared.calls.route.Route.{Route}
use Rattle.iox_lanes_machine.specs.LanesBase.declared.calls.subscriber.Receipt.{Receipt}
use Rattle.iox_lanes_machine.specs.LanesBase.declared.calls.subscriber.Receipt.TheVariants as receipt
use Rattle.iox_lanes_machine.specs.LanesBase.declared.calls.subscriber.SubscriberCall.{SubscriberCall}
use Rattle.iox_lanes_machine.specs.LanesBase.declared.calls.subscriber.SubscriberCall.TheVariants as subscribing
use Rattle.iox_lanes_machine.specs.LanesParties.Parties.{SubscriberLaneState}
use Rattle.iox_lanes_machine.specs.LanesParties.declared.call.Answer.{Answer}
use Rattle.iox_lanes_machine.specs.LanesParties.declared.call.Answer.TheVariants as answer
use Rattle.iox_lanes_machine.specs.LanesParties.declared.call.FinishedCall.{FinishedCall}
use Rattle.iox_lanes_machine.specs.LanesParties.declared.call.Party.{Party}
use Rattle.iox_lanes_machine.specs.LanesParties.declared.call.Party.TheVariants.{Publisher, Subscriber}
use Rattle.iox_lanes_machine.specs.World.{World, subscriber_stage}
use Rattle.iox_lanes_machine.specs.Links.{LinkState}

-- The slots that these takes returned.
abbrev pub slots_of : List PopAnswer → List ℕ
slots_of [] = []
slots_of (Got (Some slot) ∷ answers) = slot ∷ slots_of answers
slots_of (Got None ∷ answers) = slots_of answers
slots_of (Saw some ∷ answers) = slots_of answers

-- The slots taken at a connection, by its order.
abbrev pub slots_taken : List Placed → List ℕ
slots_taken order = slots_of (take_values (acts_of order))

-- The slot, if it was taken at this connection.
abbrev pub given_at : ℕ → ℕ → Option Route → List ℕ
given_at connection slot None = []
given_at connection slot (Some route) = if route.connection == connection then slot ∷ [] else []

-- The slot of this connection that a receipt names, if any.
abbrev pub given_by : List Route → ℕ → Receipt → List ℕ
given_by routes connection (receipt.Taken place slot) = given_at connection slot (slice_get routes place)
given_by routes connection receipt.Nothing = []
given_by routes connection receipt.ExceedsMaxBorrows = []

-- The slot of this connection that an answer names, if any.
abbrev pub given_answer : List Route → ℕ → Answer → List ℕ
given_answer routes connection (answer.Lent loan) = []
given_answer routes connection answer.Written = []
given_answer routes connection (answer.Sent told) = []
given_answer routes connection answer.Dropped = []
given_answer routes connection (answer.Received given) = given_by routes connection given
given_answer routes connection (answer.Read from) = []
given_answer routes connection (answer.Released done) = []

-- Whether the party is this subscriber.
abbrev pub is_receiver : Party → ℕ → Bool
is_receiver (Publisher place) who = false
is_receiver (Subscriber place) who = place == who

-- The slots of this connection that the calls of a subscriber returned.
abbrev pub given_calls : List Route → ℕ → ℕ → List FinishedCall → List ℕ
given_calls routes connection who [] = []
given_calls routes connection who (call ∷ calls) =
    (if is_receiver call.party who then given_answer routes connection call.answer else []) ++ given_calls routes connection who calls

-- The slot of this connection that a receive in progress has, if any.
abbrev pub given_in_hand : List Route → ℕ → SubscriberCall → List ℕ
given_in_hand routes connection subscribing.Idle = []
given_in_hand routes connection (subscribing.Receiving place route pop waits) = []
given_in_hand routes connection (subscribing.Received given) = given_by routes connection given
given_in_hand routes connection (subscribing.Reading slot word extent) = []
given_in_hand routes connection (subscribing.WasRead slot) = []
given_in_hand routes connection (subscribing.Releasing place route push) = []
given_in_hand routes connection (subscribing.Released done) = []

-- The connections of a subscriber.
abbrev pub routes_of : Option SubscriberLaneState → List Route
routes_of None = []
routes_of (Some lane) = lane.port.routes

-- The receives of the connection's subscriber returned the slots taken there, in their order, and no other slot of the connection.
abbrev pub ReceivesGive : List FinishedCall → ℕ → LinkState → List Placed → Option SubscriberLaneState → Type 0
ReceivesGive finished connection link order lane =
    slots_taken order ≡ given_calls (routes_of lane) connection link.subscriber finished
    ++ given_in_hand (routes_of lane) connection (subscriber_stage lane)

-- The receives returned exactly the slots taken at each connection (`ReceivesGive`).
abbrev pub AllReceivesGive : World → Type 0
AllReceivesGive m = (connection : ℕ) (link : LinkState) (order : List Placed) → slice_get m.links connection ≡ Some link
    → slice_get m.orders connection ≡ Some order
    → ReceivesGive m.finished connection link order (slice_get m.subscribers link.subscriber)

-- The receives returned exactly the slots taken at each connection, as long as at most 2^63 steps were made.
abbrev pub ReceiptsFollow : World → Type 0
ReceiptsFollow m = m.moments ≤ 2 ^ 63 → AllReceivesGive m
