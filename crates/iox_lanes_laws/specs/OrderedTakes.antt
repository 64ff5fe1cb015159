-- The takes of receives are entries of the order of their connection.
use Rattle.std.specs.Prelude.{ℕ, ◌≡◌, ◌+◌, ◌<◌, ◌≤◌, ◌^◌, ◌==◌, if◌then◌else◌, List, [], ◌∷◌, ◌++◌, Contains, map, slice_get}
use Rattle.std.specs.Prelude.{Some, true}
use Rattle.std.specs.List.{All, AllZip}
use Rattle.iox_lanes_machine.specs.QueuesSteps.Order.{pop_call, takes}
use Rattle.iox_lanes_machine.specs.QueuesSteps.declared.order.Placed.{Placed}
use Rattle.iox_lanes_machine.specs.QueuesSteps.declared.order.PopAnswer.{PopAnswer}
use Rattle.iox_lanes_machine.specs.QueuesSteps.declared.order.PopCall.{PopCall}
use Rattle.iox_lanes_machine.specs.LanesParties.declared.call.Call.TheVariants as call
use Rattle.iox_lanes_machine.specs.LanesParties.declared.call.CallName.TheVariants as name
use Rattle.iox_lanes_machine.specs.LanesParties.declared.call.Entry.{Entry}
use Rattle.iox_lanes_machine.specs.LanesParties.declared.call.FinishedCall.{FinishedCall}
use Rattle.iox_lanes_machine.specs.LanesParties.declared.call.Move.{Move}
use Rattle.iox_lanes_machine.specs.LanesParties.declared.call.Move.TheVariants.{Begin}
use Rattle.iox_lanes_machine.specs.LanesParties.declared.call.Party.{Party}
use Rattle.iox_lanes_machine.specs.LanesParties.declared.call.Party.TheVariants.{Subscriber}
use Rattle.iox_lanes_machine.specs.Links.{LinkState}
use Rattle.iox_lanes_machine.specs.Paces.{led}
use Rattle.iox_lanes_machine.specs.Receipts.{is_receiver}
use Rattle.iox_lanes_machine.specs.WholeReads.{CameTo}
use Rattle.iox_lanes_machine.specs.World.{World, fits, happens}
use Rattle.iox_lanes_laws.specs.FinishedReceives.{WasReceived}
use Rattle.iox_lanes_laws.specs.Takes.{PlacedTake, own_takes, step_takes}

-- The answers of the takes and looks at this connection.
abbrev pub answers_there : ℕ → List PlacedTake → List PopAnswer
answers_there connection [] = []
answers_there connection (take ∷ more) =
    (if take.connection == connection then take.answer ∷ [] else []) ++ answers_there connection more

-- The take or look of an order has this answer, and its moment is at least `low` and less than `high`.
pub record StandsBetween (low high : ℕ) (take : PopCall) (answer : PopAnswer) : Type 0 where
  pub answered : take.answer ≡ answer
  pub begun : low ≤ take.first
  pub not_yet : take.first < high

-- A step that fits adds to the order of a connection exactly the takes and looks that the connection's subscriber makes there by this step,
-- at the moment of the step; none if another party makes it.
abbrev pub StepsTakeNow : Type 0
StepsTakeNow = (m : World) → CameTo m → (party : Party) (step : Move) → fits m party step ≡ true
    → (connection : ℕ) (link : LinkState) (before : List Placed) → slice_get m.links connection ≡ Some link
    → slice_get m.orders connection ≡ Some before
    → (after : List Placed) × (slice_get (happens m party step).orders connection ≡ Some after)
    × (takes after ≡ takes before ++ map (pop_call m.moments m.moments)
    (answers_there connection (if is_receiver party link.subscriber then step_takes m party step else [])))

-- What was added to an order after the entries of `before`: exactly the takes and looks of `own` at this connection, each once and one
-- after the other, from the moment `low` on and before the next moment of these lanes.
pub record TakesFollow (connection low : ℕ) (before : List Placed) (own : List PlacedTake) (n : World) : Type 0 where
  pub order : List Placed
  pub got : slice_get n.orders connection ≡ Some order
  pub new : List PopCall
  pub more : takes order ≡ takes before ++ new
  pub stand : AllZip (StandsBetween low n.moments) new (answers_there connection own)

-- For lanes that came somewhere by steps, and whatever entries follow: the takes and looks of a connection's order are those before the
-- entries, followed by exactly those that its subscriber made there by these entries, in their order, from the first of their moments on
-- and before the next one. This holds as long as at most 2^63 steps were made.
abbrev pub TakesStandInOrder : Type 0
TakesStandInOrder = (m : World) → CameTo m → (entries : List Entry) → (led m entries).moments ≤ 2 ^ 63
    → (connection : ℕ) (link : LinkState) (before : List Placed) → slice_get m.links connection ≡ Some link
    → slice_get m.orders connection ≡ Some before
    → TakesFollow connection m.moments before (own_takes (λ party. is_receiver party link.subscriber) m entries) (led m entries)

-- The takes and looks of an order are those up to the first moment of a call, then those that the call made at this connection, whose
-- moments are between its first and its last one, and then those from its last moment on.
pub record StandInside (connection first last : ℕ) (order : List Placed) (own : List PlacedTake) : Type 0 where
  pub earlier : List PopCall
  pub here : List PopCall
  pub later : List PopCall
  pub all : takes order ≡ earlier ++ here ++ later
  pub before : All (λ take. take.first ≤ first) earlier
  pub inside : AllZip (StandsBetween (first + 1) last) here (answers_there connection own)
  pub behind : All (λ take. last ≤ take.first) later

-- The receive that ended has what it took in the order of each connection of its subscriber, within the time of the call.
pub record StandsInOrders (m : World) (ended : FinishedCall) : Type 0 where
  pub was : WasReceived m ended
  pub stands : (connection : ℕ) (link : LinkState) (order : List Placed) → slice_get m.links connection ≡ Some link
      → link.subscriber ≡ was.place → slice_get m.orders connection ≡ Some order
      → StandInside connection ended.first ended.last order
      (own_takes (λ party. is_receiver party was.place) (happens was.before (Subscriber was.place) (Begin call.Receive)) was.during)

-- For lanes that came somewhere by steps, each receive that ended has what it took in the orders, within the time of the call
-- (`StandsInOrders`), as long as at most 2^63 steps were made.
abbrev pub ReceivesStandInOrder : Type 0
ReceivesStandInOrder = (m : World) → CameTo m → m.moments ≤ 2 ^ 63 → (ended : FinishedCall) → Contains m.finished ended
    → ended.call ≡ name.Receive → StandsInOrders m ended
