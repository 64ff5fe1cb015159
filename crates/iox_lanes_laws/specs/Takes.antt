-- What a receive took at its connections, in any run of lanes.
use Rattle.std.specs.Prelude.{ℕ, ◌≡◌, ◌+◌, ◌&&◌, ◌||◌, Bool, true, false, if◌then◌else◌, List, [], ◌∷◌, ◌++◌, Option, Some, None}
use Rattle.iox_queues_steps.specs.Order.{take_values}
use Rattle.iox_queues_steps.specs.Ends.{pop_looks}
use Rattle.iox_queues_steps.specs.declared.order.PopAnswer.{PopAnswer}
use Rattle.iox_queues_steps.specs.declared.order.PopAnswer.TheVariants.{Got, Saw}
use Rattle.iox_queues_steps.specs.declared.rings.ends.Pop.{Pop}
use Rattle.iox_lanes_base.specs.Subscribing.{is_full_at, nothing_received}
use Rattle.iox_lanes_base.specs.declared.calls.route.Route.{Route}
use Rattle.iox_lanes_base.specs.declared.calls.subscriber.Receipt.TheVariants as receipt
use Rattle.iox_lanes_base.specs.declared.calls.subscriber.SubscriberCall.{SubscriberCall}
use Rattle.iox_lanes_base.specs.declared.calls.subscriber.SubscriberCall.TheVariants.{Receiving, Received}
use Rattle.iox_lanes_machine.specs.LanesParties.Parties.{SubscriberLaneState}
use Rattle.iox_lanes_machine.specs.LanesParties.declared.call.Call.TheVariants as call
use Rattle.iox_lanes_machine.specs.LanesParties.declared.call.Entry.{Entry}
use Rattle.iox_lanes_machine.specs.LanesParties.declared.call.Move.{Move}
use Rattle.iox_lanes_machine.specs.LanesParties.declared.call.Move.TheVariants.{Begin, GoOn}
use Rattle.iox_lanes_machine.specs.LanesParties.declared.call.Party.{Party}
use Rattle.iox_lanes_machine.specs.LanesParties.declared.call.Party.TheVariants.{Subscriber}
use Rattle.iox_lanes_machine.specs.Paces.{after_entry}
use Rattle.iox_lanes_machine.specs.Receipts.{is_receiver}
use Rattle.iox_lanes_machine.specs.WholeReads.{CameTo}
use Rattle.iox_lanes_machine.specs.World.{World, acts_at, connection_at, fits, happens}
use Rattle.iox_lanes_laws.specs.Accesses.{IsSubscriberCall}

-- A take or a look, and its connection.
pub record PlacedTake : Type 0 where
  pub connection : ℕ
  pub answer : PopAnswer

-- The takes and looks with these answers at this connection.
abbrev pub placed_takes : ℕ → List PopAnswer → List PlacedTake
placed_takes connection [] = []
placed_takes connection (answer ∷ answers) = record { connection = connection; answer = answer } ∷ placed_takes connection answers

-- The takes and looks with these answers, if they have a connection.
abbrev pub takes_on : Option ℕ → List PopAnswer → List PlacedTake
takes_on None answers = []
takes_on (Some connection) answers = placed_takes connection answers

-- The takes and looks that a move adds to an order; the beginning of a call adds none.
abbrev pub step_takes : World → Party → Move → List PlacedTake
step_takes m party (Begin c) = []
step_takes m party GoOn = takes_on (connection_at m party) (take_values (acts_at m party))

-- The takes and looks of the entries that are made and whose party is selected, in their order.
abbrev pub own_takes : (Party → Bool) → World → List Entry → List PlacedTake
own_takes own m [] = []
own_takes own m (entry ∷ entries) =
    (if fits m entry.party entry.step && own entry.party then step_takes m entry.party entry.step else [])
    ++ own_takes own (after_entry (fits m entry.party entry.step) m entry) entries

-- The receive is at this connection, where it only looks if the maximum number of samples is borrowed.
pub record IsAtVisit (place : ℕ) (route : Route) (full waits : Bool) (c : SubscriberCall) : Type 0 where
  pub pop : Pop
  pub looks : pop_looks pop ≡ full
  pub stage : c ≡ Receiving place route pop waits

-- A take that gave a message is the last one, and the receive is about to answer it. A take that gave none was made while fewer samples
-- were borrowed than the maximum, and a look while the maximum was borrowed; then the receive goes on.
abbrev pub Took : ℕ → Bool → Bool → PopAnswer → List PlacedTake → SubscriberCall → (Bool → Type 0) → Type 0
Took place full waits (Got (Some slot)) more c rest = (full ≡ false) × (more ≡ []) × (c ≡ Received (receipt.Taken place slot))
Took place full waits (Got None) more c rest = (full ≡ false) × rest waits
Took place full waits (Saw some) more c rest = (full ≡ true) × rest (waits || some)

-- What a receive took from this place on, and its stage after that: one take or look at each connection, in their order, up to the first
-- that gave a message. After the last connection it is about to answer `ExceedsMaxBorrows` if a look saw a message, and `Nothing`
-- otherwise.
abbrev pub Visits : List ℕ → ℕ → ℕ → Bool → List Route → List PlacedTake → SubscriberCall → Type 0
Visits borrowed most place waits [] [] c = c ≡ Received (nothing_received waits)
Visits borrowed most place waits [] (take ∷ takes) c = ⊥
Visits borrowed most place waits (route ∷ routes) [] c = IsAtVisit place route (is_full_at borrowed most place) waits c
Visits borrowed most place waits (route ∷ routes) (take ∷ takes) c =
    (take.connection ≡ route.connection)
    × Took place (is_full_at borrowed most place) waits take.answer takes c (λ seen. Visits borrowed most (place + 1) seen routes takes c)

-- A receive that is still in progress, in any run, took or looked at its connections since it began as `Visits` says, and these takes say
-- what it is about to answer. This holds for fewer than 2^64 - 1 connections, as long as at most 2^63 steps were made.
abbrev pub ReceivesTakeInOrder : Type 0
ReceivesTakeInOrder = (m : World) → CameTo m → (place : ℕ) (lane : SubscriberLaneState) (entries : List Entry)
    → (is : IsSubscriberCall m place lane call.Receive entries)
    → Visits lane.port.borrowed lane.port.most_borrowed 0 false lane.port.routes
    (own_takes (λ party. is_receiver party place) (happens m (Subscriber place) (Begin call.Receive)) entries) is.inside.lane.port.call
