-- How little a step touches: one party, at most one shared word, and at most one call that ends.
use Rattle.std.specs.Prelude.{ℕ, ◌≡◌, ◌+◌, length, slice_get, Option, Some, None}
use Rattle.iox_lanes_machine.specs.QueuesSteps.declared.schedule.Stepped.{Stepped}
use Rattle.iox_lanes_machine.specs.QueuesSteps.declared.schedule.Stepped.TheVariants as stepped
use Rattle.iox_lanes_machine.specs.LanesBase.Numbers.{IsWord}
use Rattle.iox_lanes_machine.specs.LanesBase.Table.{TableWords, held_by}
use Rattle.iox_lanes_machine.specs.LanesBase.declared.words.access.SharedAccess.{SharedAccess}
use Rattle.iox_lanes_machine.specs.LanesBase.declared.words.access.SharedAccess.TheVariants.{Load, Store, Exchange, Local}
use Rattle.iox_lanes_machine.specs.LanesBase.declared.words.word.SharedWord.{SharedWord}
use Rattle.iox_lanes_machine.specs.LanesBase.Publishing.{publisher_next}
use Rattle.iox_lanes_machine.specs.LanesBase.Subscribing.{subscriber_next}
use Rattle.iox_lanes_machine.specs.LanesParties.Parties.{PublisherLaneState, SubscriberLaneState}
use Rattle.iox_lanes_machine.specs.World.{World, connection_at}
use Rattle.iox_lanes_machine.specs.LanesParties.declared.call.Move.{Move}
use Rattle.iox_lanes_machine.specs.LanesParties.declared.call.Move.TheVariants.{Begin, GoOn}
use Rattle.iox_lanes_machine.specs.LanesParties.declared.call.Party.{Party}
use Rattle.iox_lanes_machine.specs.LanesParties.declared.call.Party.TheVariants.{Publisher, Subscriber}

-- The next access of a publisher; a local step if there is no such publisher.
abbrev pub publisher_access : Option PublisherLaneState → SharedAccess
publisher_access None = Local
publisher_access (Some lane) = publisher_next lane.port.call

-- The next access of a subscriber; a local step if there is no such subscriber.
abbrev pub subscriber_access : Option SubscriberLaneState → SharedAccess
subscriber_access None = Local
subscriber_access (Some lane) = subscriber_next lane.port.call

-- The next access of a party.
abbrev pub party_access : World → Party → SharedAccess
party_access m (Publisher place) = publisher_access (slice_get m.publishers place)
party_access m (Subscriber place) = subscriber_access (slice_get m.subscribers place)

-- The access of a step; a beginning makes a local step.
abbrev pub access_of : World → Party → Move → SharedAccess
access_of m party (Begin call) = Local
access_of m party GoOn = party_access m party

-- The access may change this word.
abbrev pub MayChange : SharedAccess → SharedWord → Type 0
MayChange (Load touched) word = ⊥
MayChange (Store touched value) word = word ≡ touched
MayChange (Exchange touched old new) word = word ≡ touched
MayChange Local word = ⊥

-- Every word of the service that the access may not change has the same value after it.
abbrev pub OthersHold : TableWords → SharedAccess → TableWords → Type 0
OthersHold before access after = (word : SharedWord) → IsWord before.sizes word → (MayChange access word → ⊥)
    → held_by after word ≡ held_by before word

-- Every other party is as it was.
abbrev pub OthersStay : World → Party → World → Type 0
OthersStay m (Publisher place) n =
    (n.subscribers ≡ m.subscribers) × ((other : ℕ) → (other ≡ place → ⊥) → slice_get n.publishers other ≡ slice_get m.publishers other)
OthersStay m (Subscriber place) n =
    (n.publishers ≡ m.publishers) × ((other : ℕ) → (other ≡ place → ⊥) → slice_get n.subscribers other ≡ slice_get m.subscribers other)

-- The number of calls that ended: one if the step was the last one of a call, otherwise none.
abbrev pub more_ended : Stepped → ℕ
more_ended stepped.Went = 0
more_ended stepped.Finished = 1
more_ended stepped.Skipped = 0
more_ended stepped.NoMemory = 0

-- The connection whose order may grow by the step; none if a call begins.
abbrev pub grows_at : World → Party → Move → Option ℕ
grows_at m party (Begin call) = None
grows_at m party GoOn = connection_at m party

-- The orders of all other connections are as they were.
abbrev pub OrdersStay : World → Option ℕ → World → Type 0
OrdersStay m grown n = (other : ℕ) → (grown ≡ Some other → ⊥) → slice_get n.orders other ≡ slice_get m.orders other

-- A step changes no other party, no other connection's order, and no other word than that of its party's next access. One more call ended
-- exactly if the step was the last one of a call.
pub record StaysApart (m : World) (party : Party) (step : Move) (answer : Stepped) (n : World) : Type 0 where
  pub words : OthersHold m.table (access_of m party step) n.table
  pub parties : OthersStay m party n
  pub orders : OrdersStay m (grows_at m party step) n
  pub calls : length n.finished ≡ length m.finished + more_ended answer
