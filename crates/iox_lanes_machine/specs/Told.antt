-- What a step reports of its party's calls: which call it began, and at which moment; which call it ended, with which answer, and when.
use Rattle.std.specs.Prelude.{ℕ, ◌≡◌, [], ◌∷◌, ◌++◌, slice_get, Option, Some, None}
use Rattle.iox_lanes_machine.specs.QueuesSteps.Access.{successor}
use Rattle.iox_lanes_machine.specs.QueuesSteps.declared.schedule.Stepped.{Stepped}
use Rattle.iox_lanes_machine.specs.QueuesSteps.declared.schedule.Stepped.TheVariants as stepped
use Rattle.iox_lanes_machine.specs.LanesParties.Parties.{PublisherLaneState, SubscriberLaneState, name_of}
use Rattle.iox_lanes_machine.specs.LanesParties.declared.call.CallName.{CallName}
use Rattle.iox_lanes_machine.specs.LanesParties.declared.call.FinishedCall.{FinishedCall}
use Rattle.iox_lanes_machine.specs.LanesParties.declared.call.Move.{Move}
use Rattle.iox_lanes_machine.specs.LanesParties.declared.call.Move.TheVariants.{Begin, GoOn}
use Rattle.iox_lanes_machine.specs.LanesParties.declared.call.Party.{Party}
use Rattle.iox_lanes_machine.specs.LanesParties.declared.call.Party.TheVariants.{Publisher, Subscriber}
use Rattle.iox_lanes_machine.specs.World.{World}

-- A call that was asked for, and the moment of its beginning.
pub record BegunCall : Type 0 where
  pub call : CallName
  pub first : ℕ

-- The record of this call and moment.
abbrev pub begun : CallName → ℕ → BegunCall
begun call first = record { call = call; first = first }

-- The call that a publisher began last.
abbrev pub publisher_call : Option PublisherLaneState → Option BegunCall
publisher_call None = None
publisher_call (Some lane) = Some (begun lane.call lane.first)

-- The call that a subscriber began last.
abbrev pub subscriber_call : Option SubscriberLaneState → Option BegunCall
subscriber_call None = None
subscriber_call (Some lane) = Some (begun lane.call lane.first)

-- The call that a party began last.
abbrev pub call_of : World → Party → Option BegunCall
call_of m (Publisher place) = publisher_call (slice_get m.publishers place)
call_of m (Subscriber place) = subscriber_call (slice_get m.subscribers place)

-- The call that the party begins is the one that was asked for, and its first moment is now; a step inside a call doesn't change it.
abbrev pub CallTold : World → Party → Move → World → Type 0
CallTold m party (Begin c) n = call_of n party ≡ Some (begun (name_of c) m.moments)
CallTold m party GoOn n = call_of n party ≡ call_of m party

-- One more call ended: the one that the party began last, at the present moment.
pub record EndTold (m : World) (party : Party) (n : World) : Type 0 where
  pub call : FinishedCall
  pub more : n.finished ≡ m.finished ++ call ∷ []
  pub own : call.party ≡ party
  pub of : call_of m party ≡ Some (begun call.call call.first)
  pub last : call.last ≡ m.moments

-- What a step reports; moments count the steps that were made.
abbrev pub Told : World → Party → Move → Stepped → World → Type 0
Told m party step stepped.Went n = CallTold m party step n × (n.moments ≡ successor m.moments) × (n.finished ≡ m.finished)
Told m party step stepped.Finished n = CallTold m party step n × (n.moments ≡ successor m.moments) × EndTold m party n
Told m party step stepped.Skipped n = n ≡ m
Told m party step stepped.NoMemory n = n ≡ m
