-- Lanes as a machine: all shared words of a service, its publishers and subscribers, and what each step does.
use Rattle.std.specs.Prelude.{ℕ, ◌≡◌, ◌+◌, ◌<◌, ◌⊎◌, Bool, true, false, List, [], ◌∷◌, ◌++◌, length, set, slice_get, Option, Some, None}
use Rattle.iox_lanes_machine.specs.QueuesSteps.Access.{successor}
use Rattle.iox_lanes_machine.specs.QueuesSteps.Order.{at}
use Rattle.iox_lanes_machine.specs.QueuesSteps.declared.access.Word.TheVariants.{Read}
use Rattle.iox_lanes_machine.specs.QueuesSteps.declared.order.Act.{Act}
use Rattle.iox_lanes_machine.specs.QueuesSteps.declared.order.Placed.{Placed}
use Rattle.iox_lanes_machine.specs.QueuesSteps.declared.schedule.Stepped.{Stepped}
use Rattle.iox_lanes_machine.specs.QueuesSteps.declared.schedule.Stepped.TheVariants as stepped
use Rattle.iox_lanes_machine.specs.QueuesSteps.Ends.{placed_by_push, placed_by_pop}
use Rattle.iox_lanes_machine.specs.QueuesSteps.declared.rings.ends.RingKind.{RingKind}
use Rattle.iox_lanes_machine.specs.QueuesSteps.declared.rings.ends.Push.{Push}
use Rattle.iox_lanes_machine.specs.LanesBase.Table.{TableWords, held_by, shared_answer, after_shared}
use Rattle.iox_lanes_machine.specs.LanesBase.Publishing.{publisher_next, publisher_is_over}
use Rattle.iox_lanes_machine.specs.LanesBase.Subscribing.{subscriber_next, subscriber_is_over}
use Rattle.iox_lanes_machine.specs.LanesBase.declared.calls.publisher.PublisherCall.{PublisherCall}
use Rattle.iox_lanes_machine.specs.LanesBase.declared.calls.publisher.PublisherCall.TheVariants as publishing
use Rattle.iox_lanes_machine.specs.LanesBase.declared.calls.subscriber.SubscriberCall.{SubscriberCall}
use Rattle.iox_lanes_machine.specs.LanesBase.declared.calls.subscriber.SubscriberCall.TheVariants as subscribing
use Rattle.iox_lanes_machine.specs.LanesParties.Parties.{PublisherLaneState, SubscriberLaneState, publisher_fits, publisher_begun}
use Rattle.iox_lanes_machine.specs.LanesParties.Parties.{publisher_after, publisher_answer, subscriber_fits, subscriber_begun}
use Rattle.iox_lanes_machine.specs.LanesParties.Parties.{subscriber_after, subscriber_answer, words_read}
use Rattle.iox_lanes_machine.specs.LanesParties.declared.call.Answer.{Answer}
use Rattle.iox_lanes_machine.specs.LanesParties.declared.call.Call.{Call}
use Rattle.iox_lanes_machine.specs.LanesParties.declared.call.CallName.{CallName}
use Rattle.iox_lanes_machine.specs.LanesParties.declared.call.Entry.{Entry}
use Rattle.iox_lanes_machine.specs.LanesParties.declared.call.FinishedCall.{FinishedCall}
use Rattle.iox_lanes_machine.specs.LanesParties.declared.call.Move.{Move}
use Rattle.iox_lanes_machine.specs.LanesParties.declared.call.Move.TheVariants.{Begin, GoOn}
use Rattle.iox_lanes_machine.specs.LanesParties.declared.call.Party.{Party}
use Rattle.iox_lanes_machine.specs.LanesParties.declared.call.Party.TheVariants.{Publisher, Subscriber}
use Rattle.iox_lanes_machine.specs.Rings.{sent_word, ring_in, push_on}
use Rattle.iox_lanes_machine.specs.Links.{LinkState}

-- The state of lanes: the shared words, the links of the connections, the parties, for each connection the order of its puts, takes and
-- looks, how many steps were made, the calls that ended, and the words that all finished reads loaded, one read after the other.
pub record World : Type 0 where
  pub table : TableWords
  pub links : List LinkState
  pub publishers : List PublisherLaneState
  pub subscribers : List SubscriberLaneState
  pub orders : List (List Placed)
  pub moments : ℕ
  pub finished : List FinishedCall
  pub read : List ℕ

-- Whether there is a publisher, and it may make this move.
abbrev pub publisher_fits_at : Option PublisherLaneState → Move → Bool
publisher_fits_at None step = false
publisher_fits_at (Some lane) step = publisher_fits lane step

-- Whether there is a subscriber, and it may make this move.
abbrev pub subscriber_fits_at : Option SubscriberLaneState → Move → Bool
subscriber_fits_at None step = false
subscriber_fits_at (Some lane) step = subscriber_fits lane step

-- Whether the party exists, and may make this move.
abbrev pub fits : World → Party → Move → Bool
fits m (Publisher place) step = publisher_fits_at (slice_get m.publishers place) step
fits m (Subscriber place) step = subscriber_fits_at (slice_get m.subscribers place) step

-- Whether there is a publisher, and its next step is the last one of its call.
abbrev pub publisher_ends_at : Option PublisherLaneState → Bool
publisher_ends_at None = false
publisher_ends_at (Some lane) = publisher_is_over lane.port.call

-- Whether there is a subscriber, and its next step is the last one of its call.
abbrev pub subscriber_ends_at : Option SubscriberLaneState → Bool
subscriber_ends_at None = false
subscriber_ends_at (Some lane) = subscriber_is_over lane.port.call

-- Whether the party exists, and its next step is the last one of its call.
abbrev pub party_ends : World → Party → Bool
party_ends m (Publisher place) = publisher_ends_at (slice_get m.publishers place)
party_ends m (Subscriber place) = subscriber_ends_at (slice_get m.subscribers place)

-- Whether the move is the last step of a call.
abbrev pub ends : World → Party → Move → Bool
ends m party (Begin call) = false
ends m party GoOn = party_ends m party

-- The words of a subscriber's read whose next step is its last one; otherwise none.
abbrev pub words_ending_at : Option SubscriberLaneState → List ℕ
words_ending_at None = []
words_ending_at (Some lane) = words_read lane.port.call lane.port.words

-- The words of a party's read whose next step is its last one; otherwise none.
abbrev pub words_ending : World → Party → List ℕ
words_ending m (Publisher place) = []
words_ending m (Subscriber place) = words_ending_at (slice_get m.subscribers place)

-- The record of a call that ended, if it has an answer.
abbrev pub ended : Party → CallName → ℕ → ℕ → Option Answer → List FinishedCall
ended party call first last None = []
ended party call first last (Some answer) =
    record { party = party; call = call; answer = answer; first = first; last = last } ∷ []

-- The lanes after this publisher began a call, if there is one.
abbrev pub publisher_begins : World → ℕ → Call → Option PublisherLaneState → World
publisher_begins m place call None = m
publisher_begins m place call (Some lane) = record m {
  publishers = set m.publishers place (publisher_begun m.moments call lane);
  moments = successor m.moments;
}

-- The lanes after this subscriber began a call, if there is one.
abbrev pub subscriber_begins : World → ℕ → Call → Option SubscriberLaneState → World
subscriber_begins m place call None = m
subscriber_begins m place call (Some lane) = record m {
  subscribers = set m.subscribers place (subscriber_begun m.moments call lane);
  moments = successor m.moments;
}

-- The answer of a publisher's next access.
abbrev pub publisher_given : TableWords → PublisherLaneState → ℕ
publisher_given table lane = shared_answer table (publisher_next lane.port.call)

-- The answer of a subscriber's next access.
abbrev pub subscriber_given : TableWords → SubscriberLaneState → ℕ
subscriber_given table lane = shared_answer table (subscriber_next lane.port.call)

-- The answer of a publisher's call, if its next step is its last one.
abbrev pub publisher_ending : TableWords → PublisherLaneState → Option Answer
publisher_ending table lane =
    publisher_answer lane.fails lane.port.call (publisher_after (publisher_given table lane) lane).port.book.answer

-- The lanes after this publisher, if there is one, made its next access and took the answer.
abbrev pub publisher_goes_on : World → ℕ → Option PublisherLaneState → World
publisher_goes_on m place None = m
publisher_goes_on m place (Some lane) = record m {
  table = after_shared m.table (publisher_next lane.port.call);
  publishers = set m.publishers place (publisher_after (publisher_given m.table lane) lane);
  finished = m.finished ++ ended (Publisher place) lane.call lane.first m.moments (publisher_ending m.table lane);
  moments = successor m.moments;
}

-- The lanes after this subscriber, if there is one, made its next access and took the answer.
abbrev pub subscriber_goes_on : World → ℕ → Option SubscriberLaneState → World
subscriber_goes_on m place None = m
subscriber_goes_on m place (Some lane) = record m {
  table = after_shared m.table (subscriber_next lane.port.call);
  subscribers = set m.subscribers place (subscriber_after (subscriber_given m.table lane) lane);
  finished = m.finished ++ ended (Subscriber place) lane.call lane.first m.moments (subscriber_answer lane.port.call (length m.read));
  read = m.read ++ words_read lane.port.call lane.port.words;
  moments = successor m.moments;
}

-- The stage of a publisher's call; idle if there is no publisher.
abbrev pub publisher_stage : Option PublisherLaneState → PublisherCall
publisher_stage None = publishing.Idle
publisher_stage (Some lane) = lane.port.call

-- The stage of a subscriber's call; idle if there is no subscriber.
abbrev pub subscriber_stage : Option SubscriberLaneState → SubscriberCall
subscriber_stage None = subscribing.Idle
subscriber_stage (Some lane) = lane.port.call

-- The stage of the call of a link's publisher.
abbrev pub sender_stage : World → Option LinkState → PublisherCall
sender_stage m None = publishing.Idle
sender_stage m (Some link) = publisher_stage (slice_get m.publishers link.publisher)

-- The push that is in progress at a connection.
abbrev pub push_at : World → ℕ → RingKind → Push
push_at m connection kind = push_on connection kind (sender_stage m (slice_get m.links connection))

-- The connection to which a publisher pushes, if it does.
abbrev pub pushes_to : PublisherCall → Option ℕ
pushes_to publishing.Idle = None
pushes_to (publishing.LoanReclaims place route pop) = None
pushes_to publishing.Lending = None
pushes_to (publishing.Writing slot word value) = None
pushes_to (publishing.Written slot) = None
pushes_to (publishing.Heading slot word value) = None
pushes_to (publishing.Remembering slot) = None
pushes_to (publishing.SendReclaims slot place route pop) = None
pushes_to (publishing.Pushing slot place route push delivery) = Some route.connection
pushes_to (publishing.Sent slot delivery) = None
pushes_to (publishing.Dropping slot) = None

-- The connection from which a subscriber pops, or where it looks, if it does.
abbrev pub pops_from : SubscriberCall → Option ℕ
pops_from subscribing.Idle = None
pops_from (subscribing.Receiving place route pop waits) = Some route.connection
pops_from (subscribing.Received receipt) = None
pops_from (subscribing.Reading slot word extent) = None
pops_from (subscribing.WasRead slot) = None
pops_from (subscribing.Releasing place route push) = None
pops_from (subscribing.Released done) = None

-- The puts that the next step of a publisher adds to an order.
abbrev pub push_acts : TableWords → PublisherCall → List Act
push_acts table publishing.Idle = []
push_acts table (publishing.LoanReclaims place route pop) = []
push_acts table publishing.Lending = []
push_acts table (publishing.Writing slot word value) = []
push_acts table (publishing.Written slot) = []
push_acts table (publishing.Heading slot word value) = []
push_acts table (publishing.Remembering slot) = []
push_acts table (publishing.SendReclaims slot place route pop) = []
push_acts table (publishing.Pushing slot place route push delivery) =
    placed_by_push route.limit (held_by table (sent_word route.connection Read)) push
push_acts table (publishing.Sent slot delivery) = []
push_acts table (publishing.Dropping slot) = []

-- The take or look that the next step of a subscriber adds to an order, followed by the put that waited for that step.
abbrev pub pop_acts : World → SubscriberCall → List Act
pop_acts m subscribing.Idle = []
pop_acts m (subscribing.Receiving place route pop waits) =
    placed_by_pop (ring_in m.table route.connection route.submission_cells) (push_at m route.connection route.kind) pop
pop_acts m (subscribing.Received receipt) = []
pop_acts m (subscribing.Reading slot word extent) = []
pop_acts m (subscribing.WasRead slot) = []
pop_acts m (subscribing.Releasing place route push) = []
pop_acts m (subscribing.Released done) = []

-- The connection to which a party pushes, from which it pops, or where it looks, if it does.
abbrev pub connection_at : World → Party → Option ℕ
connection_at m (Publisher place) = pushes_to (publisher_stage (slice_get m.publishers place))
connection_at m (Subscriber place) = pops_from (subscriber_stage (slice_get m.subscribers place))

-- What the next step of a party adds to an order.
abbrev pub acts_at : World → Party → List Act
acts_at m (Publisher place) = push_acts m.table (publisher_stage (slice_get m.publishers place))
acts_at m (Subscriber place) = pop_acts m (subscriber_stage (slice_get m.subscribers place))

-- The orders after these acts were added to the order of this connection, if there is one.
abbrev pub added_to : List (List Placed) → ℕ → ℕ → List Act → Option (List Placed) → List (List Placed)
added_to orders connection moment acts None = orders
added_to orders connection moment acts (Some order) = set orders connection (order ++ at moment acts)

-- The orders after these acts were added to the order of the connection, if there is one.
abbrev pub added : List (List Placed) → Option ℕ → ℕ → List Act → List (List Placed)
added orders None moment acts = orders
added orders (Some connection) moment acts = added_to orders connection moment acts (slice_get orders connection)

-- The lanes after the acts of the party's next step were added to the order.
abbrev pub placed : World → Party → World
placed m party = record m { orders = added m.orders (connection_at m party) m.moments (acts_at m party) }

-- The lanes after a party made its next access.
abbrev pub goes_on : World → Party → World
goes_on m (Publisher place) = publisher_goes_on m place (slice_get m.publishers place)
goes_on m (Subscriber place) = subscriber_goes_on m place (slice_get m.subscribers place)

-- The lanes after a step that fits.
abbrev pub happens : World → Party → Move → World
happens m (Publisher place) (Begin call) = publisher_begins m place call (slice_get m.publishers place)
happens m (Subscriber place) (Begin call) = subscriber_begins m place call (slice_get m.subscribers place)
happens m (Publisher place) GoOn = goes_on (placed m (Publisher place)) (Publisher place)
happens m (Subscriber place) GoOn = goes_on (placed m (Subscriber place)) (Subscriber place)

-- The step records something: a call ends, or an act is added to an order.
abbrev pub Records : World → Party → Move → Type 0
Records m party (Begin call) = ⊥
Records m party GoOn = (party_ends m party ≡ true) ⊎ (0 < length (acts_at m party))

-- The answer of a step, and what the step leaves; a step may run out of memory only if it records something.
abbrev pub StepsTo : World → Party → Move → Stepped → World → Type 0
StepsTo m party step stepped.Went n = (fits m party step ≡ true) × (ends m party step ≡ false) × (n ≡ happens m party step)
StepsTo m party step stepped.Finished n = (fits m party step ≡ true) × (ends m party step ≡ true) × (n ≡ happens m party step)
StepsTo m party step stepped.Skipped n = (fits m party step ≡ false) × (n ≡ m)
StepsTo m party step stepped.NoMemory n = (fits m party step ≡ true) × Records m party step × (n ≡ m)

-- The lanes after a list of entries, of which `made` were made, one after the other. An entry that doesn't fit is skipped, and so is one
-- that finds no memory for what it records.
abbrev pub RunsTo : World → List Entry → ℕ → World → Type 0
RunsTo m [] made n = (made ≡ 0) × (n ≡ m)
RunsTo m (entry ∷ entries) made n =
    ((fits m entry.party entry.step ≡ false) × RunsTo m entries made n)
    ⊎ (((fits m entry.party entry.step ≡ true)
    × ((fewer : ℕ) × (made ≡ fewer + 1) × RunsTo (happens m entry.party entry.step) entries fewer n))
    ⊎ ((fits m entry.party entry.step ≡ true) × Records m entry.party entry.step × RunsTo m entries made n))
