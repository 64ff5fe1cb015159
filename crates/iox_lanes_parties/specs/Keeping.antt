-- A subscriber with the call that it is in, and what it keeps for itself.
use Rattle.std.specs.Prelude.{ℕ, List, length, replicate, Option, None, Some, false}
use Rattle.std.specs.List.{swap}
use Rattle.iox_lanes_base.specs.QueuesSteps.declared.rings.refusing.push.Push.TheVariants.{Begun}
use Rattle.iox_lanes_base.specs.Subscribing.{subscriber_take, subscriber_change, receive_at, read_at}
use Rattle.iox_lanes_base.specs.Routes.{rerouted}
use Rattle.iox_lanes_base.specs.declared.calls.route.Route.{Route}
use Rattle.iox_lanes_base.specs.declared.calls.subscriber.SlotExtent.{SlotExtent}
use Rattle.iox_lanes_base.specs.declared.calls.subscriber.SubscriberCall.{SubscriberCall}
use Rattle.iox_lanes_base.specs.declared.calls.subscriber.SubscriberCall.TheVariants.{Idle, Releasing}
use Rattle.iox_lanes_base.specs.declared.calls.subscriber.SubscriberChange.{SubscriberChange}
use Rattle.iox_lanes_base.specs.declared.calls.subscriber.SubscriberChange.TheVariants.{Nothing, Borrow, Note, GiveBack}
pub use Rattle.iox_lanes_parties.specs.PublisherKeeping.{put_at, counted_up, counted_down}

-- A subscriber. `routes` are its connections; `borrowed` has the number of samples that it borrows from each of them; `samples` has for
-- each slot the place of the connection that it is borrowed from; and `words` is what it read last.
pub record SubscriberState : Type 0 where
  pub routes : List Route
  pub extent : SlotExtent
  pub most_borrowed : ℕ
  pub borrowed : List ℕ
  pub samples : List (Option ℕ)
  pub words : List ℕ
  pub call : SubscriberCall

-- A subscriber that borrows nothing, and is in no call.
abbrev pub new_subscriber : List Route → ℕ → SlotExtent → ℕ → ℕ → SubscriberState
new_subscriber routes slots extent words most = record {
  routes = routes;
  extent = extent;
  most_borrowed = most;
  borrowed = replicate (length routes) 0;
  samples = replicate slots None;
  words = replicate words 0;
  call = Idle;
}

-- The subscriber after its connection with the number of this route was replaced by this route.
abbrev pub met_anew : Route → SubscriberState → SubscriberState
met_anew route state = record state { routes = rerouted route state.routes }

-- The subscriber after the connections at two places were swapped.
abbrev pub swapped : ℕ → ℕ → SubscriberState → SubscriberState
swapped one other state = record state { routes = swap state.routes one other }

-- The subscriber after this change: it borrows or returns a sample, or keeps a word that it read.
abbrev pub changed : SubscriberChange → SubscriberState → SubscriberState
changed Nothing state = state
changed (Borrow place slot) state = record state
    { borrowed = counted_up state.borrowed place; samples = put_at state.samples slot (Some place) }
changed (Note word value) state = record state { words = put_at state.words word value }
changed (GiveBack place slot) state
    = record state { borrowed = counted_down state.borrowed place; samples = put_at state.samples slot None }

-- The subscriber after the answer of its next access.
abbrev pub after_answer : ℕ → SubscriberState → SubscriberState
after_answer answer state =
    changed (subscriber_change state.call answer)
    (record state { call = subscriber_take state.routes state.borrowed state.most_borrowed state.call answer })

-- The subscriber that begins a receive.
abbrev pub begun_receive : SubscriberState → SubscriberState
begun_receive state = record state { call = receive_at state.routes state.borrowed state.most_borrowed 0 false }

-- The subscriber that begins to read this slot.
abbrev pub begun_read : ℕ → SubscriberState → SubscriberState
begun_read slot state = record state { call = read_at slot state.extent 0 }

-- The subscriber that begins to release this slot to the connection at this place.
abbrev pub begun_release : ℕ → Route → ℕ → SubscriberState → SubscriberState
begun_release place route slot state = record state { call = Releasing place route (Begun route.completion_cells slot) }
