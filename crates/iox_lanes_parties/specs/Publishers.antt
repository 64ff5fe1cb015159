-- A publisher with the call that it is in, and what it keeps for itself.
use Rattle.std.specs.Prelude.{ℕ, List, length, replicate, Bool, true, false, if◌then◌else◌}
use Rattle.iox_lanes_base.specs.Publishing.{publisher_take, publisher_change, loan_at, write_at, head_at}
use Rattle.iox_lanes_base.specs.Routes.{rerouted}
use Rattle.iox_lanes_base.specs.declared.calls.route.Route.{Route}
use Rattle.iox_lanes_base.specs.declared.calls.publisher.PublisherCall.{PublisherCall}
use Rattle.iox_lanes_base.specs.declared.calls.publisher.PublisherCall.TheVariants.{Idle, Dropping}
use Rattle.iox_lanes_parties.specs.PublisherKeeping.{BookState, changed, referred_at, found_newest, resized}

-- A publisher. `routes` are its connections, and `book` says what its slots are used for. A write stores `payload`, and a send stores
-- `head`; `sends` says whether the current call is a send.
pub record PublisherState : Type 0 where
  pub routes : List Route
  pub book : BookState
  pub payload : List ℕ
  pub head : List ℕ
  pub sends : Bool
  pub call : PublisherCall

-- A publisher that is in no call.
abbrev pub new_publisher : List Route → BookState → ℕ → ℕ → PublisherState
new_publisher routes book payload_words head_words =
    record { routes = routes; book = book; payload = replicate payload_words 0; head = replicate head_words 0; sends = false; call = Idle }

-- The publisher after lanes found this slot at its connection of this place.
abbrev pub found_at : ℕ → ℕ → PublisherState → PublisherState
found_at place slot state = record state { book = referred_at place slot state.book }

-- The publisher after lanes found that this slot is the newest of its history.
abbrev pub found_last : ℕ → PublisherState → PublisherState
found_last slot state = record state { book = found_newest slot state.book }

-- The publisher after its connection with the number of this route was replaced by this route.
abbrev pub met_anew : Route → PublisherState → PublisherState
met_anew route state = record state { routes = rerouted route state.routes }

-- The publisher with only its first `slots` slots, and with this loan limit.
abbrev pub with_slots : ℕ → ℕ → PublisherState → PublisherState
with_slots slots most_loans state = record state { book = resized (length state.routes) slots most_loans state.book }

-- The words that the current write or send stores.
abbrev pub words_of : PublisherState → List ℕ
words_of state = if state.sends then state.head else state.payload

-- The publisher after the answer of its next access.
abbrev pub after_answer : ℕ → PublisherState → PublisherState
after_answer answer state = record state {
  call = publisher_take state.routes (words_of state) state.call answer;
  book = changed (publisher_change state.call answer) state.book;
}

-- The publisher that begins a loan.
abbrev pub begun_loan : PublisherState → PublisherState
begun_loan state = record state { call = loan_at state.routes 0 }

-- The publisher that begins to write these words into the slot.
abbrev pub begun_write : ℕ → List ℕ → PublisherState → PublisherState
begun_write slot payload state = record state { payload = payload; sends = false; call = write_at payload slot 0 }

-- The publisher that begins to send the slot with this header and user header.
abbrev pub begun_send : ℕ → List ℕ → PublisherState → PublisherState
begun_send slot head state = record state { head = head; sends = true; call = head_at head slot 0 }

-- The publisher that begins to drop the loan of the slot.
abbrev pub begun_drop : ℕ → PublisherState → PublisherState
begun_drop slot state = record state { call = Dropping slot }
