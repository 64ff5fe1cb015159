-- How a subscriber receives.
use Rattle.std.specs.Prelude.{ℕ, zero, suc, ◌+◌, ◌≡◌, ◌<◌, ◌⊎◌, Bool, true, false, List, [], ◌∷◌, length, get_or, slice_get, remove}
use Rattle.std.specs.Prelude.{drop, count_by, is_some, Option, None, Some, Result, Ok, Err, if◌then◌else◌}
use Rattle.iox_domain_values.specs.declared.port_error.ReceiveError.{ReceiveError}
use Rattle.iox_domain_values.specs.declared.port_error.ReceiveError.TheVariants as receiving
use Rattle.iox_domain_slots.specs.Uses.{is_there}
use Rattle.iox_domain_ports.specs.Ports.{detached_at}
use Rattle.iox_domain_ports.specs.declared.publisher_port.PublisherPort.{PublisherPort}
use Rattle.iox_domain_ports.specs.Publishers.{changed, stands_in}
use Rattle.iox_domain_ports.specs.Subscribing.{attached_at, connection_by, has_data, gives, is_idle, ended_key, ended_ports, taken_of}
use Rattle.iox_domain_ports.specs.Subscribing.{taken_ports}
use Rattle.iox_domain_ports.specs.declared.attached.Attached.{Attached}
use Rattle.iox_domain_ports.specs.declared.attached.Taken.{Taken}
use Rattle.iox_domain_ports.specs.declared.subscriber_port.SubscriberPort.{SubscriberPort}

-- The lowest number that passes the test; None if no number does.
abbrev pub IsFirst : (ℕ → Bool) → Option ℕ → Type 0
IsFirst test None = (key : ℕ) → test key ≡ false
IsFirst test (Some key) = (test key ≡ true) × ((lower : ℕ) → lower < key → test lower ≡ false)

-- The first `met` keys of the list fail the test, and the next one passes it; all keys fail if there is no next one.
abbrev pub IsMet : (ℕ → Bool) → List ℕ → ℕ → Type 0
IsMet test keys met =
    ((place : ℕ) → place < met → test (get_or keys place 0) ≡ false)
    × ((met ≡ length keys) ⊎ ((met < length keys) × (test (get_or keys met 0) ≡ true)))

-- Whether there is an expired connection here, and it is idle.
abbrev pub is_idle_at : {T U : Type 0} → Option ℕ → SubscriberPort → List (ℕ × PublisherPort T U) → Bool
is_idle_at None port ports = false
is_idle_at (Some key) port ports = is_idle port ports key

-- None of the first `count` expired connections is idle.
abbrev pub IsBusy : {T U : Type 0} → SubscriberPort → List (ℕ × PublisherPort T U) → ℕ → Type 0
IsBusy port ports count = (place : ℕ) → place < count → is_idle_at (slice_get port.expired.items place) port ports ≡ false

-- One of the keys that passes the test; None only if none of the first `count` does.
abbrev pub IsOneAmong : (ℕ → Bool) → List ℕ → ℕ → Option ℕ → Type 0
IsOneAmong test keys count None = (place : ℕ) → place < count → test (get_or keys place 0) ≡ false
IsOneAmong test keys count (Some key) = test key ≡ true

-- Some number that passes the test; None if no number does.
abbrev pub IsOne : (ℕ → Bool) → Option ℕ → Type 0
IsOne test None = (key : ℕ) → test key ≡ false
IsOne test (Some key) = test key ≡ true

-- The first number that passed the test, after one more was tested.
abbrev pub first_of : Option ℕ → ℕ → Bool → Option ℕ
first_of (Some first) key passes = Some first
first_of None key passes = if passes then Some key else None

-- The subscriber after the expired connection at this place of the list ended, and was removed from list and map.
abbrev pub dropped_port : ℕ → Option ℕ → SubscriberPort → SubscriberPort
dropped_port place None port = port
dropped_port place (Some key) port = record (ended_key key port)
    { expired = record port.expired { items = remove port.expired.items place } }

-- The publishers after the expired connection with this key ended.
abbrev pub dropped_ports : {T U : Type 0} → Option ℕ → SubscriberPort → List (ℕ × PublisherPort T U) → List (ℕ × PublisherPort T U)
dropped_ports None port ports = ports
dropped_ports (Some key) port ports = ended_ports (attached_at key port) ports

-- One step of the sweep: an idle connection ends, and the next one moves to its place; another one stays.
abbrev pub SweepsAt : {T U : Type 0} → Bool → ℕ → SubscriberPort → List (ℕ × PublisherPort T U) → ℕ → SubscriberPort
    → List (ℕ × PublisherPort T U) → Type 0
SweepsAt true place port ports next port_after ports_after =
    (next ≡ place) × (port_after ≡ dropped_port place (slice_get port.expired.items place) port)
    × (ports_after ≡ dropped_ports (slice_get port.expired.items place) port ports)
SweepsAt false place port ports next port_after ports_after = (next ≡ place + 1) × (port_after ≡ port) × (ports_after ≡ ports)

-- The subscriber and the publishers after the idle ones of `count` expired connections, from `place` on, ended.
abbrev pub swept : {T U : Type 0} → ℕ → ℕ → SubscriberPort × List (ℕ × PublisherPort T U) → SubscriberPort × List (ℕ × PublisherPort T U)
swept place zero state = state
swept place (suc count) state =
    if is_idle_at (slice_get state.0.expired.items place) state.0 state.1
    then swept place count (
      dropped_port place (slice_get state.0.expired.items place) state.0,
      dropped_ports (slice_get state.0.expired.items place) state.0
          state.1,
    )
    else swept (place + 1) count state

-- Which connection gives its oldest message: the expired one that was met, or otherwise the first that passes the test.
abbrev pub IsGiver : Option ℕ → (ℕ → Bool) → Option ℕ → Type 0
IsGiver None test giver = IsFirst test giver
IsGiver (Some key) test giver = giver ≡ Some key

-- If a connection gives, it exists: it is live, or it ended and still holds something.
abbrev pub IsGiverThere : {T U : Type 0} → Option ℕ → SubscriberPort → List (ℕ × PublisherPort T U) → Type 0
IsGiverThere None port ports = Unit {0}
IsGiverThere (Some key) port ports = is_there (connection_by (attached_at key port) ports) ≡ true

-- What the connection with this key gives: its oldest waiting message.
abbrev pub given : {T U : Type 0} → Option ℕ → SubscriberPort → List (ℕ × PublisherPort T U) → Option Taken
given None port ports = None
given (Some key) port ports = taken_of port.number (attached_at key port) ports

-- The publishers after the connection with this key gave its oldest waiting message.
abbrev pub given_ports : {T U : Type 0} → Option ℕ → SubscriberPort → List (ℕ × PublisherPort T U) → List (ℕ × PublisherPort T U)
given_ports None port ports = ports
given_ports (Some key) port ports = taken_ports (attached_at key port) ports

-- The first expired connection that is below the limit of borrowed messages and has data gives its oldest message; otherwise
-- the first of all such connections by rising key gives. The expired ones examined before, or all of them if none gives, end if
-- they are idle.
abbrev pub Serves : {T U : Type 0} → SubscriberPort → List (ℕ × PublisherPort T U) → Option Taken → SubscriberPort
    → List (ℕ × PublisherPort T U) → Type 0
Serves port ports answer port_after ports_after =
    (met : ℕ) × IsMet (gives port ports) port.expired.items met
    × (giver : Option ℕ) × IsGiver (slice_get port.expired.items met) (gives port ports) giver
    × (answer ≡ given giver port ports)
    × (port_after ≡ (swept 0 met (port, given_ports giver port ports)).0)
    × (ports_after ≡ (swept 0 met (port, given_ports giver port ports)).1)
    × IsGiverThere giver port ports

-- What is answered if no message was taken: `ExceedsMaxBorrows` if some connection has data, and otherwise None.
abbrev pub nothing_taken : Option ℕ → Result (Option Taken) ReceiveError
nothing_taken None = Ok None
nothing_taken (Some key) = Err receiving.ExceedsMaxBorrows

-- What is answered: the message that was taken; without one, `ExceedsMaxBorrows` if some connection has data, and otherwise
-- None.
abbrev pub IsReceiveAnswer : Option Taken → (ℕ → Bool) → Result (Option Taken) ReceiveError → Type 0
IsReceiveAnswer (Some taken) has_data answer = answer ≡ Ok (Some taken)
IsReceiveAnswer None has_data answer = (unread : Option ℕ) × IsFirst has_data unread × (answer ≡ nothing_taken unread)

-- What a receive over the existing connections answers and changes.
abbrev pub Receives : {T U : Type 0} → SubscriberPort → List (ℕ × PublisherPort T U) → Result (Option Taken) ReceiveError
    → SubscriberPort → List (ℕ × PublisherPort T U) → Type 0
Receives port ports answer port_after ports_after =
    (taken : Option Taken) × Serves port ports taken port_after ports_after
    × IsReceiveAnswer taken (has_data port_after ports_after) answer

-- How many of the keys from this one on have a connection.
abbrev pub unmet_from : ℕ → List (Option Attached) → ℕ
unmet_from key connections = count_by is_some (drop key connections)

-- The publishers after the subscriber was detached from this connection, which ends if its publisher is closed.
abbrev pub left_at : {T U : Type 0} → Option Attached → List (ℕ × PublisherPort T U) → List (ℕ × PublisherPort T U)
left_at None ports = ports
left_at (Some attached) ports =
    if stands_in attached.publisher ports then changed attached.publisher (detached_at attached.index) ports else ended_ports
    (Some attached) ports

-- The publishers after the subscriber was detached from all these connections.
abbrev pub left_all : {T U : Type 0} → List (Option Attached) → List (ℕ × PublisherPort T U) → List (ℕ × PublisherPort T U)
left_all [] ports = ports
left_all (attached ∷ rest) ports = left_all rest (left_at attached ports)
