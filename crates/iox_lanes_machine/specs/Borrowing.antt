-- Which slots a subscriber borrows, and from which connection.
use Rattle.std.specs.Prelude.{ℕ, ◌≡◌, ◌<◌, ◌==◌, Bool, true, false, List, get_or, Option, Some, None}
use Rattle.iox_lanes_parties.specs.QueuesSteps.declared.rings.refusing.push.Push as refusing_type
use Rattle.iox_lanes_parties.specs.QueuesSteps.declared.rings.refusing.push.Push.TheVariants as refusing
use Rattle.iox_lanes_parties.specs.LanesBase.declared.calls.route.Route.{Route}
use Rattle.iox_lanes_parties.specs.LanesBase.declared.calls.subscriber.SubscriberCall.{SubscriberCall}
use Rattle.iox_lanes_parties.specs.LanesBase.declared.calls.subscriber.SubscriberCall.TheVariants as subscribing
use Rattle.iox_lanes_parties.specs.Parties.{SubscriberLaneState, is_borrowed, place_of, route_at}

-- Whether the connection of a port is the one with this number.
abbrev pub is_at : ℕ → Option Route → Bool
is_at connection None = false
is_at connection (Some route) = route.connection == connection

-- Whether a subscriber borrows the slot from the connection.
abbrev pub borrows : ℕ → ℕ → Option SubscriberLaneState → Bool
borrows connection slot None = false
borrows connection slot (Some lane) = is_at connection (route_at (place_of slot lane) lane)

-- The sample is borrowed from the connection at this place.
abbrev pub IsBorrowedAt : List (Option ℕ) → ℕ → ℕ → Type 0
IsBorrowedAt samples place slot = get_or samples slot None ≡ Some place

-- Each sample is borrowed from one of the first `connections` connections.
abbrev pub ArePlaced : List (Option ℕ) → ℕ → Type 0
ArePlaced samples connections = (slot place : ℕ) → IsBorrowedAt samples place slot → place < connections

-- The sample that a push returns is borrowed until the push stores the write position.
abbrev pub GivesBorrowed : List (Option ℕ) → ℕ → refusing_type.Push → Type 0
GivesBorrowed samples place refusing.Idle = Unit {0}
GivesBorrowed samples place (refusing.Begun limit value) = IsBorrowedAt samples place value
GivesBorrowed samples place (refusing.SawWrite limit value write next) = IsBorrowedAt samples place value
GivesBorrowed samples place (refusing.SawRoom value write next) = IsBorrowedAt samples place value
GivesBorrowed samples place (refusing.Filled value next) = IsBorrowedAt samples place value
GivesBorrowed samples place (refusing.Pushed value answer) = Unit {0}

-- A subscriber reads only a sample that it borrows, and returns only one that it borrows.
abbrev pub UsesBorrowed : List (Option ℕ) → SubscriberCall → Type 0
UsesBorrowed samples subscribing.Idle = Unit {0}
UsesBorrowed samples (subscribing.Receiving place route pop waits) = Unit {0}
UsesBorrowed samples (subscribing.Received given) = Unit {0}
UsesBorrowed samples (subscribing.Reading slot word extent) = is_borrowed (get_or samples slot None) ≡ true
UsesBorrowed samples (subscribing.WasRead slot) = is_borrowed (get_or samples slot None) ≡ true
UsesBorrowed samples (subscribing.Releasing place route push) = GivesBorrowed samples place push
UsesBorrowed samples (subscribing.Released done) = Unit {0}
