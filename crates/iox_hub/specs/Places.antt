-- Handed-in handlers, by their places.
use Rattle.std.specs.Prelude.{ℕ, ◌-◌, List, Option, None, Some, if◌then◌else◌, nat_lt, slice_get, slice_set}
use Rattle.std.specs.Option.{option_flatten, option_map}
use Rattle.iox_hub.specs.declared.given.GivenHandler.{GivenHandler}
use Rattle.iox_hub.specs.declared.given.GivenHandler.TheVariants.{Backpressure, Degradation}

-- The handler at a place, counted from 1, if there is such a place and it isn't empty.
abbrev pub lies_at : {X : Type 0} → ℕ → List (Option X) → Option X
lies_at place given = if nat_lt 0 place then option_flatten (slice_get given (place - 1)) else None

-- The places, of which this one is now empty; places are counted from 1.
abbrev pub emptied : {X : Type 0} → ℕ → List (Option X) → List (Option X)
emptied place given = slice_set given (place - 1) None

-- The places, of which the named one is now empty, if one is named.
abbrev pub emptied_if : {X : Type 0} → Option ℕ → List (Option X) → List (Option X)
emptied_if None given = given
emptied_if (Some place) given = emptied place given

-- The handler, if there is one and it is for full mailboxes.
abbrev pub backpressure_of : {P D : Type 0} → Option (GivenHandler P D) → Option P
backpressure_of None = None
backpressure_of (Some (Backpressure handler)) = Some handler
backpressure_of (Some (Degradation handler)) = None

-- The handler, if there is one and it is for failed connections.
abbrev pub degradation_of : {P D : Type 0} → Option (GivenHandler P D) → Option D
degradation_of None = None
degradation_of (Some (Backpressure handler)) = None
degradation_of (Some (Degradation handler)) = Some handler

-- The handler of this kind that a command names by its place; the inner value is none if the command names no place. `None` is a place
-- without a handler of that kind.
abbrev pub named : {X H : Type 0} → (Option X → Option H) → Option ℕ → List (Option X) → Option (Option H)
named kind None given = Some None
named kind (Some place) given = option_map (λ handler. Some handler) (kind (lies_at place given))
