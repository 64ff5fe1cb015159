-- Which connection each place of a list is tied to.
use Rattle.std.specs.Prelude.{ℕ, ◌==◌, Bool, false, List, [], take, set, Option, None, Some}
use Rattle.std.specs.List.{list_any}
use Rattle.iox_domain_ports.specs.Places.{reached}

-- What each place is tied to, up to the last place reached, and the maximum number of places.
pub record TiesState : Type 0 where
  pub items : List (Option ℕ)
  pub room : ℕ

-- No ties yet, with capacity for `room` places.
abbrev pub no_ties : ℕ → TiesState
no_ties room = record { items = []; room = room }

-- The ties after they were extended to at least `count` places.
abbrev pub ties_reached : ℕ → TiesState → TiesState
ties_reached count ties = record ties { items = reached count ties.items }

-- The ties after they were cut to at most `count` places.
abbrev pub ties_cut : ℕ → TiesState → TiesState
ties_cut count ties = record ties { items = take count ties.items }

-- The ties after this place was tied to a number, or untied.
abbrev pub tie_put : ℕ → Option ℕ → TiesState → TiesState
tie_put place tie ties = record ties { items = set ties.items place tie }

-- Whether the tie is to this number.
abbrev pub is_tie : ℕ → Option ℕ → Bool
is_tie index None = false
is_tie index (Some tie) = tie == index

-- Whether some place is tied to this number.
abbrev pub has_tie : ℕ → TiesState → Bool
has_tie index ties = list_any (is_tie index) ties.items
