-- The keys of connections in an order.
use Rattle.std.specs.Prelude.{ℕ, ◌≡◌, List, [], ◌∷◌, ◌++◌, length, nat_lt, slice_get, Some, if◌then◌else◌}

-- Keys in the order in which they were added, at most `room` of them. Whether a key below `most_flags` is among them is found without
-- a search.
pub record KeysState : Type 0 where
  pub items : List ℕ
  pub room : ℕ
  pub most_flags : ℕ

-- No keys yet.
abbrev pub no_keys : ℕ → ℕ → KeysState
no_keys room most_flags = record { items = []; room = room; most_flags = most_flags }

-- The keys after `key` was appended; unchanged if there are as many as the capacity permits.
abbrev pub with_last : ℕ → KeysState → KeysState
with_last key keys = if nat_lt (length keys.items) keys.room then record keys { items = keys.items ++ key ∷ [] } else keys

-- The key is at some place of the list.
abbrev pub IsKeyOf : ℕ → List ℕ → Type 0
IsKeyOf key keys = (place : ℕ) × (slice_get keys place ≡ Some key)
