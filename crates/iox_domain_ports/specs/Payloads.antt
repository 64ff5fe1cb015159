-- The values in the slots of a publisher.
use Rattle.std.specs.Prelude.{ℕ, ◌-◌, ◌<◌, ◌≡◌, List, [], ◌∷◌, ◌++◌, length, get_or, set, replicate}
use Rattle.iox_domain_ports.specs.Rows.{RowsState}

-- The values of each slot. Slots come in segments of `size` slots, at most `most_segments` segments; each slot of the last one has
-- capacity for `room` values.
pub record PayloadsState (T : Type 0) : Type 0 where
  pub size : ℕ
  pub segments : ℕ
  pub most_segments : ℕ
  pub room : ℕ
  pub payloads : List (List T)

-- The slots of a first segment, which have no values yet.
abbrev pub first_slots : {T : Type 0} → ℕ → ℕ → ℕ → PayloadsState T
first_slots size most_segments room
    = record { size = size; segments = 1; most_segments = most_segments; room = room; payloads = replicate size [] }

-- The values of a slot.
abbrev pub payload_at : {T : Type 0} → ℕ → PayloadsState T → List T
payload_at slot state = get_or state.payloads slot []

-- The payloads with these values in this slot.
abbrev pub with_payload : {T : Type 0} → ℕ → List T → PayloadsState T → PayloadsState T
with_payload slot values state = record state { payloads = set state.payloads slot values }

-- No rows, of capacity 0.
abbrev pub no_rows : {T : Type 0} → RowsState T
no_rows = record { room = 0; rows = [] }

-- The rows of all segments, one after the other.
abbrev pub all_rows : {T : Type 0} → List (RowsState T) → List (List T)
all_rows [] = []
all_rows (segment ∷ segments) = segment.rows ++ all_rows segments

-- The last segment, or `no_rows` if there is none.
abbrev pub last_segment : {T : Type 0} → List (RowsState T) → RowsState T
last_segment segments = get_or segments (length segments - 1) no_rows

-- Each segment has `size` rows.
abbrev pub AllOfSize : {T : Type 0} → ℕ → List (RowsState T) → Type 0
AllOfSize size segments = (index : ℕ) → index < length segments → length (get_or segments index no_rows).rows ≡ size
