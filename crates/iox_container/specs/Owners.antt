-- The owner that had each place last, and the sorted list by which the places of one owner are found.
use Rattle.std.specs.Prelude.{ℕ, ◌≡◌, ◌≢◌, ◌+◌, ◌^◌, ◌≤◌, ◌<◌, List, [], ◌∷◌, Option, Some, None, length, drop, slice_get, slice_index_or}
use Rattle.std.specs.Prelude.{get_or}
use Rattle.std.specs.List.{Contains}
use Rattle.iox_container.specs.Recovery.{asked_from}

-- The owner that had each place last, for the places used so far, and the maximum number of places.
pub record OwnersState : Type 0 where
  pub last : List ℕ
  pub room : ℕ

-- A record for at most `room` places, none of which had an owner so far.
abbrev pub new_owners : ℕ → OwnersState
new_owners room = record { last = []; room = room }

-- `place` is the first place, at or after `from`, that the owner had last.
pub record IsNext (last : List ℕ) (owner from place : ℕ) : Type 0 where
  pub from_there : from ≤ place
  pub within : place < length last
  pub small : place + 1 < 2 ^ 64
  pub none_between : (other : ℕ) → from ≤ other → other < place → slice_get last other ≢ Some owner

-- The owner has this place now, and nothing else changed.
pub record IsSet (place owner : ℕ) (old new : OwnersState) : Type 0 where
  pub here : slice_get new.last place ≡ Some owner
  pub others : (other : ℕ) → other ≢ place → slice_get new.last other ≡ slice_get old.last other
  pub room : new.room ≡ old.room

-- The entry `one` comes before the entry `other`: its owner is lower, or it has the same owner and a lower place.
pub record IsBefore (one other : ℕ × ℕ) : Type 0 where
  pub owner : one.0 ≤ other.0
  pub place : other.0 ≤ one.0 → one.1 < other.1

-- The entry `one` doesn't come before the entry `other`.
pub record IsBehind (one other : ℕ × ℕ) : Type 0 where
  pub owner : other.0 ≤ one.0
  pub place : one.0 ≤ other.0 → other.1 ≤ one.1

-- The entries are sorted: each comes before all later ones.
pub record Rises (entries : List (ℕ × ℕ)) : Type 0 where
  pub before : (i j : ℕ) (default : ℕ × ℕ) → i < j → j < length entries
      → IsBefore (slice_index_or entries i default) (slice_index_or entries j default)

-- `at` is the position of the entry in the sorted list, or the position at which it would be inserted.
pub record StandsAt (entries : List (ℕ × ℕ)) (entry : ℕ × ℕ) (at : ℕ) : Type 0 where
  pub within : at ≤ length entries
  pub before : (k : ℕ) (default : ℕ × ℕ) → k < at → IsBefore (slice_index_or entries k default) entry
  pub behind : (k : ℕ) (default : ℕ × ℕ) → at ≤ k → k < length entries → IsBehind (slice_index_or entries k default) entry

-- The list `new` is the sorted list `old` with this entry inserted.
pub record With (entry : ℕ × ℕ) (old new : List (ℕ × ℕ)) : Type 0 where
  pub rises : Rises new
  pub here : Contains new entry
  pub kept : (other : ℕ × ℕ) → Contains old other → Contains new other
  pub only : (other : ℕ × ℕ) → Contains new other → other ≢ entry → Contains old other
  pub more : length new ≡ length old + 1

-- The list `new` is the sorted list `old` without this entry.
pub record Without (entry : ℕ × ℕ) (old new : List (ℕ × ℕ)) : Type 0 where
  pub rises : Rises new
  pub kept : (other : ℕ × ℕ) → Contains old other → other ≢ entry → Contains new other
  pub only : (other : ℕ × ℕ) → Contains new other → Contains old other
  pub gone : (other : ℕ × ℕ) → Contains new other → other ≢ entry
  pub fewer : length new + 1 ≡ length old

-- The entries are the places with the owners that had them last.
pub record Lists (last : List ℕ) (entries : List (ℕ × ℕ)) : Type 0 where
  pub rises : Rises entries
  pub listed : (place owner : ℕ) → slice_get last place ≡ Some owner → Contains entries (owner, place)
  pub had : (place owner : ℕ) → Contains entries (owner, place) → slice_get last place ≡ Some owner
  pub as_many : length entries ≡ length last

-- The owner of each filled place is recorded as the one that had it last.
pub record AreOwned {C : Type 0} (owner_of : C → ℕ) (places : List (Option C)) (owners : OwnersState) : Type 0 where
  pub owned : (place : ℕ) (content : C) → get_or places place None ≡ Some content → slice_get owners.last place ≡ Some (owner_of content)
  pub room : owners.room ≡ length places

-- What `asked` selects from the places at or after `from`, in order.
abbrev pub rest_from : {C X : Type 0} → (ℕ → Option C → Option X) → List (Option C) → ℕ → List X
rest_from asked places from = asked_from asked from (drop from places)

-- `told` is the first thing that `asked` selects at or after `from`, and `place` is its place.
pub record IsToldNext {C X : Type 0} (asked : ℕ → Option C → Option X) (places : List (Option C)) (from place : ℕ) (told : X) : Type 0 where
  pub from_there : from ≤ place
  pub within : place < length places
  pub small : place + 1 < 2 ^ 64
  pub rest : rest_from asked places from ≡ told ∷ rest_from asked places (place + 1)
