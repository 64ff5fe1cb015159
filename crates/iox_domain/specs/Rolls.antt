-- The list of the ports of one kind.
use Rattle.std.specs.Prelude.{ℕ, ◌≡◌, ◌+◌, ◌≤◌, ◌^◌, Bool, true, not, List, length, replicate, get_or, slice_set, is_some, nat_lt}
use Rattle.std.specs.Prelude.{Option, None, Some, if◌then◌else◌}
use Rattle.std.specs.List.{position}
use Rattle.iox_domain_ports.specs.Container.CountedPlaces.{padded}
use Rattle.iox_domain_ports.specs.Container.declared.container.Member.{Member}

-- The list of the ports of one kind: which port is listed at each place, and how often the list changed so far.
pub record RollState (V : Type 0) : Type 0 where
  pub places : List (Option (Member V))
  pub changes : ℕ

-- A list of `count` places at which no port is listed.
abbrev pub new_roll : {V : Type 0} → ℕ → RollState V
new_roll count = record { places = replicate count None; changes = 0 }

-- Whether one more change can be counted.
abbrev pub may_change : {V : Type 0} → RollState V → Bool
may_change roll = nat_lt (roll.changes + 1) (2 ^ 64)

-- The place that the next port gets: the lowest at which no port is listed, if one more change can be counted.
abbrev pub free_place : {V : Type 0} → RollState V → Option ℕ
free_place roll = if may_change roll then position (λ member. not (is_some member)) roll.places else None

-- The list with these places, after one more change.
abbrev pub changed_to : {V : Type 0} → List (Option (Member V)) → RollState V → RollState V
changed_to places roll = record { places = places; changes = roll.changes + 1 }

-- The list after the port was entered at this place; its member's number is the number of changes.
abbrev pub entered : {V : Type 0} → ℕ → V → RollState V → RollState V
entered place port roll = changed_to
    (slice_set roll.places place (Some (record { number = roll.changes + 1; owner = 1; value = port }))) roll

-- Whether a port is listed at this place.
abbrev pub is_listed : {V : Type 0} → ℕ → RollState V → Bool
is_listed place roll = is_some (get_or roll.places place None)

-- The list after the port at this place was removed, if one is listed there and one more change can be counted.
abbrev pub left : {V : Type 0} → ℕ → RollState V → RollState V
left place roll = if may_change roll then (if is_listed place roll then changed_to (slice_set roll.places place None) roll else roll)
    else roll

-- `listed` has the same entry at each place as the list, but may end after the last entry.
abbrev pub IsListOf : {V : Type 0} → List (Option (Member V)) → RollState V → Type 0
IsListOf listed roll = padded (length roll.places) listed ≡ roll.places

-- The last port of these places is at the place before this one; no port is at this place or after it.
pub record EndsAt {A : Type 0} (top : ℕ) (places : List (Option A)) : Type 0 where
  pub none : (place : ℕ) → top ≤ place → get_or places place None ≡ None
  pub last : (place : ℕ) → place + 1 ≡ top → is_some (get_or places place None) ≡ true
