-- A container: members at indices, each with its owner.
use Rattle.std.specs.Prelude.{ℕ, ◌≡◌, ◌≤◌, ◌+◌, ◌<◌, ◌^◌, Bool, true, false, not, ◌&&◌, ◌||◌, List, [], ◌∷◌, Option, None, Some, is_some}
use Rattle.std.specs.Prelude.{Result, Ok, Err, length, replicate, slice_get, slice_set, nat_eq, if◌then◌else◌}
use Rattle.std.specs.List.{count_by, position}
use Rattle.iox_container.specs.declared.container.Member.{Member}
use Rattle.iox_container.specs.declared.container.ContainerHandle.{ContainerHandle}
use Rattle.iox_container.specs.declared.error.ContainerAddFailure.{ContainerAddFailure}
use Rattle.iox_container.specs.declared.error.ContainerAddFailure.TheVariants.{OutOfSpace, IsLocked}
use Rattle.iox_container.specs.declared.release.ReleaseMode.{ReleaseMode}
use Rattle.iox_container.specs.Release.{locks}
use Rattle.iox_container.specs.Recovery.{asked_from, Recovers}

-- The state of a container: its id; the member at each index below the capacity, or none; how often the members changed, from which
-- each new member gets its number; and whether the container is locked for good.
pub record Contents (T : Type 0) : Type 0 where
  pub id : ℕ
  pub members : List (Option (Member T))
  pub changes : ℕ
  pub locked : Bool

-- A container without members.
abbrev pub empty_container : {T : Type 0} → ℕ → ℕ → Contents T
empty_container id capacity = record { id = id; members = replicate capacity None; changes = 0; locked = false }

-- How many members the container has.
abbrev pub count_members : {T : Type 0} → Contents T → ℕ
count_members contents = count_by is_some contents.members

-- The lowest index without a member.
abbrev pub lowest_free : {T : Type 0} → Contents T → Option ℕ
lowest_free contents = position (λ member. not (is_some member)) contents.members

-- The result of `add`: refused if the container is locked, else if it is full, else the handle of the lowest free index.
abbrev pub handle_of : ℕ → ℕ → Bool → Option ℕ → Result ContainerHandle ContainerAddFailure
handle_of id number true free = Err IsLocked
handle_of id number false None = Err OutOfSpace
handle_of id number false (Some index) = Ok (record { container = id; index = index; number = number })

-- The container after a member is put at an index, which counts as one change.
abbrev pub with_member : {T : Type 0} → ℕ → Member T → Contents T → Contents T
with_member index member contents =
    record contents { members = slice_set contents.members index (Some member); changes = contents.changes + 1 }

-- The container after the member at an index is removed, which counts as one change.
abbrev pub without_member : {T : Type 0} → ℕ → Contents T → Contents T
without_member index contents = record contents { members = slice_set contents.members index None; changes = contents.changes + 1 }

-- The container after a release in this mode, which may lock it.
abbrev pub settled : {T : Type 0} → ReleaseMode → Contents T → Contents T
settled mode contents = record contents { locked = contents.locked || locks mode (count_members contents) }

-- Whether this place has a member with this number.
abbrev pub is_numbered : {T : Type 0} → ℕ → Option (Option (Member T)) → Bool
is_numbered number (Some (Some member)) = nat_eq member.number number
is_numbered number place = false

-- Whether the handle is of this container, and its member wasn't removed.
abbrev pub owns : {T : Type 0} → ContainerHandle → Contents T → Bool
owns handle contents = nat_eq handle.container contents.id && is_numbered handle.number (slice_get contents.members handle.index)

-- Whether this place has a member of this owner.
abbrev pub is_of : {T : Type 0} → ℕ → Option (Member T) → Bool
is_of owner None = false
is_of owner (Some member) = nat_eq member.owner owner

-- The members may change once more before the count of changes reaches 2^64.
abbrev pub HasRoom : {T : Type 0} → Contents T → Type 0
HasRoom contents = contents.changes + 1 < 2 ^ 64

-- A copy of a container: its members, and how often they had changed.
pub record Copied (T : Type 0) : Type 0 where
  pub id : ℕ
  pub members : List (Option (Member T))
  pub changes : ℕ

-- A copy of the container as it is now.
abbrev pub copy_of : {T : Type 0} → Contents T → Copied T
copy_of contents = record { id = contents.id; members = contents.members; changes = contents.changes }

-- Whether the copy may be updated from the container: they have the same id and the same capacity.
abbrev pub may_update : {T : Type 0} → Contents T → Copied T → Bool
may_update contents copy = nat_eq copy.id contents.id && nat_eq (length copy.members) (length contents.members)

-- The copy was made from this container: it doesn't count more changes, and if it counts as many, its members are the same.
pub record IsCopyOf {T : Type 0} (contents : Contents T) (copy : Copied T) : Type 0 where
  pub may : may_update contents copy ≡ true
  pub no_later : copy.changes ≤ contents.changes
  pub as_late : copy.changes ≡ contents.changes → copy.members ≡ contents.members

-- The value of the member at a place, if the place exists and has a member.
abbrev pub value_of : {T : Type 0} → Option (Option (Member T)) → Option T
value_of (Some (Some member)) = Some member.value
value_of place = None

-- The member at a place, if the place exists and has one.
abbrev pub member_of : {T : Type 0} → Option (Option (Member T)) → Option (Member T)
member_of (Some place) = place
member_of None = None

-- The handle of the member at an index, if there is a member.
abbrev pub handle_at : {T : Type 0} → ℕ → ℕ → Option (Member T) → Option ContainerHandle
handle_at id index None = None
handle_at id index (Some member) = Some (record { container = id; index = index; number = member.number })

-- The handle and the value of the member at an index, if there is a member.
abbrev pub told : {T : Type 0} → ℕ → ℕ → Option (Member T) → Option (ContainerHandle × T)
told id index None = None
told id index (Some member) = Some (record { container = id; index = index; number = member.number }, member.value)

-- The handle and the value of the member at an index, if this owner has it.
abbrev pub told_of : {T : Type 0} → ℕ → ℕ → ℕ → Option (Member T) → Option (ContainerHandle × T)
told_of owner id index member = if is_of owner member then told id index member else None

-- The handles and values of an owner's members, by rising index.
abbrev pub members_of : {T : Type 0} → ℕ → ℕ → List (Option (Member T)) → List (ContainerHandle × T)
members_of owner id members = asked_from (told_of owner id) 0 members

-- The handle of the first of these members, if there is one.
abbrev pub first_handle : {T : Type 0} → List (ContainerHandle × T) → Option ContainerHandle
first_handle [] = None
first_handle (member ∷ members) = Some member.0

-- `decide` was called once for each member of the owner, and the members for which it returned true were removed; `after` is its last
-- state.
abbrev pub Recovered : {F T : Type 0} → (F → ContainerHandle × T → Bool → F → Type 0) → ℕ → ℕ → F → List (Option (Member T))
    → List (Option (Member T)) → F → Type 0
Recovered R owner id decide old new after = Recovers (told_of owner id) (λ member. member.0.index) None R decide old new after

-- The handles and values of all members of a copy, by rising index.
abbrev pub all_members : {T : Type 0} → Copied T → List (ContainerHandle × T)
all_members copy = asked_from (told copy.id) 0 copy.members
