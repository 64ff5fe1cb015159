-- When a release locks a set.
use Rattle.std.specs.Prelude.{ℕ, ◌≡◌, Bool, true, false, nat_eq}
use Rattle.iox_container.specs.declared.release.ReleaseMode.{ReleaseMode}
use Rattle.iox_container.specs.declared.release.ReleaseMode.TheVariants.{LockIfLastIndex, Default}
use Rattle.iox_container.specs.declared.release.ReleaseState.{ReleaseState}
use Rattle.iox_container.specs.declared.release.ReleaseState.TheVariants.{Locked, Unlocked}

-- Whether a release in this mode locks a set of which `held` indices are held after it.
abbrev pub locks : ReleaseMode → ℕ → Bool
locks LockIfLastIndex held = nat_eq held 0
locks Default held = false

-- The state that is reported of a set that is locked, or isn't.
abbrev pub state_of : Bool → ReleaseState
state_of true = Locked
state_of false = Unlocked

-- If the set is locked, no index is held.
abbrev pub IsUnheldIfLocked : Bool → ℕ → Type 0
IsUnheldIfLocked locked held = locked ≡ true → held ≡ 0
