-- The steps of calls on a set that knows the owner of each held index, by the stage of each.
use Rattle.std.specs.Prelude.{ℕ, ◌-◌, ◌^◌, min, ◌+◌, Bool, true, false, if◌then◌else◌, ◌==◌, ◌&&◌, ◌||◌, nat_lt, Option, Some, None}
use Rattle.std.specs.Prelude.{Ok, Err, List, slice_get, vec_items}
use Rattle.std.specs.Global.{Vec}
use Rattle.iox_container.specs.declared.error.UniqueIndexSetAcquireFailure.TheVariants.{OutOfIndices, IsLocked}
use Rattle.iox_container.specs.declared.release.ReleaseMode.{ReleaseMode}
use Rattle.iox_container.specs.declared.release.ReleaseMode.TheVariants.{LockIfLastIndex, Default}
use Rattle.iox_container.specs.declared.release.ReleaseState.TheVariants.{Locked, Unlocked}
use Rattle.iox_queues_steps.specs.Access.{successor}
use Rattle.iox_queues_steps.specs.declared.access.Word.TheVariants.{Read, Cell}
use Rattle.iox_queues_steps.specs.declared.access.Access.{Access}
use Rattle.iox_queues_steps.specs.declared.access.Access.TheVariants.{Load, Store, Exchange, Local}
use Rattle.iox_robust_steps.specs.declared.call.Answer.TheVariants.{Acquired, Settled}
use Rattle.iox_robust_steps.specs.declared.call.Call.{Call}
use Rattle.iox_robust_steps.specs.declared.call.Call.TheVariants as call
use Rattle.iox_robust_steps.specs.declared.call.RobustCall.{RobustCall}
use Rattle.iox_robust_steps.specs.declared.call.RobustCall.TheVariants as stage

-- The count that marks a locked set.
abbrev pub lock_mark : ℕ
lock_mark = 2 ^ 64 - 1

-- The content of a cell while this owner is about to take its index.
abbrev pub reserved : ℕ → ℕ
reserved owner = min (owner + 2 ^ 63) (2 ^ 64 - 1)

-- The next access of a call.
abbrev pub call_next : RobustCall → Access
call_next stage.Idle = Local
call_next (stage.Acquire owner) = Load Read
call_next (stage.Claim owner place count) = Exchange (Cell place) 0 (reserved owner)
call_next (stage.Count owner place count) = Exchange Read count (successor count)
call_next (stage.Confirm owner place) = Store (Cell place) owner
call_next (stage.Undo owner place) = Store (Cell place) 0
call_next (stage.Free owner index mode) = Exchange (Cell index) owner 0
call_next (stage.Look owner number mode place) = Load (Cell place)
call_next (stage.Clear owner number mode place seen) = Exchange (Cell place) seen 0
call_next (stage.Settle c) = Load Read
call_next (stage.Scan c place count) = Load (Cell place)
call_next (stage.Lock c count) = Exchange Read count lock_mark
call_next (stage.Done c answer) = Local

-- The stage of an acquire at the next cell, if one is left.
abbrev pub claims_from : ℕ → ℕ → ℕ → ℕ → RobustCall
claims_from n owner place count =
    if nat_lt place n then stage.Claim owner place count else stage.Done (call.Acquire owner) (Acquired (Err OutOfIndices))

-- The stage after a call freed its indices: only in one mode does it go on to lock the set.
abbrev pub settles : ReleaseMode → Call → RobustCall
settles LockIfLastIndex c = stage.Settle c
settles Default c = stage.Done c (Settled Unlocked)

-- The stage of a recovery at the next cell, if one is left.
abbrev pub looks_from : ℕ → ℕ → ℕ → ReleaseMode → ℕ → RobustCall
looks_from n owner number mode place =
    if nat_lt place n then stage.Look owner number mode place else settles mode (call.Recover owner number mode)

-- The stage of a call that may lock the set at the next cell, if one is left.
abbrev pub scans_from : ℕ → Call → ℕ → ℕ → RobustCall
scans_from n c place count = if nat_lt place n then stage.Scan c place count else stage.Lock c count

-- Whether the exchange to the mark succeeded, or the set was locked before.
abbrev pub is_marked_by : ℕ → ℕ → Bool
is_marked_by count answer = (answer == count) || (answer == lock_mark)

-- The decision on a place; false if there is none.
abbrev pub answer_on : Option Bool → Bool
answer_on None = false
answer_on (Some answer) = answer

-- The decision of a list on a place; false if there is no list or no decision.
abbrev pub answer_among : ℕ → Option (Vec Bool) → Bool
answer_among place None = false
answer_among place (Some answers) = answer_on (slice_get (vec_items answers) place)

-- Whether the list of decisions with this number selects the place.
abbrev pub decided : List (Vec Bool) → ℕ → ℕ → Bool
decided decisions number place = answer_among place (slice_get decisions number)

-- Whether the cell names the owner, or shows that the owner is about to take the index.
abbrev pub is_seen_of : ℕ → ℕ → Bool
is_seen_of owner seen = (seen == owner) || (seen == reserved owner)

-- Whether the cell is the owner's, and the decisions select it or the step insists.
abbrev pub is_freed : List (Vec Bool) → Bool → ℕ → ℕ → ℕ → ℕ → Bool
is_freed decisions insists owner number place seen = is_seen_of owner seen && (insists || decided decisions number place)

-- The stage of a call after the result of its access, in a set of `n` indices; a step may insist that a recovery frees an index that it
-- sees of its owner.
abbrev pub call_take : ℕ → List (Vec Bool) → Bool → RobustCall → ℕ → RobustCall
call_take n decisions insists stage.Idle answer = stage.Idle
call_take n decisions insists (stage.Acquire owner) answer =
    if answer == lock_mark then stage.Done (call.Acquire owner) (Acquired (Err IsLocked)) else claims_from n owner 0 answer
call_take n decisions insists (stage.Claim owner place count) answer =
    if answer == 0 then stage.Count owner place count else claims_from n owner (successor place) count
call_take n decisions insists (stage.Count owner place count) answer =
    if answer == count
    then stage.Confirm owner place
    else if answer == lock_mark then stage.Undo owner place else stage.Count owner place answer
call_take n decisions insists (stage.Confirm owner place) answer = stage.Done (call.Acquire owner) (Acquired (Ok place))
call_take n decisions insists (stage.Undo owner place) answer = stage.Done (call.Acquire owner) (Acquired (Err IsLocked))
call_take n decisions insists (stage.Free owner index mode) answer = settles mode (call.Release owner index mode)
call_take n decisions insists (stage.Look owner number mode place) answer =
    if is_freed decisions insists owner number place answer
    then stage.Clear owner number mode place answer
    else looks_from n owner number mode (successor place)
call_take n decisions insists (stage.Clear owner number mode place seen) answer = looks_from n owner number mode (successor place)
call_take n decisions insists (stage.Settle c) answer =
    if answer == lock_mark then stage.Done c (Settled Locked) else scans_from n c 0 answer
call_take n decisions insists (stage.Scan c place count) answer =
    if answer == 0 then scans_from n c (successor place) count else stage.Done c (Settled Unlocked)
call_take n decisions insists (stage.Lock c count) answer =
    if is_marked_by count answer then stage.Done c (Settled Locked) else stage.Done c (Settled Unlocked)
call_take n decisions insists (stage.Done c answered) answer = stage.Idle

-- The first stage of a call, in a set of `n` indices.
abbrev pub call_begun : ℕ → Call → RobustCall
call_begun n (call.Acquire owner) = stage.Acquire owner
call_begun n (call.Release owner index mode) = stage.Free owner index mode
call_begun n (call.Recover owner number mode) = looks_from n owner number mode 0

-- Whether no call is in progress.
abbrev pub call_is_idle : RobustCall → Bool
call_is_idle stage.Idle = true
call_is_idle (stage.Acquire owner) = false
call_is_idle (stage.Claim owner place count) = false
call_is_idle (stage.Count owner place count) = false
call_is_idle (stage.Confirm owner place) = false
call_is_idle (stage.Undo owner place) = false
call_is_idle (stage.Free owner index mode) = false
call_is_idle (stage.Look owner number mode place) = false
call_is_idle (stage.Clear owner number mode place seen) = false
call_is_idle (stage.Settle c) = false
call_is_idle (stage.Scan c place count) = false
call_is_idle (stage.Lock c count) = false
call_is_idle (stage.Done c answer) = false

-- Whether the next step is the last one of its call.
abbrev pub call_is_over : RobustCall → Bool
call_is_over stage.Idle = false
call_is_over (stage.Acquire owner) = false
call_is_over (stage.Claim owner place count) = false
call_is_over (stage.Count owner place count) = false
call_is_over (stage.Confirm owner place) = false
call_is_over (stage.Undo owner place) = false
call_is_over (stage.Free owner index mode) = false
call_is_over (stage.Look owner number mode place) = false
call_is_over (stage.Clear owner number mode place seen) = false
call_is_over (stage.Settle c) = false
call_is_over (stage.Scan c place count) = false
call_is_over (stage.Lock c count) = false
call_is_over (stage.Done c answer) = true

-- The call that a party has in progress, if any.
abbrev pub call_in_hand : RobustCall → Option Call
call_in_hand stage.Idle = None
call_in_hand (stage.Acquire owner) = Some (call.Acquire owner)
call_in_hand (stage.Claim owner place count) = Some (call.Acquire owner)
call_in_hand (stage.Count owner place count) = Some (call.Acquire owner)
call_in_hand (stage.Confirm owner place) = Some (call.Acquire owner)
call_in_hand (stage.Undo owner place) = Some (call.Acquire owner)
call_in_hand (stage.Free owner index mode) = Some (call.Release owner index mode)
call_in_hand (stage.Look owner number mode place) = Some (call.Recover owner number mode)
call_in_hand (stage.Clear owner number mode place seen) = Some (call.Recover owner number mode)
call_in_hand (stage.Settle c) = Some c
call_in_hand (stage.Scan c place count) = Some c
call_in_hand (stage.Lock c count) = Some c
call_in_hand (stage.Done c answer) = Some c
