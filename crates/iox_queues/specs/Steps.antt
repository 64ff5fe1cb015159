-- The steps of calls on a bit set or a counting bit set, by the stage of each.
use Rattle.std.specs.Prelude.{ℕ, ◌-◌, Bool, true, false, if◌then◌else◌, ◌==◌, nat_lt, Some, None}
use Rattle.iox_queues_steps.specs.Access.{successor}
use Rattle.iox_queues_steps.specs.declared.access.Word.TheVariants.{Write, Read, Cell}
use Rattle.iox_queues_steps.specs.declared.access.Access.{Access}
use Rattle.iox_queues_steps.specs.declared.access.Access.TheVariants.{Load, Store, Exchange, Local}
use Rattle.iox_queues.specs.declared.bits.call.Answer.TheVariants.{Added, Taken, Swept}
use Rattle.iox_queues.specs.declared.bits.call.Call.{Call}
use Rattle.iox_queues.specs.declared.bits.call.Call.TheVariants as call
use Rattle.iox_queues.specs.declared.bits.call.SetCall.{SetCall}
use Rattle.iox_queues.specs.declared.bits.call.SetCall.TheVariants.{Idle, Add, Adding, Next, Sweep, Taking, Found, Done}

-- The next access of a call.
abbrev pub call_next : SetCall → Access
call_next Idle = Local
call_next (Add place max) = Load (Cell place)
call_next (Adding place max count) = Exchange (Cell place) count (successor count)
call_next (Next capacity) = Load Read
call_next (Sweep place left capacity all) = Load (Cell place)
call_next (Taking place left capacity all count) = Exchange (Cell place) count 0
call_next (Found place after) = Store Read after
call_next (Done c answer) = Local

-- The stage after a load: an exchange for one more, unless the count is the largest.
abbrev pub adding_at : ℕ → ℕ → ℕ → SetCall
adding_at place max count = if nat_lt count max then Adding place max count else Done (call.Set place) (Added false)

-- The stage after the last place.
abbrev pub swept_by : Bool → SetCall
swept_by true = Done call.ResetAll Swept
swept_by false = Done call.ResetNext (Taken None)

-- The stage at the next place, if one is left.
abbrev pub going_on_at : ℕ → ℕ → ℕ → Bool → SetCall
going_on_at place left capacity all =
    if left == 0
    then swept_by all
    else Sweep (if nat_lt place capacity then place else 0) left capacity all

-- The first stage of a call.
abbrev pub call_begun : ℕ → ℕ → Call → SetCall
call_begun max capacity (call.Set place) = Add place max
call_begun max capacity call.ResetNext = Next capacity
call_begun max capacity call.ResetAll = going_on_at 0 capacity capacity true

-- The stage after a place was read: a place with count 0 is skipped, and any other place is to be reset.
abbrev pub sweeping_at : ℕ → ℕ → ℕ → Bool → ℕ → SetCall
sweeping_at place left capacity all count =
    if count == 0 then going_on_at (successor place) (left - 1) capacity all else Taking place left capacity all count

-- The stage after a place was reset: the scan goes on if all places are to be reset, else the call is done.
abbrev pub found_at : ℕ → ℕ → ℕ → Bool → SetCall
found_at place left capacity all =
    if all then going_on_at (successor place) (left - 1) capacity all else Found place (successor place)

-- The stage of a call after the result of its access.
abbrev pub call_take : SetCall → ℕ → SetCall
call_take Idle answer = Idle
call_take (Add place max) answer = adding_at place max answer
call_take (Adding place max count) answer =
    if answer == count then Done (call.Set place) (Added true) else adding_at place max answer
call_take (Next capacity) answer = going_on_at answer capacity capacity false
call_take (Sweep place left capacity all) answer = sweeping_at place left capacity all answer
call_take (Taking place left capacity all count) answer =
    if answer == count then found_at place left capacity all else sweeping_at place left capacity all answer
call_take (Found place after) answer = Done call.ResetNext (Taken (Some place))
call_take (Done c answered) answer = Idle

-- Whether the access touches no cell: it touches no word, or it loads the place at which the next search starts.
abbrev pub is_apart : Access → Bool
is_apart Local = true
is_apart (Load Read) = true
is_apart (Load Write) = false
is_apart (Load (Cell place)) = false
is_apart (Store word value) = false
is_apart (Exchange word old new) = false

-- Whether no call is in progress.
abbrev pub call_is_idle : SetCall → Bool
call_is_idle Idle = true
call_is_idle (Add place max) = false
call_is_idle (Adding place max count) = false
call_is_idle (Next capacity) = false
call_is_idle (Sweep place left capacity all) = false
call_is_idle (Taking place left capacity all count) = false
call_is_idle (Found place after) = false
call_is_idle (Done c answer) = false

-- Whether the next step of this call is its last one.
abbrev pub call_is_over : SetCall → Bool
call_is_over Idle = false
call_is_over (Add place max) = false
call_is_over (Adding place max count) = false
call_is_over (Next capacity) = false
call_is_over (Sweep place left capacity all) = false
call_is_over (Taking place left capacity all count) = false
call_is_over (Found place after) = false
call_is_over (Done c answer) = true
