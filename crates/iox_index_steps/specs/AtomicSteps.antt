-- The steps of calls on a single value, by the stage of each.
use Rattle.std.specs.Prelude.{ℕ, ◌+◌, ◌%◌, Bool, true, false, not, if◌then◌else◌, ◌==◌, nat_lt, List}
use Rattle.std.specs.Prelude.{slice_index}
use Rattle.std.specs.Global.{Vec}
use Rattle.iox_queues_steps.specs.Access.{successor}
use Rattle.iox_queues_steps.specs.declared.access.Word.TheVariants.{Write, Cell}
use Rattle.iox_queues_steps.specs.declared.access.Access.{Access}
use Rattle.iox_queues_steps.specs.declared.access.Access.TheVariants.{Load, Store, Local}
use Rattle.iox_queues.specs.Values.{table_value}
use Rattle.iox_index_steps.specs.declared.atomic.call.Call.{Call}
use Rattle.iox_index_steps.specs.declared.atomic.call.Call.TheVariants as call
use Rattle.iox_index_steps.specs.declared.atomic.call.AtomicCall.{AtomicCall}
use Rattle.iox_index_steps.specs.declared.atomic.call.AtomicCall.TheVariants as stage

-- Whether a store that read this counter fills the second half of the cells; a load reads the other half.
abbrev pub fills_second : ℕ → Bool
fills_second counter = counter % 2 == 1

-- The cell of word `i` of a value of `n` words, in the second half or in the first.
abbrev pub place : ℕ → Bool → ℕ → ℕ
place n true i = n + i
place n false i = i

-- The next access of a call, where values have `n` words.
abbrev pub call_next : ℕ → List (Vec ℕ) → AtomicCall → Access
call_next n values stage.Idle = Local
call_next n values (stage.Store number) = Load Write
call_next n values (stage.Fill number counter next) =
    if nat_lt next n
    then Store (Cell (place n (fills_second counter) next)) (slice_index (table_value values number) next)
    else Store Write (successor counter)
call_next n values stage.Load = Load Write
call_next n values (stage.Gather counter next) =
    if nat_lt next n then Load (Cell (place n (not (fills_second counter)) next)) else Load Write
call_next n values (stage.Done c) = Local

-- The stage of a call after the result of its access; a load that finds the counter moved tries again.
abbrev pub call_take : ℕ → AtomicCall → ℕ → AtomicCall
call_take n stage.Idle answer = stage.Idle
call_take n (stage.Store number) answer = stage.Fill number answer 0
call_take n (stage.Fill number counter next) answer =
    if nat_lt next n then stage.Fill number counter (next + 1) else stage.Done (call.Store number)
call_take n stage.Load answer = stage.Gather answer 0
call_take n (stage.Gather counter next) answer =
    if nat_lt next n
    then stage.Gather counter (next + 1)
    else if answer == counter then stage.Done call.Load else stage.Gather answer 0
call_take n (stage.Done c) answer = stage.Idle

-- The first stage of a call.
abbrev pub call_begun : Call → AtomicCall
call_begun (call.Store number) = stage.Store number
call_begun call.Load = stage.Load

-- Whether no call is in progress.
abbrev pub call_is_idle : AtomicCall → Bool
call_is_idle stage.Idle = true
call_is_idle (stage.Store number) = false
call_is_idle (stage.Fill number counter next) = false
call_is_idle stage.Load = false
call_is_idle (stage.Gather counter next) = false
call_is_idle (stage.Done c) = false

-- Whether the next step is the last one of its call.
abbrev pub call_is_over : AtomicCall → Bool
call_is_over stage.Idle = false
call_is_over (stage.Store number) = false
call_is_over (stage.Fill number counter next) = false
call_is_over stage.Load = false
call_is_over (stage.Gather counter next) = false
call_is_over (stage.Done c) = true
