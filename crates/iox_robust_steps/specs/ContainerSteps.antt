-- The steps of calls on a container of members, by the stage of each.
use Rattle.std.specs.Prelude.{ℕ, ◌+◌, ◌-◌, ◌*◌, ◌%◌, ◌^◌, min, Bool, true, false, not, if◌then◌else◌, ◌==◌, nat_lt, Ok, Err, Option, Some}
use Rattle.std.specs.Prelude.{None, List}
use Rattle.std.specs.Prelude.{slice_index}
use Rattle.std.specs.Global.{Vec}
use Rattle.iox_container.specs.declared.release.ReleaseMode.{ReleaseMode}
use Rattle.iox_queues_steps.specs.Access.{successor}
use Rattle.iox_queues_steps.specs.declared.access.Word.TheVariants.{Write, Cell}
use Rattle.iox_queues_steps.specs.declared.access.Access.{Access}
use Rattle.iox_queues_steps.specs.declared.access.Access.TheVariants.{Load, Store, Exchange, Local}
use Rattle.iox_queues.specs.Values.{table_value}
use Rattle.iox_robust_steps.specs.declared.call.Answer.{Answer}
use Rattle.iox_robust_steps.specs.declared.call.Answer.TheVariants as set_answer
use Rattle.iox_robust_steps.specs.declared.call.RobustCall.{RobustCall}
use Rattle.iox_robust_steps.specs.declared.call.RobustCall.TheVariants as set_stage
use Rattle.iox_robust_steps.specs.declared.container.call.MemberAnswer.TheVariants.{Added, Removed, Updated}
use Rattle.iox_robust_steps.specs.declared.container.call.MemberCall.{MemberCall}
use Rattle.iox_robust_steps.specs.declared.container.call.MemberCall.TheVariants as call
use Rattle.iox_robust_steps.specs.declared.container.call.ContainerCall.{ContainerCall}
use Rattle.iox_robust_steps.specs.declared.container.call.ContainerCall.TheVariants as stage

-- Whether a place with this count has a member: its count is odd.
abbrev pub is_shown : ℕ → Bool
is_shown count = count % 2 == 1

-- The number, or the largest 64-bit number if it is larger.
abbrev pub bounded : ℕ → ℕ
bounded number = min number (2 ^ 64 - 1)

-- The cell of word `j` of the value at a place, where `n` places have values of `width` words. First come the counts of all places,
-- then the values, one after another.
abbrev pub value_cell : ℕ → ℕ → ℕ → ℕ → ℕ
value_cell n width place j = bounded (n + bounded (bounded (place * width) + j))

-- The next access of a call; while the index set makes a step, the access is a local one.
abbrev pub member_next : ℕ → ℕ → List (Vec ℕ) → ContainerCall → Access
member_next n width values stage.Idle = Local
member_next n width values (stage.Enter number owner) = Local
member_next n width values (stage.Fill number owner index next) =
    if nat_lt next width
    then Store (Cell (value_cell n width index next)) (slice_index (table_value values number) next)
    else Load (Cell index)
member_next n width values (stage.Show number owner index seen) = Store (Cell index) (successor seen)
member_next n width values (stage.Sink owner index mode) = Load (Cell index)
member_next n width values (stage.Hide owner index mode seen) = Store (Cell index) (successor seen)
member_next n width values (stage.Leave owner index mode) = Local
member_next n width values (stage.Drop owner index mode) = Local
member_next n width values (stage.Count c answer) = Load Write
member_next n width values (stage.Raise c answer seen) = Exchange Write seen (successor seen)
member_next n width values stage.Look = Load Write
member_next n width values (stage.Visit place) = Load (Cell place)
member_next n width values (stage.Gather place seen next) =
    if nat_lt next width then Load (Cell (value_cell n width place next)) else Load (Cell place)
member_next n width values (stage.Search owner number mode) = Local
member_next n width values (stage.Watch owner number mode place) = Load (Cell place)
member_next n width values (stage.Ask owner number mode place seen) = Local
member_next n width values (stage.Expel owner number mode place seen) = Exchange (Cell place) seen (successor seen)
member_next n width values (stage.Clear owner number mode place) = Local
member_next n width values (stage.Close owner number mode) = Local
member_next n width values (stage.Done c answer) = Local

-- The stage of a copy at the next place, if one is left.
abbrev pub visits_from : ℕ → ℕ → ContainerCall
visits_from n place = if nat_lt place n then stage.Visit place else stage.Done call.Update (Updated true)

-- The stage of a copy after it read this count at a place: it loads the value of the member there, or goes on.
abbrev pub visited : ℕ → ℕ → ℕ → ContainerCall
visited n place count = if is_shown count then stage.Gather place count 0 else visits_from n (successor place)

-- The stage of an addition after a step of the set.
abbrev pub entered : ℕ → ℕ → Option Answer → ContainerCall
entered number owner None = stage.Enter number owner
entered number owner (Some (set_answer.Acquired (Ok index))) = stage.Fill number owner index 0
entered number owner (Some (set_answer.Acquired (Err why))) = stage.Done (call.Add number owner) (Added (Err why))
entered number owner (Some (set_answer.Settled state)) = stage.Enter number owner

-- The stage of a removal after a step of the set.
abbrev pub dropped : ℕ → ℕ → ReleaseMode → Option Answer → ContainerCall
dropped owner index mode None = stage.Drop owner index mode
dropped owner index mode (Some (set_answer.Acquired got)) = stage.Drop owner index mode
dropped owner index mode (Some (set_answer.Settled state)) = stage.Count (call.Remove owner index mode) (Removed state)

-- The stage of a recovery at the next place, if one is left.
abbrev pub watches_from : ℕ → ℕ → ℕ → ReleaseMode → ℕ → ContainerCall
watches_from n owner number mode place =
    if nat_lt place n then stage.Watch owner number mode place else stage.Close owner number mode

-- The stage of a recovery after the set read which owner has the index: if the index is to be freed, a member at the place is removed
-- first; else the recovery goes on.
abbrev pub asked_for_place : ℕ → ℕ → ℕ → ReleaseMode → ℕ → ℕ → Bool → ContainerCall
asked_for_place n owner number mode place seen finds =
    if not finds
    then watches_from n owner number mode (successor place)
    else if is_shown seen then stage.Expel owner number mode place seen else stage.Clear owner number mode place

-- The stage of a recovery after a step of the set.
abbrev pub closed : ℕ → ℕ → ReleaseMode → Option Answer → ContainerCall
closed owner number mode None = stage.Close owner number mode
closed owner number mode (Some (set_answer.Acquired got)) = stage.Close owner number mode
closed owner number mode (Some (set_answer.Settled state)) = stage.Count (call.Recover owner number mode) (Removed state)

-- Whether a call on the set is about to free an index.
abbrev pub is_clearing : RobustCall → Bool
is_clearing set_stage.Idle = false
is_clearing (set_stage.Acquire owner) = false
is_clearing (set_stage.Claim owner place count) = false
is_clearing (set_stage.Count owner place count) = false
is_clearing (set_stage.Confirm owner place) = false
is_clearing (set_stage.Undo owner place) = false
is_clearing (set_stage.Free owner index mode) = false
is_clearing (set_stage.Look owner number mode place) = false
is_clearing (set_stage.Clear owner number mode place seen) = true
is_clearing (set_stage.Settle c) = false
is_clearing (set_stage.Scan c place count) = false
is_clearing (set_stage.Lock c count) = false
is_clearing (set_stage.Done c answer) = false

-- The result of a call on the set, if it has one.
abbrev pub answer_at : RobustCall → Option Answer
answer_at set_stage.Idle = None
answer_at (set_stage.Acquire owner) = None
answer_at (set_stage.Claim owner place count) = None
answer_at (set_stage.Count owner place count) = None
answer_at (set_stage.Confirm owner place) = None
answer_at (set_stage.Undo owner place) = None
answer_at (set_stage.Free owner index mode) = None
answer_at (set_stage.Look owner number mode place) = None
answer_at (set_stage.Clear owner number mode place seen) = None
answer_at (set_stage.Settle c) = None
answer_at (set_stage.Scan c place count) = None
answer_at (set_stage.Lock c count) = None
answer_at (set_stage.Done c answer) = Some answer

-- The stage of a call after the result of its access, or after the set's result; `saw` is the count of changes that the party's last copy
-- read, and `finds` says whether the set is about to free an index.
abbrev pub member_take : ℕ → ℕ → ℕ → Option Answer → Bool → ContainerCall → ℕ → ContainerCall
member_take n width saw got finds stage.Idle answer = stage.Idle
member_take n width saw got finds (stage.Enter number owner) answer = entered number owner got
member_take n width saw got finds (stage.Fill number owner index next) answer =
    if nat_lt next width then stage.Fill number owner index (next + 1) else stage.Show number owner index answer
member_take n width saw got finds (stage.Show number owner index seen) answer = stage.Count (call.Add number owner) (Added (Ok index))
member_take n width saw got finds (stage.Sink owner index mode) answer = stage.Hide owner index mode answer
member_take n width saw got finds (stage.Hide owner index mode seen) answer = stage.Leave owner index mode
member_take n width saw got finds (stage.Leave owner index mode) answer = stage.Drop owner index mode
member_take n width saw got finds (stage.Drop owner index mode) answer = dropped owner index mode got
member_take n width saw got finds (stage.Count c a) answer = stage.Raise c a answer
member_take n width saw got finds (stage.Raise c a seen) answer = if answer == seen then stage.Done c a else stage.Raise c a answer
member_take n width saw got finds stage.Look answer =
    if answer == saw then stage.Done call.Update (Updated false) else visits_from n 0
member_take n width saw got finds (stage.Visit place) answer = visited n place answer
member_take n width saw got finds (stage.Gather place seen next) answer =
    if nat_lt next width
    then stage.Gather place seen (next + 1)
    else if answer == seen then visits_from n (successor place) else visited n place answer
member_take n width saw got finds (stage.Search owner number mode) answer = watches_from n owner number mode 0
member_take n width saw got finds (stage.Watch owner number mode place) answer = stage.Ask owner number mode place answer
member_take n width saw got finds (stage.Ask owner number mode place seen) answer = asked_for_place n owner number mode place seen finds
member_take n width saw got finds (stage.Expel owner number mode place seen) answer = stage.Clear owner number mode place
member_take n width saw got finds (stage.Clear owner number mode place) answer = watches_from n owner number mode (successor place)
member_take n width saw got finds (stage.Close owner number mode) answer = closed owner number mode got
member_take n width saw got finds (stage.Done c a) answer = stage.Idle

-- The first stage of a call.
abbrev pub member_begun : MemberCall → ContainerCall
member_begun (call.Add number owner) = stage.Enter number owner
member_begun (call.Remove owner index mode) = stage.Sink owner index mode
member_begun call.Update = stage.Look
member_begun (call.Recover owner number mode) = stage.Search owner number mode

-- Whether no call is in progress.
abbrev pub member_is_idle : ContainerCall → Bool
member_is_idle stage.Idle = true
member_is_idle (stage.Enter number owner) = false
member_is_idle (stage.Fill number owner index next) = false
member_is_idle (stage.Show number owner index seen) = false
member_is_idle (stage.Sink owner index mode) = false
member_is_idle (stage.Hide owner index mode seen) = false
member_is_idle (stage.Leave owner index mode) = false
member_is_idle (stage.Drop owner index mode) = false
member_is_idle (stage.Count c answer) = false
member_is_idle (stage.Raise c answer seen) = false
member_is_idle stage.Look = false
member_is_idle (stage.Visit place) = false
member_is_idle (stage.Gather place seen next) = false
member_is_idle (stage.Search owner number mode) = false
member_is_idle (stage.Watch owner number mode place) = false
member_is_idle (stage.Ask owner number mode place seen) = false
member_is_idle (stage.Expel owner number mode place seen) = false
member_is_idle (stage.Clear owner number mode place) = false
member_is_idle (stage.Close owner number mode) = false
member_is_idle (stage.Done c answer) = false

-- Whether the next step is the last one of its call.
abbrev pub member_is_over : ContainerCall → Bool
member_is_over stage.Idle = false
member_is_over (stage.Enter number owner) = false
member_is_over (stage.Fill number owner index next) = false
member_is_over (stage.Show number owner index seen) = false
member_is_over (stage.Sink owner index mode) = false
member_is_over (stage.Hide owner index mode seen) = false
member_is_over (stage.Leave owner index mode) = false
member_is_over (stage.Drop owner index mode) = false
member_is_over (stage.Count c answer) = false
member_is_over (stage.Raise c answer seen) = false
member_is_over stage.Look = false
member_is_over (stage.Visit place) = false
member_is_over (stage.Gather place seen next) = false
member_is_over (stage.Search owner number mode) = false
member_is_over (stage.Watch owner number mode place) = false
member_is_over (stage.Ask owner number mode place seen) = false
member_is_over (stage.Expel owner number mode place seen) = false
member_is_over (stage.Clear owner number mode place) = false
member_is_over (stage.Close owner number mode) = false
member_is_over (stage.Done c answer) = true

-- The call that a party has in progress, if any.
abbrev pub member_in_hand : ContainerCall → Option MemberCall
member_in_hand stage.Idle = None
member_in_hand (stage.Enter number owner) = Some (call.Add number owner)
member_in_hand (stage.Fill number owner index next) = Some (call.Add number owner)
member_in_hand (stage.Show number owner index seen) = Some (call.Add number owner)
member_in_hand (stage.Sink owner index mode) = Some (call.Remove owner index mode)
member_in_hand (stage.Hide owner index mode seen) = Some (call.Remove owner index mode)
member_in_hand (stage.Leave owner index mode) = Some (call.Remove owner index mode)
member_in_hand (stage.Drop owner index mode) = Some (call.Remove owner index mode)
member_in_hand (stage.Count c answer) = Some c
member_in_hand (stage.Raise c answer seen) = Some c
member_in_hand stage.Look = Some call.Update
member_in_hand (stage.Visit place) = Some call.Update
member_in_hand (stage.Gather place seen next) = Some call.Update
member_in_hand (stage.Search owner number mode) = Some (call.Recover owner number mode)
member_in_hand (stage.Watch owner number mode place) = Some (call.Recover owner number mode)
member_in_hand (stage.Ask owner number mode place seen) = Some (call.Recover owner number mode)
member_in_hand (stage.Expel owner number mode place seen) = Some (call.Recover owner number mode)
member_in_hand (stage.Clear owner number mode place) = Some (call.Recover owner number mode)
member_in_hand (stage.Close owner number mode) = Some (call.Recover owner number mode)
member_in_hand (stage.Done c answer) = Some c
