-- The steps of an acquire and of a release on an index set, by the stage of each.
use Rattle.std.specs.Prelude.{ℕ, ◌-◌, ◌%◌, ◌^◌, Bool, true, false, if◌then◌else◌, ◌==◌, ◌&&◌, nat_le, nat_lt, Ok, Err}
use Rattle.iox_container.specs.Head.{word_of_head, head_of_word, head_after_acquire, head_after_release}
use Rattle.iox_container.specs.Release.{state_of}
use Rattle.iox_container.specs.declared.error.UniqueIndexSetAcquireFailure.TheVariants.{OutOfIndices, IsLocked}
use Rattle.iox_container.specs.declared.head.HeadDetails.{HeadDetails}
use Rattle.iox_container.specs.declared.release.ReleaseMode.{ReleaseMode}
use Rattle.iox_container.specs.declared.release.ReleaseMode.TheVariants.{LockIfLastIndex, Default}
use Rattle.iox_queues_steps.specs.declared.access.Word.TheVariants.{Read, Cell}
use Rattle.iox_queues_steps.specs.declared.access.Access.{Access}
use Rattle.iox_queues_steps.specs.declared.access.Access.TheVariants.{Load, Store, Exchange, Local}
use Rattle.iox_index_steps.specs.declared.call.Answer.TheVariants.{Acquired, Released}
use Rattle.iox_index_steps.specs.declared.call.Call.{Call}
use Rattle.iox_index_steps.specs.declared.call.Call.TheVariants as call
use Rattle.iox_index_steps.specs.declared.call.IndexCall.{IndexCall}
use Rattle.iox_index_steps.specs.declared.call.IndexCall.TheVariants.{Idle, Acquire, Follow, Take, Release, Link, Give, Done}

-- The next free index according to the word of a head; if it is the capacity, no index is free.
abbrev pub next_free : ℕ → ℕ
next_free word = (head_of_word word).head

-- The count of held indices in the word of a head.
abbrev pub borrowed_count : ℕ → ℕ
borrowed_count word = (head_of_word word).borrowed_indices

-- The count of held indices that marks a locked set.
abbrev pub lock_mark : ℕ
lock_mark = 2 ^ 24 - 1

-- Whether the set with this head is locked: an index is free, and the count is the mark.
abbrev pub is_locked_by : ℕ → ℕ → Bool
is_locked_by capacity word = nat_lt (next_free word) capacity && (borrowed_count word == lock_mark)

-- The head after its next free index is taken; from then on `next` is the next free index.
abbrev pub head_taken : ℕ → ℕ → ℕ
head_taken word next = word_of_head (head_after_acquire (next % 2 ^ 24) (head_of_word word))

-- Whether a release in this mode locks a set of which `held` indices are held before it.
abbrev pub locks_last : ReleaseMode → ℕ → Bool
locks_last LockIfLastIndex held = held == 1
locks_last Default held = false

-- The head with the mark in place of its count, if the set is to be locked.
abbrev pub marked_if : Bool → HeadDetails → HeadDetails
marked_if true details = record details { borrowed_indices = lock_mark }
marked_if false details = details

-- The head after an index is released in this mode.
abbrev pub head_given : ℕ → ReleaseMode → ℕ → ℕ
head_given index mode word =
    word_of_head (marked_if (locks_last mode (borrowed_count word)) (head_after_release index (head_of_word word)))

-- The next access of a call.
abbrev pub call_next : IndexCall → Access
call_next Idle = Local
call_next (Acquire capacity) = Load Read
call_next (Follow capacity word) = Load (Cell (next_free word))
call_next (Take capacity word next) = Exchange Read word (head_taken word next)
call_next (Release index mode) = Load Read
call_next (Link index mode word) = Store (Cell index) (next_free word)
call_next (Give index mode word) = Exchange Read word (head_given index mode word)
call_next (Done c answer) = Local

-- The stage of an acquire after it read this head: no index is free, or the set is locked, or it goes on to the next free index.
abbrev pub seen_by_acquire : ℕ → ℕ → IndexCall
seen_by_acquire capacity word =
    if nat_le capacity (next_free word)
    then Done call.Acquire (Acquired (Err OutOfIndices))
    else if borrowed_count word == lock_mark then Done call.Acquire (Acquired (Err IsLocked)) else Follow capacity word

-- The stage of a call after the result of its access.
abbrev pub call_take : IndexCall → ℕ → IndexCall
call_take Idle answer = Idle
call_take (Acquire capacity) answer = seen_by_acquire capacity answer
call_take (Follow capacity word) answer = Take capacity word answer
call_take (Take capacity word next) answer =
    if answer == word then Done call.Acquire (Acquired (Ok (next_free word))) else seen_by_acquire capacity answer
call_take (Release index mode) answer = Link index mode answer
call_take (Link index mode word) answer = Give index mode word
call_take (Give index mode word) answer =
    if answer == word
    then Done (call.Release index mode) (Released (state_of (locks_last mode (borrowed_count word))))
    else Link index mode answer
call_take (Done c answered) answer = Idle

-- The first stage of a call, in a set with this capacity.
abbrev pub call_begun : ℕ → Call → IndexCall
call_begun capacity call.Acquire = Acquire capacity
call_begun capacity (call.Release index mode) = Release index mode

-- Whether no call is in progress.
abbrev pub call_is_idle : IndexCall → Bool
call_is_idle Idle = true
call_is_idle (Acquire capacity) = false
call_is_idle (Follow capacity word) = false
call_is_idle (Take capacity word next) = false
call_is_idle (Release index mode) = false
call_is_idle (Link index mode word) = false
call_is_idle (Give index mode word) = false
call_is_idle (Done c answer) = false

-- Whether the next step is the last one of its call.
abbrev pub call_is_over : IndexCall → Bool
call_is_over Idle = false
call_is_over (Acquire capacity) = false
call_is_over (Follow capacity word) = false
call_is_over (Take capacity word next) = false
call_is_over (Release index mode) = false
call_is_over (Link index mode word) = false
call_is_over (Give index mode word) = false
call_is_over (Done c answer) = true

-- Whether the call saw an index or began with one, so that the set has an index.
abbrev pub saw_index : IndexCall → Bool
saw_index Idle = false
saw_index (Acquire capacity) = false
saw_index (Follow capacity word) = true
saw_index (Take capacity word next) = true
saw_index (Release index mode) = true
saw_index (Link index mode word) = true
saw_index (Give index mode word) = true
saw_index (Done c answer) = false
