-- What steps do to the head of a set: which indices they take, and which they release.
use Rattle.std.specs.Prelude.{ℕ, ◌+◌, Bool, true, false, if◌then◌else◌, ◌==◌, ◌&&◌, not, List, [], ◌∷◌}
use Rattle.iox_queues_steps.specs.declared.access.Word.TheVariants.{Write, Read, Cell}
use Rattle.iox_queues_steps.specs.declared.access.Access.{Access}
use Rattle.iox_queues_steps.specs.declared.access.Access.TheVariants.{Load, Store, Exchange, Local}
use Rattle.iox_queues.specs.declared.bits.machine.Event.{Event}
use Rattle.iox_index_steps.specs.Steps.{next_free, borrowed_count}

-- Whether the new head counts one more held index than the old one.
abbrev pub holds_more : ℕ → ℕ → Bool
holds_more old new = borrowed_count new == borrowed_count old + 1

-- Whether the step changed the head, as 1 or 0.
abbrev pub changed_by : Access → ℕ → ℕ
changed_by (Load word) answer = 0
changed_by (Store word value) answer = 0
changed_by (Exchange Write old new) answer = 0
changed_by (Exchange Read old new) answer = if answer == old then 1 else 0
changed_by (Exchange (Cell place) old new) answer = 0
changed_by Local answer = 0

-- Whether the step took index `i`, as 1 or 0: it changed the head, one more index is held after it, and `i` was the next free index
-- before it.
abbrev pub took_by : ℕ → Access → ℕ → ℕ
took_by i (Load word) answer = 0
took_by i (Store word value) answer = 0
took_by i (Exchange Write old new) answer = 0
took_by i (Exchange Read old new) answer =
    if (answer == old) && (holds_more old new && (next_free old == i)) then 1 else 0
took_by i (Exchange (Cell place) old new) answer = 0
took_by i Local answer = 0

-- Whether the step released index `i`, as 1 or 0: it changed the head, no more indices are held after it, and `i` is the next free
-- index then.
abbrev pub gave_by : ℕ → Access → ℕ → ℕ
gave_by i (Load word) answer = 0
gave_by i (Store word value) answer = 0
gave_by i (Exchange Write old new) answer = 0
gave_by i (Exchange Read old new) answer =
    if (answer == old) && (not (holds_more old new) && (next_free new == i)) then 1 else 0
gave_by i (Exchange (Cell place) old new) answer = 0
gave_by i Local answer = 0

-- How often these steps changed the head.
abbrev pub head_changes : List Event → ℕ
head_changes [] = 0
head_changes (event ∷ events) = changed_by event.access event.answer + head_changes events

-- How often these steps took index `i`.
abbrev pub times_taken : ℕ → List Event → ℕ
times_taken i [] = 0
times_taken i (event ∷ events) = took_by i event.access event.answer + times_taken i events

-- How often these steps released index `i`.
abbrev pub times_given : ℕ → List Event → ℕ
times_given i [] = 0
times_given i (event ∷ events) = gave_by i event.access event.answer + times_given i events

-- Whether the step read the head.
abbrev pub sees_head : Access → Bool
sees_head (Load Write) = false
sees_head (Load Read) = true
sees_head (Load (Cell place)) = false
sees_head (Store word value) = false
sees_head (Exchange Write old new) = false
sees_head (Exchange Read old new) = true
sees_head (Exchange (Cell place) old new) = false
sees_head Local = false
