-- What steps do to the cells of a set: which indices they take, and which they release.
use Rattle.std.specs.Prelude.{ℕ, ◌+◌, ◌^◌, Bool, false, not, if◌then◌else◌, ◌==◌, ◌&&◌, nat_lt, List, [], ◌∷◌}
use Rattle.iox_queues_steps.specs.declared.access.Word.TheVariants.{Write, Read, Cell}
use Rattle.iox_queues_steps.specs.declared.access.Access.{Access}
use Rattle.iox_queues_steps.specs.declared.access.Access.TheVariants.{Load, Store, Exchange, Local}
use Rattle.iox_queues.specs.declared.bits.machine.Event.{Event}
use Rattle.iox_robust_steps.specs.Steps.{lock_mark}

-- Whether the number is a valid owner.
abbrev pub is_owner : ℕ → Bool
is_owner owner = nat_lt 0 owner && nat_lt owner (2 ^ 63)

-- Whether the step took index `i`, as 1 or 0: it stored an owner in the cell.
abbrev pub took_by : ℕ → Access → ℕ
took_by i (Load word) = 0
took_by i (Store Write value) = 0
took_by i (Store Read value) = 0
took_by i (Store (Cell place) value) = if (place == i) && nat_lt 0 value then 1 else 0
took_by i (Exchange word old new) = 0
took_by i Local = 0

-- Whether the step released index `i`, as 1 or 0: its exchange found the expected owner in the cell, and emptied it.
abbrev pub gave_by : ℕ → Access → ℕ → ℕ
gave_by i (Load word) answer = 0
gave_by i (Store word value) answer = 0
gave_by i (Exchange Write old new) answer = 0
gave_by i (Exchange Read old new) answer = 0
gave_by i (Exchange (Cell place) old new) answer =
    if (place == i) && ((answer == old) && ((new == 0) && is_owner old)) then 1 else 0
gave_by i Local answer = 0

-- How often these steps took index `i`.
abbrev pub times_taken : ℕ → List Event → ℕ
times_taken i [] = 0
times_taken i (event ∷ events) = took_by i event.access + times_taken i events

-- How often these steps released index `i`.
abbrev pub times_given : ℕ → List Event → ℕ
times_given i [] = 0
times_given i (event ∷ events) = gave_by i event.access event.answer + times_given i events

-- The number that was last stored in the cell of index `i`, after this access.
abbrev pub named_by : ℕ → Access → ℕ → ℕ
named_by i (Load word) now = now
named_by i (Store Write value) now = now
named_by i (Store Read value) now = now
named_by i (Store (Cell place) value) now = if place == i then value else now
named_by i (Exchange word old new) now = now
named_by i Local now = now

-- The number that was last stored in the cell of index `i`, after these further steps.
abbrev pub named_after : ℕ → ℕ → List Event → ℕ
named_after i now [] = now
named_after i now (event ∷ events) = named_after i (named_by i event.access now) events

-- Whether the step expected the cell of index `i` to be empty, and found it filled.
abbrev pub wanted_empty : ℕ → Access → ℕ → Bool
wanted_empty i (Load word) answer = false
wanted_empty i (Store word value) answer = false
wanted_empty i (Exchange Write old new) answer = false
wanted_empty i (Exchange Read old new) answer = false
wanted_empty i (Exchange (Cell place) old new) answer = (place == i) && ((old == 0) && not (answer == 0))
wanted_empty i Local answer = false

-- Whether the event expected the cell of index `i` to be empty, and found it filled.
abbrev pub saw_filled : ℕ → Event → Bool
saw_filled i event = wanted_empty i event.access event.answer

-- Whether the step saw that an index is held or about to be: it read the cell of one of `n` indices and found it filled, or its exchange of
-- the count found another count, which isn't the mark of a locked set.
abbrev pub saw_other : ℕ → Access → ℕ → Bool
saw_other n (Load Write) answer = false
saw_other n (Load Read) answer = false
saw_other n (Load (Cell place)) answer = nat_lt place n && not (answer == 0)
saw_other n (Store word value) answer = false
saw_other n (Exchange Write old new) answer = false
saw_other n (Exchange Read old new) answer = not (answer == old) && not (answer == lock_mark)
saw_other n (Exchange (Cell place) old new) answer = false
saw_other n Local answer = false
