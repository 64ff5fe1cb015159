-- What steps add up to at one place: increments, counts taken out, and resets.
use Rattle.std.specs.Prelude.{ℕ, ◌+◌, ◌-◌, ◌%◌, Bool, if◌then◌else◌, ◌==◌, ◌&&◌, nat_lt, List, [], ◌∷◌}
use Rattle.iox_queues_steps.specs.declared.access.Word.TheVariants.{Write, Read, Cell}
use Rattle.iox_queues_steps.specs.declared.access.Access.{Access}
use Rattle.iox_queues_steps.specs.declared.access.Access.TheVariants.{Load, Store, Exchange, Local}
use Rattle.iox_queues.specs.declared.bits.machine.Event.{Event}

-- Whether an exchange at `place` (modulo `n`) was at place `i` and succeeded.
abbrev pub hits : ℕ → ℕ → ℕ → ℕ → ℕ → Bool
hits n i place answer old = (place % n == i) && (answer == old)

-- How much the step raised the count of place `i`: 1 or 0.
abbrev pub raised_by : ℕ → ℕ → Access → ℕ → ℕ
raised_by n i (Load word) answer = 0
raised_by n i (Store word value) answer = 0
raised_by n i (Exchange Write old new) answer = 0
raised_by n i (Exchange Read old new) answer = 0
raised_by n i (Exchange (Cell place) old new) answer =
    if hits n i place answer old && nat_lt old new then 1 else 0
raised_by n i Local answer = 0

-- How much the step took out of the count of place `i`.
abbrev pub taken_by : ℕ → ℕ → Access → ℕ → ℕ
taken_by n i (Load word) answer = 0
taken_by n i (Store word value) answer = 0
taken_by n i (Exchange Write old new) answer = 0
taken_by n i (Exchange Read old new) answer = 0
taken_by n i (Exchange (Cell place) old new) answer = if hits n i place answer old then old - new else 0
taken_by n i Local answer = 0

-- Whether the step took something out of place `i`, as 1 or 0.
abbrev pub cleared_by : ℕ → ℕ → Access → ℕ → ℕ
cleared_by n i access answer = if nat_lt 0 (taken_by n i access answer) then 1 else 0

-- The increments of place `i` among these steps.
abbrev pub increments : ℕ → ℕ → List Event → ℕ
increments n i [] = 0
increments n i (event ∷ events) = raised_by n i event.access event.answer + increments n i events

-- The counts taken out of place `i` among these steps.
abbrev pub taken_out : ℕ → ℕ → List Event → ℕ
taken_out n i [] = 0
taken_out n i (event ∷ events) = taken_by n i event.access event.answer + taken_out n i events

-- How often place `i` was reset among these steps.
abbrev pub cleared : ℕ → ℕ → List Event → ℕ
cleared n i [] = 0
cleared n i (event ∷ events) = cleared_by n i event.access event.answer + cleared n i events
