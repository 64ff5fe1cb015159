-- The outcome of a step.
use Rattle.std.specs.Prelude.{ℕ, Bool, true, false}
use Rattle.iox_queues_steps.specs.declared.schedule.Stepped.{Stepped}
use Rattle.iox_queues_steps.specs.declared.schedule.Stepped.TheVariants.{Went, Finished, Skipped, NoMemory}

-- How many steps were made: 1 or 0.
abbrev pub count_of : Stepped → ℕ
count_of Went = 1
count_of Finished = 1
count_of Skipped = 0
count_of NoMemory = 0

-- Whether the step was possible, but memory for recording it ran out.
abbrev pub is_stopped_of : Stepped → Bool
is_stopped_of Went = false
is_stopped_of Finished = false
is_stopped_of Skipped = false
is_stopped_of NoMemory = true
