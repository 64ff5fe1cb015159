-- The vectors of a machine's log as lists, and their capacity for one more step.
use Rattle.std.specs.Prelude.{ℕ, ◌+◌, ◌≤◌, vec_len, vec_capacity}
use Rattle.iox_queues_steps.specs.Order.{Log}
use Rattle.iox_queues_steps.specs.declared.log.Record.{Record}

-- The log, with its vectors as lists.
abbrev pub log_of : Record → Log
log_of r = record { order = r.order.items; events = r.events.items; moments = r.moments }

-- The vectors have capacity for one more step, at which `count` acts take effect.
pub record HasRoom (count : ℕ) (r : Record) : Type 0 where
  pub acts : vec_len r.order + count ≤ vec_capacity r.order
  pub event : vec_len r.events + 1 ≤ vec_capacity r.events
