-- The state of a ring machine, as lists and numbers.
use Rattle.std.specs.Prelude.{ℕ, ◌+◌, ◌≤◌, [], length, if◌then◌else◌, vec_len, vec_capacity}
use Rattle.iox_queues_steps.specs.RingMachine.{RingState}
use Rattle.iox_queues_steps.specs.Recorded.{log_of, HasRoom}
use Rattle.iox_queues_steps.specs.Ends.{placed_by_push, taken_by_pop, pop_moves, late_put, push_ended, pop_ended}
use Rattle.iox_queues_steps.specs.declared.schedule.Party.TheVariants.{Producer, Consumer}
use Rattle.iox_queues_steps.specs.declared.schedule.Move.{Move}
use Rattle.iox_queues_steps.specs.declared.schedule.Move.TheVariants.{Begin, GoOn}
use Rattle.iox_queues_steps.specs.declared.rings.state.State.{State}

-- The state of a ring machine, with its vectors as lists.
abbrev pub machine_of : State → RingState
machine_of s = record {
  kind = s.kind;
  limit = s.limit;
  initial = s.initial.items;
  words = s.ring;
  producer = record { push = s.push; first = s.push_first; calls = s.pushes.items };
  consumer = record { pop = s.pop; first = s.pop_first; calls = s.pops.items };
  log = log_of s.log;
}

-- How many acts take effect at a step.
abbrev pub new_acts : RingState → Move → ℕ
new_acts m (Begin c) = 0
new_acts m (GoOn Producer) = length (placed_by_push m.limit m.words.read m.producer.push)
new_acts m (GoOn Consumer) = length (taken_by_pop m.words.write m.words.read m.consumer.pop) + length
    (if pop_moves m.words.read m.consumer.pop then late_put m.words.read m.producer.push else [])

-- How many pushes finish with a step.
abbrev pub new_pushes : RingState → Move → ℕ
new_pushes m (Begin c) = 0
new_pushes m (GoOn Producer) = length (push_ended m.producer.push)
new_pushes m (GoOn Consumer) = 0

-- How many pops and looks finish with a step.
abbrev pub new_pops : RingState → Move → ℕ
new_pops m (Begin c) = 0
new_pops m (GoOn Producer) = 0
new_pops m (GoOn Consumer) = length (pop_ended m.consumer.pop)

-- The vectors have capacity for what a step appends.
pub record StateRoom (step : Move) (s : State) : Type 0 where
  pub log : HasRoom (new_acts (machine_of s) step) s.log
  pub pushes : vec_len s.pushes + new_pushes (machine_of s) step ≤ vec_capacity s.pushes
  pub pops : vec_len s.pops + new_pops (machine_of s) step ≤ vec_capacity s.pops
