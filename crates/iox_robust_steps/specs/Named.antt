-- The owner for which an index is held: that of the acquire that took it last.
use Rattle.std.specs.Prelude.{ℕ, ◌≡◌, ◌<◌, ◌≤◌, ◌⊎◌, Ok, List, ◌∷◌, ◌++◌, length}
use Rattle.iox_queues.specs.declared.bits.machine.Event.{Event}
use Rattle.iox_robust_steps.specs.Changes.{times_given, times_taken, took_by}
use Rattle.iox_robust_steps.specs.declared.call.Answer.TheVariants.{Acquired}
use Rattle.iox_robust_steps.specs.declared.call.Call.TheVariants as call
use Rattle.iox_robust_steps.specs.declared.call.RobustCall.TheVariants as stage
use Rattle.iox_robust_steps.specs.declared.machine.Finished.{Finished}
use Rattle.iox_robust_steps.specs.declared.state.Seat.{Seat}

-- Among these calls is an acquire of the party for this owner that returned index `i`, and the step with this number lies within it.
pub record AcquireEnded (party owner i number : ℕ) (finished : List Finished) : Type 0 where
  pub before : List Finished
  pub ended : Finished
  pub after : List Finished
  pub whole : finished ≡ before ++ ended ∷ after
  pub its : ended.party ≡ party
  pub is : ended.call ≡ call.Acquire owner
  pub so : ended.answer ≡ Acquired (Ok i)
  pub began : ended.first ≤ number
  pub until : number < ended.last

-- The party has an acquire for this owner in progress that has the result `i`, and the step with this number lies within it.
pub record AcquireInHand (owner i number : ℕ) (seat : Seat) : Type 0 where
  pub so : seat.stage ≡ stage.Done (call.Acquire owner) (Acquired (Ok i))
  pub began : seat.first ≤ number

-- The party holds index `i` for this owner: the step that took it last is the party's, within an acquire for this owner that returned this
-- index, and nobody released the index since.
pub record StandsUnder (party i owner : ℕ) (seat : Seat) (events : List Event) (finished : List Finished) : Type 0 where
  pub before : List Event
  pub taking : Event
  pub after : List Event
  pub whole : events ≡ before ++ taking ∷ after
  pub its : taking.party ≡ party
  pub takes : took_by i taking.access ≡ 1
  pub last : times_taken i after ≡ 0
  pub kept : times_given i after ≡ 0
  pub acquired : AcquireEnded party owner i (length before) finished ⊎ AcquireInHand owner i (length before) seat
