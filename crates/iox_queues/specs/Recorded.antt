-- What the recorded steps say of the words and of the calls, for calls of any kind.
use Rattle.std.specs.Prelude.{ℕ, ◌≡◌, ◌<◌, ◌≤◌, List, [], ◌∷◌, length}
use Rattle.iox_queues_steps.specs.Access.{RingWords, answer_of, after_access}
use Rattle.iox_queues_steps.specs.declared.access.Access.{Access}
use Rattle.iox_queues_steps.specs.declared.access.Access.TheVariants.{Local}
use Rattle.iox_queues.specs.declared.bits.machine.Event.{Event}

-- Each step has the result that its word held then, and the words after all steps are `after`.
abbrev pub Answered : RingWords → List Event → RingWords → Type 0
Answered words [] after = after ≡ words
Answered words (event ∷ events) after =
    (event.answer ≡ answer_of words event.access) × Answered (after_access words event.access) events after

-- From one stage to another, each step made the access that its stage requests, and the next stage took its result.
abbrev pub Goes : {S : Type 0} → (S → Access) → (S → ℕ → S) → S → List Event → S → Type 0
Goes next take stage [] end = end ≡ stage
Goes next take stage (event ∷ events) end =
    (event.access ≡ next stage) × Goes next take (take stage event.answer) events end

-- The step with which a party begins or finishes a call; it accesses no word.
abbrev pub local_step : ℕ → Event
local_step party = record { party = party; access = Local; answer = 0 }

-- The steps of a call from its first stage up to another: a local one, and the accesses that the call requested.
pub record IsAskedFrom (S : Type 0) (next : S → Access) (take : S → ℕ
    → S) (party : ℕ) (begun stage : S) (events : List Event) : Type 0 where
  pub between : List Event
  pub whole : events ≡ local_step party ∷ between
  pub goes : Goes next take begun between stage

-- A call with this first and this last step lies within the steps made.
pub record LiesWithin (events : List Event) (first last : ℕ) : Type 0 where
  pub begun : first ≤ last
  pub ended : last < length events
