-- What the recorded steps say of the calls that made them.
use Rattle.std.specs.Prelude.{ℕ, ◌≡◌, ◌+◌, Bool, true, false, if◌then◌else◌, List, [], ◌∷◌, ◌++◌}
use Rattle.iox_queues_steps.specs.Access.{RingWords, answer_of, after_access}
use Rattle.iox_queues_steps.specs.declared.access.Access.{Access}
use Rattle.iox_queues_steps.specs.declared.access.Access.TheVariants.{Local}
use Rattle.iox_queues_steps.specs.declared.schedule.Event.{Event}
use Rattle.iox_queues_steps.specs.declared.schedule.Party.{Party}
use Rattle.iox_queues_steps.specs.declared.schedule.Party.TheVariants.{Producer, Consumer}

-- Each step has the result that its word held then, and the words after all steps are `after`.
abbrev pub Answered : RingWords → List Event → RingWords → Type 0
Answered words [] after = after ≡ words
Answered words (event ∷ events) after =
    (event.answer ≡ answer_of words event.access) × Answered (after_access words event.access) events after

-- A step with its moment.
pub record Timed : Type 0 where
  pub moment : ℕ
  pub event : Event

-- Whether two parties are the same.
abbrev pub same_party : Party → Party → Bool
same_party Producer Producer = true
same_party Producer Consumer = false
same_party Consumer Producer = false
same_party Consumer Consumer = true

-- A step with its moment, if this party made it.
abbrev pub own_one : Party → ℕ → Event → List Timed
own_one party moment event =
    if same_party party event.party then record { moment = moment; event = event } ∷ [] else []

-- The steps of one party, where the first of all steps has the moment `from`.
abbrev pub own : Party → ℕ → List Event → List Timed
own party from [] = []
own party from (event ∷ events) = own_one party from event ++ own party (from + 1) events

-- A step of a party that accesses no shared word, at this moment.
abbrev pub local : Party → ℕ → Timed
local party moment = record { moment = moment; event = record { party = party; access = Local; answer = 0 } }

-- From one stage to another, each step made the access that its stage requests, and the next stage took its result.
abbrev pub Goes : {S : Type 0} → (S → Access) → (S → ℕ → S) → S → List Timed → S → Type 0
Goes next take stage [] end = end ≡ stage
Goes next take stage (step ∷ steps) end =
    (step.event.access ≡ next stage) × Goes next take (take stage step.event.answer) steps end

-- The steps of a finished call: a local one at its first moment, the accesses between its first stage and its last one, and a local one at
-- its last moment.
pub record IsWhole (S : Type 0) (next : S → Access) (take : S → ℕ
    → S) (party : Party) (begun over : S) (first last : ℕ) (steps : List Timed) : Type 0 where
  pub between : List Timed
  pub all : steps ≡ local party first ∷ (between ++ local party last ∷ [])
  pub goes : Goes next take begun between over

-- The steps of a call in progress: a local one at its first moment, and the accesses up to its stage.
pub record IsOpen (S : Type 0) (next : S → Access) (take : S → ℕ
    → S) (party : Party) (begun stage : S) (first : ℕ) (steps : List Timed) : Type 0 where
  pub between : List Timed
  pub all : steps ≡ local party first ∷ between
  pub goes : Goes next take begun between stage

-- The steps of the call in progress of an end, or none if the end has no call in progress.
abbrev pub InHand : (S : Type 0) → (S → Access) → (S → ℕ → S) → Party → Bool → S → S → ℕ → List Timed → Type 0
InHand S next take party true begun stage first steps = steps ≡ []
InHand S next take party false begun stage first steps = IsOpen S next take party begun stage first steps

-- The steps of a party are those of its finished calls, one call after another, followed by those of the call in progress.
abbrev pub Spans : {C : Type 0} → (C → List Timed → Type 0) → (List Timed → Type 0) → List C → List Timed → Type 0
Spans IsCall IsHand [] steps = IsHand steps
Spans IsCall IsHand (call ∷ calls) steps =
    (span : List Timed) × (rest : List Timed) × (steps ≡ span ++ rest) × IsCall call span × Spans IsCall IsHand calls rest
