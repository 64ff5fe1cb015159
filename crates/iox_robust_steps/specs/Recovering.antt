-- What a step of a recovery does to a set that knows the owner of each held index.
use Rattle.std.specs.Prelude.{ℕ, ◌≡◌, ◌<◌, ◌⊎◌, Bool, true, Option, Some, None, List, slice_index}
use Rattle.std.specs.Global.{Vec}
use Rattle.iox_queues_steps.specs.Access.{RingWords}
use Rattle.iox_robust_steps.specs.Steps.{decided, lock_mark, reserved}
use Rattle.iox_robust_steps.specs.Machine.{RobustSetState, place_of}
use Rattle.iox_robust_steps.specs.OfCalls.{call_of_step}
use Rattle.iox_robust_steps.specs.declared.call.Call.{Call}
use Rattle.iox_robust_steps.specs.declared.call.Call.TheVariants as call
use Rattle.iox_robust_steps.specs.declared.machine.Move.{Move}
use Rattle.iox_robust_steps.specs.declared.state.Place.{Place}
use Rattle.iox_robust_steps.specs.declared.state.Place.TheVariants as place

-- An index keeps its state, and its cell keeps its content.
abbrev pub IndexStays : RingWords → RingWords → List Place → List Place → ℕ → Type 0
IndexStays words words' places places' i =
    (place_of places' i ≡ place_of places i) × (slice_index words'.cells i ≡ slice_index words.cells i)

-- A recovery frees an index: the decisions select it or a step may insist on it, its cell named the owner or showed that the owner was
-- about to take it, and it is free now.
pub record FreesIndex (decisions : List (Vec Bool)) (may : Bool) (words words' : RingWords) (places places' : List Place)
    (owner number i : ℕ) : Type 0
  where
    pub wanted : (decided decisions number i ≡ true) ⊎ (may ≡ true)
    pub owned : (slice_index words.cells i ≡ owner) ⊎ (slice_index words.cells i ≡ reserved owner)
    pub free : place_of places' i ≡ place.Empty
    pub empty : slice_index words'.cells i ≡ 0

-- A step of a recovery leaves each of `n` indices as it is or frees it, and leaves the count as it is or locks the set.
pub record RecoversSo (n : ℕ) (decisions : List (Vec Bool)) (may : Bool) (words words' : RingWords) (places places' : List Place)
    (owner number : ℕ)
    : Type 0 where
  pub each : (i : ℕ) → i < n
      → IndexStays words words' places places' i ⊎ FreesIndex decisions may words words' places places' owner number i
  pub count : (words'.read ≡ words.read) ⊎ (words'.read ≡ lock_mark)

-- If the call is a recovery, its step changes the indices and the count only as a recovery may.
abbrev pub IfRecovers : ℕ → List (Vec Bool) → Bool → RingWords → RingWords → List Place → List Place → Option Call → Type 0
IfRecovers n decisions may words words' places places' None = Unit {0}
IfRecovers n decisions may words words' places places' (Some (call.Acquire owner)) = Unit {0}
IfRecovers n decisions may words words' places places' (Some (call.Release owner index mode)) = Unit {0}
IfRecovers n decisions may words words' places places' (Some (call.Recover owner number mode)) =
    RecoversSo n decisions may words words' places places' owner number

-- Each step of a recovery frees one index that it may free of its owner, or none, and changes nothing else, except that it may lock the
-- set.
abbrev pub FreesOnlyItsOwn : RobustSetState → Move → RobustSetState → Type 0
FreesOnlyItsOwn m step n = IfRecovers m.capacity m.decisions m.may_insist m.words n.words m.places n.places (call_of_step m step)
