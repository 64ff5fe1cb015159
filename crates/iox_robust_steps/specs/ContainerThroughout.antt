-- What a copy shows of a member that is in the container throughout the copy.
use Rattle.std.specs.Prelude.{ℕ, ◌≡◌, ◌<◌, ◌≤◌, true, false, Some, None, List, [], ◌∷◌, ◌++◌, length, slice_index, take, drop}
use Rattle.iox_queues_steps.specs.Access.{RingWords}
use Rattle.iox_queues.specs.Moments.{words_after}
use Rattle.iox_queues.specs.Told.{own}
use Rattle.iox_queues.specs.declared.bits.machine.Event.{Event}
use Rattle.iox_robust_steps.specs.ContainerSteps.{is_shown, value_cell}
use Rattle.iox_robust_steps.specs.ContainerStays.{whose_after}
use Rattle.iox_robust_steps.specs.ContainerTold.{shown_at, Shown}
use Rattle.iox_robust_steps.specs.declared.container.call.MemberAnswer.{MemberAnswer}
use Rattle.iox_robust_steps.specs.declared.container.call.MemberAnswer.TheVariants.{Added, Removed, Updated}
use Rattle.iox_robust_steps.specs.declared.container.call.MemberCall.{MemberCall}
use Rattle.iox_robust_steps.specs.declared.container.call.MemberCall.TheVariants as call
use Rattle.iox_robust_steps.specs.declared.container.MemberFinished.{MemberFinished}

-- The fact holds at each moment from the step `first` on, up to the end of these steps.
abbrev pub IsSoUpTo : (List Event → Type 0) → ℕ → List Event → Type 0
IsSoUpTo IsSo first events = (steps rest : List Event) → events ≡ steps ++ rest → first ≤ length steps → IsSo steps

-- After these steps a member of this party is at the place.
abbrev pub IsTheirs : ℕ → ℕ → List Event → Type 0
IsTheirs owner place events = whose_after place None events ≡ Some owner

-- After these steps the words of the value at the place are exactly these.
abbrev pub HasValue : ℕ → ℕ → RingWords → ℕ → List ℕ → List Event → Type 0
HasValue n width start place value events =
    (j : ℕ) → j < width → slice_index (words_after start events).cells (value_cell n width place j) ≡ slice_index value j

-- The copy shows the member there, with the value that it has at each moment of the copy.
pub record ShowsStaying (n width : ℕ) (start : RingWords) (first : ℕ) (events : List Event) (place : ℕ) (shown : Shown) : Type 0 where
  pub is_in : is_shown shown.count ≡ true
  pub value : IsSoUpTo (HasValue n width start place shown.value) first events

-- A copy, which began with the step `first` and made the steps `own`, shows each member that is in the container at each moment of the
-- copy.
abbrev pub ShowsWhoStays : ℕ → ℕ → RingWords → ℕ → List Event → List Event → Type 0
ShowsWhoStays n width start first events own =
    (owner place : ℕ) → place < n → IsSoUpTo (IsTheirs owner place) first events
    → ShowsStaying n width start first events place (shown_at n place own)

-- `shows` holds, if the call with this result copied.
abbrev pub IfCopied : MemberCall → MemberAnswer → Type 0 → Type 0
IfCopied (call.Add number owner) answer shows = Unit {0}
IfCopied (call.Remove owner index mode) answer shows = Unit {0}
IfCopied call.Update (Added got) shows = Unit {0}
IfCopied call.Update (Removed state) shows = Unit {0}
IfCopied call.Update (Updated true) shows = shows
IfCopied call.Update (Updated false) shows = Unit {0}
IfCopied (call.Recover owner number mode) answer shows = Unit {0}

-- Each finished call that copied shows each member that was in the container at each moment of the copy.
abbrev pub EachShowsWhoStays : ℕ → ℕ → RingWords → List Event → List MemberFinished → Type 0
EachShowsWhoStays n width start events [] = Unit {0}
EachShowsWhoStays n width start events (f ∷ finished) =
    IfCopied f.call f.answer
    (ShowsWhoStays n width start f.first (take f.last events) (own f.party (drop f.first (take f.last events))))
    × EachShowsWhoStays n width start events finished
