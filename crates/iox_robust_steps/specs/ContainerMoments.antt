-- The moment at which a member is added or removed: a step of its party within its call, whoever is recovered.
use Rattle.std.specs.Prelude.{ℕ, ◌≡◌, ◌<◌, ◌≤◌, ◌⊎◌, Bool, true, false, ◌==◌, ◌&&◌, Ok, Err, None, List, [], ◌∷◌, ◌++◌}
use Rattle.std.specs.Prelude.{length, slice_index, take}
use Rattle.std.specs.Global.{Vec}
use Rattle.iox_queues_steps.specs.Access.{RingWords}
use Rattle.iox_queues_steps.specs.declared.access.Word.TheVariants.{Write, Read, Cell}
use Rattle.iox_queues_steps.specs.declared.access.Access.{Access}
use Rattle.iox_queues_steps.specs.declared.access.Access.TheVariants.{Load, Store, Exchange, Local}
use Rattle.iox_queues.specs.Moments.{words_after}
use Rattle.iox_queues.specs.Values.{table_value}
use Rattle.iox_queues.specs.declared.bits.machine.Event.{Event}
use Rattle.iox_robust_steps.specs.ContainerInside.{IsInside, inside_after}
use Rattle.iox_robust_steps.specs.ContainerSteps.{is_shown, value_cell}
use Rattle.iox_robust_steps.specs.ContainerThroughout.{IsSoUpTo}
use Rattle.iox_robust_steps.specs.Machine.{is_lost}
use Rattle.iox_robust_steps.specs.declared.container.call.MemberAnswer.{MemberAnswer}
use Rattle.iox_robust_steps.specs.declared.container.call.MemberAnswer.TheVariants.{Added, Removed, Updated}
use Rattle.iox_robust_steps.specs.declared.container.call.MemberCall.{MemberCall}
use Rattle.iox_robust_steps.specs.declared.container.call.MemberCall.TheVariants as call
use Rattle.iox_robust_steps.specs.declared.container.MemberFinished.{MemberFinished}

-- After these steps a member of the party is at the place, and the count of the place shows it.
pub record IsIn (start : RingWords) (party place : ℕ) (events : List Event) : Type 0 where
  pub its : IsInside party place events
  pub shown : is_shown (slice_index (words_after start events).cells place) ≡ true

-- After these steps a member of the party is at the place, with exactly this value.
pub record IsInWith (n width : ℕ) (start : RingWords) (party place : ℕ) (value : List ℕ) (events : List Event) : Type 0 where
  pub is_in : IsIn start party place events
  pub has : (j : ℕ) → j < width
      → slice_index (words_after start events).cells (value_cell n width place j) ≡ slice_index value j

-- After these steps no member of the party is at the place.
abbrev pub IsNotIn : ℕ → ℕ → List Event → Type 0
IsNotIn party place events = IsInside party place events → ⊥

-- The fact holds after the steps `earlier`, and at each moment of the steps that follow them.
abbrev pub IsSoFrom : (List Event → Type 0) → List Event → List Event → Type 0
IsSoFrom IsSo earlier later = (steps rest : List Event) → later ≡ steps ++ rest → IsSo (earlier ++ steps)

-- Whether a step removes the member at the place as only recoveries do: its exchange of the count succeeds.
abbrev pub expels : ℕ → Access → ℕ → Bool
expels place (Load word) answer = false
expels place (Store word value) answer = false
expels place (Exchange Write old new) answer = false
expels place (Exchange Read old new) answer = false
expels place (Exchange (Cell cell) old new) answer = (cell == place) && (answer == old)
expels place Local answer = false

-- By one of these steps a recovery removes the member at the place.
abbrev pub IsExpelledIn : ℕ → List Event → Type 0
IsExpelledIn place [] = ⊥
IsExpelledIn place (event ∷ events) = (expels place event.access event.answer ≡ true) ⊎ IsExpelledIn place events

-- An addition, which the party began with the step `first`, takes effect at one step of its party. Before this step nobody's member
-- is at the place, and at no moment of the call is a member of the party there, except one that a recovery removes before this step.
-- After this step the added member is there at each moment, with exactly this value, until a recovery removes it; and no recovery
-- does until these steps end, unless the owner's recovery began.
pub record AddsAt (n width : ℕ) (start : RingWords) (gone : Bool) (party first : ℕ) (events : List Event) (place : ℕ) (value : List ℕ)
    : Type 0 where
  pub earlier : List Event
  pub moment : Event
  pub later : List Event
  pub whole : events ≡ earlier ++ moment ∷ later
  pub inside : first ≤ length earlier
  pub its : moment.party ≡ party
  pub none_in : inside_after place None earlier ≡ None
  pub not_yet : (steps rest : List Event) → earlier ≡ steps ++ rest → first ≤ length steps
      → IsNotIn party place steps ⊎ IsExpelledIn place rest
  pub from_then : (steps rest : List Event) → later ≡ steps ++ rest
      → IsInWith n width start party place value ((earlier ++ moment ∷ []) ++ steps) ⊎ IsExpelledIn place steps
  pub till_end : gone ≡ false → IsExpelledIn place later → ⊥

-- A removal takes effect at one step of its party. Before this step the party's member is at the place at each moment of the call, and
-- after it no member of the party is there at any moment.
pub record RemovesAt (start : RingWords) (party first : ℕ) (events : List Event) (place : ℕ) : Type 0 where
  pub earlier : List Event
  pub moment : Event
  pub later : List Event
  pub whole : events ≡ earlier ++ moment ∷ later
  pub inside : first ≤ length earlier
  pub its : moment.party ≡ party
  pub till_then : IsSoUpTo (IsIn start party place) first earlier
  pub no_more : IsSoFrom (IsNotIn party place) (earlier ++ moment ∷ []) later

-- The moment of a call with this result: an addition that isn't refused has one, and a removal has one.
abbrev pub MomentOf : ℕ → ℕ → List (Vec ℕ) → RingWords → List ℕ → ℕ → ℕ → List Event → MemberCall → MemberAnswer → Type 0
MomentOf n width values start lost party first events (call.Add number owner) (Added (Ok index)) =
    AddsAt n width start (is_lost owner lost) party first events index (table_value values number)
MomentOf n width values start lost party first events (call.Add number owner) (Added (Err why)) = Unit {0}
MomentOf n width values start lost party first events (call.Add number owner) (Removed state) = Unit {0}
MomentOf n width values start lost party first events (call.Add number owner) (Updated copied) = Unit {0}
MomentOf n width values start lost party first events (call.Remove owner index mode) (Added got) = Unit {0}
MomentOf n width values start lost party first events (call.Remove owner index mode) (Removed state) =
    RemovesAt start party first events index
MomentOf n width values start lost party first events (call.Remove owner index mode) (Updated copied) = Unit {0}
MomentOf n width values start lost party first events call.Update answer = Unit {0}
MomentOf n width values start lost party first events (call.Recover owner number mode) answer = Unit {0}

-- Each finished call has its moment, among the steps before its last one.
abbrev pub EachHasItsMoment : ℕ → ℕ → List (Vec ℕ) → RingWords → List ℕ → List Event → List MemberFinished → Type 0
EachHasItsMoment n width values start lost events [] = Unit {0}
EachHasItsMoment n width values start lost events (f ∷ finished) =
    MomentOf n width values start lost f.party f.first (take f.last events) f.call f.answer
    × EachHasItsMoment n width values start lost events finished
