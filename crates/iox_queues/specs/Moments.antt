-- The moments at which finished calls on a set did what their results say, by the counts of the places at these moments.
use Rattle.std.specs.Prelude.{ℕ, ◌≡◌, ◌+◌, ◌<◌, ◌≤◌, ◌⊎◌, true, false, Some, None, List, [], ◌∷◌, ◌++◌, length, slice_index, take}
use Rattle.iox_queues_steps.specs.Access.{RingWords, after_access}
use Rattle.iox_queues.specs.Machine.{SetState, start_words}
use Rattle.iox_queues.specs.declared.bits.call.Answer.{Answer}
use Rattle.iox_queues.specs.declared.bits.call.Answer.TheVariants.{Added, Taken, Swept}
use Rattle.iox_queues.specs.declared.bits.call.Call.{Call}
use Rattle.iox_queues.specs.declared.bits.call.Call.TheVariants as call
use Rattle.iox_queues.specs.declared.bits.machine.Event.{Event}
use Rattle.iox_queues.specs.declared.bits.machine.Finished.{Finished}

-- The words after these steps.
abbrev pub words_after : RingWords → List Event → RingWords
words_after words [] = words
words_after words (event ∷ events) = words_after (after_access words event.access) events

-- Among the steps from the step `first` on is one of the party for which `IsSo` holds of the count that it found at the place and the
-- count that it left there.
pub record HasMoment (words : RingWords) (party first place : ℕ) (IsSo : ℕ → ℕ → Type 0) (events : List Event) : Type 0 where
  pub earlier : List Event
  pub event : Event
  pub later : List Event
  pub whole : events ≡ earlier ++ event ∷ later
  pub inside : first ≤ length earlier
  pub its : event.party ≡ party
  pub so : IsSo (slice_index (words_after words earlier).cells place)
      (slice_index (after_access (words_after words earlier) event.access).cells place)

-- The count became one more.
abbrev pub IsOneMore : ℕ → ℕ → Type 0
IsOneMore before after = after ≡ before + 1

-- The count was the largest.
abbrev pub IsAtLargest : ℕ → ℕ → ℕ → Type 0
IsAtLargest max before after = max ≤ before

-- The count was above 0 and became 0.
abbrev pub IsTakenOut : ℕ → ℕ → Type 0
IsTakenOut before after = (0 < before) × (after ≡ 0)

-- The count was 0.
abbrev pub IsAtZero : ℕ → ℕ → Type 0
IsAtZero before after = before ≡ 0

-- The count was 0, or it was above 0 and became 0.
abbrev pub IsAtZeroOrTakenOut : ℕ → ℕ → Type 0
IsAtZeroOrTakenOut before after = IsAtZero before after ⊎ IsTakenOut before after

-- The moments of a call with this result, in a set of `n` places whose largest count is `max`. A `Set` has one at which the count of
-- its place rises by one or is the largest. A reset of the next place has one at which that place is reset; if it found none, it has
-- one for each place, at which its count is 0. A reset of all has one for each place, at which its count is 0 or is reset.
abbrev pub MomentsOf : ℕ → ℕ → ℕ → ℕ → Call → Answer → List Event → Type 0
MomentsOf max n party first (call.Set place) (Added true) events =
    HasMoment (start_words n) party first place IsOneMore events
MomentsOf max n party first (call.Set place) (Added false) events =
    HasMoment (start_words n) party first place (IsAtLargest max) events
MomentsOf max n party first (call.Set place) (Taken got) events = ⊥
MomentsOf max n party first (call.Set place) Swept events = ⊥
MomentsOf max n party first call.ResetNext (Taken (Some place)) events =
    HasMoment (start_words n) party first place IsTakenOut events
MomentsOf max n party first call.ResetNext (Taken None) events =
    (place : ℕ) → place < n → HasMoment (start_words n) party first place IsAtZero events
MomentsOf max n party first call.ResetNext (Added added) events = ⊥
MomentsOf max n party first call.ResetNext Swept events = ⊥
MomentsOf max n party first call.ResetAll Swept events =
    (place : ℕ) → place < n → HasMoment (start_words n) party first place IsAtZeroOrTakenOut events
MomentsOf max n party first call.ResetAll (Added added) events = ⊥
MomentsOf max n party first call.ResetAll (Taken got) events = ⊥

-- Each of these calls has its moments, from its first step on and before its last one.
abbrev pub EachHasMoments : ℕ → ℕ → List Event → List Finished → Type 0
EachHasMoments max n events [] = Unit {0}
EachHasMoments max n events (f ∷ finished) =
    MomentsOf max n f.party f.first f.call f.answer (take f.last events) × EachHasMoments max n events finished

-- Each finished call has its moments.
abbrev pub CallsHaveMoments : SetState → Type 0
CallsHaveMoments m = EachHasMoments m.max (length m.words.cells) m.events m.finished
