-- What the result of a call on a container says of the steps that were made.
use Rattle.std.specs.Prelude.{ℕ, ◌≡◌, ◌+◌, ◌<◌, ◌≤◌, Bool, true, false, if◌then◌else◌, ◌==◌, nat_lt, Ok, Err, List, [], ◌∷◌, ◌++◌}
use Rattle.std.specs.Prelude.{length, slice_index, take, drop}
use Rattle.std.specs.Global.{Vec}
use Rattle.iox_queues_steps.specs.Access.{RingWords, after_access}
use Rattle.iox_queues_steps.specs.declared.access.Word.TheVariants.{Write, Read, Cell}
use Rattle.iox_queues_steps.specs.declared.access.Access.{Access}
use Rattle.iox_queues_steps.specs.declared.access.Access.TheVariants.{Load, Store, Exchange, Local}
use Rattle.iox_queues.specs.Moments.{words_after}
use Rattle.iox_queues.specs.Recorded.{LiesWithin}
use Rattle.iox_queues.specs.Told.{own}
use Rattle.iox_queues.specs.Values.{table_value}
use Rattle.iox_queues.specs.declared.bits.machine.Event.{Event}
use Rattle.iox_robust_steps.specs.ContainerSteps.{is_shown, value_cell}
use Rattle.iox_robust_steps.specs.declared.container.call.MemberAnswer.{MemberAnswer}
use Rattle.iox_robust_steps.specs.declared.container.call.MemberAnswer.TheVariants.{Added, Removed, Updated}
use Rattle.iox_robust_steps.specs.declared.container.call.MemberCall.{MemberCall}
use Rattle.iox_robust_steps.specs.declared.container.call.MemberCall.TheVariants as call
use Rattle.iox_robust_steps.specs.declared.container.MemberFinished.{MemberFinished}

-- Whether the step counted a change, as 1 or 0: its exchange of the count succeeded.
abbrev pub counted_by : Access → ℕ → ℕ
counted_by (Load word) answer = 0
counted_by (Store word value) answer = 0
counted_by (Exchange Write old new) answer = if answer == old then 1 else 0
counted_by (Exchange Read old new) answer = 0
counted_by (Exchange (Cell place) old new) answer = 0
counted_by Local answer = 0

-- How many changes these steps counted.
abbrev pub times_counted : List Event → ℕ
times_counted [] = 0
times_counted (event ∷ events) = counted_by event.access event.answer + times_counted events

-- The words of a value that a copy has loaded since it read the count of a place, after this access.
abbrev pub gathered_by : ℕ → Access → ℕ → List ℕ → List ℕ
gathered_by n (Load Write) answer found = found
gathered_by n (Load Read) answer found = found
gathered_by n (Load (Cell cell)) answer found = if nat_lt cell n then [] else found ++ answer ∷ []
gathered_by n (Store word value) answer found = found
gathered_by n (Exchange word old new) answer found = found
gathered_by n Local answer found = found

-- The words of a value that a copy has loaded since it read the count of a place, after these further steps.
abbrev pub gathered_after : ℕ → List ℕ → List Event → List ℕ
gathered_after n found [] = found
gathered_after n found (event ∷ events) = gathered_after n (gathered_by n event.access event.answer found) events

-- What a copy shows of a place: its count, and the words of the value.
pub record Shown : Type 0 where
  pub count : ℕ
  pub value : List ℕ

-- What a copy shows of a place after this access: reading the place's count gives it, with the words loaded since the read before.
abbrev pub noted_by : ℕ → List ℕ → Access → ℕ → Shown → Shown
noted_by place found (Load Write) answer shown = shown
noted_by place found (Load Read) answer shown = shown
noted_by place found (Load (Cell cell)) answer shown = if cell == place then record { count = answer; value = found } else shown
noted_by place found (Store word value) answer shown = shown
noted_by place found (Exchange word old new) answer shown = shown
noted_by place found Local answer shown = shown

-- What a copy shows of a place after these further steps.
abbrev pub noted_after : ℕ → ℕ → List ℕ → Shown → List Event → Shown
noted_after n place found shown [] = shown
noted_after n place found shown (event ∷ events) =
    noted_after n place (gathered_by n event.access event.answer found) (noted_by place found event.access event.answer shown) events

-- What the steps of a copy show of a place: the count that they last read there, and the words loaded between the last two reads.
abbrev pub shown_at : ℕ → ℕ → List Event → Shown
shown_at n place events = noted_after n place [] (record { count = 0; value = [] }) events

-- The count of a place after the first `moment` steps.
abbrev pub count_at : RingWords → List Event → ℕ → ℕ → ℕ
count_at start events place moment = slice_index (words_after start (take moment events)).cells place

-- Word `j` of the value at a place after the first `moment` steps.
abbrev pub value_at : ℕ → ℕ → RingWords → List Event → ℕ → ℕ → ℕ → ℕ
value_at n width start events place moment j =
    slice_index (words_after start (take moment events)).cells (value_cell n width place j)

-- At one moment since the step `first`, the place had the count that the copy shows, and also the value, if the count shows a member.
pub record WasSo (n width : ℕ) (start : RingWords) (first : ℕ) (events : List Event) (place : ℕ) (shown : Shown) : Type 0 where
  pub moment : ℕ
  pub after : first ≤ moment
  pub before : moment ≤ length events
  pub count : count_at start events place moment ≡ shown.count
  pub value : is_shown shown.count ≡ true → (j : ℕ) → j < width → value_at n width start events place moment j ≡ slice_index shown.value j
  pub whole : is_shown shown.count ≡ true → length shown.value ≡ width

-- A copy that began with the step `first` is true: each member that it shows was there with exactly that value at one moment of the copy,
-- and a place whose count didn't change during the copy is shown with this count.
pub record CopyIsTrue (n width : ℕ) (start : RingWords) (first : ℕ) (events own : List Event) : Type 0 where
  pub was_in : (place : ℕ) → place < n → is_shown (shown_at n place own).count ≡ true
      → WasSo n width start first events place (shown_at n place own)
  pub shows : (place count : ℕ) → place < n
      → ((moment : ℕ) → first ≤ moment → moment ≤ length events → count_at start events place moment ≡ count)
      → (shown_at n place own).count ≡ count

-- One of the party's steps since `first` added the member by storing the count of the place: no member was there before, and the place then
-- has this value.
pub record ComesIn (n width : ℕ) (start : RingWords) (party first : ℕ) (events : List Event) (place : ℕ) (value : List ℕ) : Type 0 where
  pub earlier : List Event
  pub event : Event
  pub later : List Event
  pub whole : events ≡ earlier ++ event ∷ later
  pub inside : first ≤ length earlier
  pub its : event.party ≡ party
  pub count : ℕ
  pub stores : event.access ≡ Store (Cell place) count
  pub out : is_shown (slice_index (words_after start earlier).cells place) ≡ false
  pub in_then : is_shown (slice_index (after_access (words_after start earlier) event.access).cells place) ≡ true
  pub is : (j : ℕ) → j < width
      → slice_index (after_access (words_after start earlier) event.access).cells (value_cell n width place j) ≡ slice_index value j

-- One of the party's steps since `first` removed the member at the place by storing its count.
pub record GoesOut (start : RingWords) (party first : ℕ) (events : List Event) (place : ℕ) : Type 0 where
  pub earlier : List Event
  pub event : Event
  pub later : List Event
  pub whole : events ≡ earlier ++ event ∷ later
  pub inside : first ≤ length earlier
  pub its : event.party ≡ party
  pub count : ℕ
  pub stores : event.access ≡ Store (Cell place) count
  pub in_before : is_shown (slice_index (words_after start earlier).cells place) ≡ true
  pub out : is_shown (slice_index (after_access (words_after start earlier) event.access).cells place) ≡ false

-- What the result of a party's call says, which began with the step `first` and made the steps `own`: an addition added its value and a
-- removal removed its member, by a step of the party, and each counted `counted` changes, as a recovery did; a refused addition counted
-- none; a copy, if one was made, is true.
abbrev pub MemberTells : ℕ → ℕ → List (Vec ℕ) → RingWords → ℕ → ℕ → ℕ → List Event → List Event → MemberCall → MemberAnswer → Type 0
MemberTells n width values start counted party first events own (call.Add number owner) (Added (Ok index)) =
    (index < n) × ComesIn n width start party first events index (table_value values number) × (times_counted own ≡ counted)
MemberTells n width values start counted party first events own (call.Add number owner) (Added (Err why)) = times_counted own ≡ 0
MemberTells n width values start counted party first events own (call.Add number owner) (Removed state) = ⊥
MemberTells n width values start counted party first events own (call.Add number owner) (Updated copied) = ⊥
MemberTells n width values start counted party first events own (call.Remove owner index mode) (Added got) = ⊥
MemberTells n width values start counted party first events own (call.Remove owner index mode) (Removed state) =
    (index < n) × GoesOut start party first events index × (times_counted own ≡ counted)
MemberTells n width values start counted party first events own (call.Remove owner index mode) (Updated copied) = ⊥
MemberTells n width values start counted party first events own call.Update (Added got) = ⊥
MemberTells n width values start counted party first events own call.Update (Removed state) = ⊥
MemberTells n width values start counted party first events own call.Update (Updated true) = CopyIsTrue n width start first events own
MemberTells n width values start counted party first events own call.Update (Updated false) = Unit {0}
MemberTells n width values start counted party first events own (call.Recover owner number mode) (Added got) = ⊥
MemberTells n width values start counted party first events own (call.Recover owner number mode) (Removed state) =
    times_counted own ≡ counted
MemberTells n width values start counted party first events own (call.Recover owner number mode) (Updated copied) = ⊥

-- Each finished call did what its result says, and lies within the steps made.
abbrev pub AreMembersTold : ℕ → ℕ → List (Vec ℕ) → RingWords → List Event → List MemberFinished → Type 0
AreMembersTold n width values start events [] = Unit {0}
AreMembersTold n width values start events (f ∷ finished) =
    (MemberTells n width values start 1 f.party f.first (take f.last events) (own f.party (drop f.first (take f.last events))) f.call
    f.answer
    × LiesWithin events f.first f.last)
    × AreMembersTold n width values start events finished

-- Whether the call changed the members, or was a recovery.
abbrev pub is_change : MemberCall → MemberAnswer → Bool
is_change (call.Add number owner) (Added (Ok index)) = true
is_change (call.Remove owner index mode) (Removed state) = true
is_change (call.Recover owner number mode) (Removed state) = true
is_change other answer = false

-- Each of these calls that changed the members, and began after a copy read the count `saw`, raised the count of changes above it.
abbrev pub AllAreNews : ℕ → ℕ → ℕ → List MemberFinished → Type 0
AllAreNews saw since now [] = Unit {0}
AllAreNews saw since now (f ∷ finished) =
    (is_change f.call f.answer ≡ true → since ≤ f.first → saw < now) × AllAreNews saw since now finished
