-- The invariant of each step of a container's machine.
use Rattle.std.specs.Prelude.{ℕ, ◌≡◌, ◌+◌, ◌*◌, ◌^◌, ◌<◌, ◌≤◌, ◌⊎◌, true, false, Ok, Err, ◌∷◌, Option, Some, None, List, [], length}
use Rattle.std.specs.Prelude.{slice_index, take, drop}
use Rattle.std.specs.Global.{Vec}
use Rattle.iox_queues_steps.specs.Access.{RingWords}
use Rattle.iox_queues.specs.Told.{own}
use Rattle.iox_queues.specs.Values.{table_value}
use Rattle.iox_queues.specs.declared.bits.machine.Event.{Event}
use Rattle.iox_robust_steps.specs.ContainerSteps.{answer_at, is_shown, value_cell}
use Rattle.iox_robust_steps.specs.ContainerThroughout.{EachShowsWhoStays}
use Rattle.iox_robust_steps.specs.ContainerMachine.{ContainerParts, HasFewMoves, MembersAreRecorded, empty_words, member_seat, member_stage}
use Rattle.iox_robust_steps.specs.ContainerMachine.{width_of}
use Rattle.iox_robust_steps.specs.ContainerInside.{EachShowsInside, IsInside, StaysTillOut, inside_after}
use Rattle.iox_robust_steps.specs.ContainerMoments.{EachHasItsMoment, IsExpelledIn}
use Rattle.iox_robust_steps.specs.ContainerRecovering.{IsCalm, LeaveNone, StandsBeside, is_settling}
use Rattle.iox_robust_steps.specs.ContainerOfSet.{AsksSet, HaveReasons}
use Rattle.iox_robust_steps.specs.ContainerStays.{EachLetsPass, LetsPassSoFar, MembersAreOfCalls, ShowsWhose, StaysTillTakenOut}
use Rattle.iox_robust_steps.specs.ContainerStays.{whose_after}
use Rattle.iox_robust_steps.specs.ContainerTold.{AllAreNews, AreMembersTold, GoesOut, MemberTells, WasSo, gathered_after}
use Rattle.iox_robust_steps.specs.ContainerTold.{is_change}
use Rattle.iox_robust_steps.specs.ContainerTold.{shown_at, times_counted}
use Rattle.iox_robust_steps.specs.Machine.{IsOrderly, RobustSetState, is_locked, is_lost, place_of, stage_at}
use Rattle.iox_robust_steps.specs.Kept.{IsKept, IsOwner}
use Rattle.iox_robust_steps.specs.Steps.{call_in_hand, decided, reserved}
use Rattle.iox_robust_steps.specs.Told.{Holds}
use Rattle.iox_robust_steps.specs.declared.call.Answer.TheVariants.{Acquired}
use Rattle.iox_robust_steps.specs.declared.call.Call.TheVariants as set_call
use Rattle.iox_robust_steps.specs.declared.call.RobustCall.{RobustCall}
use Rattle.iox_robust_steps.specs.declared.call.RobustCall.TheVariants as set_stage
use Rattle.iox_container.specs.declared.release.ReleaseMode.{ReleaseMode}
use Rattle.iox_robust_steps.specs.declared.container.call.MemberAnswer.{MemberAnswer}
use Rattle.iox_robust_steps.specs.declared.container.call.MemberAnswer.TheVariants.{Added, Removed, Updated}
use Rattle.iox_robust_steps.specs.declared.container.call.MemberCall.{MemberCall}
use Rattle.iox_robust_steps.specs.declared.container.call.MemberCall.TheVariants as call
use Rattle.iox_robust_steps.specs.declared.container.MemberFinished.{MemberFinished}
use Rattle.iox_robust_steps.specs.declared.container.call.ContainerCall.{ContainerCall}
use Rattle.iox_robust_steps.specs.declared.container.call.ContainerCall.TheVariants as stage
use Rattle.iox_robust_steps.specs.declared.state.Place.{Place}
use Rattle.iox_robust_steps.specs.declared.state.Place.TheVariants as place

-- The first `next` words of a value are stored at a place.
abbrev pub IsFilled : ℕ → ℕ → List ℕ → ℕ → ℕ → List ℕ → Type 0
IsFilled n width cells index next value =
    (j : ℕ) → j < next → slice_index cells (value_cell n width index j) ≡ slice_index value j

-- The fact holds, unless the recovery of the owner began.
abbrev pub UnlessLost : RobustSetState → ℕ → Type 0 → Type 0
UnlessLost indices owner fact = is_lost owner indices.lost ≡ false → fact

-- The party holds the index for this owner.
abbrev pub HoldsFor : RobustSetState → ℕ → ℕ → ℕ → Type 0
HoldsFor indices party owner index =
    (place_of indices.places index ≡ place.Held party) × (slice_index indices.words.cells index ≡ owner)

-- If the set has an index for an addition, the party holds it for the owner and no member is there, unless the owner's recovery began.
abbrev pub HasIndex : ℕ → ℕ → ℕ → List ℕ → RobustSetState → RobustCall → Type 0
HasIndex n party owner cells indices s = (i : ℕ) → answer_at s ≡ Some (Acquired (Ok i))
    → (i < n) × UnlessLost indices owner (HoldsFor indices party owner i × (is_shown (slice_index cells i) ≡ false))

-- The number is a valid owner, whose recovery began.
abbrev pub IsLostOwner : RobustSetState → ℕ → Type 0
IsLostOwner indices owner = IsOwner owner × (is_lost owner indices.lost ≡ true)

-- The cell of an index names this owner, or shows that the owner is about to take the index.
abbrev pub IsOf : ℕ → ℕ → Type 0
IsOf owner cell = (cell ≡ owner) ⊎ (cell ≡ reserved owner)

-- The set's recovery is about to free this index, in whose cell it read the owner.
abbrev pub IsToFree : ℕ → ℕ → ReleaseMode → ℕ → RobustCall → Type 0
IsToFree owner number mode i s = (x : ℕ) × (s ≡ set_stage.Clear owner number mode i x) × IsOf owner x

-- After an addition that wasn't refused, the member is in the container and the party holds its index, unless the owner's recovery began.
abbrev pub IsInStill : RobustSetState → List ℕ → ℕ → MemberCall → MemberAnswer → Type 0
IsInStill indices cells party (call.Add number owner) (Added (Ok index)) =
    UnlessLost indices owner (HoldsFor indices party owner index × (is_shown (slice_index cells index) ≡ true))
IsInStill indices cells party (call.Add number owner) (Added (Err why)) = Unit {0}
IsInStill indices cells party (call.Add number owner) (Removed state) = Unit {0}
IsInStill indices cells party (call.Add number owner) (Updated copied) = Unit {0}
IsInStill indices cells party (call.Remove owner index mode) answer = Unit {0}
IsInStill indices cells party call.Update answer = Unit {0}
IsInStill indices cells party (call.Recover owner number mode) answer = Unit {0}

-- When the addition finished, after these steps, its member was in the container, unless the owner's recovery began.
abbrev pub WasIn : List ℕ → ℕ → List Event → MemberCall → MemberAnswer → Type 0
WasIn lost party events (call.Add number owner) (Added (Ok index)) = is_lost owner lost ≡ false → IsInside party index events
WasIn lost party events (call.Add number owner) (Added (Err why)) = Unit {0}
WasIn lost party events (call.Add number owner) (Removed state) = Unit {0}
WasIn lost party events (call.Add number owner) (Updated copied) = Unit {0}
WasIn lost party events (call.Remove owner index mode) answer = Unit {0}
WasIn lost party events call.Update answer = Unit {0}
WasIn lost party events (call.Recover owner number mode) answer = Unit {0}

-- When each of these additions finished, its member was in the container, unless the owner's recovery began.
abbrev pub EachWasIn : List ℕ → List Event → List MemberFinished → Type 0
EachWasIn lost events [] = Unit {0}
EachWasIn lost events (f ∷ finished) = WasIn lost f.party (take f.last events) f.call f.answer × EachWasIn lost events finished

-- If the place's index still is this owner's, its count is the one that was read, or shows no member.
abbrev pub IsSeenOrOut : ℕ → ℕ → ℕ → ℕ → Type 0
IsSeenOrOut owner cell count seen = IsOf owner cell → (count ≡ seen) ⊎ (is_shown count ≡ false)

-- If the index still is this owner's, or the owner is about to take it, a member is at the place, or a recovery removed one since the step
-- `first`.
abbrev pub HasShown : RobustSetState → List ℕ → ℕ → List Event → ℕ → ℕ → Type 0
HasShown indices cells first events owner i = IsOf owner (slice_index indices.words.cells i)
    → (is_shown (slice_index cells i) ≡ true) ⊎ IsExpelledIn i (drop first events)

-- The recovery of the owner began, and each of the first `m` indices that is this owner's has a member, or a recovery removed one since the
-- step `first`.
abbrev pub HaveShown : RobustSetState → List ℕ → ℕ → List Event → ℕ → ℕ → Type 0
HaveShown indices cells first events owner m =
    IsLostOwner indices owner × ((i : ℕ) → i < m → HasShown indices cells first events owner i)

-- If the call is a recovery, each index that still is its owner's has a member, or a recovery removed one since the call began.
abbrev pub LeavesShown : RobustSetState → List ℕ → ℕ → List Event → MemberCall → Type 0
LeavesShown indices cells first events (call.Add number owner) = Unit {0}
LeavesShown indices cells first events (call.Remove owner index mode) = Unit {0}
LeavesShown indices cells first events call.Update = Unit {0}
LeavesShown indices cells first events (call.Recover owner number mode) =
    HaveShown indices cells first events owner indices.capacity

-- Each of these recoveries left the indices of its owner as `LeavesShown` says.
abbrev pub LeaveShown : RobustSetState → List ℕ → List Event → List MemberFinished → Type 0
LeaveShown indices cells events [] = Unit {0}
LeaveShown indices cells events (f ∷ finished) =
    LeavesShown indices cells f.first events f.call × LeaveShown indices cells events finished

-- If the call in progress is a recovery, each index that it has visited, and the one at whose place it read a member, either isn't
-- its owner's any more, or has a member, or lost it to a recovery since the call began.
abbrev pub ShownSoFar : RobustSetState → List ℕ → ℕ → List Event → ContainerCall → Type 0
ShownSoFar indices cells first events stage.Idle = Unit {0}
ShownSoFar indices cells first events (stage.Enter number owner) = Unit {0}
ShownSoFar indices cells first events (stage.Fill number owner index next) = Unit {0}
ShownSoFar indices cells first events (stage.Show number owner index seen) = Unit {0}
ShownSoFar indices cells first events (stage.Sink owner index mode) = Unit {0}
ShownSoFar indices cells first events (stage.Hide owner index mode seen) = Unit {0}
ShownSoFar indices cells first events (stage.Leave owner index mode) = Unit {0}
ShownSoFar indices cells first events (stage.Drop owner index mode) = Unit {0}
ShownSoFar indices cells first events (stage.Count c answer) = LeavesShown indices cells first events c
ShownSoFar indices cells first events (stage.Raise c answer seen) = LeavesShown indices cells first events c
ShownSoFar indices cells first events stage.Look = Unit {0}
ShownSoFar indices cells first events (stage.Visit i) = Unit {0}
ShownSoFar indices cells first events (stage.Gather i seen next) = Unit {0}
ShownSoFar indices cells first events (stage.Search owner number mode) = Unit {0}
ShownSoFar indices cells first events (stage.Watch owner number mode i) = HaveShown indices cells first events owner i
ShownSoFar indices cells first events (stage.Ask owner number mode i seen) =
    HaveShown indices cells first events owner i × (is_shown seen ≡ true → HasShown indices cells first events owner i)
ShownSoFar indices cells first events (stage.Expel owner number mode i seen) = HaveShown indices cells first events owner i
ShownSoFar indices cells first events (stage.Clear owner number mode i) = HaveShown indices cells first events owner i
ShownSoFar indices cells first events (stage.Close owner number mode) =
    HaveShown indices cells first events owner indices.capacity
ShownSoFar indices cells first events (stage.Done c answer) = LeavesShown indices cells first events c

-- For each place below `k`, what a copy shows of the place was so at one moment since the step `first`.
abbrev pub SawBelow : ℕ → ℕ → RingWords → ℕ → List Event → List Event → ℕ → Type 0
SawBelow n width start first events own k = (i : ℕ) → i < k → WasSo n width start first events i (shown_at n i own)

-- The words that a copy has loaded at a place since it read this count are still there, as long as the count hasn't changed.
abbrev pub HasGathered : ℕ → ℕ → List ℕ → ℕ → ℕ → List ℕ → Type 0
HasGathered n width cells place seen found =
    slice_index cells place ≡ seen → (j : ℕ) → j < length found → slice_index found j ≡ slice_index cells (value_cell n width place j)

-- What is known of a party's call at its stage; `own` are its steps since `first`, and `s` is the stage of its call on the set.
abbrev pub KnowsMember : ℕ → ℕ → List (Vec ℕ) → RingWords → List ℕ → RobustSetState → ℕ → RobustCall → ℕ → List Event → List Event
    → ContainerCall → Type 0
KnowsMember n width values start cells indices party s first events own stage.Idle = Unit {0}
KnowsMember n width values start cells indices party s first events own (stage.Enter number owner) =
    (times_counted own ≡ 0) × (length (table_value values number) ≡ width) × (call_in_hand s ≡ Some (set_call.Acquire owner))
    × HasIndex n party owner cells indices s
KnowsMember n width values start cells indices party s first events own (stage.Fill number owner index next) =
    (times_counted own ≡ 0) × (index < n) × (next ≤ width)
    × UnlessLost indices owner (HoldsFor indices party owner index × (is_shown (slice_index cells index) ≡ false)
    × IsFilled n width cells index next (table_value values number))
KnowsMember n width values start cells indices party s first events own (stage.Show number owner index seen) =
    (times_counted own ≡ 0) × (index < n)
    × UnlessLost indices owner (HoldsFor indices party owner index × (is_shown (slice_index cells index) ≡ false)
    × (seen ≡ slice_index cells index) × IsFilled n width cells index width (table_value values number))
KnowsMember n width values start cells indices party s first events own (stage.Sink owner index mode) =
    (times_counted own ≡ 0) × (index < n)
    × UnlessLost indices owner (HoldsFor indices party owner index × (is_shown (slice_index cells index) ≡ true))
KnowsMember n width values start cells indices party s first events own (stage.Hide owner index mode seen) =
    (times_counted own ≡ 0) × (index < n)
    × UnlessLost indices owner (HoldsFor indices party owner index × (is_shown (slice_index cells index) ≡ true)
    × (seen ≡ slice_index cells index))
KnowsMember n width values start cells indices party s first events own (stage.Leave owner index mode) =
    (times_counted own ≡ 0) × (index < n) × GoesOut start party first events index
    × (place_of indices.places index ≡ place.Held party → is_shown (slice_index cells index) ≡ false)
KnowsMember n width values start cells indices party s first events own (stage.Drop owner index mode) =
    (times_counted own ≡ 0) × (index < n) × GoesOut start party first events index
    × (place_of indices.places index ≡ place.Held party → is_shown (slice_index cells index) ≡ false)
    × (call_in_hand s ≡ Some (set_call.Release owner index mode))
KnowsMember n width values start cells indices party s first events own (stage.Count c answer) =
    (is_change c answer ≡ true) × MemberTells n width values start 0 party first events own c answer
    × IsInStill indices cells party c answer
KnowsMember n width values start cells indices party s first events own (stage.Raise c answer seen) =
    (is_change c answer ≡ true) × MemberTells n width values start 0 party first events own c answer
    × IsInStill indices cells party c answer
KnowsMember n width values start cells indices party s first events own stage.Look = Unit {0}
KnowsMember n width values start cells indices party s first events own (stage.Visit i) =
    (i < n) × SawBelow n width start first events own i
KnowsMember n width values start cells indices party s first events own (stage.Gather i seen next) =
    (i < n) × SawBelow n width start first events own i × (is_shown seen ≡ true) × (seen ≤ slice_index cells i) × (next ≤ width)
    × (length (gathered_after n [] own) ≡ next) × HasGathered n width cells i seen (gathered_after n [] own)
KnowsMember n width values start cells indices party s first events own (stage.Search owner number mode) = times_counted own ≡ 0
KnowsMember n width values start cells indices party s first events own (stage.Watch owner number mode i) =
    (times_counted own ≡ 0) × (i < n) × IsLostOwner indices owner × (s ≡ set_stage.Look owner number mode i)
KnowsMember n width values start cells indices party s first events own (stage.Ask owner number mode i seen) =
    (times_counted own ≡ 0) × (i < n) × IsLostOwner indices owner × (s ≡ set_stage.Look owner number mode i)
    × (seen ≤ slice_index cells i) × IsSeenOrOut owner (slice_index indices.words.cells i) (slice_index cells i) seen
KnowsMember n width values start cells indices party s first events own (stage.Expel owner number mode i seen) =
    (times_counted own ≡ 0) × (i < n) × IsLostOwner indices owner × IsToFree owner number mode i s
    × (seen ≤ slice_index cells i) × IsSeenOrOut owner (slice_index indices.words.cells i) (slice_index cells i) seen
    × (is_shown seen ≡ true) × (slice_index cells i ≡ seen → slice_index indices.words.cells i ≡ owner)
    × (decided indices.decisions number i ≡ true)
KnowsMember n width values start cells indices party s first events own (stage.Clear owner number mode i) =
    (times_counted own ≡ 0) × (i < n) × IsLostOwner indices owner × IsToFree owner number mode i s
    × (IsOf owner (slice_index indices.words.cells i) → is_shown (slice_index cells i) ≡ false)
KnowsMember n width values start cells indices party s first events own (stage.Close owner number mode) =
    (times_counted own ≡ 0) × IsLostOwner indices owner × (call_in_hand s ≡ Some (set_call.Recover owner number mode))
    × (is_settling s ≡ true)
KnowsMember n width values start cells indices party s first events own (stage.Done c answer) =
    MemberTells n width values start 1 party first events own c answer × IsInStill indices cells party c answer

-- Nobody holds the index.
abbrev pub IsUnheld : List Place → ℕ → Type 0
IsUnheld places i = (p : ℕ) → place_of places i ≡ place.Held p → ⊥

-- No member is at the place, or one of the party that holds the index.
abbrev pub FitsWhose : Option ℕ → ℕ → Place → Type 0
FitsWhose None count x = is_shown count ≡ false
FitsWhose (Some party) count x = (is_shown count ≡ true) × (x ≡ place.Held party)

-- If fewer than 2^64 - 1 steps were made, in a container of `n` places: the counts count the steps, a place whose index nobody holds has no
-- member, each call in progress did what its stage says, each finished call did what its result says, copies read the count of changes of
-- their time, the set's calls are those of the container's calls, a member stays until it is removed, each call adds and removes what its
-- result says, and the member of an addition was there when the call finished.
pub record MembersAreSound (n : ℕ) (m : ContainerParts) : Type 0 where
  pub write : m.words.write ≡ times_counted m.events
  pub low : (i : ℕ) → i < n → slice_index m.words.cells i ≤ length m.events
  pub out : (i : ℕ) → i < n → IsUnheld m.indices.places i → is_shown (slice_index m.words.cells i) ≡ false
  pub knows : (q : ℕ) → KnowsMember n (width_of m) m.values (empty_words n (width_of m)) m.words.cells
      m.indices q (stage_at m.indices.seats q) (member_seat m.seats q).first m.events
      (own q (drop (member_seat m.seats q).first m.events)) (member_stage m.seats q)
  pub told : AreMembersTold n (width_of m) m.values (empty_words n (width_of m)) m.events m.finished
  pub saw : (q : ℕ) → (member_seat m.seats q).saw ≡ times_counted (take (member_seat m.seats q).since m.events)
  pub asks : (q : ℕ) → AsksSet m q
  pub stays : (i : ℕ) → i < n → StaysTillOut n (width_of m) i None m.events
  pub inside : (i : ℕ) → i < n → FitsWhose (inside_after i None m.events) (slice_index m.words.cells i) (place_of m.indices.places i)
  pub passes : EachLetsPass n m.events m.finished
  pub passing : (q : ℕ) → LetsPassSoFar n (member_stage m.seats q) (own q (drop (member_seat m.seats q).first m.events))
  pub was_in : EachWasIn m.indices.lost m.events m.finished
  pub shown : (q : ℕ) → ShownSoFar m.indices m.words.cells (member_seat m.seats q).first m.events (member_stage m.seats q)
  pub showed : LeaveShown m.indices m.words.cells m.events m.finished

-- No recovery began.
abbrev pub HasNoneLost : ContainerParts → Type 0
HasNoneLost m = m.indices.lost ≡ []

-- The invariant: what holds after any number of steps, and what holds after fewer than 2^64 - 1 of them.
pub record MembersAreKept (m : ContainerParts) : Type 0 where
  pub indices : IsKept m.indices
  pub few : length m.indices.events ≤ length m.events
  pub small : length m.words.cells < 2 ^ 62
  pub size : length m.words.cells ≡ m.indices.capacity + (m.indices.capacity * width_of m + 1)
  pub began : (q : ℕ) → (member_seat m.seats q).first ≤ length m.events
  pub since : (q : ℕ) → (member_seat m.seats q).since ≤ length m.events
  pub recorded : MembersAreRecorded m
  pub counted : MembersAreOfCalls m
  pub sound : HasFewMoves m → MembersAreSound m.indices.capacity m
  pub calm : HasFewMoves m → HasNoneLost m → IsCalm m.events

-- If no recovery began, a member stays, with its value, until the party that added it removes it; the count of a place says whose member is
-- there, and that party holds the index; and a copy shows each member that is there at each moment of the copy, with its value.
pub record MembersStay (m : ContainerParts) : Type 0 where
  pub stays : (i : ℕ) → i < m.indices.capacity → StaysTillTakenOut m.indices.capacity (width_of m) i None m.events
  pub whose : (i : ℕ) → i < m.indices.capacity
      → ShowsWhose i (whose_after i None m.events) (slice_index m.words.cells i) m.indices.events
  pub shows : EachShowsWhoStays m.indices.capacity (width_of m) (empty_words m.indices.capacity (width_of m)) m.events m.finished

-- The theorem, whoever is recovered. The index set has all theorems of its own machine. Each finished call did what its result says. A
-- party's calls on the set are those of its additions, removals and recoveries, which have their results. A member is at a place only if a
-- party holds the index, so a locked set has no member. A member stays, with its value, until the party that added it removes it or a
-- recovery does, and the count of a place says whose member is there. A copy shows each member that is there at each moment of the copy,
-- with its value. By its own steps, each call adds and removes exactly what its result says. An addition and a removal take effect at one
-- step of their own, except for what a recovery removes. A recovery in progress is at the same index as that of the set. After a finished
-- recovery none of its selected members is there, for good, and its owner holds no index without a member, except where a recovery removed
-- one since. A change that began and finished since a party's last copy raised the count of changes, so the party's next copy doesn't
-- report that nothing changed. If no recovery began, more holds.
pub record MembersAreOrderly (m : ContainerParts) : Type 0 where
  pub indices : IsOrderly m.indices
  pub told : AreMembersTold m.indices.capacity (width_of m) m.values (empty_words m.indices.capacity (width_of m)) m.events m.finished
  pub asks : (q : ℕ) → AsksSet m q
  pub reasons : HaveReasons m.indices m.finished
  pub held : (i : ℕ) → i < m.indices.capacity → is_shown (slice_index m.words.cells i) ≡ true → (p : ℕ) × Holds p i m.indices.events
  pub none_in : is_locked m.indices ≡ true → (i : ℕ) → i < m.indices.capacity → is_shown (slice_index m.words.cells i) ≡ false
  pub stays : (i : ℕ) → i < m.indices.capacity → StaysTillOut m.indices.capacity (width_of m) i None m.events
  pub inside : (i : ℕ) → i < m.indices.capacity
      → ShowsWhose i (inside_after i None m.events) (slice_index m.words.cells i) m.indices.events
  pub shows : EachShowsInside m.indices.capacity (width_of m) (empty_words m.indices.capacity (width_of m)) m.events m.finished
  pub passes : EachLetsPass m.indices.capacity m.events m.finished
  pub passing : (q : ℕ)
      → LetsPassSoFar m.indices.capacity (member_stage m.seats q) (own q (drop (member_seat m.seats q).first m.events))
  pub moments : EachHasItsMoment m.indices.capacity (width_of m) m.values (empty_words m.indices.capacity (width_of m))
      m.indices.lost m.events m.finished
  pub beside : (q : ℕ) → StandsBeside (member_stage m.seats q) (stage_at m.indices.seats q)
  pub left : LeaveNone m.indices m.words.cells m.finished
  pub shown : LeaveShown m.indices m.words.cells m.events m.finished
  pub news : (q : ℕ) → AllAreNews (member_seat m.seats q).saw (member_seat m.seats q).since m.words.write m.finished
  pub unrecovered : HasNoneLost m → MembersStay m
