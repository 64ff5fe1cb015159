-- A container of members as a machine: its steps, over a set that knows the owner of each held index.
use Rattle.std.specs.Prelude.{ℕ, ◌≡◌, ◌+◌, ◌-◌, ◌*◌, ◌^◌, ◌<◌, Bool, true, false, not, if◌then◌else◌, ◌==◌, ◌&&◌, nat_lt, Option, Some}
use Rattle.std.specs.Prelude.{None}
use Rattle.std.specs.Prelude.{List, [], ◌∷◌, ◌++◌, length, set, slice_get, replicate, drop}
use Rattle.std.specs.Global.{Vec}
use Rattle.iox_queues_steps.specs.Access.{RingWords, answer_of, after_access, word_of}
use Rattle.iox_queues_steps.specs.declared.access.Word.TheVariants.{Cell}
use Rattle.iox_queues_steps.specs.declared.access.Access.TheVariants.{Local}
use Rattle.iox_queues_steps.specs.declared.schedule.Stepped.{Stepped}
use Rattle.iox_queues_steps.specs.declared.schedule.Stepped.TheVariants as stepped
use Rattle.iox_queues.specs.Recorded.{Answered}
use Rattle.iox_queues.specs.Told.{own}
use Rattle.iox_queues.specs.Turns.{CallsOf, RunsBy, StepsBy, TellsCalls}
use Rattle.iox_queues.specs.Values.{table_value}
use Rattle.iox_queues.specs.declared.bits.machine.Event.{Event}
use Rattle.iox_robust_steps.specs.ContainerAsked.{AreMembersAsked, IsMemberAskedSoFar}
use Rattle.iox_robust_steps.specs.ContainerSteps.{answer_at, is_clearing, is_shown, member_begun, member_in_hand, member_is_idle}
use Rattle.iox_robust_steps.specs.ContainerSteps.{member_is_over}
use Rattle.iox_robust_steps.specs.ContainerSteps.{member_next, member_take}
use Rattle.iox_robust_steps.specs.Machine.{RobustSetState}
use Rattle.iox_robust_steps.specs.Machine as robust
use Rattle.iox_robust_steps.specs.declared.call.Call.TheVariants as set_call
use Rattle.iox_robust_steps.specs.declared.machine.Move.{Move}
use Rattle.iox_robust_steps.specs.declared.machine.Move.TheVariants as set_move
use Rattle.iox_robust_steps.specs.declared.container.call.MemberAnswer.TheVariants.{Added, Removed, Updated}
use Rattle.iox_robust_steps.specs.declared.container.call.MemberCall.{MemberCall}
use Rattle.iox_robust_steps.specs.declared.container.call.MemberCall.TheVariants as call
use Rattle.iox_robust_steps.specs.declared.container.call.ContainerCall.{ContainerCall}
use Rattle.iox_robust_steps.specs.declared.container.call.ContainerCall.TheVariants as stage
use Rattle.iox_robust_steps.specs.declared.container.MemberFinished.{MemberFinished}
use Rattle.iox_robust_steps.specs.declared.container.MemberMove.{MemberMove}
use Rattle.iox_robust_steps.specs.declared.container.MemberMove.TheVariants.{Begin, GoOn}
use Rattle.iox_robust_steps.specs.declared.container.state.MemberSeat.{MemberSeat}

-- The state: the index set, the values that may be added, the shared words, the stage of each party, the steps made, and the finished
-- calls. The write position stores the count of changes; the cells are a count for each place, the values of the places, and a spare one.
pub record ContainerParts : Type 0 where
  pub indices : RobustSetState
  pub values : List (Vec ℕ)
  pub words : RingWords
  pub seats : List MemberSeat
  pub events : List Event
  pub finished : List MemberFinished

-- A party without a call in progress, whose last copy is that of an empty container.
abbrev pub resting : MemberSeat
resting = record { stage = stage.Idle; first = 0; saw = 0; since = 0 }

-- The seat of a party; a missing party is idle.
abbrev pub member_seat_of : Option MemberSeat → MemberSeat
member_seat_of None = resting
member_seat_of (Some seat) = seat

-- The seat of the party with this number; a party that doesn't exist is idle.
abbrev pub member_seat : List MemberSeat → ℕ → MemberSeat
member_seat seats party = member_seat_of (slice_get seats party)

-- The stage of the party with this number.
abbrev pub member_stage : List MemberSeat → ℕ → ContainerCall
member_stage seats party = (member_seat seats party).stage

-- How many words each value has.
abbrev pub width_of : ContainerParts → ℕ
width_of m = length (table_value m.values 0)

-- Whether a call may begin: an addition if its owner may act and its value has as many words as the first; a removal if its member is there
-- and the party holds the index for the owner; a copy always; a recovery of any valid owner.
abbrev pub may_call : ContainerParts → ℕ → MemberCall → Bool
may_call m party (call.Add number owner) =
    robust.fits m.indices (set_move.Begin party (set_call.Acquire owner)) && (length (table_value m.values number) == width_of m)
may_call m party (call.Remove owner index mode) =
    robust.fits m.indices (set_move.Begin party (set_call.Release owner index mode)) && is_shown (word_of m.words (Cell index))
may_call m party call.Update = true
may_call m party (call.Recover owner number mode) = robust.fits m.indices (set_move.Begin party (set_call.Recover owner number mode))

-- The step that a recovery asks of the set: it insists on freeing the index if it saw no member at the place.
abbrev pub asks_with : ℕ → ℕ → Move
asks_with party seen = if is_shown seen then set_move.GoOn party else set_move.Insist party

-- Whether the step that a call at this stage asks of the set is possible there, if it asks one; nobody adds or removes a member for an
-- owner whose recovery began.
abbrev pub may_ask : RobustSetState → ℕ → ContainerCall → Bool
may_ask indices party stage.Idle = false
may_ask indices party (stage.Enter number owner) = robust.fits indices (set_move.GoOn party)
may_ask indices party (stage.Fill number owner index next) = not (robust.is_lost owner indices.lost)
may_ask indices party (stage.Show number owner index seen) = not (robust.is_lost owner indices.lost)
may_ask indices party (stage.Sink owner index mode) = not (robust.is_lost owner indices.lost)
may_ask indices party (stage.Hide owner index mode seen) = not (robust.is_lost owner indices.lost)
may_ask indices party (stage.Leave owner index mode) = robust.fits indices (set_move.Begin party (set_call.Release owner index mode))
may_ask indices party (stage.Drop owner index mode) = robust.fits indices (set_move.GoOn party)
may_ask indices party (stage.Count c answer) = true
may_ask indices party (stage.Raise c answer seen) = true
may_ask indices party stage.Look = true
may_ask indices party (stage.Visit place) = true
may_ask indices party (stage.Gather place seen next) = true
may_ask indices party (stage.Search owner number mode) = robust.fits indices (set_move.Begin party (set_call.Recover owner number mode))
may_ask indices party (stage.Watch owner number mode i) = true
may_ask indices party (stage.Ask owner number mode i seen) = robust.fits indices (asks_with party seen)
may_ask indices party (stage.Expel owner number mode i seen) = true
may_ask indices party (stage.Clear owner number mode i) = robust.fits indices (set_move.GoOn party)
may_ask indices party (stage.Close owner number mode) = robust.fits indices (set_move.GoOn party)
may_ask indices party (stage.Done c answer) = true

-- Whether a step is possible: a begin if the party exists, is idle, and the call may begin; a next step if the party exists and the set
-- permits its step.
abbrev pub member_fits : ContainerParts → MemberMove → Bool
member_fits m (Begin party c) = nat_lt party (length m.seats) && (member_is_idle (member_stage m.seats party) && may_call m party c)
member_fits m (GoOn party) = nat_lt party (length m.seats) && may_ask m.indices party (member_stage m.seats party)

-- Whether the step is the last one of its call.
abbrev pub member_ends : ContainerParts → MemberMove → Bool
member_ends m (Begin party c) = false
member_ends m (GoOn party) = member_is_over (member_stage m.seats party)

-- The set after a party began a call: an addition begins to acquire an index.
abbrev pub asked_by : RobustSetState → ℕ → MemberCall → RobustSetState
asked_by indices party (call.Add number owner) = robust.begun indices party (set_call.Acquire owner)
asked_by indices party (call.Remove owner index mode) = indices
asked_by indices party call.Update = indices
asked_by indices party (call.Recover owner number mode) = indices

-- The set after a party at this stage made its next step; a recovery that saw no member at a place insists on freeing its index.
abbrev pub asked_at : RobustSetState → ℕ → ContainerCall → RobustSetState
asked_at indices party stage.Idle = indices
asked_at indices party (stage.Enter number owner) = robust.went indices party false
asked_at indices party (stage.Fill number owner index next) = indices
asked_at indices party (stage.Show number owner index seen) = indices
asked_at indices party (stage.Sink owner index mode) = indices
asked_at indices party (stage.Hide owner index mode seen) = indices
asked_at indices party (stage.Leave owner index mode) = robust.begun indices party (set_call.Release owner index mode)
asked_at indices party (stage.Drop owner index mode) = robust.went indices party false
asked_at indices party (stage.Count c answer) = indices
asked_at indices party (stage.Raise c answer seen) = indices
asked_at indices party stage.Look = indices
asked_at indices party (stage.Visit place) = indices
asked_at indices party (stage.Gather place seen next) = indices
asked_at indices party (stage.Search owner number mode) = robust.begun indices party (set_call.Recover owner number mode)
asked_at indices party (stage.Watch owner number mode i) = indices
asked_at indices party (stage.Ask owner number mode i seen) = robust.went indices party (not (is_shown seen))
asked_at indices party (stage.Expel owner number mode i seen) = indices
asked_at indices party (stage.Clear owner number mode i) = robust.went indices party false
asked_at indices party (stage.Close owner number mode) = robust.went indices party false
asked_at indices party (stage.Done c answer) = indices

-- The machine after a party begins a call.
abbrev pub member_begins : ContainerParts → ℕ → MemberCall → ContainerParts
member_begins m party c = record m {
  indices = asked_by m.indices party c;
  seats = set m.seats party (record (member_seat m.seats party) { stage = member_begun c; first = length m.events });
  events = m.events ++ record { party = party; access = Local; answer = 0 } ∷ [];
}

-- The finished call of a party, if its next step is the last one.
abbrev pub member_ended : ℕ → ℕ → ℕ → ContainerCall → List MemberFinished
member_ended party first last stage.Idle = []
member_ended party first last (stage.Enter number owner) = []
member_ended party first last (stage.Fill number owner index next) = []
member_ended party first last (stage.Show number owner index seen) = []
member_ended party first last (stage.Sink owner index mode) = []
member_ended party first last (stage.Hide owner index mode seen) = []
member_ended party first last (stage.Leave owner index mode) = []
member_ended party first last (stage.Drop owner index mode) = []
member_ended party first last (stage.Count c answer) = []
member_ended party first last (stage.Raise c answer seen) = []
member_ended party first last stage.Look = []
member_ended party first last (stage.Visit place) = []
member_ended party first last (stage.Gather place seen next) = []
member_ended party first last (stage.Search owner number mode) = []
member_ended party first last (stage.Watch owner number mode i) = []
member_ended party first last (stage.Ask owner number mode i seen) = []
member_ended party first last (stage.Expel owner number mode i seen) = []
member_ended party first last (stage.Clear owner number mode i) = []
member_ended party first last (stage.Close owner number mode) = []
member_ended party first last (stage.Done c answer) =
    record { party = party; call = c; answer = answer; first = first; last = last } ∷ []

-- Whether a party at this stage reads the count of changes in order to copy.
abbrev pub is_look : ContainerCall → Bool
is_look stage.Idle = false
is_look (stage.Enter number owner) = false
is_look (stage.Fill number owner index next) = false
is_look (stage.Show number owner index seen) = false
is_look (stage.Sink owner index mode) = false
is_look (stage.Hide owner index mode seen) = false
is_look (stage.Leave owner index mode) = false
is_look (stage.Drop owner index mode) = false
is_look (stage.Count c answer) = false
is_look (stage.Raise c answer seen) = false
is_look stage.Look = true
is_look (stage.Visit place) = false
is_look (stage.Gather place seen next) = false
is_look (stage.Search owner number mode) = false
is_look (stage.Watch owner number mode i) = false
is_look (stage.Ask owner number mode i seen) = false
is_look (stage.Expel owner number mode i seen) = false
is_look (stage.Clear owner number mode i) = false
is_look (stage.Close owner number mode) = false
is_look (stage.Done c answer) = false

-- A party's seat after its stage: a party that copies keeps the count of changes that it read, and the number of the step that read it.
abbrev pub seat_after : MemberSeat → ContainerCall → ℕ → ℕ → MemberSeat
seat_after seat next answer number =
    if is_look seat.stage && not (answer == seat.saw)
    then record { stage = next; first = seat.first; saw = answer; since = number }
    else record seat { stage = next }

-- The machine after a party made its next step.
abbrev pub member_went : ContainerParts → ℕ → ContainerParts
member_went m party = record m {
  indices = asked_at m.indices party (member_stage m.seats party);
  words = after_access m.words (member_next m.indices.capacity (width_of m) m.values (member_stage m.seats party));
  seats = set m.seats party (seat_after (member_seat m.seats party)
      (member_take m.indices.capacity (width_of m) (member_seat m.seats party).saw (answer_at (robust.stage_at m.indices.seats party))
      (is_clearing (robust.stage_at (asked_at m.indices party (member_stage m.seats party)).seats party))
      (member_stage m.seats party)
      (answer_of m.words (member_next m.indices.capacity (width_of m) m.values (member_stage m.seats party))))
      (answer_of m.words (member_next m.indices.capacity (width_of m) m.values (member_stage m.seats party)))
      (length m.events));
  events = m.events ++ record {
    party = party;
    access = member_next m.indices.capacity (width_of m) m.values (member_stage m.seats party);
    answer = answer_of m.words (member_next m.indices.capacity (width_of m) m.values (member_stage m.seats party));
  } ∷ [];
  finished = m.finished ++ member_ended party (member_seat m.seats party).first (length m.events) (member_stage m.seats party);
}

-- The machine after a step that is possible.
abbrev pub member_happens : ContainerParts → MemberMove → ContainerParts
member_happens m (Begin party c) = member_begins m party c
member_happens m (GoOn party) = member_went m party

-- The outcome of a step, and the machine after it.
abbrev pub MemberStepsTo : ContainerParts → MemberMove → Stepped → ContainerParts → Type 0
MemberStepsTo m step r n = StepsBy member_fits member_ends member_happens m step r n

-- A list of steps of which `made` were made and the others were skipped; it may stop where memory for a possible step runs out.
abbrev pub MemberRunsTo : ContainerParts → List MemberMove → ℕ → ContainerParts → Type 0
MemberRunsTo m steps made n = RunsBy member_fits member_happens m steps made n

-- The condition of the theorems: fewer than 2^64 - 1 steps were made, so that no count reaches its end.
abbrev pub HasFewMoves : ContainerParts → Type 0
HasFewMoves m = length m.events < 2 ^ 64 - 1

-- The words of an empty container.
abbrev pub empty_words : ℕ → ℕ → RingWords
empty_words capacity width = record { cells = replicate (capacity + (capacity * width + 1)) 0; write = 0; read = 0 }

-- The machine of an empty container with these values, this many parties, and the decisions of recoveries.
abbrev pub empty_parts : ℕ → ℕ → List (Vec ℕ) → List (Vec Bool) → ContainerParts
empty_parts capacity parties values decisions = record {
  indices = robust.start capacity parties decisions true;
  values = values;
  words = empty_words capacity (length (table_value values 0));
  seats = replicate parties resting;
  events = [];
  finished = [];
}

-- The party that makes this step.
abbrev pub asks_of : MemberMove → ℕ
asks_of (Begin party c) = party
asks_of (GoOn party) = party

-- The call that each party has in progress, if any.
abbrev pub member_hands : ContainerParts → ℕ → Option MemberCall
member_hands m party = member_in_hand (member_stage m.seats party)

-- The call of a step: the one that it begins, or the one in progress.
abbrev pub member_call : ContainerParts → MemberMove → Option MemberCall
member_call m (Begin party c) = Some c
member_call m (GoOn party) = member_hands m party

-- Where this machine records its steps and its calls.
abbrev pub member_calls : CallsOf ContainerParts MemberCall MemberFinished
member_calls = record {
  events = λ (m : ContainerParts). m.events;
  finished = λ (m : ContainerParts). m.finished;
  whose = λ (f : MemberFinished). f.party;
  which = λ (f : MemberFinished). f.call;
  hands = member_hands;
}

-- A step that was made is one event of the requested party, and leaves this party in the step's call; the last step of the call finishes
-- exactly that call and leaves the party in none. All other parties keep their calls.
abbrev pub MemberTellsStep : ContainerParts → MemberMove → Stepped → ContainerParts → Type 0
MemberTellsStep m step r n = TellsCalls ContainerParts MemberCall MemberFinished member_calls m (asks_of step) (member_call m step) r n

-- What the recorded steps say: each has the result that its word held, and they leave the words as they are now; the steps of each call,
-- finished or in progress, are those that the call requested.
pub record MembersAreRecorded (m : ContainerParts) : Type 0 where
  pub answered : Answered (empty_words m.indices.capacity (width_of m)) m.events m.words
  pub ended : AreMembersAsked m.indices.capacity (width_of m) m.values m.events m.finished
  pub going : (party : ℕ) → IsMemberAskedSoFar m.indices.capacity (width_of m) m.values party (member_in_hand (member_stage m.seats party))
      (member_stage m.seats party) (own party (drop (member_seat m.seats party).first m.events))

-- Whether the call is copying, or has copied.
abbrev pub is_copy : ContainerCall → Bool
is_copy stage.Idle = false
is_copy (stage.Enter number owner) = false
is_copy (stage.Fill number owner index next) = false
is_copy (stage.Show number owner index seen) = false
is_copy (stage.Sink owner index mode) = false
is_copy (stage.Hide owner index mode seen) = false
is_copy (stage.Leave owner index mode) = false
is_copy (stage.Drop owner index mode) = false
is_copy (stage.Count c answer) = false
is_copy (stage.Raise c a seen) = false
is_copy stage.Look = false
is_copy (stage.Visit i) = true
is_copy (stage.Gather i seen next) = true
is_copy (stage.Search owner number mode) = false
is_copy (stage.Watch owner number mode i) = false
is_copy (stage.Ask owner number mode i seen) = false
is_copy (stage.Expel owner number mode i seen) = false
is_copy (stage.Clear owner number mode i) = false
is_copy (stage.Close owner number mode) = false
is_copy (stage.Done c (Added got)) = false
is_copy (stage.Done c (Removed state)) = false
is_copy (stage.Done c (Updated copied)) = copied

-- A party's last copy stays the same: the count of changes that it read, and the number of the step that read it.
abbrev pub KeepsCopy : ContainerParts → ContainerParts → ℕ → Type 0
KeepsCopy m n q =
    ((member_seat n.seats q).saw ≡ (member_seat m.seats q).saw) × ((member_seat n.seats q).since ≡ (member_seat m.seats q).since)

-- A party read the count of changes: if it differs from what its last copy read, the party copies, and this copy is its last one from now
-- on; else the call reports that nothing changed.
pub record LooksForNews (m n : ContainerParts) (party : ℕ) : Type 0 where
  pub news : (m.words.write ≡ (member_seat m.seats party).saw → ⊥) → (is_copy (member_stage n.seats party) ≡ true)
      × ((member_seat n.seats party).saw ≡ m.words.write) × ((member_seat n.seats party).since ≡ length m.events)
  pub none : m.words.write ≡ (member_seat m.seats party).saw
      → (member_stage n.seats party ≡ stage.Done call.Update (Updated false)) × KeepsCopy m n party

-- A step that reads the count of changes in order to copy does that, and any other step leaves each party its last copy.
abbrev pub MindsCopies : ContainerParts → MemberMove → Stepped → ContainerParts → Type 0
MindsCopies m (Begin party c) r n = (q : ℕ) → KeepsCopy m n q
MindsCopies m (GoOn party) stepped.Went n =
    (is_look (member_stage m.seats party) ≡ true → LooksForNews m n party)
    × (is_look (member_stage m.seats party) ≡ false → KeepsCopy m n party)
    × ((q : ℕ) → (q ≡ party → ⊥) → KeepsCopy m n q)
MindsCopies m (GoOn party) stepped.Finished n = (q : ℕ) → KeepsCopy m n q
MindsCopies m (GoOn party) stepped.Skipped n = (q : ℕ) → KeepsCopy m n q
MindsCopies m (GoOn party) stepped.NoMemory n = (q : ℕ) → KeepsCopy m n q
