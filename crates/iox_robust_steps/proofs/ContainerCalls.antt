-- A step that was made is one event of the party that was asked, and ends one call at most, the one that was begun.
use Rattle.std.proofs.Common.{◌≡◌, ℕ, ◌+◌, ◌<◌, Bool, true, false, if◌then◌else◌, ◌==◌, not, nat_lt, ◌&&◌, Ok, Err, Option, Some, None}
use Rattle.std.proofs.Common.{List, []}
use Rattle.std.proofs.Common.{◌++◌, length, set, refl, ◌∙◌, ap, append-nil}
use Rattle.std.proofs.lemmas.Bool.{and_parts, ltb-true}
use Rattle.iox_container.specs.declared.release.ReleaseMode.{ReleaseMode}
use Rattle.iox_queues_steps.specs.Access.{answer_of, successor}
use Rattle.iox_queues_steps.specs.declared.access.Access.TheVariants.{Local}
use Rattle.iox_queues_steps.specs.declared.schedule.Stepped.{Stepped}
use Rattle.iox_queues.specs.Spans.{AddsOne}
use Rattle.iox_queues.specs.Turns.{EndsOne, LeavesCalls}
use Rattle.iox_queues.proofs.Turns.{steps_tell_calls}
use Rattle.iox_robust_steps.specs.ContainerSteps.{answer_at, asked_for_place, closed, dropped, entered, is_clearing, is_shown, member_begun}
use Rattle.iox_robust_steps.specs.ContainerSteps.{member_in_hand, watches_from}
use Rattle.iox_robust_steps.specs.ContainerSteps.{member_is_over, member_next, member_take, visited, visits_from}
use Rattle.iox_robust_steps.specs.ContainerMachine.{ContainerParts, MemberStepsTo, MemberTellsStep, asked_at, asks_of, is_look}
use Rattle.iox_robust_steps.specs.ContainerMachine.{member_begins, member_call, member_calls, member_ended, member_ends, member_fits}
use Rattle.iox_robust_steps.specs.ContainerMachine.{member_hands, member_happens, member_seat, member_stage, member_went, seat_after}
use Rattle.iox_robust_steps.specs.ContainerMachine.{width_of}
use Rattle.iox_robust_steps.specs.Machine.{stage_at}
use Rattle.iox_robust_steps.specs.declared.call.Answer.{Answer}
use Rattle.iox_robust_steps.specs.declared.call.Answer.TheVariants.{Acquired, Settled}
use Rattle.iox_robust_steps.specs.declared.container.call.ContainerCall.{ContainerCall}
use Rattle.iox_robust_steps.specs.declared.container.call.ContainerCall.TheVariants as stage
use Rattle.iox_robust_steps.specs.declared.container.call.MemberAnswer.TheVariants.{Updated}
use Rattle.iox_robust_steps.specs.declared.container.call.MemberCall.{MemberCall}
use Rattle.iox_robust_steps.specs.declared.container.call.MemberCall.TheVariants as call
use Rattle.iox_robust_steps.specs.declared.container.MemberFinished.{MemberFinished}
use Rattle.iox_robust_steps.specs.declared.container.MemberMove.{MemberMove}
use Rattle.iox_robust_steps.specs.declared.container.MemberMove.TheVariants.{Begin, GoOn}
use Rattle.iox_robust_steps.specs.declared.container.state.MemberSeat.{MemberSeat}
use Rattle.iox_robust_steps.proofs.ContainerSeats.{member_seat_else, member_seat_here}

-- a call stays the same one until it is over
either_call : (b : Bool) (one other : ContainerCall) (c : Option MemberCall) → member_in_hand one ≡ c → member_in_hand other ≡ c
    → member_in_hand (if b then one else other) ≡ c
either_call true one other c h g = h
either_call false one other c h g = g

entered_call : (number owner : ℕ) (got : Option Answer) → member_in_hand (entered number owner got) ≡ Some (call.Add number owner)
entered_call number owner None = refl
entered_call number owner (Some (Acquired (Ok i))) = refl
entered_call number owner (Some (Acquired (Err why))) = refl
entered_call number owner (Some (Settled state)) = refl

dropped_call : (owner index : ℕ) (mode : ReleaseMode) (got : Option Answer)
    → member_in_hand (dropped owner index mode got) ≡ Some (call.Remove owner index mode)
dropped_call owner index mode None = refl
dropped_call owner index mode (Some (Acquired got)) = refl
dropped_call owner index mode (Some (Settled state)) = refl

visits_call : (n i : ℕ) → member_in_hand (visits_from n i) ≡ Some call.Update
visits_call n i = either_call (nat_lt i n) (stage.Visit i) (stage.Done call.Update (Updated true)) (Some call.Update) refl refl

visited_call : (n i count : ℕ) → member_in_hand (visited n i count) ≡ Some call.Update
visited_call n i count = either_call (is_shown count) (stage.Gather i count 0) _ (Some call.Update) refl (visits_call n (successor i))

watches_call : (n owner number : ℕ) (mode : ReleaseMode) (i : ℕ)
    → member_in_hand (watches_from n owner number mode i) ≡ Some (call.Recover owner number mode)
watches_call n owner number mode i = either_call (nat_lt i n) (stage.Watch owner number mode i) (stage.Close owner number mode)
    (Some (call.Recover owner number mode)) refl refl

asked_call : (n owner number : ℕ) (mode : ReleaseMode) (i seen : ℕ) (finds : Bool)
    → member_in_hand (asked_for_place n owner number mode i seen finds) ≡ Some (call.Recover owner number mode)
asked_call n owner number mode i seen true = either_call (is_shown seen) (stage.Expel owner number mode i seen)
    (stage.Clear owner number mode i) (Some (call.Recover owner number mode)) refl refl
asked_call n owner number mode i seen false = watches_call n owner number mode (successor i)

closed_call : (owner number : ℕ) (mode : ReleaseMode) (got : Option Answer)
    → member_in_hand (closed owner number mode got) ≡ Some (call.Recover owner number mode)
closed_call owner number mode None = refl
closed_call owner number mode (Some (Acquired got)) = refl
closed_call owner number mode (Some (Settled state)) = refl

module _ (n width saw : ℕ) (got : Option Answer) (finds : Bool) where
  pub same_call : (s : ContainerCall) (answer : ℕ) → member_is_over s ≡ false
      → member_in_hand (member_take n width saw got finds s answer) ≡ member_in_hand s
  same_call stage.Idle answer going = refl
  same_call (stage.Enter number owner) answer going = entered_call number owner got
  same_call (stage.Fill number owner index next) answer going = either_call (nat_lt next width)
      (stage.Fill number owner index (next + 1)) (stage.Show number owner index answer) (Some (call.Add number owner)) refl refl
  same_call (stage.Show number owner index seen) answer going = refl
  same_call (stage.Sink owner index mode) answer going = refl
  same_call (stage.Hide owner index mode seen) answer going = refl
  same_call (stage.Leave owner index mode) answer going = refl
  same_call (stage.Drop owner index mode) answer going = dropped_call owner index mode got
  same_call (stage.Count c a) answer going = refl
  same_call (stage.Raise c a seen) answer going
      = either_call (answer == seen) (stage.Done c a) (stage.Raise c a answer) (Some c) refl refl
  same_call (stage.Search o j mode) answer going =
      watches_call n o j mode 0
  same_call (stage.Watch o j mode i) answer going = refl
  same_call (stage.Ask o j mode i seen) answer going =
      asked_call n o j mode i seen finds
  same_call (stage.Expel o j mode i seen) answer going = refl
  same_call (stage.Clear o j mode i) answer going =
      watches_call n o j mode (successor i)
  same_call (stage.Close o j mode) answer going = closed_call o j mode got
  same_call stage.Look answer going = either_call (answer == saw) (stage.Done call.Update (Updated false)) _ (Some call.Update) refl
      (visits_call n 0)
  same_call (stage.Visit i) answer going = visited_call n i answer
  same_call (stage.Gather i seen next) answer going = either_call (nat_lt next width) (stage.Gather i seen (next + 1)) _
      (Some call.Update) refl
      (either_call (answer == seen) _ _ (Some call.Update) (visits_call n (successor i)) (visited_call n i answer))
  same_call (stage.Done c a) answer going = absurd (cc)

pub begun_call : (c : MemberCall) → member_in_hand (member_begun c) ≡ Some c
begun_call (call.Add number owner) = refl
begun_call (call.Remove owner index mode) = refl
begun_call call.Update = refl
begun_call (call.Recover owner number mode) = refl

-- a party's seat shows its next stage
seat_stage : (b : Bool) (seat : MemberSeat) (next : ContainerCall) (answer number : ℕ)
    → (if b then (record { stage = next; first = seat.first; saw = answer; since = number }) else record seat { stage = next }).stage ≡ next
seat_stage true seat next answer number = refl
seat_stage false seat next answer number = refl

made_step : (m : ContainerParts) (step : MemberMove) → AddsOne m.events (member_happens m step).events (asks_of step)
made_step m (Begin party c) = record {
  event = record { party = party; access = Local; answer = 0 };
  added = refl;
  its = refl;
}
made_step m (GoOn party) = record {
  event = record {
    party = party;
    access = member_next m.indices.capacity (width_of m) m.values (member_stage m.seats party);
    answer = answer_of m.words (member_next m.indices.capacity (width_of m) m.values (member_stage m.seats party));
  };
  added = refl;
  its = refl;
}

-- a party has another seat
leaves : (m n : ContainerParts) (party : ℕ) (seat : MemberSeat) (hand : Option MemberCall) → n.seats ≡ set m.seats party seat
    → party < length m.seats → member_in_hand seat.stage ≡ hand → LeavesCalls MemberCall (member_hands m) (member_hands n) party hand
leaves m n party seat hand is_set within is = record {
  its = ap (λ (seats : List MemberSeat). member_in_hand (member_stage seats party)) is_set
      ∙ ap (λ (s : MemberSeat). member_in_hand s.stage) (member_seat_here m.seats party seat within) ∙ is;
  others = λ q differs. ap (λ (seats : List MemberSeat). member_in_hand (member_stage seats q)) is_set
      ∙ ap (λ (s : MemberSeat). member_in_hand s.stage) (member_seat_else m.seats party q seat differs);
}

is_there : (seats : List MemberSeat) (party : ℕ) (b : Bool) → (nat_lt party (length seats) && b) ≡ true → party < length seats
is_there seats party b fit = ltb-true party (length seats) (and_parts (nat_lt party (length seats)) b fit).0

none_ended : (party first last : ℕ) (s : ContainerCall) → member_is_over s ≡ false → member_ended party first last s ≡ []
none_ended party first last stage.Idle going = refl
none_ended party first last (stage.Enter number owner) going = refl
none_ended party first last (stage.Fill number owner index next) going = refl
none_ended party first last (stage.Show number owner index seen) going = refl
none_ended party first last (stage.Sink owner index mode) going = refl
none_ended party first last (stage.Hide owner index mode seen) going = refl
none_ended party first last (stage.Leave owner index mode) going = refl
none_ended party first last (stage.Drop owner index mode) going = refl
none_ended party first last (stage.Count c a) going = refl
none_ended party first last (stage.Raise c a seen) going = refl
none_ended party first last stage.Look going = refl
none_ended party first last (stage.Visit i) going = refl
none_ended party first last (stage.Gather i seen next) going = refl
none_ended party first last (stage.Search o j mode) going = refl
none_ended party first last (stage.Watch o j mode i) going = refl
none_ended party first last (stage.Ask o j mode i seen) going = refl
none_ended party first last (stage.Expel o j mode i seen) going = refl
none_ended party first last (stage.Clear o j mode i) going = refl
none_ended party first last (stage.Close o j mode) going = refl
none_ended party first last (stage.Done c a) going = absurd (cc)

module _ (n width saw : ℕ) (got : Option Answer) (finds : Bool) (before : List MemberFinished) (party first last answer : ℕ) where
  -- the last step of a call ends it, and no other one is in hand then
  ends_it : (s : ContainerCall) → member_is_over s ≡ true
      → (member_in_hand (member_take n width saw got finds s answer) ≡ None)
      × EndsOne MemberCall MemberFinished member_calls.whose member_calls.which before (before ++ member_ended party first last s) party
      (member_in_hand s)
  ends_it stage.Idle over = absurd (cc)
  ends_it (stage.Enter number owner) over = absurd (cc)
  ends_it (stage.Fill number owner index next) over = absurd (cc)
  ends_it (stage.Show number owner index seen) over = absurd (cc)
  ends_it (stage.Sink owner index mode) over = absurd (cc)
  ends_it (stage.Hide owner index mode seen) over = absurd (cc)
  ends_it (stage.Leave owner index mode) over = absurd (cc)
  ends_it (stage.Drop owner index mode) over = absurd (cc)
  ends_it (stage.Count c a) over = absurd (cc)
  ends_it (stage.Raise c a seen) over = absurd (cc)
  ends_it stage.Look over = absurd (cc)
  ends_it (stage.Visit i) over = absurd (cc)
  ends_it (stage.Gather i seen next) over = absurd (cc)
  ends_it (stage.Search o j mode) over = absurd (cc)
  ends_it (stage.Watch o j mode i) over = absurd (cc)
  ends_it (stage.Ask o j mode i seen) over = absurd (cc)
  ends_it (stage.Expel o j mode i seen) over = absurd (cc)
  ends_it (stage.Clear o j mode i) over = absurd (cc)
  ends_it (stage.Close o j mode) over = absurd (cc)
  ends_it (stage.Done c a) over = (
    refl,
    record {
      ended = record { party = party; call = c; answer = a; first = first; last = last };
      added = refl;
      its = refl;
      is = refl;
    },
  )

-- what a step of a party inside a call makes of its seat
module _ (m : ContainerParts) (party : ℕ) where
  abbrev seat : MemberSeat
  seat = member_seat m.seats party

  abbrev answer : ℕ
  answer = answer_of m.words (member_next m.indices.capacity (width_of m) m.values seat.stage)

  abbrev next : ContainerCall
  next = member_take m.indices.capacity (width_of m) seat.saw (answer_at (stage_at m.indices.seats party))
      (is_clearing (stage_at (asked_at m.indices party seat.stage).seats party)) seat.stage answer

  shows_next : member_in_hand (seat_after seat next answer (length m.events)).stage ≡ member_in_hand next
  shows_next = ap member_in_hand (seat_stage (is_look seat.stage && not (answer == seat.saw)) seat next answer (length m.events))

goes : (m : ContainerParts) (step : MemberMove) → member_fits m step ≡ true → member_ends m step ≡ false
    → LeavesCalls MemberCall (member_hands m) (member_hands (member_happens m step)) (asks_of step) (member_call m step)
    × ((member_happens m step).finished ≡ m.finished)
goes m (Begin party c) fit going = (
  leaves m (member_begins m party c) party (record (member_seat m.seats party) { stage = member_begun c; first = length m.events }) (Some c)
      refl (is_there m.seats party _ fit) (begun_call c),
  refl,
)
goes m (GoOn party) fit going = (
  leaves m (member_went m party) party (seat_after (seat m party) (next m party) (answer m party) (length m.events)) (member_hands m party)
      refl (is_there m.seats party _ fit) (shows_next m party ∙ same_call m.indices.capacity (width_of m) (seat m party).saw
      (answer_at (stage_at m.indices.seats party)) (is_clearing (stage_at (asked_at m.indices party (seat m party).stage).seats party))
      (seat m party).stage (answer m party) going),
  ap (λ (fs : List MemberFinished). m.finished ++ fs)
      (none_ended party (seat m party).first (length m.events) (seat m party).stage going) ∙ append-nil m.finished,
)

ended : (m : ContainerParts) (step : MemberMove) → member_fits m step ≡ true → member_ends m step ≡ true
    → LeavesCalls MemberCall (member_hands m) (member_hands (member_happens m step)) (asks_of step) None
    × EndsOne MemberCall MemberFinished member_calls.whose member_calls.which m.finished (member_happens m step).finished (asks_of step)
    (member_call m step)
ended m (Begin party c) fit over = absurd (cc)
ended m (GoOn party) fit over =
    let both : (member_in_hand (next m party) ≡ None) × _
    = ends_it m.indices.capacity (width_of m) (seat m party).saw (answer_at (stage_at m.indices.seats party))
    (is_clearing (stage_at (asked_at m.indices party (seat m party).stage).seats party)) m.finished party (seat m party).first
    (length m.events) (answer m party) (seat m party).stage over in (
      leaves m (member_went m party) party (seat_after (seat m party) (next m party) (answer m party) (length m.events)) None refl
          (is_there m.seats party _ fit) (shows_next m party ∙ both.0),
      both.1,
    )

pub member_steps_tell : (m : ContainerParts) (step : MemberMove) (r : Stepped) (n : ContainerParts) → MemberStepsTo m step r n
    → MemberTellsStep m step r n
member_steps_tell m step r n h = steps_tell_calls ContainerParts MemberMove member_fits member_ends member_happens MemberCall
    MemberFinished member_calls m step (asks_of step) (member_call m step) (λ fit. made_step m step) (goes m step) (ended m step) r n h
