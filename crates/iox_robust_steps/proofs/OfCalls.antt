-- What a step of the machine of a set that knows its holders is to the calls of its party, and what it adds.
use Rattle.std.proofs.Common.{◌≡◌, ℕ, inl, inr, Bool, true, false, if◌then◌else◌, nat_lt, not, ◌<◌, ◌&&◌, Option, Some, None, List, []}
use Rattle.std.proofs.Common.{◌∷◌, ◌++◌, length, set, replicate, refl, sym, ◌∙◌, ap, subst, append-nil}
use Rattle.std.specs.Global.{Vec}
use Rattle.std.proofs.lemmas.Bool.{and_parts, ltb-true}
use Rattle.iox_queues_steps.specs.Access.{answer_of}
use Rattle.iox_queues_steps.specs.declared.access.Access.TheVariants.{Local}
use Rattle.iox_queues_steps.specs.declared.schedule.Stepped.{Stepped}
use Rattle.iox_queues.specs.Spans.{AddsOne, AreOfCalls, Span, bound_in_hand, span_in_hand}
use Rattle.iox_queues.specs.Turns.{EndsOne, LeavesCalls}
use Rattle.iox_queues.specs.declared.bits.machine.Event.{Event}
use Rattle.iox_robust_steps.specs.Steps.{call_begun, call_in_hand, call_is_idle, call_is_over, call_next, call_take}
use Rattle.iox_robust_steps.specs.Machine.{RobustSetState, StepsTo, begun, call_ended, ends, fits, happens, idle_seat, seat_at, stage_at}
use Rattle.iox_robust_steps.specs.Machine.{start, went}
use Rattle.iox_robust_steps.specs.OfCalls.{StepsAreOfCalls, TellsStep, begun_at, call_of_step, calls_of, hands, party_of}
use Rattle.iox_robust_steps.specs.OfCalls.{spans_ended}
use Rattle.iox_robust_steps.specs.declared.call.Call.{Call}
use Rattle.iox_robust_steps.specs.declared.call.Call.TheVariants as call
use Rattle.iox_robust_steps.specs.declared.call.RobustCall.{RobustCall}
use Rattle.iox_robust_steps.specs.declared.call.RobustCall.TheVariants as stage
use Rattle.iox_robust_steps.specs.declared.machine.Finished.{Finished}
use Rattle.iox_robust_steps.specs.declared.machine.Move.{Move}
use Rattle.iox_robust_steps.specs.declared.machine.Move.TheVariants.{Begin, GoOn, Insist}
use Rattle.iox_robust_steps.specs.declared.state.Seat.{Seat}
use Rattle.iox_queues.proofs.Spans.{IsOneOf, of_calls_on}
use Rattle.iox_queues.proofs.Turns.{steps_tell_calls}
use Rattle.iox_robust_steps.proofs.Asked.{keeps_call, looks_call, same_call}
use Rattle.iox_robust_steps.proofs.Seats.{all_idle, seat_else, seat_here}

ended_more : (xs ys : List Finished) → spans_ended (xs ++ ys) ≡ spans_ended xs ++ spans_ended ys
ended_more [] ys = refl
ended_more (x ∷ xs) ys = ap (λ (ss : List Span). record { party = x.party; first = x.first; last = x.last } ∷ ss) (ended_more xs ys)

-- a call in hand is in progress
busy : (s : RobustCall) (c : Call) → call_in_hand s ≡ Some c → call_is_idle s ≡ false
busy stage.Idle c h = absurd (cc)
busy (stage.Acquire owner) c h = refl
busy (stage.Claim owner place count) c h = refl
busy (stage.Count owner place count) c h = refl
busy (stage.Confirm owner place) c h = refl
busy (stage.Undo owner place) c h = refl
busy (stage.Free owner index mode) c h = refl
busy (stage.Look owner number mode place) c h = refl
busy (stage.Clear owner number mode place seen) c h = refl
busy (stage.Settle d) c h = refl
busy (stage.Scan d place count) c h = refl
busy (stage.Lock d count) c h = refl
busy (stage.Done d answer) c h = refl

module _ (n : ℕ) (decisions : List (Vec Bool)) (insists : Bool) (party first number answer : ℕ) where
  abbrev step : RobustCall → Event
  step s = record { party = party; access = call_next s; answer = answer }

  stays : (s : RobustCall) (c : Call) → call_in_hand s ≡ Some c → call_is_over s ≡ false
      → begun_at (record { stage = call_take n decisions insists s answer; first = first }) ≡ Some first
  stays s c h over = ap (λ (b : Bool). if b then None else Some first)
      (busy (call_take n decisions insists s answer) c (same_call n decisions insists s answer c h over))

  went_one : (s : RobustCall) → call_is_idle s ≡ false
      → IsOneOf (step s) number (begun_at (record { stage = s; first = first }))
      (begun_at (record { stage = call_take n decisions insists s answer; first = first })) (spans_ended (call_ended party first number s))
  went_one stage.Idle in_call = absurd (cc)
  went_one (stage.Acquire owner) in_call = inr (inl (first, refl, refl, stays (stage.Acquire owner) _ refl refl, refl))
  went_one (stage.Claim owner place count) in_call
      = inr (inl (first, refl, refl, stays (stage.Claim owner place count) _ refl refl, refl))
  went_one (stage.Count owner place count) in_call
      = inr (inl (first, refl, refl, stays (stage.Count owner place count) _ refl refl, refl))
  went_one (stage.Confirm owner place) in_call = inr (inl (first, refl, refl, refl, refl))
  went_one (stage.Undo owner place) in_call = inr (inl (first, refl, refl, refl, refl))
  went_one (stage.Free owner index mode) in_call
      = inr (inl (first, refl, refl, stays (stage.Free owner index mode) _ refl refl, refl))
  went_one (stage.Look owner value mode place) in_call
      = inr (inl (first, refl, refl, stays (stage.Look owner value mode place) _ refl refl, refl))
  went_one (stage.Clear owner value mode place seen) in_call
      = inr (inl (first, refl, refl, stays (stage.Clear owner value mode place seen) _ refl refl, refl))
  went_one (stage.Settle c) in_call = inr (inl (first, refl, refl, stays (stage.Settle c) c refl refl, refl))
  went_one (stage.Scan c place count) in_call = inr (inl (first, refl, refl, stays (stage.Scan c place count) c refl refl, refl))
  went_one (stage.Lock c count) in_call = inr (inl (first, refl, refl, stays (stage.Lock c count) c refl refl, refl))
  went_one (stage.Done c answered) in_call = inr (inr (first, refl, refl, refl, refl))

-- a call that begins is in hand
pub begun_call : (n : ℕ) (c : Call) → call_in_hand (call_begun n c) ≡ Some c
begun_call n (call.Acquire owner) = refl
begun_call n (call.Release owner index mode) = refl
begun_call n (call.Recover owner number mode) = looks_call n owner number mode 0

not_true : (b : Bool) → not b ≡ true → b ≡ false
not_true true h = absurd (cc)
not_true false h = refl

pub went_counted : (m : RobustSetState) (party : ℕ) (insists : Bool) → fits m (GoOn party) ≡ true → StepsAreOfCalls m
    → StepsAreOfCalls (went m party insists)
went_counted m party insists fit k =
    let parts : (nat_lt party (length m.seats) ≡ true) × (_ ≡ true)
    = and_parts (nat_lt party (length m.seats)) _ fit in
    let answer : ℕ = answer_of m.words (call_next (stage_at m.seats party)) in
    let seat : Seat = record
    { stage = call_take m.capacity m.decisions insists (stage_at m.seats party) answer; first = (seat_at m.seats party).first } in
    let event : Event = record { party = party; access = call_next (stage_at m.seats party); answer = answer } in
    let ended : List Finished = call_ended party (seat_at m.seats party).first (length m.events) (stage_at m.seats party) in
    subst (λ (ss : List Span). AreOfCalls (went m party insists).events ss (λ (q : ℕ). begun_at (seat_at (went m party insists).seats q)))
    (sym (ended_more m.finished ended))
    (of_calls_on m.events event (spans_ended m.finished) (spans_ended ended) (λ (q : ℕ). begun_at (seat_at m.seats q))
    (λ (q : ℕ). begun_at (seat_at (went m party insists).seats q)) k
    (subst (λ (s : Seat). IsOneOf event (length m.events) (begun_at (seat_at m.seats party)) (begun_at s) (spans_ended ended))
    (sym (seat_here m.seats party seat (ltb-true party (length m.seats) parts.0)))
    (went_one m.capacity m.decisions insists party (seat_at m.seats party).first (length m.events) answer (stage_at m.seats party)
    (not_true (call_is_idle (stage_at m.seats party)) (and_parts (not (call_is_idle (stage_at m.seats party))) _ parts.1).0)))
    (λ q differs. ap begun_at (seat_else m.seats party q seat (λ same. differs (sym same)))))

pub begun_counted : (m : RobustSetState) (party : ℕ) (c : Call) → fits m (Begin party c) ≡ true → StepsAreOfCalls m
    → StepsAreOfCalls (begun m party c)
begun_counted m party c fit k =
    let parts : (nat_lt party (length m.seats) ≡ true) × (_ ≡ true) = and_parts (nat_lt party (length m.seats)) _ fit in
    let seat : Seat = record { stage = call_begun m.capacity c; first = length m.events } in
    let begin : Event = record { party = party; access = Local; answer = 0 } in
    subst (λ (ss : List Span). AreOfCalls (begun m party c).events ss (λ (q : ℕ). begun_at (seat_at (begun m party c).seats q)))
    (append-nil (spans_ended m.finished))
    (of_calls_on m.events begin (spans_ended m.finished) [] (λ (q : ℕ). begun_at (seat_at m.seats q))
    (λ (q : ℕ). begun_at (seat_at (begun m party c).seats q)) k
    (inl (
      ap (λ (b : Bool). if b then None else Some (seat_at m.seats party).first)
          (and_parts (call_is_idle (stage_at m.seats party)) _ parts.1).0,
      refl,
      ap begun_at (seat_here m.seats party seat (ltb-true party (length m.seats) parts.0))
          ∙ ap (λ (b : Bool). if b then None else Some (length m.events)) (busy (call_begun m.capacity c) c (begun_call m.capacity c)),
      refl,
    ))
    (λ q differs. ap begun_at (seat_else m.seats party q seat (λ same. differs (sym same)))))

pub start_counted : (capacity parties : ℕ) (decisions : List (Vec Bool)) (may_insist : Bool)
    → StepsAreOfCalls (start capacity parties decisions may_insist)
start_counted capacity parties decisions may_insist = record {
  steps = λ q. subst (λ (o : Option ℕ). [] ≡ [] ++ span_in_hand q [] o) (sym (nobody q)) refl;
  locals = λ q. subst (λ (o : Option ℕ). [] ≡ [] ++ bound_in_hand o) (sym (nobody q)) refl;
  within = tt;
  begun = λ q first is. absurd (let none : None ≡ Some first = sym (nobody q) ∙ is in cc);
}
  where
    nobody : (q : ℕ) → begun_at (seat_at (replicate parties idle_seat) q) ≡ None
    nobody q = ap begun_at (all_idle parties q)

-- one step
made_step : (m : RobustSetState) (step : Move) → AddsOne m.events (happens m step).events (party_of step)
made_step m (Begin party c) = record {
  event = record { party = party; access = Local; answer = 0 };
  added = refl;
  its = refl;
}
made_step m (GoOn party) = record {
  event = record {
    party = party;
    access = call_next (stage_at m.seats party);
    answer = answer_of m.words (call_next (stage_at m.seats party));
  };
  added = refl;
  its = refl;
}
made_step m (Insist party) = record {
  event = record {
    party = party;
    access = call_next (stage_at m.seats party);
    answer = answer_of m.words (call_next (stage_at m.seats party));
  };
  added = refl;
  its = refl;
}

-- a party has another seat
leaves : (m n : RobustSetState) (party : ℕ) (seat : Seat) (hand : Option Call) → n.seats ≡ set m.seats party seat → party < length m.seats
    → call_in_hand seat.stage ≡ hand → LeavesCalls Call (hands m) (hands n) party hand
leaves m n party seat hand is_set within is = record {
  its = ap (λ (seats : List Seat). call_in_hand (stage_at seats party)) is_set
      ∙ ap (λ (s : Seat). call_in_hand s.stage) (seat_here m.seats party seat within) ∙ is;
  others = λ q differs. ap (λ (seats : List Seat). call_in_hand (stage_at seats q)) is_set
      ∙ ap (λ (s : Seat). call_in_hand s.stage) (seat_else m.seats party q seat differs);
}

is_there : (seats : List Seat) (party : ℕ) (b : Bool) → (nat_lt party (length seats) && b) ≡ true → party < length seats
is_there seats party b fit = ltb-true party (length seats) (and_parts (nat_lt party (length seats)) b fit).0

none_ended : (party first last : ℕ) (s : RobustCall) → call_is_over s ≡ false → call_ended party first last s ≡ []
none_ended party first last (stage.Idle) going = refl
none_ended party first last (stage.Acquire owner) going = refl
none_ended party first last (stage.Claim owner place count) going = refl
none_ended party first last (stage.Count owner place count) going = refl
none_ended party first last (stage.Confirm owner place) going = refl
none_ended party first last (stage.Undo owner place) going = refl
none_ended party first last (stage.Free owner index mode) going = refl
none_ended party first last (stage.Look owner number mode place) going = refl
none_ended party first last (stage.Clear owner number mode place seen) going = refl
none_ended party first last (stage.Settle c) going = refl
none_ended party first last (stage.Scan c place count) going = refl
none_ended party first last (stage.Lock c count) going = refl
none_ended party first last (stage.Done c a) going = absurd (cc)

module _ (n : ℕ) (decisions : List (Vec Bool)) (insists : Bool) (before : List Finished) (party first last answer : ℕ) where
  -- the last step of a call ends it, and no other one is in hand then
  ends_it : (s : RobustCall) → call_is_over s ≡ true
      → (call_in_hand (call_take n decisions insists s answer) ≡ None)
      × EndsOne Call Finished calls_of.whose calls_of.which before (before ++ call_ended party first last s) party (call_in_hand s)
  ends_it (stage.Idle) over = absurd (cc)
  ends_it (stage.Acquire owner) over = absurd (cc)
  ends_it (stage.Claim owner place count) over = absurd (cc)
  ends_it (stage.Count owner place count) over = absurd (cc)
  ends_it (stage.Confirm owner place) over = absurd (cc)
  ends_it (stage.Undo owner place) over = absurd (cc)
  ends_it (stage.Free owner index mode) over = absurd (cc)
  ends_it (stage.Look owner number mode place) over = absurd (cc)
  ends_it (stage.Clear owner number mode place seen) over = absurd (cc)
  ends_it (stage.Settle c) over = absurd (cc)
  ends_it (stage.Scan c place count) over = absurd (cc)
  ends_it (stage.Lock c count) over = absurd (cc)
  ends_it (stage.Done c a) over = (
    refl,
    record {
      ended = record { party = party; call = c; answer = a; first = first; last = last };
      added = refl;
      its = refl;
      is = refl;
    },
  )

-- an access of a party, inside its call or as the last step of it
module _ (m : RobustSetState) (party : ℕ) (insists : Bool) (within : party < length m.seats) where
  abbrev got : ℕ
  got = answer_of m.words (call_next (stage_at m.seats party))

  abbrev onward : RobustCall
  onward = call_take m.capacity m.decisions insists (stage_at m.seats party) got

  goes_on : call_is_over (stage_at m.seats party) ≡ false
      → LeavesCalls Call (hands m) (hands (went m party insists)) party (hands m party) × ((went m party insists).finished ≡ m.finished)
  goes_on going = (
    leaves m (went m party insists) party (record { stage = onward; first = (seat_at m.seats party).first }) (hands m party) refl within
        (keeps_call m.capacity m.decisions insists (stage_at m.seats party) got going),
    ap (λ (fs : List Finished). m.finished ++ fs)
        (none_ended party (seat_at m.seats party).first (length m.events) (stage_at m.seats party) going) ∙ append-nil m.finished,
  )

  ends_so : call_is_over (stage_at m.seats party) ≡ true
      → LeavesCalls Call (hands m) (hands (went m party insists)) party None
      × EndsOne Call Finished calls_of.whose calls_of.which m.finished (went m party insists).finished party (hands m party)
  ends_so over =
      let both : (call_in_hand onward ≡ None) × _
      = ends_it m.capacity m.decisions insists m.finished party (seat_at m.seats party).first (length m.events) got
      (stage_at m.seats party) over in (
        leaves m (went m party insists) party (record { stage = onward; first = (seat_at m.seats party).first }) None refl within both.0,
        both.1,
      )

goes : (m : RobustSetState) (step : Move) → fits m step ≡ true → ends m step ≡ false
    → LeavesCalls Call (hands m) (hands (happens m step)) (party_of step) (call_of_step m step)
    × ((happens m step).finished ≡ m.finished)
goes m (Begin party c) fit going = (
  leaves m (begun m party c) party (record { stage = call_begun m.capacity c; first = length m.events }) (Some c) refl
      (is_there m.seats party _ fit) (begun_call m.capacity c),
  refl,
)
goes m (GoOn party) fit going = goes_on m party false (is_there m.seats party _ fit) going
goes m (Insist party) fit going = goes_on m party true (is_there m.seats party _ (and_parts m.may_insist _ fit).1) going

ended : (m : RobustSetState) (step : Move) → fits m step ≡ true → ends m step ≡ true
    → LeavesCalls Call (hands m) (hands (happens m step)) (party_of step) None
    × EndsOne Call Finished calls_of.whose calls_of.which m.finished (happens m step).finished (party_of step) (call_of_step m step)
ended m (Begin party c) fit over = absurd (cc)
ended m (GoOn party) fit over = ends_so m party false (is_there m.seats party _ fit) over
ended m (Insist party) fit over = ends_so m party true (is_there m.seats party _ (and_parts m.may_insist _ fit).1) over

pub steps_tell : (m : RobustSetState) (step : Move) (r : Stepped) (n : RobustSetState) → StepsTo m step r n → TellsStep m step r n
steps_tell m step r n h = steps_tell_calls RobustSetState Move fits ends happens Call Finished calls_of m step (party_of step)
    (call_of_step m step) (λ fit. made_step m step) (goes m step) (ended m step) r n h
