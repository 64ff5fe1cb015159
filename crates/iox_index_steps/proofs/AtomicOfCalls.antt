-- What a step of a single value's machine is to the calls of its party, and what it adds.
use Rattle.std.proofs.Common.{◌<◌, ◌&&◌, set}
use Rattle.std.proofs.Common.{◌≡◌, ℕ, ◌+◌, inl, inr, Bool, true, false, if◌then◌else◌, ◌==◌, nat_lt, not, Option, Some, None, List, []}
use Rattle.std.proofs.Common.{◌∷◌, ◌++◌, length, replicate, refl, sym, ◌∙◌, ap, subst, arith, append-nil, slice_index_or}
use Rattle.std.proofs.Common.{slice_index}
use Rattle.std.specs.Global.{Vec}
use Rattle.std.proofs.lemmas.Bool.{and_parts, ltb-true, ltb-false}
use Rattle.std.proofs.lemmas.List.{get_or-replicate, get_or_past, length-replicate}
use Rattle.iox_queues_steps.specs.Access.{answer_of, successor}
use Rattle.iox_queues_steps.specs.declared.access.Access.TheVariants.{Load, Store, Local}
use Rattle.iox_queues_steps.specs.declared.access.Word.TheVariants.{Write, Cell}
use Rattle.iox_queues_steps.specs.declared.schedule.Stepped.{Stepped}
use Rattle.iox_queues.specs.Turns.{EndsOne, LeavesCalls}
use Rattle.iox_queues.proofs.Turns.{steps_tell_calls}
use Rattle.iox_index_steps.specs.AtomicMachine.{call_of_step, calls_of, hands}
use Rattle.iox_queues.specs.Spans.{AddsOne, AreOfCalls, Span, bound_in_hand, is_local, span_in_hand}
use Rattle.iox_queues.specs.declared.bits.machine.Event.{Event}
use Rattle.iox_index_steps.specs.AtomicSteps.{call_begun, call_is_idle, call_is_over, call_next, call_take, fills_second, place}
use Rattle.iox_queues.specs.Values.{table_value}
use Rattle.iox_index_steps.specs.AtomicTold.{call_in_hand}
use Rattle.iox_index_steps.specs.AtomicMachine.{AtomicState, StepsAreOfCalls, StepsTo, TellsStep, begun, begun_at, call_ended}
use Rattle.iox_index_steps.specs.AtomicMachine.{ends, fits, happens, idle_seat, party_of, seat_at, spans_ended, stage_at, start, went}
use Rattle.iox_index_steps.specs.AtomicMachine.{width_of}
use Rattle.iox_index_steps.specs.declared.atomic.call.Call.{Call}
use Rattle.iox_index_steps.specs.declared.atomic.call.Call.TheVariants as call
use Rattle.iox_index_steps.specs.declared.atomic.call.AtomicCall.{AtomicCall}
use Rattle.iox_index_steps.specs.declared.atomic.call.AtomicCall.TheVariants as stage
use Rattle.iox_index_steps.specs.declared.atomic.Finished.{Finished}
use Rattle.iox_index_steps.specs.declared.atomic.Move.{Move}
use Rattle.iox_index_steps.specs.declared.atomic.Move.TheVariants.{Begin, GoOn}
use Rattle.iox_index_steps.specs.declared.atomic.state.Seat.{Seat}
use Rattle.iox_queues.proofs.Spans.{IsOneOf, of_calls_on}
use Rattle.iox_index_steps.proofs.AtomicSeats.{seat_else, seat_here, seat_is}

ended_more : (xs ys : List Finished) → spans_ended (xs ++ ys) ≡ spans_ended xs ++ spans_ended ys
ended_more [] ys = refl
ended_more (x ∷ xs) ys = ap (λ (ss : List Span). record { party = x.party; first = x.first; last = x.last } ∷ ss) (ended_more xs ys)

-- a call that was begun, or goes on, is in progress
begun_busy : (c : Call) → call_is_idle (call_begun c) ≡ false
begun_busy (call.Store number) = refl
begun_busy call.Load = refl

either_busy : (b : Bool) (one other : AtomicCall) → call_is_idle one ≡ false → call_is_idle other ≡ false
    → call_is_idle (if b then one else other) ≡ false
either_busy true one other h g = h
either_busy false one other h g = g

fill_local : (n : ℕ) (values : List (Vec ℕ)) (number counter next : ℕ)
    → is_local (call_next n values (stage.Fill number counter next)) ≡ false
fill_local n values number counter next = of (nat_lt next n)
  where
    of : (b : Bool) → is_local (if b then Store (Cell (place n (fills_second counter) next)) (slice_index (table_value values number) next)
        else Store Write (successor counter)) ≡ false
    of true = refl
    of false = refl

gather_local : (n : ℕ) (values : List (Vec ℕ)) (counter next : ℕ) → is_local (call_next n values (stage.Gather counter next)) ≡ false
gather_local n values counter next = of (nat_lt next n)
  where
    of : (b : Bool) → is_local (if b then Load (Cell (place n (not (fills_second counter)) next)) else Load Write) ≡ false
    of true = refl
    of false = refl

module _ (n : ℕ) (values : List (Vec ℕ)) (party first number answer : ℕ) where
  abbrev step : AtomicCall → Event
  step s = record { party = party; access = call_next n values s; answer = answer }

  stays : (s : AtomicCall) → call_is_idle s ≡ false → begun_at (record { stage = s; first = first }) ≡ Some first
  stays s h = ap (λ (b : Bool). if b then None else Some first) h

  went_one : (s : AtomicCall) → call_is_idle s ≡ false
      → IsOneOf (step s) number (begun_at (record { stage = s; first = first }))
      (begun_at (record { stage = call_take n s answer; first = first })) (spans_ended (call_ended party first number s))
  went_one stage.Idle in_call = absurd (cc)
  went_one (stage.Store value) in_call = inr (inl (first, refl, refl, refl, refl))
  went_one (stage.Fill value counter next) in_call = inr (inl (
    first,
    refl,
    fill_local n values value counter next,
    stays (call_take n (stage.Fill value counter next) answer)
        (either_busy (nat_lt next n) (stage.Fill value counter (next + 1)) (stage.Done (call.Store value)) refl refl),
    refl,
  ))
  went_one stage.Load in_call = inr (inl (first, refl, refl, refl, refl))
  went_one (stage.Gather counter next) in_call = inr (inl (
    first,
    refl,
    gather_local n values counter next,
    stays (call_take n (stage.Gather counter next) answer) (either_busy (nat_lt next n) (stage.Gather counter (next + 1)) _ refl
        (either_busy (answer == counter) (stage.Done call.Load) (stage.Gather answer 0) refl refl)),
    refl,
  ))
  went_one (stage.Done c) in_call = inr (inr (first, refl, refl, refl, refl))

not_true : (b : Bool) → not b ≡ true → b ≡ false
not_true true h = absurd (cc)
not_true false h = refl

pub went_counted : (m : AtomicState) (party : ℕ) → fits m (GoOn party) ≡ true → StepsAreOfCalls m → StepsAreOfCalls (went m party)
went_counted m party fit k =
    let parts : (nat_lt party (length m.seats) ≡ true) × (not (call_is_idle (stage_at m.seats party)) ≡ true)
    = and_parts (nat_lt party (length m.seats)) _ fit in
    let answer : ℕ = answer_of m.words (call_next (width_of m) m.values (stage_at m.seats party)) in
    let seat : Seat = record { stage = call_take (width_of m) (stage_at m.seats party) answer; first = (seat_at m.seats party).first } in
    let event : Event = record { party = party; access = call_next (width_of m) m.values (stage_at m.seats party); answer = answer } in
    let ended : List Finished = call_ended party (seat_at m.seats party).first (length m.events) (stage_at m.seats party) in
    subst (λ (ss : List Span). AreOfCalls (went m party).events ss (λ (q : ℕ). begun_at (seat_at (went m party).seats q)))
    (sym (ended_more m.finished ended))
    (of_calls_on m.events event (spans_ended m.finished) (spans_ended ended) (λ (q : ℕ). begun_at (seat_at m.seats q))
    (λ (q : ℕ). begun_at (seat_at (went m party).seats q)) k
    (subst (λ (s : Seat). IsOneOf event (length m.events) (begun_at (seat_at m.seats party)) (begun_at s) (spans_ended ended))
    (sym (seat_here m.seats party seat (ltb-true party (length m.seats) parts.0)))
    (went_one (width_of m) m.values party (seat_at m.seats party).first (length m.events) answer (stage_at m.seats party)
    (not_true (call_is_idle (stage_at m.seats party)) parts.1)))
    (λ q differs. ap begun_at (seat_else m.seats party q seat (λ same. differs (sym same)))))

pub begun_counted : (m : AtomicState) (party : ℕ) (c : Call) → fits m (Begin party c) ≡ true → StepsAreOfCalls m
    → StepsAreOfCalls (begun m party c)
begun_counted m party c fit k =
    let parts : (nat_lt party (length m.seats) ≡ true) × (_ ≡ true) = and_parts (nat_lt party (length m.seats)) _ fit in
    let seat : Seat = record { stage = call_begun c; first = length m.events } in
    let begin : Event = record { party = party; access = Local; answer = 0 } in
    subst (λ (ss : List Span). AreOfCalls (begun m party c).events ss (λ (q : ℕ). begun_at (seat_at (begun m party c).seats q)))
    (append-nil (spans_ended m.finished))
    (of_calls_on m.events begin (spans_ended m.finished) [] (λ (q : ℕ). begun_at (seat_at m.seats q))
    (λ (q : ℕ). begun_at (seat_at (begun m party c).seats q)) k
    (inl (
      ap (λ (b : Bool). if b then None else Some (seat_at m.seats party).first)
          (and_parts (call_is_idle (stage_at m.seats party)) _ parts.1).0,
      refl,
      ap begun_at (seat_here m.seats party seat (ltb-true party (length m.seats) parts.0))
          ∙ ap (λ (b : Bool). if b then None else Some (length m.events)) (begun_busy c),
      refl,
    ))
    (λ q differs. ap begun_at (seat_else m.seats party q seat (λ same. differs (sym same)))))

nobody : (parties q : ℕ) → begun_at (seat_at (replicate parties idle_seat) q) ≡ None
nobody parties q = ap begun_at (seat_is (replicate parties idle_seat) q ∙ at (nat_lt q parties) refl)
  where
    at : (b : Bool) → nat_lt q parties ≡ b → slice_index_or (replicate parties idle_seat) q idle_seat ≡ idle_seat
    at true e = get_or-replicate {A = Seat} parties q idle_seat idle_seat (ltb-true q parties e)
    at false e = get_or_past (replicate parties idle_seat) q idle_seat
        (omega (arith, ltb-false q parties e, length-replicate {A = Seat} parties idle_seat))

pub start_counted : (values : List (Vec ℕ)) (parties : ℕ) → StepsAreOfCalls (start values parties)
start_counted values parties = record {
  steps = λ q. subst (λ (o : Option ℕ). [] ≡ [] ++ span_in_hand q [] o) (sym (nobody parties q)) refl;
  locals = λ q. subst (λ (o : Option ℕ). [] ≡ [] ++ bound_in_hand o) (sym (nobody parties q)) refl;
  within = tt;
  begun = λ q first is. absurd (let none : None ≡ Some first = sym (nobody parties q) ∙ is in cc);
}

-- a call stays the same one until it is over
either_call : (b : Bool) (one other : AtomicCall) (c : Option Call) → call_in_hand one ≡ c → call_in_hand other ≡ c
    → call_in_hand (if b then one else other) ≡ c
either_call true one other c h g = h
either_call false one other c h g = g

same_call : (n : ℕ) (s : AtomicCall) (answer : ℕ) → call_is_over s ≡ false → call_in_hand (call_take n s answer) ≡ call_in_hand s
same_call n stage.Idle answer going = refl
same_call n (stage.Store number) answer going = refl
same_call n (stage.Fill number counter next) answer going =
    either_call (nat_lt next n) (stage.Fill number counter (next + 1)) (stage.Done (call.Store number)) (Some (call.Store number)) refl refl
same_call n stage.Load answer going = refl
same_call n (stage.Gather counter next) answer going =
    either_call (nat_lt next n) (stage.Gather counter (next + 1)) _ (Some call.Load) refl
    (either_call (answer == counter) (stage.Done call.Load) (stage.Gather answer 0) (Some call.Load) refl refl)
same_call n (stage.Done c) answer going = absurd (cc)

begun_call : (c : Call) → call_in_hand (call_begun c) ≡ Some c
begun_call (call.Store number) = refl
begun_call call.Load = refl

-- one step
made_step : (m : AtomicState) (step : Move) → AddsOne m.events (happens m step).events (party_of step)
made_step m (Begin party c) = record {
  event = record { party = party; access = Local; answer = 0 };
  added = refl;
  its = refl;
}
made_step m (GoOn party) = record {
  event = record {
    party = party;
    access = call_next (width_of m) m.values (stage_at m.seats party);
    answer = answer_of m.words (call_next (width_of m) m.values (stage_at m.seats party));
  };
  added = refl;
  its = refl;
}

-- a party has another seat
leaves : (m n : AtomicState) (party : ℕ) (seat : Seat) (hand : Option Call) → n.seats ≡ set m.seats party seat → party < length m.seats
    → call_in_hand seat.stage ≡ hand → LeavesCalls Call (hands m) (hands n) party hand
leaves m n party seat hand is_set within is = record {
  its = ap (λ (seats : List Seat). call_in_hand (stage_at seats party)) is_set
      ∙ ap (λ (s : Seat). call_in_hand s.stage) (seat_here m.seats party seat within) ∙ is;
  others = λ q differs. ap (λ (seats : List Seat). call_in_hand (stage_at seats q)) is_set
      ∙ ap (λ (s : Seat). call_in_hand s.stage) (seat_else m.seats party q seat differs);
}

is_there : (seats : List Seat) (party : ℕ) (b : Bool) → (nat_lt party (length seats) && b) ≡ true → party < length seats
is_there seats party b fit = ltb-true party (length seats) (and_parts (nat_lt party (length seats)) b fit).0

none_ended : (party first last : ℕ) (s : AtomicCall) → call_is_over s ≡ false → call_ended party first last s ≡ []
none_ended party first last (stage.Idle) going = refl
none_ended party first last (stage.Store number) going = refl
none_ended party first last (stage.Fill number counter next) going = refl
none_ended party first last (stage.Load) going = refl
none_ended party first last (stage.Gather counter next) going = refl
none_ended party first last (stage.Done c) going = absurd (cc)

module _ (n : ℕ) (before : List Finished) (party first last answer : ℕ) where
  -- the last step of a call ends it, and no other one is in hand then
  ends_it : (s : AtomicCall) → call_is_over s ≡ true
      → (call_in_hand (call_take n s answer) ≡ None)
      × EndsOne Call Finished calls_of.whose calls_of.which before (before ++ call_ended party first last s) party (call_in_hand s)
  ends_it (stage.Idle) over = absurd (cc)
  ends_it (stage.Store number) over = absurd (cc)
  ends_it (stage.Fill number counter next) over = absurd (cc)
  ends_it (stage.Load) over = absurd (cc)
  ends_it (stage.Gather counter next) over = absurd (cc)
  ends_it (stage.Done c) over = (
    refl,
    record {
      ended = record { party = party; call = c; first = first; last = last };
      added = refl;
      its = refl;
      is = refl;
    },
  )

goes : (m : AtomicState) (step : Move) → fits m step ≡ true → ends m step ≡ false
    → LeavesCalls Call (hands m) (hands (happens m step)) (party_of step) (call_of_step m step)
    × ((happens m step).finished ≡ m.finished)
goes m (Begin party c) fit going = (
  leaves m (begun m party c) party (record { stage = call_begun c; first = length m.events }) (Some c) refl
      (is_there m.seats party _ fit) (begun_call c),
  refl,
)
goes m (GoOn party) fit going =
    let answer : ℕ = answer_of m.words (call_next (width_of m) m.values (stage_at m.seats party)) in (
      leaves m (went m party) party
          (record { stage = call_take (width_of m) (stage_at m.seats party) answer; first = (seat_at m.seats party).first })
          (hands m party) refl (is_there m.seats party _ fit) (same_call (width_of m) (stage_at m.seats party) answer going),
      ap (λ (fs : List Finished). m.finished ++ fs)
          (none_ended party (seat_at m.seats party).first (length m.events) (stage_at m.seats party) going) ∙ append-nil m.finished,
    )

ended : (m : AtomicState) (step : Move) → fits m step ≡ true → ends m step ≡ true
    → LeavesCalls Call (hands m) (hands (happens m step)) (party_of step) None
    × EndsOne Call Finished calls_of.whose calls_of.which m.finished (happens m step).finished (party_of step) (call_of_step m step)
ended m (Begin party c) fit over = absurd (cc)
ended m (GoOn party) fit over =
    let answer : ℕ = answer_of m.words (call_next (width_of m) m.values (stage_at m.seats party)) in
    let both : (call_in_hand (call_take (width_of m) (stage_at m.seats party) answer) ≡ None) × _
    = ends_it (width_of m) m.finished party (seat_at m.seats party).first (length m.events) answer (stage_at m.seats party) over in (
      leaves m (went m party) party
          (record { stage = call_take (width_of m) (stage_at m.seats party) answer; first = (seat_at m.seats party).first })
          None refl (is_there m.seats party _ fit) both.0,
      both.1,
    )

pub steps_tell : (m : AtomicState) (step : Move) (r : Stepped) (n : AtomicState) → StepsTo m step r n → TellsStep m step r n
steps_tell m step r n h = steps_tell_calls AtomicState Move fits ends happens Call Finished calls_of m step (party_of step)
    (call_of_step m step) (λ fit. made_step m step) (goes m step) (ended m step) r n h
