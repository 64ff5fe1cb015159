-- What a step of an index set's machine is to the calls of its party, and what it adds.
use Rattle.std.proofs.Common.{◌<◌, ◌&&◌, set}
use Rattle.std.proofs.Common.{◌≡◌, ℕ, inl, inr, Bool, true, false, if◌then◌else◌, ◌==◌, nat_le, nat_lt, not, Option, Some, None}
use Rattle.std.proofs.Common.{List, [], ◌∷◌, ◌++◌, length, replicate, refl, sym, ◌∙◌, ap, subst, arith, append-nil}
use Rattle.std.proofs.Common.{slice_index_or}
use Rattle.std.proofs.lemmas.Bool.{and_parts, ltb-true, ltb-false}
use Rattle.std.proofs.lemmas.List.{get_or-replicate, get_or_past, length-replicate}
use Rattle.iox_queues_steps.specs.Access.{answer_of}
use Rattle.iox_queues_steps.specs.declared.access.Access.TheVariants.{Local}
use Rattle.iox_queues_steps.specs.declared.schedule.Stepped.{Stepped}
use Rattle.iox_queues.specs.Turns.{EndsOne, LeavesCalls}
use Rattle.iox_queues.proofs.Turns.{steps_tell_calls}
use Rattle.iox_index_steps.specs.OfCalls.{call_of_step, calls_of, hands}
use Rattle.iox_queues.specs.Spans.{AddsOne, AreOfCalls, Span, bound_in_hand, span_in_hand}
use Rattle.iox_queues.specs.declared.bits.machine.Event.{Event}
use Rattle.iox_index_steps.specs.Steps.{borrowed_count, call_begun, call_is_idle, call_is_over, call_next, call_take, lock_mark, next_free}
use Rattle.iox_index_steps.specs.Steps.{seen_by_acquire}
use Rattle.iox_index_steps.specs.Machine.{IndexSetState, StepsTo, begun, call_ended, ends, fits, happens, idle_seat, seat_at, stage_at}
use Rattle.iox_index_steps.specs.Machine.{start, went}
use Rattle.iox_index_steps.specs.OfCalls.{StepsAreOfCalls, TellsStep, begun_at, call_in_hand, party_of, spans_ended}
use Rattle.iox_index_steps.specs.declared.call.Call.{Call}
use Rattle.iox_index_steps.specs.declared.call.Call.TheVariants as call
use Rattle.iox_index_steps.specs.declared.call.IndexCall.{IndexCall}
use Rattle.iox_index_steps.specs.declared.call.IndexCall.TheVariants.{Idle, Acquire, Follow, Take, Release, Link, Give, Done}
use Rattle.iox_index_steps.specs.declared.machine.Finished.{Finished}
use Rattle.iox_index_steps.specs.declared.machine.Move.{Move}
use Rattle.iox_index_steps.specs.declared.machine.Move.TheVariants.{Begin, GoOn}
use Rattle.iox_index_steps.specs.declared.state.Seat.{Seat}
use Rattle.iox_queues.proofs.Spans.{IsOneOf, of_calls_on}
use Rattle.iox_index_steps.proofs.Seats.{seat_else, seat_here, seat_is}

ended_more : (xs ys : List Finished) → spans_ended (xs ++ ys) ≡ spans_ended xs ++ spans_ended ys
ended_more [] ys = refl
ended_more (x ∷ xs) ys = ap (λ (ss : List Span). record { party = x.party; first = x.first; last = x.last } ∷ ss) (ended_more xs ys)

-- a call that was begun, that saw the head, or that won its exchange or lost it, is in progress
begun_busy : (n : ℕ) (c : Call) → call_is_idle (call_begun n c) ≡ false
begun_busy n call.Acquire = refl
begun_busy n (call.Release index mode) = refl

either_busy : (b : Bool) (one other : IndexCall) → call_is_idle one ≡ false → call_is_idle other ≡ false
    → call_is_idle (if b then one else other) ≡ false
either_busy true one other h g = h
either_busy false one other h g = g

seen_busy : (capacity word : ℕ) → call_is_idle (seen_by_acquire capacity word) ≡ false
seen_busy capacity word = either_busy (nat_le capacity (next_free word)) _ _ refl
    (either_busy (borrowed_count word == lock_mark) _ (Follow capacity word) refl refl)

module _ (party first number answer : ℕ) where
  abbrev step : IndexCall → Event
  step stage = record { party = party; access = call_next stage; answer = answer }

  stays : (stage : IndexCall) → call_is_idle stage ≡ false → begun_at (record { stage = stage; first = first }) ≡ Some first
  stays stage h = ap (λ (b : Bool). if b then None else Some first) h

  went_one : (stage : IndexCall) → call_is_idle stage ≡ false
      → IsOneOf (step stage) number (begun_at (record { stage = stage; first = first }))
      (begun_at (record { stage = call_take stage answer; first = first })) (spans_ended (call_ended party first number stage))
  went_one Idle in_call = absurd (cc)
  went_one (Acquire capacity) in_call
      = inr (inl (first, refl, refl, stays (seen_by_acquire capacity answer) (seen_busy capacity answer), refl))
  went_one (Follow capacity word) in_call = inr (inl (first, refl, refl, refl, refl))
  went_one (Take capacity word next) in_call = inr (inl (
    first,
    refl,
    refl,
    stays (call_take (Take capacity word next) answer) (either_busy (answer == word) _ _ refl (seen_busy capacity answer)),
    refl,
  ))
  went_one (Release index mode) in_call = inr (inl (first, refl, refl, refl, refl))
  went_one (Link index mode word) in_call = inr (inl (first, refl, refl, refl, refl))
  went_one (Give index mode word) in_call = inr (inl (
    first,
    refl,
    refl,
    stays (call_take (Give index mode word) answer) (either_busy (answer == word) _ (Link index mode answer) refl refl),
    refl,
  ))
  went_one (Done c answered) in_call = inr (inr (first, refl, refl, refl, refl))

not_true : (b : Bool) → not b ≡ true → b ≡ false
not_true true h = absurd (cc)
not_true false h = refl

pub went_counted : (m : IndexSetState) (party : ℕ) → fits m (GoOn party) ≡ true → StepsAreOfCalls m → StepsAreOfCalls (went m party)
went_counted m party fit k =
    let parts : (nat_lt party (length m.seats) ≡ true) × (not (call_is_idle (stage_at m.seats party)) ≡ true)
    = and_parts (nat_lt party (length m.seats)) _ fit in
    let answer : ℕ = answer_of m.words (call_next (stage_at m.seats party)) in
    let seat : Seat = record { stage = call_take (stage_at m.seats party) answer; first = (seat_at m.seats party).first } in
    let event : Event = record { party = party; access = call_next (stage_at m.seats party); answer = answer } in
    let ended : List Finished = call_ended party (seat_at m.seats party).first (length m.events) (stage_at m.seats party) in
    subst (λ (ss : List Span). AreOfCalls (went m party).events ss (λ (q : ℕ). begun_at (seat_at (went m party).seats q)))
    (sym (ended_more m.finished ended))
    (of_calls_on m.events event (spans_ended m.finished) (spans_ended ended) (λ (q : ℕ). begun_at (seat_at m.seats q))
    (λ (q : ℕ). begun_at (seat_at (went m party).seats q)) k
    (subst (λ (s : Seat). IsOneOf event (length m.events) (begun_at (seat_at m.seats party)) (begun_at s) (spans_ended ended))
    (sym (seat_here m.seats party seat (ltb-true party (length m.seats) parts.0)))
    (went_one party (seat_at m.seats party).first (length m.events) answer (stage_at m.seats party)
    (not_true (call_is_idle (stage_at m.seats party)) parts.1)))
    (λ q differs. ap begun_at (seat_else m.seats party q seat (λ same. differs (sym same)))))

pub begun_counted : (m : IndexSetState) (party : ℕ) (c : Call) → fits m (Begin party c) ≡ true → StepsAreOfCalls m
    → StepsAreOfCalls (begun m party c)
begun_counted m party c fit k =
    let parts : (nat_lt party (length m.seats) ≡ true) × (_ ≡ true) = and_parts (nat_lt party (length m.seats)) _ fit in
    let seat : Seat = record { stage = call_begun (length m.words.cells) c; first = length m.events } in
    let begin : Event = record { party = party; access = Local; answer = 0 } in
    subst (λ (ss : List Span). AreOfCalls (begun m party c).events ss (λ (q : ℕ). begun_at (seat_at (begun m party c).seats q)))
    (append-nil (spans_ended m.finished))
    (of_calls_on m.events begin (spans_ended m.finished) [] (λ (q : ℕ). begun_at (seat_at m.seats q))
    (λ (q : ℕ). begun_at (seat_at (begun m party c).seats q)) k
    (inl (
      ap (λ (b : Bool). if b then None else Some (seat_at m.seats party).first)
          (and_parts (call_is_idle (stage_at m.seats party)) _ parts.1).0,
      refl,
      ap begun_at (seat_here m.seats party seat (ltb-true party (length m.seats) parts.0))
          ∙ ap (λ (b : Bool). if b then None else Some (length m.events)) (begun_busy (length m.words.cells) c),
      refl,
    ))
    (λ q differs. ap begun_at (seat_else m.seats party q seat (λ same. differs (sym same)))))

nobody : (parties q : ℕ) → begun_at (seat_at (replicate parties idle_seat) q) ≡ None
nobody parties q = ap begun_at (seat_is (replicate parties idle_seat) q ∙ at (nat_lt q parties) refl)
  where
    at : (b : Bool) → nat_lt q parties ≡ b → slice_index_or (replicate parties idle_seat) q idle_seat ≡ idle_seat
    at true e = get_or-replicate {A = Seat} parties q idle_seat idle_seat (ltb-true q parties e)
    at false e = get_or_past (replicate parties idle_seat) q idle_seat
        (omega (arith, ltb-false q parties e, length-replicate {A = Seat} parties idle_seat))

pub start_counted : (capacity parties : ℕ) → StepsAreOfCalls (start capacity parties)
start_counted capacity parties = record {
  steps = λ q. subst (λ (o : Option ℕ). [] ≡ [] ++ span_in_hand q [] o) (sym (nobody parties q)) refl;
  locals = λ q. subst (λ (o : Option ℕ). [] ≡ [] ++ bound_in_hand o) (sym (nobody parties q)) refl;
  within = tt;
  begun = λ q first is. absurd (let none : None ≡ Some first = sym (nobody parties q) ∙ is in cc);
}

-- a call stays the same one until it is over
either_call : (b : Bool) (one other : IndexCall) (c : Option Call) → call_in_hand one ≡ c → call_in_hand other ≡ c
    → call_in_hand (if b then one else other) ≡ c
either_call true one other c h g = h
either_call false one other c h g = g

seen_call : (capacity word : ℕ) → call_in_hand (seen_by_acquire capacity word) ≡ Some call.Acquire
seen_call capacity word = either_call (nat_le capacity (next_free word)) _ _ (Some call.Acquire) refl
    (either_call (borrowed_count word == lock_mark) _ (Follow capacity word) (Some call.Acquire) refl refl)

same_call : (s : IndexCall) (answer : ℕ) → call_is_over s ≡ false → call_in_hand (call_take s answer) ≡ call_in_hand s
same_call Idle answer going = refl
same_call (Acquire capacity) answer going = seen_call capacity answer
same_call (Follow capacity word) answer going = refl
same_call (Take capacity word next) answer going =
    either_call (answer == word) _ _ (Some call.Acquire) refl (seen_call capacity answer)
same_call (Release index mode) answer going = refl
same_call (Link index mode word) answer going = refl
same_call (Give index mode word) answer going = either_call (answer == word) _ (Link index mode answer) (Some (call.Release index mode))
    refl refl
same_call (Done c answered) answer going = absurd (cc)

begun_call : (n : ℕ) (c : Call) → call_in_hand (call_begun n c) ≡ Some c
begun_call n call.Acquire = refl
begun_call n (call.Release index mode) = refl

-- one step
made_step : (m : IndexSetState) (step : Move) → AddsOne m.events (happens m step).events (party_of step)
made_step m (Begin party c) = record {
  event = record { party = party; access = Local; answer = 0 };
  added = refl;
  its = refl;
}
made_step m (GoOn party) = record {
  event = record {
    party = party;
    access = call_next (stage_at m.seats party);
    answer = answer_of m.words (call_next (stage_at m.seats party));
  };
  added = refl;
  its = refl;
}

-- a party has another seat
leaves : (m n : IndexSetState) (party : ℕ) (seat : Seat) (hand : Option Call) → n.seats ≡ set m.seats party seat → party < length m.seats
    → call_in_hand seat.stage ≡ hand → LeavesCalls Call (hands m) (hands n) party hand
leaves m n party seat hand is_set within is = record {
  its = ap (λ (seats : List Seat). call_in_hand (stage_at seats party)) is_set
      ∙ ap (λ (s : Seat). call_in_hand s.stage) (seat_here m.seats party seat within) ∙ is;
  others = λ q differs. ap (λ (seats : List Seat). call_in_hand (stage_at seats q)) is_set
      ∙ ap (λ (s : Seat). call_in_hand s.stage) (seat_else m.seats party q seat differs);
}

is_there : (seats : List Seat) (party : ℕ) (b : Bool) → (nat_lt party (length seats) && b) ≡ true → party < length seats
is_there seats party b fit = ltb-true party (length seats) (and_parts (nat_lt party (length seats)) b fit).0

none_ended : (party first last : ℕ) (s : IndexCall) → call_is_over s ≡ false → call_ended party first last s ≡ []
none_ended party first last (Idle) going = refl
none_ended party first last (Acquire capacity) going = refl
none_ended party first last (Follow capacity word) going = refl
none_ended party first last (Take capacity word next) going = refl
none_ended party first last (Release index mode) going = refl
none_ended party first last (Link index mode word) going = refl
none_ended party first last (Give index mode word) going = refl
none_ended party first last (Done c a) going = absurd (cc)

module _ (before : List Finished) (party first last answer : ℕ) where
  -- the last step of a call ends it, and no other one is in hand then
  ends_it : (s : IndexCall) → call_is_over s ≡ true
      → (call_in_hand (call_take s answer) ≡ None)
      × EndsOne Call Finished calls_of.whose calls_of.which before (before ++ call_ended party first last s) party (call_in_hand s)
  ends_it (Idle) over = absurd (cc)
  ends_it (Acquire capacity) over = absurd (cc)
  ends_it (Follow capacity word) over = absurd (cc)
  ends_it (Take capacity word next) over = absurd (cc)
  ends_it (Release index mode) over = absurd (cc)
  ends_it (Link index mode word) over = absurd (cc)
  ends_it (Give index mode word) over = absurd (cc)
  ends_it (Done c a) over = (
    refl,
    record {
      ended = record { party = party; call = c; answer = a; first = first; last = last };
      added = refl;
      its = refl;
      is = refl;
    },
  )

goes : (m : IndexSetState) (step : Move) → fits m step ≡ true → ends m step ≡ false
    → LeavesCalls Call (hands m) (hands (happens m step)) (party_of step) (call_of_step m step)
    × ((happens m step).finished ≡ m.finished)
goes m (Begin party c) fit going = (
  leaves m (begun m party c) party (record { stage = call_begun (length m.words.cells) c; first = length m.events }) (Some c) refl
      (is_there m.seats party _ fit) (begun_call (length m.words.cells) c),
  refl,
)
goes m (GoOn party) fit going =
    let answer : ℕ = answer_of m.words (call_next (stage_at m.seats party)) in (
      leaves m (went m party) party (record { stage = call_take (stage_at m.seats party) answer; first = (seat_at m.seats party).first })
          (hands m party) refl (is_there m.seats party _ fit) (same_call (stage_at m.seats party) answer going),
      ap (λ (fs : List Finished). m.finished ++ fs)
          (none_ended party (seat_at m.seats party).first (length m.events) (stage_at m.seats party) going) ∙ append-nil m.finished,
    )

ended : (m : IndexSetState) (step : Move) → fits m step ≡ true → ends m step ≡ true
    → LeavesCalls Call (hands m) (hands (happens m step)) (party_of step) None
    × EndsOne Call Finished calls_of.whose calls_of.which m.finished (happens m step).finished (party_of step) (call_of_step m step)
ended m (Begin party c) fit over = absurd (cc)
ended m (GoOn party) fit over =
    let answer : ℕ = answer_of m.words (call_next (stage_at m.seats party)) in
    let both : (call_in_hand (call_take (stage_at m.seats party) answer) ≡ None) × _
    = ends_it m.finished party (seat_at m.seats party).first (length m.events) answer (stage_at m.seats party) over in (
      leaves m (went m party) party (record { stage = call_take (stage_at m.seats party) answer; first = (seat_at m.seats party).first })
          None refl (is_there m.seats party _ fit) both.0,
      both.1,
    )

pub steps_tell : (m : IndexSetState) (step : Move) (r : Stepped) (n : IndexSetState) → StepsTo m step r n → TellsStep m step r n
steps_tell m step r n h = steps_tell_calls IndexSetState Move fits ends happens Call Finished calls_of m step (party_of step)
    (call_of_step m step) (λ fit. made_step m step) (goes m step) (ended m step) r n h
