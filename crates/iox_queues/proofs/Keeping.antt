-- Each step is recorded and is of one call, and places change by acts alone: after one more step.
use Rattle.std.proofs.Common.{◌≡◌, ℕ, ◌<◌, Bool, true, false, ◌&&◌, not, nat_lt, List, [], ◌∷◌, ◌++◌, length, drop, replicate}
use Rattle.std.proofs.Common.{None, Some, inl, if◌then◌else◌, refl, sym, ◌∙◌, ap, subst, append-nil}
use Rattle.std.proofs.Math.Seq.{drop-append_seam}
use Rattle.std.proofs.lemmas.Bool.{and_parts, ltb-true}
use Rattle.std.proofs.lemmas.List.{length-replicate}
use Rattle.iox_queues_steps.specs.Access.{answer_of, after_access}
use Rattle.iox_queues_steps.specs.declared.access.Access.TheVariants.{Local}
use Rattle.iox_queues.specs.Steps.{call_begun, call_is_idle, call_next, call_take}
use Rattle.iox_queues.specs.Told.{own}
use Rattle.iox_queues.specs.Recorded.{Answered}
use Rattle.iox_queues.specs.Machine.{SetState, begun, call_ended, fits, is_within, seat_at, stage_at, start, start_words, went}
use Rattle.iox_queues.specs.Asked.{AreAsked, ChangesByActs, EachChanges, IsAskedSoFar, IsRecorded, StepsAreOfCalls, begun_at}
use Rattle.iox_queues.specs.Asked.{call_in_hand, spans_ended}
use Rattle.iox_queues.specs.Kept.{IsKept}
use Rattle.iox_queues.specs.declared.bits.call.Call.{Call}
use Rattle.iox_queues.specs.declared.bits.machine.Event.{Event}
use Rattle.iox_queues.specs.declared.bits.machine.Finished.{Finished}
use Rattle.iox_queues.specs.declared.bits.machine.Move.TheVariants.{Begin, GoOn}
use Rattle.iox_queues.specs.declared.bits.state.Seat.{Seat}
use Rattle.iox_queues.proofs.Acts.{each_on, one_act, unchanged}
use Rattle.iox_queues.proofs.Asked.{among_append, among_on, asked_all, asked_append, asked_begun, asked_next, begun_call, call_asked}
use Rattle.iox_queues.proofs.Asked.{ended_among, ended_asked_on}
use Rattle.iox_queues.proofs.Balance.{same_length}
use Rattle.iox_queues.proofs.OwnSteps.{own_more, own_more_since}
use Rattle.iox_queues.proofs.Recorded.{answered_on}
use Rattle.iox_queues.proofs.Seats.{all_idle, seat_else, seat_here}
use Rattle.iox_queues.proofs.OfCalls.{ended_more, under_way, went_one}
use Rattle.iox_queues.proofs.Spans.{IsOneOf, of_calls_on}
use Rattle.iox_queues.specs.Spans.{AreOfCalls, Span, bound_in_hand, span_in_hand}

not_true : (b : Bool) → not b ≡ true → b ≡ false
not_true true e = absurd (cc)
not_true false e = refl

-- a party goes on
module _ (m : SetState) (party : ℕ) (fit : fits m (GoOn party) ≡ true) (k : IsKept m) where
  abbrev answer : ℕ
  answer = answer_of m.words (call_next (stage_at m.seats party))

  abbrev event : Event
  event = record { party = party; access = call_next (stage_at m.seats party); answer = answer }

  abbrev seat : Seat
  seat = record { stage = call_take (stage_at m.seats party) answer; first = (seat_at m.seats party).first }

  abbrev ended : List Finished
  ended = call_ended party (seat_at m.seats party).first (length m.events) (stage_at m.seats party)

  within : party < length m.seats
  within = ltb-true party (length m.seats) (and_parts (nat_lt party (length m.seats)) _ fit).0

  in_call : call_is_idle (stage_at m.seats party) ≡ false
  in_call = not_true (call_is_idle (stage_at m.seats party)) (and_parts (nat_lt party (length m.seats)) _ fit).1

  size : length (after_access m.words (call_next (stage_at m.seats party))).cells ≡ length m.words.cells
  size = same_length m.words (stage_at m.seats party)

  pub went_recorded : IsRecorded (went m party)
  went_recorded = record {
    answered = subst (λ (n : ℕ). Answered (start_words n) (went m party).events (went m party).words) (sym size)
        (answered_on (start_words (length m.words.cells)) m.words m.events event refl k.recorded.answered);
    among = among_append (went m party).events m.finished ended (among_on m.events event m.finished k.recorded.among)
        (ended_among m.events event party (seat_at m.seats party).first (stage_at m.seats party) (k.began party));
    ended = subst (λ (n : ℕ). AreAsked m.max n (went m party).events (went m party).finished) (sym size)
        (asked_append m.max (length m.words.cells) (went m party).events m.finished ended
        (ended_asked_on m.max (length m.words.cells) m.events event m.finished k.recorded.among k.recorded.ended)
        (call_asked m.max (length m.words.cells) party (seat_at m.seats party).first m.events event (stage_at m.seats party)
        (k.recorded.going party)));
    going = subst (λ (n : ℕ). (q : ℕ) → IsAskedSoFar m.max n q (call_in_hand (stage_at (went m party).seats q))
        (stage_at (went m party).seats q) (own q (drop (seat_at (went m party).seats q).first (went m party).events))) (sym size)
        (asked_all m.max (length m.words.cells) m.seats m.events event seat within k.began k.recorded.going
        (subst (λ (es : List Event). IsAskedSoFar m.max (length m.words.cells) party (call_in_hand seat.stage) seat.stage es)
        (sym (own_more_since party (seat_at m.seats party).first m.events event (k.began party) refl))
        (asked_next m.max (length m.words.cells) party (own party (drop (seat_at m.seats party).first m.events)) event
        (stage_at m.seats party) refl (k.recorded.going party))));
  }

  pub went_counted : StepsAreOfCalls (went m party)
  went_counted = subst (λ (ss : List Span). AreOfCalls (went m party).events ss (λ (q : ℕ). begun_at (seat_at (went m party).seats q)))
      (sym (ended_more m.finished ended))
      (of_calls_on m.events event (spans_ended m.finished) (spans_ended ended) (λ (q : ℕ). begun_at (seat_at m.seats q))
      (λ (q : ℕ). begun_at (seat_at (went m party).seats q)) k.counted
      (subst (λ (s : Seat). IsOneOf event (length m.events) (begun_at (seat_at m.seats party)) (begun_at s) (spans_ended ended))
      (sym (seat_here m.seats party seat within))
      (went_one party (seat_at m.seats party).first (length m.events) answer (stage_at m.seats party) in_call))
      (λ q differs. ap begun_at (seat_else m.seats party q seat (λ same. differs (sym same)))))

  pub went_acts : ChangesByActs (went m party)
  went_acts = subst (λ (n : ℕ). EachChanges n (start_words n) (went m party).events) (sym size)
      (each_on (length m.words.cells) (start_words (length m.words.cells)) m.words m.events event k.recorded.answered
      (one_act m.max m.words (own party (drop (seat_at m.seats party).first m.events)) (stage_at m.seats party) k.small (k.knows party)
      party) k.acts)

-- a party begins a call
module _ (m : SetState) (party : ℕ) (c : Call) (fit : fits m (Begin party c) ≡ true) (k : IsKept m) where
  abbrev begin : Event
  begin = record { party = party; access = Local; answer = 0 }

  abbrev begun_seat : Seat
  begun_seat = record { stage = call_begun m.max (length m.words.cells) c; first = length m.events }

  parts : (nat_lt party (length m.seats) ≡ true) × ((call_is_idle (stage_at m.seats party) && is_within (length m.words.cells) c) ≡ true)
  parts = and_parts (nat_lt party (length m.seats)) (call_is_idle (stage_at m.seats party) && is_within (length m.words.cells) c) fit

  there : party < length m.seats
  there = ltb-true party (length m.seats) parts.0

  idle : call_is_idle (stage_at m.seats party) ≡ true
  idle = (and_parts (call_is_idle (stage_at m.seats party)) (is_within (length m.words.cells) c) parts.1).0

  called : call_is_idle (call_begun m.max (length m.words.cells) c) ≡ false
  called = under_way (call_begun m.max (length m.words.cells) c) c (begun_call m.max (length m.words.cells) c)

  first_own : own party (drop (length m.events) (m.events ++ begin ∷ [])) ≡ begin ∷ []
  first_own = ap (own party) (drop-append_seam m.events (begin ∷ [])) ∙ own_more party [] begin refl

  pub begun_recorded : IsRecorded (begun m party c)
  begun_recorded = record {
    answered = answered_on (start_words (length m.words.cells)) m.words m.events begin refl k.recorded.answered;
    among = among_on m.events begin m.finished k.recorded.among;
    ended = ended_asked_on m.max (length m.words.cells) m.events begin m.finished k.recorded.among k.recorded.ended;
    going = asked_all m.max (length m.words.cells) m.seats m.events begin begun_seat there k.began k.recorded.going
        (asked_begun m.max (length m.words.cells) party c (own party (drop (length m.events) (m.events ++ begin ∷ []))) first_own);
  }

  pub begun_counted : StepsAreOfCalls (begun m party c)
  begun_counted = subst (λ (ss : List Span). AreOfCalls (begun m party c).events ss
      (λ (q : ℕ). begun_at (seat_at (begun m party c).seats q))) (append-nil (spans_ended m.finished))
      (of_calls_on m.events begin (spans_ended m.finished) [] (λ (q : ℕ). begun_at (seat_at m.seats q))
      (λ (q : ℕ). begun_at (seat_at (begun m party c).seats q)) k.counted
      (inl (
        ap (λ (b : Bool). if b then None else Some (seat_at m.seats party).first) idle,
        refl,
        ap begun_at (seat_here m.seats party begun_seat there)
            ∙ ap (λ (b : Bool). if b then None else Some (length m.events)) called,
        refl,
      ))
      (λ q differs. ap begun_at (seat_else m.seats party q begun_seat (λ same. differs (sym same)))))

  pub begun_acts : ChangesByActs (begun m party c)
  begun_acts = each_on (length m.words.cells) (start_words (length m.words.cells)) m.words m.events begin k.recorded.answered
      (λ i within. unchanged _) k.acts

-- nothing was done yet
module _ (max capacity parties : ℕ) where
  pub start_recorded : IsRecorded (start max capacity parties)
  start_recorded = record {
    answered = ap start_words (sym (length-replicate {A = ℕ} capacity 0));
    among = tt;
    ended = tt;
    going = λ q. subst (λ (s : Seat). IsAskedSoFar max (length {A = ℕ} (replicate capacity 0)) q (call_in_hand s.stage) s.stage
        (own q (drop s.first []))) (sym (all_idle parties q)) tt;
  }

  pub start_counted : StepsAreOfCalls (start max capacity parties)
  start_counted = record {
    steps = λ q. subst (λ (s : Seat). [] ≡ [] ++ span_in_hand q [] (begun_at s)) (sym (all_idle parties q)) refl;
    locals = λ q. subst (λ (s : Seat). [] ≡ [] ++ bound_in_hand (begun_at s)) (sym (all_idle parties q)) refl;
    within = tt;
    begun = λ q first is. absurd (let none : None ≡ Some first = sym (ap begun_at (all_idle parties q)) ∙ is in cc);
  }
