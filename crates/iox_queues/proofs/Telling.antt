-- A step that was made is one event of the party that was asked, and ends one call at most, the one that was begun.
use Rattle.std.proofs.Common.{◌≡◌, ℕ, ◌<◌, Bool, true, false, nat_lt, ◌&&◌, Option, Some, None, List, [], ◌++◌, length, set, drop, refl}
use Rattle.std.proofs.Common.{◌∙◌, ap, subst}
use Rattle.std.proofs.Common.{append-nil}
use Rattle.std.proofs.lemmas.Bool.{and_parts, ltb-true}
use Rattle.iox_queues_steps.specs.Access.{answer_of}
use Rattle.iox_queues_steps.specs.declared.access.Access.TheVariants.{Local}
use Rattle.iox_queues_steps.specs.declared.schedule.Stepped.{Stepped}
use Rattle.iox_queues.specs.Steps.{call_begun, call_is_over, call_next, call_take}
use Rattle.iox_queues.specs.Kept.{IsKept, Knows}
use Rattle.iox_queues.specs.Told.{own}
use Rattle.iox_queues.specs.Machine.{IsTold, SetState, StepsTo, begun, call_ended, ends, fits, happens, seat_at, stage_at, went}
use Rattle.iox_queues.specs.Asked.{TellsStep, call_in_hand, call_of_step, calls_of, hands, party_of}
use Rattle.iox_queues.specs.Spans.{AddsOne}
use Rattle.iox_queues.specs.Turns.{EndsOne, LeavesCalls}
use Rattle.iox_queues.specs.declared.bits.call.Call.{Call}
use Rattle.iox_queues.specs.declared.bits.call.SetCall.{SetCall}
use Rattle.iox_queues.specs.declared.bits.call.SetCall.TheVariants.{Idle, Add, Adding, Next, Sweep, Taking, Found, Done}
use Rattle.iox_queues.specs.declared.bits.machine.Finished.{Finished}
use Rattle.iox_queues.specs.declared.bits.machine.Move.{Move}
use Rattle.iox_queues.specs.declared.bits.machine.Move.TheVariants.{Begin, GoOn}
use Rattle.iox_queues.specs.declared.bits.state.Seat.{Seat}
use Rattle.iox_queues.proofs.Asked.{begun_call, same_call}
use Rattle.iox_queues.proofs.Seats.{seat_else, seat_here}
use Rattle.iox_queues.proofs.Turns.{steps_tell_calls}

made_step : (m : SetState) (step : Move) → AddsOne m.events (happens m step).events (party_of step)
made_step m (Begin party c) = record {
  event = record { party = party; access = Local; answer = 0 };
  added = refl;
  its = refl;
}
made_step m (GoOn party) = record {
  event = record {
    party = party;
    access = call_next (stage_at m.seats party);
    answer = answer_of m.words (call_next (stage_at m.seats party));
  };
  added = refl;
  its = refl;
}

-- a party has another seat
leaves : (m n : SetState) (party : ℕ) (seat : Seat) (hand : Option Call) → n.seats ≡ set m.seats party seat → party < length m.seats
    → call_in_hand seat.stage ≡ hand → LeavesCalls Call (hands m) (hands n) party hand
leaves m n party seat hand is_set within is = record {
  its = ap (λ (seats : List Seat). call_in_hand (stage_at seats party)) is_set
      ∙ ap (λ (s : Seat). call_in_hand s.stage) (seat_here m.seats party seat within) ∙ is;
  others = λ q differs. ap (λ (seats : List Seat). call_in_hand (stage_at seats q)) is_set
      ∙ ap (λ (s : Seat). call_in_hand s.stage) (seat_else m.seats party q seat differs);
}

is_there : (seats : List Seat) (party : ℕ) (b : Bool) → (nat_lt party (length seats) && b) ≡ true → party < length seats
is_there seats party b fit = ltb-true party (length seats) (and_parts (nat_lt party (length seats)) b fit).0

none_ended : (party first last : ℕ) (stage : SetCall) → call_is_over stage ≡ false → call_ended party first last stage ≡ []
none_ended party first last Idle going = refl
none_ended party first last (Add place top) going = refl
none_ended party first last (Adding place top count) going = refl
none_ended party first last (Next capacity) going = refl
none_ended party first last (Sweep place left capacity all) going = refl
none_ended party first last (Taking place left capacity all count) going = refl
none_ended party first last (Found place after) going = refl
none_ended party first last (Done c answer) going = absurd (cc)

module _ (before : List Finished) (party first last answer : ℕ) where
  -- the last step of a call ends it, and no other one is in hand then
  ends_it : (stage : SetCall) → call_is_over stage ≡ true
      → (call_in_hand (call_take stage answer) ≡ None)
      × EndsOne Call Finished calls_of.whose calls_of.which before (before ++ call_ended party first last stage) party
      (call_in_hand stage)
  ends_it Idle over = absurd (cc)
  ends_it (Add place top) over = absurd (cc)
  ends_it (Adding place top count) over = absurd (cc)
  ends_it (Next capacity) over = absurd (cc)
  ends_it (Sweep place left capacity all) over = absurd (cc)
  ends_it (Taking place left capacity all count) over = absurd (cc)
  ends_it (Found place after) over = absurd (cc)
  ends_it (Done c a) over = (
    refl,
    record {
      ended = record { party = party; call = c; answer = a; first = first; last = last };
      added = refl;
      its = refl;
      is = refl;
    },
  )

goes : (m : SetState) (step : Move) → fits m step ≡ true → ends m step ≡ false
    → LeavesCalls Call (hands m) (hands (happens m step)) (party_of step) (call_of_step m step)
    × ((happens m step).finished ≡ m.finished)
goes m (Begin party c) fit going = (
  leaves m (begun m party c) party (record { stage = call_begun m.max (length m.words.cells) c; first = length m.events }) (Some c) refl
      (is_there m.seats party _ fit) (begun_call m.max (length m.words.cells) c),
  refl,
)
goes m (GoOn party) fit going =
    let answer : ℕ = answer_of m.words (call_next (stage_at m.seats party)) in (
      leaves m (went m party) party (record { stage = call_take (stage_at m.seats party) answer; first = (seat_at m.seats party).first })
          (hands m party) refl (is_there m.seats party _ fit) (same_call (stage_at m.seats party) answer going),
      ap (λ (fs : List Finished). m.finished ++ fs)
          (none_ended party (seat_at m.seats party).first (length m.events) (stage_at m.seats party) going) ∙ append-nil m.finished,
    )

ended : (m : SetState) (step : Move) → fits m step ≡ true → ends m step ≡ true
    → LeavesCalls Call (hands m) (hands (happens m step)) (party_of step) None
    × EndsOne Call Finished calls_of.whose calls_of.which m.finished (happens m step).finished (party_of step) (call_of_step m step)
ended m (Begin party c) fit over = absurd (cc)
ended m (GoOn party) fit over =
    let answer : ℕ = answer_of m.words (call_next (stage_at m.seats party)) in
    let both : (call_in_hand (call_take (stage_at m.seats party) answer) ≡ None) × _
    = ends_it m.finished party (seat_at m.seats party).first (length m.events) answer (stage_at m.seats party) over in (
      leaves m (went m party) party (record { stage = call_take (stage_at m.seats party) answer; first = (seat_at m.seats party).first })
          None refl (is_there m.seats party _ fit) both.0,
      both.1,
    )

pub steps_tell : (m : SetState) (step : Move) (r : Stepped) (n : SetState) → StepsTo m step r n → TellsStep m step r n
steps_tell m step r n h = steps_tell_calls SetState Move fits ends happens Call Finished calls_of m step (party_of step)
    (call_of_step m step) (λ fit. made_step m step) (goes m step) (ended m step) r n h

pub all_told : (m : SetState) → IsKept m → IsTold m
all_told m k = (
  k.told,
  λ party c answer is.
      subst (Knows m.max (length m.words.cells) (own party (drop (seat_at m.seats party).first m.events))) is (k.knows party),
)
