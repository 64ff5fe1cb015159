-- Every step of a set's machine keeps what the machine keeps.
use Rattle.std.proofs.Common.{◌≡◌, ℕ, ◌+◌, ◌<◌, ◌≤◌, ◌^◌, Bool, true, false, ◌==◌, ◌&&◌, nat_lt}
use Rattle.std.proofs.Common.{List, [], ◌∷◌, ◌++◌, length, set, slice_index, drop, replicate, refl, sym}
use Rattle.std.proofs.Common.{◌∙◌, ap, subst, arith, length-append}
use Rattle.std.proofs.Math.Seq.{take-append_seam, drop-append_seam}
use Rattle.std.proofs.lemmas.Bool.{ltb-true, eqb-true, eqb-false}
use Rattle.std.proofs.lemmas.List.{length-replicate, get_or-replicate, take-append-le}
use Rattle.iox_queues_steps.specs.Access.{answer_of, after_access}
use Rattle.iox_queues_steps.specs.declared.access.Access.TheVariants.{Local}
use Rattle.iox_queues_steps.specs.declared.schedule.Stepped.{Stepped}
use Rattle.iox_queues_steps.specs.declared.schedule.Stepped.TheVariants as stepped
use Rattle.iox_queues.specs.Steps.{call_begun, call_is_idle, call_next, call_take}
use Rattle.iox_queues.specs.Sums.{increments, taken_out, cleared, raised_by, taken_by}
use Rattle.iox_queues.specs.Told.{Tells, own}
use Rattle.iox_queues.specs.Machine.{SetState, IsBalanced, IsToldBy, AreTold, StepsTo, begun, call_ended, fits, happens, is_within}
use Rattle.iox_queues.specs.Machine.{seat_at, stage_at, start, went}
use Rattle.iox_queues.specs.Kept.{Knows, IsKept}
use Rattle.iox_queues.proofs.Knowing.{more_increments, more_taken, more_cleared, knows_on, knows_begun}
use Rattle.iox_queues.proofs.Keeping.{begun_acts, begun_counted, begun_recorded, start_counted, start_recorded, went_acts, went_counted}
use Rattle.iox_queues.proofs.Keeping.{went_recorded}
use Rattle.iox_queues.proofs.OwnSteps.{own_else_since, own_more, own_more_since}
use Rattle.iox_queues.proofs.Seats.{all_idle, seat_else, seat_here}
use Rattle.iox_queues.proofs.Balance.{same_length, one_step, keeps_within, clears_once}
use Rattle.iox_queues.specs.declared.bits.call.Call.{Call}
use Rattle.iox_queues.specs.declared.bits.call.SetCall.{SetCall}
use Rattle.iox_queues.specs.declared.bits.call.SetCall.TheVariants.{Idle, Add, Adding, Next, Sweep, Taking, Found, Done}
use Rattle.iox_queues.specs.declared.bits.machine.Event.{Event}
use Rattle.iox_queues.specs.declared.bits.machine.Finished.{Finished}
use Rattle.iox_queues.specs.declared.bits.machine.Move.{Move}
use Rattle.iox_queues.specs.declared.bits.machine.Move.TheVariants.{Begin, GoOn}
use Rattle.iox_queues.specs.declared.bits.state.Seat.{Seat}

and_left : (a b : Bool) → (a && b) ≡ true → a ≡ true
and_left true b e = refl
and_left false b e = absurd (cc)

and_right : (a b : Bool) → (a && b) ≡ true → b ≡ true
and_right true b e = e
and_right false b e = absurd (cc)

-- calls that ended stay told
told_on : (max n : ℕ) (events : List Event) (e : Event) (finished : List Finished) → AreTold max n events finished
    → AreTold max n (events ++ e ∷ []) finished
told_on max n events e [] h = tt
told_on max n events e (f ∷ finished) h =
    let t : IsToldBy max n events f = h.0 in (
      (record {
        begun = t.begun;
        ended = omega (arith, t.ended, length-append events (e ∷ []));
        tells = subst (λ (xs : List Event). Tells max n f.call f.answer (own f.party (drop f.first xs)))
            (sym (take-append-le f.last events (e ∷ []) (omega (arith, t.ended)))) t.tells;
      }),
      told_on max n events e finished h.1,
    )

told_append : (max n : ℕ) (events : List Event) (xs ys : List Finished) → AreTold max n events xs → AreTold max n events ys
    → AreTold max n events (xs ++ ys)
told_append max n events [] ys h g = g
told_append max n events (x ∷ xs) ys h g = (h.0, told_append max n events xs ys h.1 g)

ended_told : (max n : ℕ) (events : List Event) (e : Event) (party first : ℕ) (stage : SetCall) → first ≤ length events
    → Knows max n (own party (drop first events)) stage
    → AreTold max n (events ++ e ∷ []) (call_ended party first (length events) stage)
ended_told max n events e party first Idle h k = tt
ended_told max n events e party first (Add place top) h k = tt
ended_told max n events e party first (Adding place top count) h k = tt
ended_told max n events e party first (Next capacity) h k = tt
ended_told max n events e party first (Sweep place left capacity all) h k = tt
ended_told max n events e party first (Taking place left capacity all count) h k = tt
ended_told max n events e party first (Found place after) h k = tt
ended_told max n events e party first (Done c answer) h k = (
  (record {
    begun = h;
    ended = omega (arith, length-append events (e ∷ []));
    tells = subst (λ (xs : List Event). Tells max n c answer (own party (drop first xs))) (sym (take-append_seam events (e ∷ []))) k;
  }),
  tt,
)

-- one access keeps the balance
went_balanced : (m : SetState) (party : ℕ) → IsKept m → IsBalanced (went m party)
went_balanced m party k =
    let size : length (after_access m.words (call_next (stage_at m.seats party))).cells ≡ length m.words.cells
    = same_length m.words (stage_at m.seats party) in
    let b : IsBalanced m = k.balanced in
    let event : Event = record
    { party = party; access = call_next (stage_at m.seats party); answer = answer_of m.words (call_next (stage_at m.seats party)) } in
    let step : (i : ℕ) → i < length m.words.cells
    → slice_index (after_access m.words (call_next (stage_at m.seats party))).cells i + taken_by (length m.words.cells) i
    event.access event.answer ≡ slice_index m.words.cells i + raised_by (length m.words.cells) i event.access event.answer =
    λ i there. one_step m.words (stage_at m.seats party) i (omega (arith, there)) there in
    record {
      each = λ i there.
          let within : i < length m.words.cells = omega arith in
          subst (λ (n : ℕ). increments n i (went m party).events
          ≡ taken_out n i (went m party).events + slice_index (went m party).words.cells i) (sym size)
          (omega (
            arith,
            b.each i within,
            step i within,
            more_increments (length m.words.cells) i m.events event,
            more_taken
                (length m.words.cells) i m.events event,
          ));
      within = λ i there. keeps_within m.max m.words (own party (drop (seat_at m.seats party).first m.events)) (stage_at m.seats party)
          i k.small (omega arith) (k.knows party) b.within (omega arith);
      bits = λ one i there.
          let within : i < length m.words.cells = omega arith in
          subst (λ (n : ℕ). increments n i (went m party).events
          ≡ cleared n i (went m party).events + slice_index (went m party).words.cells i) (sym size)
          (omega (
            arith,
            b.bits one i within,
            step i within,
            more_increments (length m.words.cells) i m.events event,
            more_cleared (length m.words.cells) i m.events event,
            clears_once m.words (own party (drop (seat_at m.seats party).first m.events)) (stage_at m.seats party) i m.max
                (k.knows party) one (omega (arith, there)) b.within,
          ));
    }

-- a seat knows its own steps, whoever went
knows_else : (max n : ℕ) (seats : List Seat) (events : List Event) (e : Event) (seat : Seat) (q : ℕ) → (q ≡ e.party → ⊥)
    → (seat_at seats q).first ≤ length events
    → Knows max n (own q (drop (seat_at seats q).first events)) (stage_at seats q)
    → Knows max n (own q (drop (seat_at (set seats e.party seat) q).first (events ++ e ∷ []))) (stage_at (set seats e.party seat) q)
knows_else max n seats events e seat q differs began k =
    subst (λ (s : Seat). Knows max n (own q (drop s.first (events ++ e ∷ []))) s.stage) (sym (seat_else seats e.party q seat differs))
    (subst (λ (xs : List Event). Knows max n xs (stage_at seats q))
    (sym (own_else_since q (seat_at seats q).first events e began (λ same. differs (sym same)))) k)

knows_here : (max n : ℕ) (seats : List Seat) (events : List Event) (e : Event) (seat : Seat) (q : ℕ) → q ≡ e.party → e.party < length seats
    → Knows max n (own e.party (drop seat.first (events ++ e ∷ []))) seat.stage
    → Knows max n (own q (drop (seat_at (set seats e.party seat) q).first (events ++ e ∷ []))) (stage_at (set seats e.party seat) q)
knows_here max n seats events e seat q same within k =
    subst (λ (p : ℕ). Knows max n (own p (drop (seat_at (set seats e.party seat) p).first (events ++ e ∷ [])))
    (stage_at (set seats e.party seat) p)) (sym same)
    (subst (λ (s : Seat). Knows max n (own e.party (drop s.first (events ++ e ∷ []))) s.stage)
    (sym (seat_here seats e.party seat within)) k)

knows_all : (max n : ℕ) (seats : List Seat) (events : List Event) (e : Event) (seat : Seat) → e.party < length seats
    → ((q : ℕ) → (seat_at seats q).first ≤ length events)
    → ((q : ℕ) → Knows max n (own q (drop (seat_at seats q).first events)) (stage_at seats q))
    → Knows max n (own e.party (drop seat.first (events ++ e ∷ []))) seat.stage
    → (q : ℕ) (b : Bool) → (q == e.party) ≡ b
    → Knows max n (own q (drop (seat_at (set seats e.party seat) q).first (events ++ e ∷ []))) (stage_at (set seats e.party seat) q)
knows_all max n seats events e seat within began k here q true same
    = knows_here max n seats events e seat q (eqb-true q e.party same) within here
knows_all max n seats events e seat within began k here q false other
    = knows_else max n seats events e seat q (eqb-false q e.party other) (began q) (k q)

-- a seat's call began before now
began_on : (seats : List Seat) (events : List Event) (e : Event) (party : ℕ) (seat : Seat) → seat.first ≤ length events
    → party < length seats → ((q : ℕ) → (seat_at seats q).first ≤ length events)
    → (q : ℕ) (b : Bool) → (q == party) ≡ b → (seat_at (set seats party seat) q).first ≤ length (events ++ e ∷ [])
began_on seats events e party seat h within began q true same =
    let is : q ≡ party = eqb-true q party same in
    let at : (seat_at (set seats party seat) q).first ≡ seat.first
    = ap (λ (p : ℕ). (seat_at (set seats party seat) p).first) is ∙ ap (λ (s : Seat). s.first) (seat_here seats party seat within) in
    omega (arith, length-append events (e ∷ []))
began_on seats events e party seat h within began q false other =
    let at : (seat_at (set seats party seat) q).first ≡ (seat_at seats q).first
    = ap (λ (s : Seat). s.first) (seat_else seats party q seat (eqb-false q party other)) in
    omega (arith, began q, length-append events (e ∷ []))

went_keeps : (m : SetState) (party : ℕ) → fits m (GoOn party) ≡ true → IsKept m → IsKept (went m party)
went_keeps m party fit k =
    let within : party < length m.seats = ltb-true party (length m.seats) (and_left (nat_lt party (length m.seats)) _ fit) in
    let size : length (after_access m.words (call_next (stage_at m.seats party))).cells ≡ length m.words.cells
    = same_length m.words (stage_at m.seats party) in
    let event : Event = record
    { party = party; access = call_next (stage_at m.seats party); answer = answer_of m.words (call_next (stage_at m.seats party)) } in
    let seat : Seat = record { stage = call_take (stage_at m.seats party) event.answer; first = (seat_at m.seats party).first } in
    let here : Knows m.max (length m.words.cells) (own party (drop (seat_at m.seats party).first (m.events ++ event ∷ []))) seat.stage =
    subst (λ (xs : List Event). Knows m.max (length m.words.cells) xs seat.stage)
    (sym (own_more_since party (seat_at m.seats party).first m.events event (k.began party) refl))
    (knows_on m.max (length m.words.cells) (own party (drop (seat_at m.seats party).first m.events)) (stage_at m.seats party) party
    event.answer k.small k.few (k.knows party)) in
    record {
      balanced = went_balanced m party k;
      told = subst (λ (n : ℕ). AreTold m.max n (went m party).events (went m party).finished) (sym size)
          (told_append m.max (length m.words.cells) (went m party).events m.finished
          (call_ended party (seat_at m.seats party).first (length m.events) (stage_at m.seats party))
          (told_on m.max (length m.words.cells) m.events event m.finished k.told)
          (ended_told m.max (length m.words.cells) m.events event party (seat_at m.seats party).first (stage_at m.seats party)
          (k.began party) (k.knows party)));
      few = omega (arith, k.few);
      small = k.small;
      knows = λ q. subst (λ (n : ℕ). Knows m.max n (own q (drop (seat_at (went m party).seats q).first (went m party).events))
          (stage_at (went m party).seats q)) (sym size)
          (knows_all m.max (length m.words.cells) m.seats m.events event seat within k.began k.knows here q (q == party) refl);
      began = λ q. began_on m.seats m.events event party seat (k.began party) within k.began q (q == party) refl;
      recorded = went_recorded m party fit k;
      counted = went_counted m party fit k;
      acts = went_acts m party fit k;
    }

begun_keeps : (m : SetState) (party : ℕ) (c : Call) → fits m (Begin party c) ≡ true → IsKept m → IsKept (begun m party c)
begun_keeps m party c fit k =
    let event : Event = record { party = party; access = Local; answer = 0 } in
    let seat : Seat = record { stage = call_begun m.max (length m.words.cells) c; first = length m.events } in
    let within : party < length m.seats = ltb-true party (length m.seats) (and_left (nat_lt party (length m.seats)) _ fit) in
    let b : IsBalanced m = k.balanced in
    let alone : own party (drop (length m.events) (m.events ++ event ∷ [])) ≡ event ∷ [] =
    ap (own party) (drop-append_seam m.events (event ∷ [])) ∙ own_more party [] event refl in
    let here : Knows m.max (length m.words.cells) (own party (drop (length m.events) (m.events ++ event ∷ []))) seat.stage =
    subst (λ (xs : List Event). Knows m.max (length m.words.cells) xs seat.stage) (sym alone)
    (knows_begun m.max (length m.words.cells) party c
    (and_right (call_is_idle (stage_at m.seats party)) (is_within (length m.words.cells) c)
    (and_right (nat_lt party (length m.seats)) _ fit))) in
    record {
      balanced = record {
        each = λ i there. omega (
          arith,
          b.each i there,
          more_increments (length m.words.cells) i m.events event,
          more_taken (length m.words.cells) i m.events
              event,
        );
        within = b.within;
        bits = λ one i there. omega (
          arith,
          b.bits one i there,
          more_increments (length m.words.cells) i m.events event,
          more_cleared (length m.words.cells) i
              m.events event,
        );
      };
      told = told_on m.max (length m.words.cells) m.events event m.finished k.told;
      few = k.few;
      small = k.small;
      knows = λ q. knows_all m.max (length m.words.cells) m.seats m.events event seat within k.began k.knows here q (q == party) refl;
      began = λ q. began_on m.seats m.events event party seat (omega arith) within k.began q (q == party) refl;
      recorded = begun_recorded m party c fit k;
      counted = begun_counted m party c fit k;
      acts = begun_acts m party c fit k;
    }

happens_keeps : (m : SetState) (step : Move) → fits m step ≡ true → IsKept m → IsKept (happens m step)
happens_keeps m (Begin party c) fit k = begun_keeps m party c fit k
happens_keeps m (GoOn party) fit k = went_keeps m party fit k

pub steps_keep : (m : SetState) (step : Move) (r : Stepped) (n : SetState) → StepsTo m step r n → IsKept m → IsKept n
steps_keep m step stepped.Went n h k = subst IsKept (sym h.2) (happens_keeps m step h.0 k)
steps_keep m step stepped.Finished n h k = subst IsKept (sym h.2) (happens_keeps m step h.0 k)
steps_keep m step stepped.Skipped n h k = subst IsKept (sym h.1) k
steps_keep m step stepped.NoMemory n h k = subst IsKept (sym h.1) k

happens_length : (m : SetState) (step : Move) → length (happens m step).words.cells ≡ length m.words.cells
happens_length m (Begin party c) = refl
happens_length m (GoOn party) = same_length m.words (stage_at m.seats party)

pub steps_length : (m : SetState) (step : Move) (r : Stepped) (n : SetState) → StepsTo m step r n
    → length n.words.cells ≡ length m.words.cells
steps_length m step stepped.Went n h = ap (λ (x : SetState). length x.words.cells) h.2 ∙ happens_length m step
steps_length m step stepped.Finished n h = ap (λ (x : SetState). length x.words.cells) h.2 ∙ happens_length m step
steps_length m step stepped.Skipped n h = ap (λ (x : SetState). length x.words.cells) h.1
steps_length m step stepped.NoMemory n h = ap (λ (x : SetState). length x.words.cells) h.1

pub start_kept : (max capacity parties : ℕ) → capacity < 2 ^ 64 → max < 2 ^ 64 → IsKept (start max capacity parties)
start_kept max capacity parties few small =
    let size : length (replicate {A = ℕ} capacity 0) ≡ capacity = length-replicate {A = ℕ} capacity 0 in
    let zeros : (i : ℕ) → i < length (replicate {A = ℕ} capacity 0)
    → slice_index (replicate {A = ℕ} capacity 0) i ≡ 0 = λ i there. get_or-replicate {A = ℕ} capacity i 0 0 (below capacity i there) in
    record {
      balanced = record {
        each = λ i there. omega (arith, zeros i there);
        within = λ i there. omega (arith, zeros i there);
        bits = λ one i there. omega (arith, zeros i there);
      };
      told = tt;
      few = omega arith;
      small = small;
      knows = λ q. subst (λ (s : Seat). Knows max (length {A = ℕ} (replicate capacity 0)) (own q (drop s.first [])) s.stage)
          (sym (all_idle parties q)) tt;
      began = λ q. omega (arith, ap (λ (s : Seat). s.first) (all_idle parties q));
      recorded = start_recorded max capacity parties;
      counted = start_counted max capacity parties;
      acts = tt;
    }
  where
    below : (capacity i : ℕ) → i < length (replicate {A = ℕ} capacity 0) → i < capacity
    below capacity i h = omega (arith, length-replicate {A = ℕ} capacity 0)
