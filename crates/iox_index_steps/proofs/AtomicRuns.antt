-- Every step of a single value's machine keeps what the machine keeps.
use Rattle.std.proofs.Common.{◌≡◌, ℕ, ◌+◌, ◌-◌, ◌^◌, ◌<◌, ◌≤◌, ◌⊎◌, inl, inr, ⊎_elim, Bool, true, false, not, if◌then◌else◌, ◌==◌, ◌&&◌}
use Rattle.std.proofs.Common.{nat_lt, Option, Some, None, List, [], ◌∷◌, ◌++◌, length, slice_index, take, drop, refl, sym, ◌∙◌, ap}
use Rattle.std.proofs.Common.{subst, arith, length-append, length-set, take_all}
use Rattle.std.specs.Prelude.{is_none}
use Rattle.std.specs.Global.{Vec}
use Rattle.std.proofs.lemmas.Bool.{and_parts, cases_eq, cases_lt, eqb-true, ltb-true, ltb-false}
use Rattle.std.proofs.lemmas.List.{take-append-le}
use Rattle.iox_queues_steps.specs.Access.{RingWords, answer_of, after_access, successor}
use Rattle.iox_queues_steps.specs.declared.access.Access.{Access}
use Rattle.iox_queues_steps.specs.declared.access.Access.TheVariants.{Load, Store, Exchange, Local}
use Rattle.iox_queues_steps.specs.declared.access.Word.TheVariants.{Write, Read, Cell}
use Rattle.iox_queues_steps.specs.declared.schedule.Stepped.{Stepped}
use Rattle.iox_queues_steps.specs.declared.schedule.Stepped.TheVariants as stepped
use Rattle.iox_queues.specs.declared.bits.machine.Event.{Event}
use Rattle.iox_index_steps.specs.AtomicSteps.{call_begun, call_is_idle, call_next, call_take, fills_second, place}
use Rattle.iox_queues.specs.Values.{table_value}
use Rattle.iox_index_steps.specs.AtomicTold.{IsAskedSoFar, Tells, call_in_hand, current_of, times_moved, moved_by, put_after}
use Rattle.iox_index_steps.specs.AtomicMachine.{AtomicState, HasFewStores, MovesOnce, SomeStores, IsStored, IsTold, StepsTo, begun}
use Rattle.iox_index_steps.specs.AtomicMachine.{call_ended, fits, happens, initial_of, may_begin, producer_after, producer_begun, seat_at}
use Rattle.iox_index_steps.specs.AtomicMachine.{stage_at, start_words, went, width_of}
use Rattle.iox_index_steps.specs.AtomicKept.{IsConsistent, IsKept, Knows, HalvesFit}
use Rattle.iox_index_steps.specs.declared.atomic.Move.{Move}
use Rattle.iox_index_steps.specs.declared.atomic.Move.TheVariants.{Begin, GoOn}
use Rattle.iox_index_steps.specs.declared.atomic.call.Call.{Call}
use Rattle.iox_index_steps.specs.declared.atomic.call.Call.TheVariants as call
use Rattle.iox_index_steps.specs.declared.atomic.call.AtomicCall.{AtomicCall}
use Rattle.iox_index_steps.specs.declared.atomic.call.AtomicCall.TheVariants as stage
use Rattle.iox_index_steps.specs.declared.atomic.state.Seat.{Seat}
use Rattle.iox_queues.proofs.OwnSteps.{own_more, own_more_since}
use Rattle.iox_queues.proofs.Recorded.{answered_on}
use Rattle.iox_queues.specs.Told.{own}
use Rattle.std.proofs.Math.Seq.{drop-append_seam}
use Rattle.iox_index_steps.proofs.AtomicAsked.{asked_all, asked_append, asked_next, call_asked, ended_asked_on, move_each}
use Rattle.iox_index_steps.proofs.AtomicOfCalls.{begun_counted, went_counted}
use Rattle.iox_index_steps.proofs.AtomicSums.{more_moved}
use Rattle.iox_index_steps.proofs.AtomicKnowing.{knows_else}
use Rattle.iox_index_steps.proofs.AtomicMade.{MadeStep, current_same, ending_made, find_made, load_quiet, local_quiet, look_made}
use Rattle.iox_index_steps.proofs.AtomicMade.{moved_made}
use Rattle.iox_index_steps.proofs.AtomicMade.{put_made, put_same, quiet_fit, quiet_made, seen_made}
use Rattle.iox_index_steps.proofs.AtomicSeats.{among_append, among_on, each_seat, ended_among, ended_told, seat_else, seat_here}
use Rattle.iox_index_steps.proofs.AtomicSeats.{stored_last}
use Rattle.iox_index_steps.proofs.AtomicSeats.{stored_on, told_append, told_on}

-- no step changes how many cells there are
pub same_cells : (n : ℕ) (values : List (Vec ℕ)) (words : RingWords) (s : AtomicCall)
    → length (after_access words (call_next n values s)).cells ≡ length words.cells
same_cells n values words stage.Idle = refl
same_cells n values words (stage.Store number) = refl
same_cells n values words (stage.Fill number counter next) = test (nat_lt next n)
  where
    test : (b : Bool) → length (after_access words (if b then Store (Cell (place n (fills_second counter) next))
        (slice_index (table_value values number) next) else Store Write (successor counter))).cells ≡ length words.cells
    test true = length-set words.cells _ _
    test false = refl
same_cells n values words stage.Load = refl
same_cells n values words (stage.Gather counter next) = test (nat_lt next n)
  where
    test : (b : Bool) → length
        (after_access words (if b then Load (Cell (place n (not (fills_second counter)) next)) else Load Write)).cells
        ≡ length words.cells
    test true = refl
    test false = refl
same_cells n values words (stage.Done c) = refl

-- a party's step, at each stage of its call
module _ (p first : ℕ) (values : List (Vec ℕ)) (words : RingWords) (producer : Option ℕ) (events : List Event)
    (w : HalvesFit (length (table_value values 0)) words (current_of (table_value values 0) events) (put_after [] events)
    (times_moved events))
    (size : length words.cells ≡ length (table_value values 0) + (length (table_value values 0) + 1))
    (rest : producer ≡ None → put_after [] events ≡ []) (began : first ≤ length events) where
  abbrev width : ℕ
  width = length (table_value values 0)

  abbrev MadeBy : AtomicCall → Access → AtomicCall → Type 0
  MadeBy s access next = times_moved (events ++ record { party = p; access = access; answer = answer_of words access } ∷ []) < 2 ^ 64 - 1
      → MadeStep p first values words (after_access words access) producer (producer_after producer s) events
      (record { party = p; access = access; answer = answer_of words access }) next

  pub made : (s : AtomicCall) → (call_is_idle s ≡ false) → Knows values words.write producer events p first s
      → MadeBy s (call_next width values s) (call_take width s (answer_of words (call_next width values s)))
  made stage.Idle busy k few = absurd (cc)
  made (stage.Store number) busy k few = quiet_made p first values words producer events w size rest began _ (load_quiet Write)
      (stage.Fill number words.write 0) (
        k.0,
        k.1,
        put_same p first values words producer events w size rest began _ (load_quiet Write) ∙ k.2,
        refl,
        omega arith,
      )
  made (stage.Fill number counter next) busy k few = test (nat_lt next width) refl few
    where
      test : (b : Bool) → nat_lt next width ≡ b
          → MadeBy (stage.Fill number counter next) (if b then Store (Cell (place width (fills_second counter) next))
          (slice_index (table_value values number) next) else Store Write (successor counter))
          (if b then stage.Fill number counter (next + 1) else stage.Done (call.Store number))
      test true e few = subst (λ (c : ℕ). MadeStep p first values words
          (after_access words (Store (Cell (place width (fills_second c) next)) (slice_index (table_value values number) next)))
          producer producer events
          (record {
            party = p;
            access
                = Store (Cell (place width (fills_second c) next)) (slice_index (table_value values number) next);
            answer = 0;
          })
          (stage.Fill number c (next + 1))) (sym k.3)
          (put_made p first values words producer events w size rest began number next k.0 k.1 k.2 (ltb-true next width e))
      test false e few = subst (λ (c : ℕ). MadeBy (stage.Fill number c next) (Store Write (successor c)) (stage.Done (call.Store number)))
          (sym k.3)
          (moved_made p first values words producer events w size rest began number next k.0 k.1 k.2 (ltb-false next width e)) few
  made stage.Load busy k few = look_made p first values words producer events w size rest began
  made (stage.Gather counter next) busy k few = test (nat_lt next width) refl few
    where
      test : (b : Bool) → nat_lt next width ≡ b
          → MadeBy (stage.Gather counter next)
          (if b then Load (Cell (place width (not (fills_second counter)) next)) else Load Write)
          (if b then stage.Gather counter (next + 1) else if answer_of words
          (if b then Load (Cell (place width (not (fills_second counter)) next)) else Load Write) == counter
          then stage.Done call.Load else stage.Gather (answer_of words
          (if b then Load (Cell (place width (not (fills_second counter)) next)) else Load Write)) 0)
      test true e few = find_made p first values words producer events w size rest began counter next k.0 (ltb-true next width e)
          k.2 k.3
      test false e few = seen (words.write == counter) refl
        where
          seen : (b : Bool) → (words.write == counter) ≡ b
              → MadeStep p first values words words producer producer events
              (record { party = p; access = Load Write; answer = words.write })
              (if b then stage.Done call.Load else stage.Gather words.write 0)
          seen true same = seen_made p first values words producer events w size rest began counter next k.0
              (omega (arith, k.1, ltb-false next width e)) (sym (eqb-true words.write counter same)) k.3
          seen false same = look_made p first values words producer events w size rest began
  made (stage.Done (call.Store number)) busy k few =
      ending_made p first values words producer events w size rest began _ local_quiet k.0.0 k.0.1
  made (stage.Done call.Load) busy k few =
      quiet_made p first values words producer events w size rest began _ local_quiet stage.Idle tt

-- what was current at some time, after one more step
whole_on : (m n : AtomicState) (e : Event) → n.values ≡ m.values → n.events ≡ m.events ++ e ∷ []
    → ((words : List ℕ) → IsStored m words → IsStored n words)
    → ((current_of (initial_of m) (m.events ++ e ∷ []) ≡ current_of (initial_of m) m.events)
    ⊎ IsStored n (current_of (initial_of m) (m.events ++ e ∷ [])))
    → ((k : ℕ) → (current_of (initial_of m) (take k m.events) ≡ initial_of m) ⊎ IsStored m (current_of (initial_of m) (take k m.events)))
    → (k : ℕ) → (current_of (initial_of m) (take k (m.events ++ e ∷ [])) ≡ initial_of m)
    ⊎ IsStored n (current_of (initial_of m) (take k (m.events ++ e ∷ [])))
whole_on m n e same more keeps now before k = ⊎_elim
    (λ (past : length m.events < k). subst IsWhole
    (sym (take_all k (m.events ++ e ∷ []) (omega (arith, past, length-append m.events (e ∷ [])))))
    last)
    (λ (within : k ≤ length m.events). subst IsWhole (sym (take-append-le k m.events (e ∷ []) within)) (kept (take k m.events) (before k)))
    (cases_lt (length m.events) k)
  where
    IsWhole : List Event → Type 0
    IsWhole events = (current_of (initial_of m) events ≡ initial_of m) ⊎ IsStored n (current_of (initial_of m) events)

    kept : (events : List Event) → (current_of (initial_of m) events ≡ initial_of m) ⊎ IsStored m (current_of (initial_of m) events)
        → IsWhole events
    kept events (inl h) = inl h
    kept events (inr h) = inr (keeps (current_of (initial_of m) events) h)

    last : IsWhole (m.events ++ e ∷ [])
    last = of now
      where
        all : IsWhole m.events
        all = subst IsWhole (take_all (length m.events) m.events (omega arith))
            (kept (take (length m.events) m.events) (before (length m.events)))

        of : (current_of (initial_of m) (m.events ++ e ∷ []) ≡ current_of (initial_of m) m.events)
            ⊎ IsStored n (current_of (initial_of m) (m.events ++ e ∷ [])) → IsWhole (m.events ++ e ∷ [])
        of (inl is) = subst (λ (xs : List ℕ). (xs ≡ initial_of m) ⊎ IsStored n xs) (sym is) all
        of (inr is) = inr is

-- a store that is recorded stays so after a party went on
module _ (m : AtomicState) (party : ℕ) (fit : fits m (GoOn party) ≡ true) (k : IsKept m) where
  abbrev s : AtomicCall
  s = stage_at m.seats party

  abbrev access : Access
  access = call_next (width_of m) m.values s

  abbrev event : Event
  event = record { party = party; access = access; answer = answer_of m.words access }

  abbrev seat : Seat
  seat = record { stage = call_take (width_of m) s (answer_of m.words access); first = (seat_at m.seats party).first }

  within : party < length m.seats
  within = ltb-true party (length m.seats) (and_parts (nat_lt party (length m.seats)) _ fit).0

  busy : call_is_idle s ≡ false
  busy = of (call_is_idle s) (and_parts (nat_lt party (length m.seats)) (not (call_is_idle s)) fit).1
    where
      of : (b : Bool) → not b ≡ true → b ≡ false
      of true h = absurd (cc)
      of false h = refl

  stores_on : (words : List ℕ) → IsStored m words → IsStored (went m party) words
  stores_on words (inl ended) = inl (stored_on m.values words m.finished _ ended)
  stores_on words (inr going) = ⊎_elim
      (λ (same : party ≡ going.0). inl (stored_last m.values words m.finished _
      (ends s (ap (stage_at m.seats) same ∙ going.2))))
      (λ (differs : party ≡ going.0 → ⊥). inr (
        going.0,
        going.1,
        ap (λ (seat : Seat). seat.stage) (seat_else m.seats party going.0 seat (λ is. differs (sym is))) ∙ going.2,
        going.3,
      ))
      (cases_eq party going.0)
    where
      ends : (s : AtomicCall) → s ≡ stage.Done (call.Store going.1)
          → SomeStores m.values words (call_ended party (seat_at m.seats party).first (length m.events) s)
      ends s is = subst (λ (s : AtomicCall). SomeStores m.values words (call_ended party (seat_at m.seats party).first (length m.events) s))
          (sym is) (inl going.3)

  went_made : HasFewStores (went m party) → (c : IsConsistent m)
      → MadeStep party (seat_at m.seats party).first m.values m.words (after_access m.words access) m.producer
      (producer_after m.producer s) m.events event seat.stage
  went_made few c = made party (seat_at m.seats party).first m.values m.words m.producer m.events c.fit k.size c.rest (k.began party) s
      busy (c.knows party) few

  fewer : HasFewStores (went m party) → HasFewStores m
  fewer few = omega (arith, few, more_moved m.events event)

  went_sound : HasFewStores (went m party) → IsConsistent (went m party)
  went_sound few =
      let c : IsConsistent m = k.sound (fewer few) in
      let step : MadeStep party (seat_at m.seats party).first m.values m.words (after_access m.words access) m.producer
      (producer_after m.producer s) m.events event seat.stage = went_made few c in
      record {
        fit = step.fit;
        rest = step.rest;
        knows = each_seat (λ (q : ℕ) (t : Seat). Knows m.values m.words.write m.producer m.events q t.first t.stage
            × (t.first ≤ length m.events))
            (λ (q : ℕ) (t : Seat). Knows m.values (after_access m.words access).write (producer_after m.producer s)
            (m.events ++ event ∷ []) q
            t.first t.stage) m.seats party seat within (λ q. (c.knows q, k.began q))
            (λ q differs h. knows_else m.values q (seat_at m.seats q).first m.events event differs h.1 m.producer
            (producer_after m.producer s) m.words.write (after_access m.words access).write (step.leaves q differs) (stage_at m.seats q)
            h.0)
            step.knows;
        told = told_append m.values (m.events ++ event ∷ []) m.finished
            (call_ended party (seat_at m.seats party).first (length m.events) s)
            (told_on m.values m.events event m.finished k.recorded.among c.told)
            (ended_told m.values m.words.write m.producer m.events event party (seat_at m.seats party).first s (c.knows party));
        whole = whole_on m (went m party) event refl refl stores_on (now step.shows) c.whole;
      }
    where
      now : (current_of (initial_of m) (m.events ++ event ∷ []) ≡ current_of (initial_of m) m.events)
          ⊎ ((number : ℕ) × (seat.stage ≡ stage.Done (call.Store number))
          × (table_value m.values number ≡ current_of (initial_of m) (m.events ++ event ∷ [])))
          → (current_of (initial_of m) (m.events ++ event ∷ []) ≡ current_of (initial_of m) m.events)
          ⊎ IsStored (went m party) (current_of (initial_of m) (m.events ++ event ∷ []))
      now (inl is) = inl is
      now (inr is) = inr (inr (
        party,
        is.0,
        ap (λ (seat : Seat). seat.stage) (seat_here m.seats party seat within) ∙ is.1,
        is.2,
      ))

  went_keeps : IsKept (went m party)
  went_keeps = record {
    size = same_cells (width_of m) m.values m.words s ∙ k.size;
    began = each_seat (λ (q : ℕ) (t : Seat). t.first ≤ length m.events) (λ (q : ℕ) (t : Seat). t.first ≤ length (m.events ++ event ∷ []))
        m.seats party seat within k.began (λ q differs h. omega (arith, h, length-append m.events (event ∷ [])))
        (omega (arith, k.began party, length-append m.events (event ∷ [])));
    recorded = record {
      answered = answered_on (start_words (initial_of m)) m.words m.events event refl k.recorded.answered;
      among = among_append (m.events ++ event ∷ []) m.finished (call_ended party (seat_at m.seats party).first (length m.events) s)
          (among_on m.events event m.finished k.recorded.among)
          (ended_among m.events event party (seat_at m.seats party).first s (k.began party));
      ended = asked_append (width_of m) m.values (m.events ++ event ∷ []) m.finished
          (call_ended party (seat_at m.seats party).first (length m.events) s)
          (ended_asked_on (width_of m) m.values m.events event m.finished k.recorded.among k.recorded.ended)
          (call_asked (width_of m) m.values party (seat_at m.seats party).first m.events event s (k.recorded.going party));
      going = asked_all (width_of m) m.values m.seats m.events event seat within k.began k.recorded.going
          (subst (λ (es : List Event). IsAskedSoFar (width_of m) m.values party (call_in_hand seat.stage) seat.stage es)
          (sym (own_more_since party (seat_at m.seats party).first m.events event (k.began party) refl))
          (asked_next (width_of m) m.values party (own party (drop (seat_at m.seats party).first m.events)) event s refl
          (k.recorded.going party)));
    };
    counted = went_counted m party fit k.counted;
    sound = went_sound;
  }

-- a party begins a call
module _ (m : AtomicState) (party : ℕ) (c : Call) (fit : fits m (Begin party c) ≡ true) (k : IsKept m) where
  abbrev begin : Event
  begin = record { party = party; access = Local; answer = 0 }

  abbrev begun_seat : Seat
  begun_seat = record { stage = call_begun c; first = length m.events }

  parts : (nat_lt party (length m.seats) ≡ true) × ((call_is_idle (stage_at m.seats party) && may_begin m c) ≡ true)
  parts = and_parts (nat_lt party (length m.seats)) (call_is_idle (stage_at m.seats party) && may_begin m c) fit

  there : party < length m.seats
  there = ltb-true party (length m.seats) parts.0

  idle : call_is_idle (stage_at m.seats party) ≡ true
  idle = (and_parts (call_is_idle (stage_at m.seats party)) (may_begin m c) parts.1).0

  may : may_begin m c ≡ true
  may = (and_parts (call_is_idle (stage_at m.seats party)) (may_begin m c) parts.1).1

  none_is : (o : Option ℕ) → is_none o ≡ true → o ≡ None
  none_is None h = refl
  none_is (Some p) h = absurd (cc)

  not_done : (s : AtomicCall) (c : Call) → call_is_idle s ≡ true → s ≡ stage.Done c → ⊥
  not_done stage.Idle c is same = absurd (cc)
  not_done (stage.Store number) c is same = absurd (cc)
  not_done (stage.Fill number counter next) c is same = absurd (cc)
  not_done stage.Load c is same = absurd (cc)
  not_done (stage.Gather counter next) c is same = absurd (cc)
  not_done (stage.Done d) c is same = absurd (cc)

  begun_stores : (words : List ℕ) → IsStored m words → IsStored (begun m party c) words
  begun_stores words (inl ended) = inl ended
  begun_stores words (inr going) = inr (
    going.0,
    going.1,
    ap (λ (seat : Seat). seat.stage) (seat_else m.seats party going.0 begun_seat differs) ∙ going.2,
    going.3,
  )
    where
      differs : going.0 ≡ party → ⊥
      differs is = not_done (stage_at m.seats party) (call.Store going.1) idle (ap (stage_at m.seats) (sym is) ∙ going.2)

  begun_sound : HasFewStores (begun m party c) → IsConsistent (begun m party c)
  begun_sound few =
      let o : IsConsistent m = k.sound (omega (arith, few, more_moved m.events begin)) in
      let put_is : put_after [] (m.events ++ begin ∷ []) ≡ put_after [] m.events =
      put_same party (length m.events) m.values m.words m.producer m.events o.fit k.size o.rest (omega arith) begin local_quiet in
      let current_is : current_of (initial_of m) (m.events ++ begin ∷ []) ≡ current_of (initial_of m) m.events =
      current_same party (length m.events) m.values m.words m.producer m.events o.fit k.size o.rest (omega arith) begin local_quiet in
      record {
        fit = quiet_fit party (length m.events) m.values m.words m.producer m.events o.fit k.size o.rest (omega arith) begin local_quiet;
        rest = λ none. put_is ∙ o.rest (was_none c none);
        knows = each_seat (λ (q : ℕ) (t : Seat). Knows m.values m.words.write m.producer m.events q t.first t.stage
            × (t.first ≤ length m.events))
            (λ (q : ℕ) (t : Seat). Knows m.values m.words.write (producer_begun m.producer party c) (m.events ++ begin ∷ []) q t.first
            t.stage)
            m.seats party begun_seat there (λ q. (o.knows q, k.began q))
            (λ q differs h. knows_else m.values q (seat_at m.seats q).first m.events begin differs h.1 m.producer
            (producer_begun m.producer party c) m.words.write m.words.write
            (record { kept = λ is. (kept c may q is, put_is, refl); going = inr (refl, current_is) }) (stage_at m.seats q) h.0)
            (here c may o.rest put_is);
        told = told_on m.values m.events begin m.finished k.recorded.among o.told;
        whole = whole_on m (begun m party c) begin refl refl begun_stores (inl current_is) o.whole;
      }
    where
      was_none : (c : Call) → producer_begun m.producer party c ≡ None → m.producer ≡ None
      was_none (call.Store number) is = absurd (cc)
      was_none call.Load is = is

      kept : (c : Call) → may_begin m c ≡ true → (q : ℕ) → m.producer ≡ Some q → producer_begun m.producer party c ≡ Some q
      kept (call.Store number) ok q is = absurd (
          let none : m.producer ≡ None = none_is m.producer (and_parts (is_none m.producer) _ ok).0 in
          let same : Some q ≡ None = sym is ∙ none in cc)
      kept call.Load ok q is = is

      here : (c : Call) → may_begin m c ≡ true → (m.producer ≡ None → put_after [] m.events ≡ [])
          → put_after [] (m.events ++ begin ∷ []) ≡ put_after [] m.events
          → Knows m.values m.words.write (producer_begun m.producer party c) (m.events ++ begin ∷ []) party (length m.events) (call_begun c)
      here (call.Store number) ok rest put_is = (
        eqb-true (length (table_value m.values number)) (width_of m) (and_parts (is_none m.producer) _ ok).1,
        refl,
        put_is ∙ rest (none_is m.producer (and_parts (is_none m.producer) _ ok).0),
      )
      here call.Load ok rest put_is = tt

  first_own : own party (drop (length m.events) (m.events ++ begin ∷ [])) ≡ begin ∷ []
  first_own = ap (own party) (drop-append_seam m.events (begin ∷ [])) ∙ own_more party [] begin refl

  begun_asked : (c : Call) → IsAskedSoFar (width_of m) m.values party (call_in_hand (call_begun c)) (call_begun c)
      (own party (drop (length m.events) (m.events ++ begin ∷ [])))
  begun_asked (call.Store number) = record { between = []; whole = first_own; goes = refl }
  begun_asked call.Load = record { between = []; whole = first_own; goes = refl }

  begun_keeps : IsKept (begun m party c)
  begun_keeps = record {
    size = k.size;
    began = each_seat (λ (q : ℕ) (t : Seat). t.first ≤ length m.events) (λ (q : ℕ) (t : Seat). t.first ≤ length (m.events ++ begin ∷ []))
        m.seats party begun_seat there k.began (λ q differs h. omega (arith, h, length-append m.events (begin ∷ [])))
        (omega (arith, length-append m.events (begin ∷ [])));
    recorded = record {
      answered = answered_on (start_words (initial_of m)) m.words m.events begin refl k.recorded.answered;
      among = among_on m.events begin m.finished k.recorded.among;
      ended = ended_asked_on (width_of m) m.values m.events begin m.finished k.recorded.among k.recorded.ended;
      going = asked_all (width_of m) m.values m.seats m.events begin begun_seat there k.began k.recorded.going (begun_asked c);
    };
    counted = begun_counted m party c fit k.counted;
    sound = begun_sound;
  }

happens_keeps : (m : AtomicState) (step : Move) → fits m step ≡ true → IsKept m → IsKept (happens m step)
happens_keeps m (Begin party c) fit k = begun_keeps m party c fit k
happens_keeps m (GoOn party) fit k = went_keeps m party fit k

pub steps_keep : (m : AtomicState) (step : Move) (r : Stepped) (n : AtomicState) → StepsTo m step r n → IsKept m → IsKept n
steps_keep m step stepped.Went n h k = subst IsKept (sym h.2) (happens_keeps m step h.0 k)
steps_keep m step stepped.Finished n h k = subst IsKept (sym h.2) (happens_keeps m step h.0 k)
steps_keep m step stepped.Skipped n h k = subst IsKept (sym h.1) k
steps_keep m step stepped.NoMemory n h k = subst IsKept (sym h.1) k

-- what every machine tells
pub all_told : (m : AtomicState) → IsKept m → HasFewStores m → IsTold m
all_told m k few =
    let o : IsConsistent m = k.sound few in
    record {
      ended = o.told;
      going = λ party c is. done party c (stage_at m.seats party) is (o.knows party);
      whole = o.whole;
    }
  where
    done : (party : ℕ) (c : Call) (s : AtomicCall) → s ≡ stage.Done c
        → Knows m.values m.words.write m.producer m.events party (seat_at m.seats party).first s
        → Tells m.values party (seat_at m.seats party).first m.events c
    done party c s is knows =
        (subst (λ (s : AtomicCall). Knows m.values m.words.write m.producer m.events party (seat_at m.seats party).first s) is knows).1

pub moves_once : (m : AtomicState) → IsKept m → MovesOnce m
moves_once m k = move_each (width_of m) m.values m.events m.finished k.recorded.ended

moved_once : (access : Access) → moved_by access ≤ 1
moved_once (Load word) = omega arith
moved_once (Store Write value) = omega arith
moved_once (Store Read value) = omega arith
moved_once (Store (Cell place) value) = omega arith
moved_once (Exchange word old new) = omega arith
moved_once Local = omega arith

moved_within : (events : List Event) → times_moved events ≤ length events
moved_within [] = omega arith
moved_within (e ∷ events) = omega (arith, moved_once e.access, moved_within events)

-- fewer steps are fewer stores
pub short_few : (m : AtomicState) → length m.events < 2 ^ 64 - 1 → HasFewStores m
short_few m short = omega (arith, moved_within m.events, short)
