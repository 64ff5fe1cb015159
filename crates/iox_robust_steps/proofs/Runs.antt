-- Every step of the machine of a set that knows its holders keeps what the machine keeps.
use Rattle.std.proofs.Common.{◌≡◌, ℕ, ◌+◌, ◌^◌, ◌<◌, ◌≤◌, inl, inr, ⊎_elim, Bool, true, false, if◌then◌else◌, ◌==◌, ◌&&◌, not}
use Rattle.std.proofs.Common.{nat_lt, ◌||◌, Option, List, [], ◌∷◌, ◌++◌, length, drop, slice_index, refl, sym, ◌∙◌, ap, subst, arith}
use Rattle.std.proofs.Common.{length-append}
use Rattle.std.proofs.Common.{mod-eq_of_lt}
use Rattle.std.proofs.Math.Seq.{drop-append_seam}
use Rattle.std.proofs.lemmas.Bool.{and_parts, cases_lt, eq-eqb, eqb-true, ltb-true, or_right}
use Rattle.std.proofs.lemmas.List.{get_or_past}
use Rattle.iox_container.specs.declared.release.ReleaseMode.{ReleaseMode}
use Rattle.iox_container.specs.declared.release.ReleaseMode.TheVariants.{LockIfLastIndex, Default}
use Rattle.iox_queues_steps.specs.Access.{answer_of, after_access, word_of}
use Rattle.iox_queues_steps.specs.declared.access.Access.TheVariants.{Local}
use Rattle.iox_queues_steps.specs.declared.access.Word.TheVariants.{Cell}
use Rattle.iox_queues_steps.specs.declared.schedule.Stepped.{Stepped}
use Rattle.iox_queues_steps.specs.declared.schedule.Stepped.TheVariants as stepped
use Rattle.iox_queues.specs.Told.{own}
use Rattle.iox_queues.specs.declared.bits.machine.Event.{Event}
use Rattle.iox_robust_steps.specs.Steps.{call_begun, call_in_hand, call_is_idle, call_next, call_take, lock_mark, settles}
use Rattle.iox_robust_steps.specs.Changes.{is_owner}
use Rattle.iox_robust_steps.specs.Told.{AreAsked, AreFreed, IsAskedSoFar, MoveNone, is_locking}
use Rattle.iox_robust_steps.specs.Machine.{HasFewSteps, IsOrderly, RobustSetState, StaysLocked, StepsTo, begun, call_ended, fits}
use Rattle.iox_robust_steps.specs.Machine.{happens, is_halted, is_holder, is_locked, is_lost, lost_begun, may_begin, one_if_held, place_of}
use Rattle.iox_robust_steps.specs.Machine.{places_after, seat_at, stage_at, start_words, went}
use Rattle.iox_robust_steps.specs.Kept.{FreesSoFar, IsConsistent, IsKept, IsOwner, IsQuiet, Knows}
use Rattle.iox_robust_steps.specs.declared.call.Call.{Call}
use Rattle.iox_robust_steps.specs.declared.call.Call.TheVariants as call
use Rattle.iox_robust_steps.specs.declared.call.RobustCall.{RobustCall}
use Rattle.iox_robust_steps.specs.declared.call.RobustCall.TheVariants as stage
use Rattle.iox_robust_steps.specs.declared.machine.Move.{Move}
use Rattle.iox_robust_steps.specs.declared.machine.Move.TheVariants.{Begin, GoOn, Insist}
use Rattle.iox_robust_steps.specs.declared.state.Place.{Place}
use Rattle.iox_robust_steps.specs.declared.state.Place.TheVariants as place
use Rattle.iox_robust_steps.specs.declared.state.Seat.{Seat}
use Rattle.iox_queues.proofs.OwnSteps.{own_else_since, own_more, own_more_since}
use Rattle.iox_queues.proofs.Recorded.{answered_on}
use Rattle.iox_robust_steps.proofs.Asked.{asked_all, asked_append, asked_next, call_asked, ended_asked_on}
use Rattle.iox_robust_steps.proofs.Ending.{ToldIfOver, among_append, among_on, ended_among, ended_told, idle_locks, locked_on, same_cells}
use Rattle.iox_robust_steps.proofs.Ending.{same_places, told_append, told_on}
use Rattle.iox_robust_steps.proofs.Freeing.{NothingNew, ended_freed, freed_append, freed_lost, freed_on, frees_lost, frees_next, frees_on}
use Rattle.iox_robust_steps.proofs.Freeing.{looks_freed, nothing_new}
use Rattle.iox_robust_steps.proofs.Going.{MadeStep, made}
use Rattle.iox_robust_steps.proofs.Holders.{holder_is, one_holds}
use Rattle.iox_robust_steps.proofs.Named.{stands_begun, stands_went}
use Rattle.iox_robust_steps.proofs.Knowing.{knows_else, knows_lost, mark_on, tells_locked}
use Rattle.iox_robust_steps.proofs.OfCalls.{begun_call, begun_counted, went_counted}
use Rattle.iox_robust_steps.proofs.Seats.{each_seat, seat_else, seat_here}
use Rattle.iox_robust_steps.proofs.Theirs.{each_frees}
use Rattle.iox_robust_steps.proofs.Whole.{whole_kept}

not_is : (b : Bool) → not b ≡ true → b ≡ false
not_is true h = absurd (cc)
not_is false h = refl

-- a party goes on
module _ (m : RobustSetState) (party : ℕ) (insists : Bool) (fit : fits m (GoOn party) ≡ true) (k : IsKept m) where
  abbrev s : RobustCall
  s = stage_at m.seats party

  abbrev answer : ℕ
  answer = answer_of m.words (call_next s)

  abbrev event : Event
  event = record { party = party; access = call_next s; answer = answer }

  abbrev seat : Seat
  seat = record { stage = call_take m.capacity m.decisions insists s answer; first = (seat_at m.seats party).first }

  parts : (nat_lt party (length m.seats) ≡ true) × ((not (call_is_idle s) && not (is_halted m.lost s)) ≡ true)
  parts = and_parts (nat_lt party (length m.seats)) (not (call_is_idle s) && not (is_halted m.lost s)) fit

  within : party < length m.seats
  within = ltb-true party (length m.seats) parts.0

  pub busy : call_is_idle s ≡ false
  busy = not_is (call_is_idle s) (and_parts (not (call_is_idle s)) (not (is_halted m.lost s)) parts.1).0

  pub live : is_halted m.lost s ≡ false
  live = not_is (is_halted m.lost s) (and_parts (not (call_is_idle s)) (not (is_halted m.lost s)) parts.1).1

  longer : length (m.events ++ event ∷ []) ≡ length m.events + 1
  longer = length-append m.events (event ∷ [])

  pub fewer : HasFewSteps (went m party insists) → HasFewSteps m
  fewer few = omega (arith, few, longer)

  pub went_made : HasFewSteps (went m party insists) → IsConsistent m
      → MadeStep m.capacity party m.words (after_access m.words (call_next s)) m.places (places_after m.places party s answer) m.lost
      m.events (own party (drop (seat_at m.seats party).first m.events)) event seat.stage
  went_made few c = made m.capacity party m.decisions insists m.words m.places m.lost m.events
      (own party (drop (seat_at m.seats party).first m.events)) c.whole k.small k.cells k.places (omega (arith, few, longer)) s busy live
      (c.knows party)

  went_locked : HasFewSteps (went m party insists) → is_locked m ≡ true → is_locked (went m party insists) ≡ true
  went_locked few = mark_on m.words.read (after_access m.words (call_next s)).read (went_made few (k.sound (fewer few))).stays

  -- what is told of its call, if that has its answer
  over_told : HasFewSteps (went m party insists) → IsConsistent m → (t : RobustCall)
      → Knows m.capacity m.words m.places m.lost party (own party (drop (seat_at m.seats party).first m.events)) t
      → ToldIfOver m.capacity (is_locked (went m party insists)) t (own party (drop (seat_at m.seats party).first m.events))
  over_told few c stage.Idle h = tt
  over_told few c (stage.Acquire owner) h = tt
  over_told few c (stage.Claim owner i count) h = tt
  over_told few c (stage.Count owner i count) h = tt
  over_told few c (stage.Confirm owner i) h = tt
  over_told few c (stage.Undo owner i) h = tt
  over_told few c (stage.Free owner i mode) h = tt
  over_told few c (stage.Look owner number mode i) h = tt
  over_told few c (stage.Clear owner number mode i seen) h = tt
  over_told few c (stage.Settle d) h = tt
  over_told few c (stage.Scan d i count) h = tt
  over_told few c (stage.Lock d count) h = tt
  over_told few c (stage.Done d a) h = tells_locked m.capacity (is_locked m) (is_locked (went m party insists))
      (own party (drop (seat_at m.seats party).first m.events)) (went_locked few) d a h

  went_sound : HasFewSteps (went m party insists) → IsConsistent (went m party insists)
  went_sound few =
      let c : IsConsistent m = k.sound (fewer few) in
      let step : MadeStep m.capacity party m.words (after_access m.words (call_next s)) m.places (places_after m.places party s answer)
      m.lost m.events (own party (drop (seat_at m.seats party).first m.events)) event seat.stage = went_made few c in
      record {
        whole = step.whole;
        knows = each_seat (λ (q : ℕ) (t : Seat). Knows m.capacity m.words m.places m.lost q (own q (drop t.first m.events)) t.stage
            × (t.first ≤ length m.events))
            (λ (q : ℕ) (t : Seat). Knows m.capacity (after_access m.words (call_next s)) (places_after m.places party s answer) m.lost q
            (own q (drop t.first (m.events ++ event ∷ []))) t.stage)
            m.seats party seat within (λ q. (c.knows q, k.began q))
            (λ q differs h. subst (λ (es : List Event). Knows m.capacity (after_access m.words (call_next s))
            (places_after m.places party s answer) m.lost q es (stage_at m.seats q))
            (sym (own_else_since q (seat_at m.seats q).first m.events event h.1 differs))
            (knows_else m.capacity q m.words (after_access m.words (call_next s)) m.places (places_after m.places party s answer) m.lost
            (own q (drop (seat_at m.seats q).first m.events)) (step.leaves q differs) (stage_at m.seats q) h.0))
            (subst (λ (es : List Event). Knows m.capacity (after_access m.words (call_next s)) (places_after m.places party s answer)
            m.lost party es seat.stage)
            (sym (own_more_since party (seat_at m.seats party).first m.events event (k.began party) refl)) step.knows);
        told = told_append m.capacity (is_locked (went m party insists)) (m.events ++ event ∷ []) m.finished
            (call_ended party (seat_at m.seats party).first (length m.events) s)
            (told_on m.capacity (is_locked m) (is_locked (went m party insists)) m.events event m.finished
            (went_locked few) k.recorded.among
            c.told)
            (ended_told m.capacity (is_locked (went m party insists)) party (seat_at m.seats party).first m.events event s
            (over_told few c s (c.knows party)));
        named = stands_went m party insists within c k.cells k.places (k.began party) step.whole;
        locked_by = λ locked. elim (step.locks (eqb-true (after_access m.words (call_next s)).read lock_mark locked)) [
          | inl before ↦ locked_on m party insists (c.locked_by (eq-eqb m.words.read lock_mark before))
          | inr now ↦ inr (party, subst (λ (seat : Seat). is_locking seat.stage ≡ true) (sym (seat_here m.seats party seat within)) now)
        ];
        frees = each_seat (λ (q : ℕ) (t : Seat). FreesSoFar m.capacity m.decisions m.lost m.words.cells t.stage)
            (λ (q : ℕ) (t : Seat). FreesSoFar m.capacity m.decisions m.lost (after_access m.words (call_next s)).cells t.stage)
            m.seats party seat within c.frees
            (λ q differs h. frees_on m.capacity m.decisions m.lost m.words.cells (after_access m.words (call_next s)).cells (new c)
            (stage_at m.seats q) h)
            (frees_next m.capacity party m.decisions insists m.words m.places m.lost
            (own party (drop (seat_at m.seats party).first m.events)) k.small k.cells s (c.knows party)
            (frees_on m.capacity m.decisions m.lost m.words.cells (after_access m.words (call_next s)).cells (new c) s (c.frees party)));
        freed = freed_append m.capacity m.decisions m.lost (after_access m.words (call_next s)).cells m.finished
            (call_ended party (seat_at m.seats party).first (length m.events) s)
            (freed_on m.capacity m.decisions m.lost m.words.cells (after_access m.words (call_next s)).cells (new c) m.finished c.freed)
            (ended_freed m.capacity m.decisions m.lost (after_access m.words (call_next s)).cells party (seat_at m.seats party).first
            (length m.events) s
            (frees_on m.capacity m.decisions m.lost m.words.cells (after_access m.words (call_next s)).cells (new c) s (c.frees party)));
      }
    where
      new : IsConsistent m → NothingNew m.lost m.words.cells (after_access m.words (call_next s)).cells
      new c = nothing_new m.capacity party m.words m.places m.lost k.cells (own party (drop (seat_at m.seats party).first m.events)) s live
          (c.knows party)

  ended_asked : AreAsked m.capacity m.decisions m.may_insist (m.events ++ event ∷ []) (went m party insists).finished
  ended_asked = asked_append m.capacity m.decisions m.may_insist (m.events ++ event ∷ []) m.finished
      (call_ended party (seat_at m.seats party).first (length m.events) s)
      (ended_asked_on m.capacity m.decisions m.may_insist m.events event m.finished k.recorded.among k.recorded.ended)
      (call_asked m.capacity m.decisions m.may_insist party (seat_at m.seats party).first m.events event s (k.recorded.going party))

  pub went_keeps : (insists ≡ true → m.may_insist ≡ true) → IsKept (went m party insists)
  went_keeps allowed = record {
    small = k.small;
    cells = same_cells m.words (call_next s) ∙ k.cells;
    places = same_places m.places party s answer ∙ k.places;
    began = each_seat (λ (q : ℕ) (t : Seat). t.first ≤ length m.events) (λ (q : ℕ) (t : Seat). t.first ≤ length (m.events ++ event ∷ []))
        m.seats party seat within k.began (λ q differs h. omega (arith, h, longer)) (omega (arith, k.began party, longer));
    recorded = record {
      answered = answered_on (start_words m.capacity) m.words m.events event refl k.recorded.answered;
      among = among_append (m.events ++ event ∷ []) m.finished (call_ended party (seat_at m.seats party).first (length m.events) s)
          (among_on m.events event m.finished k.recorded.among)
          (ended_among m.events event party (seat_at m.seats party).first s (k.began party));
      ended = ended_asked;
      frees = each_frees m.capacity m.decisions m.may_insist (m.events ++ event ∷ []) (went m party insists).finished ended_asked;
      going = asked_all m.capacity m.decisions m.may_insist m.seats m.events event seat within k.began k.recorded.going
          (subst (λ (es : List Event). IsAskedSoFar m.capacity m.decisions m.may_insist party (call_in_hand seat.stage) seat.stage es)
          (sym (own_more_since party (seat_at m.seats party).first m.events event (k.began party) refl))
          (asked_next m.capacity m.decisions m.may_insist insists allowed party (own party (drop
          (seat_at m.seats party).first m.events)) event s refl
          (k.recorded.going party)));
    };
    counted = went_counted m party insists fit k.counted;
    sound = went_sound;
  }

-- a party begins a call
module _ (m : RobustSetState) (party : ℕ) (c : Call) (fit : fits m (Begin party c) ≡ true) (k : IsKept m) where
  abbrev begin : Event
  begin = record { party = party; access = Local; answer = 0 }

  abbrev begun_seat : Seat
  begun_seat = record { stage = call_begun m.capacity c; first = length m.events }

  begun_parts : (nat_lt party (length m.seats) ≡ true) × ((call_is_idle (stage_at m.seats party) && may_begin m party c) ≡ true)
  begun_parts = and_parts (nat_lt party (length m.seats)) (call_is_idle (stage_at m.seats party) && may_begin m party c) fit

  there : party < length m.seats
  there = ltb-true party (length m.seats) begun_parts.0

  idle : call_is_idle (stage_at m.seats party) ≡ true
  idle = (and_parts (call_is_idle (stage_at m.seats party)) (may_begin m party c) begun_parts.1).0

  may : may_begin m party c ≡ true
  may = (and_parts (call_is_idle (stage_at m.seats party)) (may_begin m party c) begun_parts.1).1

  longer_begun : length (m.events ++ begin ∷ []) ≡ length m.events + 1
  longer_begun = length-append m.events (begin ∷ [])

  pub fewer_begun : HasFewSteps (begun m party c) → HasFewSteps m
  fewer_begun few = omega (arith, few, longer_begun)

  first_own : own party (drop (length m.events) (m.events ++ begin ∷ [])) ≡ begin ∷ []
  first_own = ap (own party) (drop-append_seam m.events (begin ∷ [])) ∙ own_more party [] begin refl

  pub owner_named : (owner : ℕ) → is_owner owner ≡ true → IsOwner owner
  owner_named owner h =
      let both : (nat_lt 0 owner ≡ true) × (nat_lt owner (2 ^ 63) ≡ true) = and_parts (nat_lt 0 owner) (nat_lt owner (2 ^ 63)) h in
      (ltb-true 0 owner both.0, ltb-true owner (2 ^ 63) both.1)

  pub lost_now : (owner : ℕ) (lost : List ℕ) → is_lost owner (lost ++ owner ∷ []) ≡ true
  lost_now owner [] = ap (λ (b : Bool). b || false) (eq-eqb owner owner refl)
  lost_now owner (x ∷ lost) = or_right (x == owner) (is_lost owner (lost ++ owner ∷ [])) (lost_now owner lost)

  none_yet : MoveNone (begin ∷ [])
  none_yet = (λ j. refl, λ j. refl)

  begun_knows : (c : Call) → may_begin m party c ≡ true
      → Knows m.capacity m.words m.places (lost_begun m.lost c) party (begin ∷ []) (call_begun m.capacity c)
  begun_knows (call.Acquire owner) ok = (owner_named owner (and_parts (is_owner owner) (not (is_lost owner m.lost)) ok).0, none_yet)
  begun_knows (call.Release owner i mode) ok =
      let both : ((is_owner owner && not (is_lost owner m.lost)) ≡ true) × (_ ≡ true)
      = and_parts (is_owner owner && not (is_lost owner m.lost)) _ ok in
      let rest : (nat_lt i m.capacity ≡ true) × (_ ≡ true) = and_parts (nat_lt i m.capacity) _ both.1 in
      let last : (is_holder party (place_of m.places i) ≡ true) × ((word_of m.words (Cell i) == owner) ≡ true)
      = and_parts (is_holder party (place_of m.places i)) (word_of m.words (Cell i) == owner) rest.1 in
      let low : i < m.capacity = ltb-true i m.capacity rest.0 in (
        owner_named owner (and_parts (is_owner owner) (not (is_lost owner m.lost)) both.0).0,
        none_yet,
        low,
        λ living. (
          held_is (place_of m.places i) last.0,
          ap (λ (j : ℕ). slice_index m.words.cells j) (sym (mod-eq_of_lt (omega (arith, low, k.cells))))
              ∙ eqb-true (word_of m.words (Cell i)) owner last.1,
        ),
      )
    where
      held_is : (x : Place) → is_holder party x ≡ true → x ≡ place.Held party
      held_is place.Empty h = absurd (cc)
      held_is (place.Claimed q) h = absurd (cc)
      held_is (place.Counted q) h = absurd (cc)
      held_is (place.Held q) h = ap (λ (r : ℕ). place.Held r) (eqb-true q party h)
  begun_knows (call.Recover owner number mode) ok = looks (nat_lt 0 m.capacity) refl mode
    where
      looks : (b : Bool) → nat_lt 0 m.capacity ≡ b → (mode : ReleaseMode)
          → Knows m.capacity m.words m.places (m.lost ++ owner ∷ []) party (begin ∷ [])
          (if b then stage.Look owner number mode 0 else settles mode (call.Recover owner number mode))
      looks true e mode = (owner_named owner ok, (λ j. refl), ltb-true 0 m.capacity e, lost_now owner m.lost)
      looks false e LockIfLastIndex = λ j. refl
      looks false e Default = λ j. refl

  others_know : (c : Call) (q : ℕ) (es : List Event) (t : RobustCall) → Knows m.capacity m.words m.places m.lost q es t
      → Knows m.capacity m.words m.places (lost_begun m.lost c) q es t
  others_know (call.Acquire owner) q es t h = h
  others_know (call.Release owner i mode) q es t h = h
  others_know (call.Recover owner number mode) q es t h = knows_lost m.capacity q m.words m.places m.lost owner es t h

  still_frees : (c : Call) (t : RobustCall) → FreesSoFar m.capacity m.decisions m.lost m.words.cells t
      → FreesSoFar m.capacity m.decisions (lost_begun m.lost c) m.words.cells t
  still_frees (call.Acquire owner) t h = h
  still_frees (call.Release owner i mode) t h = h
  still_frees (call.Recover owner number mode) t h = frees_lost m.capacity m.decisions m.lost m.words.cells owner t h

  still_freed : (c : Call) → AreFreed m.decisions m.lost m.words.cells m.capacity m.finished
      → AreFreed m.decisions (lost_begun m.lost c) m.words.cells m.capacity m.finished
  still_freed (call.Acquire owner) h = h
  still_freed (call.Release owner i mode) h = h
  still_freed (call.Recover owner number mode) h = freed_lost m.capacity m.decisions m.lost m.words.cells owner m.finished h

  begun_frees : (c : Call) → may_begin m party c ≡ true
      → FreesSoFar m.capacity m.decisions (lost_begun m.lost c) m.words.cells (call_begun m.capacity c)
  begun_frees (call.Acquire owner) ok = tt
  begun_frees (call.Release owner i mode) ok = tt
  begun_frees (call.Recover owner number mode) ok =
      let named : IsOwner owner = owner_named owner ok in
      looks_freed m.capacity m.decisions (m.lost ++ owner ∷ []) m.words.cells owner number 0 mode (nat_lt 0 m.capacity) refl
      (named.0, named.1, lost_now owner m.lost, λ j low is. absurd (omega (arith, low)))

  begun_sound : HasFewSteps (begun m party c) → IsConsistent (begun m party c)
  begun_sound few =
      let o : IsConsistent m = k.sound (fewer_begun few) in
      record {
        whole = whole_kept m.capacity m.words m.places m.events begin o.whole (λ i. refl) (λ i. refl);
        knows = each_seat (λ (q : ℕ) (t : Seat). Knows m.capacity m.words m.places m.lost q (own q (drop t.first m.events)) t.stage
            × (t.first ≤ length m.events))
            (λ (q : ℕ) (t : Seat). Knows m.capacity m.words m.places (lost_begun m.lost c) q
            (own q (drop t.first (m.events ++ begin ∷ []))) t.stage)
            m.seats party begun_seat there (λ q. (o.knows q, k.began q))
            (λ q differs h. others_know c q (own q (drop (seat_at m.seats q).first (m.events ++ begin ∷ []))) (stage_at m.seats q)
            (subst (λ (es : List Event). Knows m.capacity m.words m.places m.lost q es (stage_at m.seats q))
            (sym (own_else_since q (seat_at m.seats q).first m.events begin h.1 differs)) h.0))
            (subst (λ (es : List Event). Knows m.capacity m.words m.places (lost_begun m.lost c) party es (call_begun m.capacity c))
            (sym first_own) (begun_knows c may));
        told = told_on m.capacity (is_locked m) (is_locked m) m.events begin m.finished (λ h. h) k.recorded.among o.told;
        named = λ i p is. stands_begun m party c idle p i (slice_index m.words.cells i) (o.named i p is);
        locked_by = λ locked. elim (o.locked_by locked) [
          | inl ended ↦ inl ended
          | inr going ↦ inr (
            going.0,
            subst (λ (seat : Seat). is_locking seat.stage ≡ true)
                (sym (seat_else m.seats party going.0 begun_seat (not_idle going.0 going.1))) going.1,
          )
        ];
        frees = each_seat (λ (q : ℕ) (t : Seat). FreesSoFar m.capacity m.decisions m.lost m.words.cells t.stage)
            (λ (q : ℕ) (t : Seat). FreesSoFar m.capacity m.decisions (lost_begun m.lost c) m.words.cells t.stage)
            m.seats party begun_seat there o.frees (λ q differs h. still_frees c (stage_at m.seats q) h) (begun_frees c may);
        freed = still_freed c o.freed;
      }
    where
      not_idle : (q : ℕ) → is_locking (stage_at m.seats q) ≡ true → q ≡ party → ⊥
      not_idle q locks same = idle_locks (stage_at m.seats party) idle (ap (λ (q : ℕ). is_locking (stage_at m.seats q)) (sym same) ∙ locks)

  begun_asked : IsAskedSoFar m.capacity m.decisions m.may_insist party (call_in_hand (call_begun m.capacity c)) (call_begun m.capacity c)
      (own party (drop (length m.events) (m.events ++ begin ∷ [])))
  begun_asked = subst (λ (o : Option Call). IsAskedSoFar m.capacity m.decisions m.may_insist party o (call_begun m.capacity c)
      (own party (drop (length m.events) (m.events ++ begin ∷ [])))) (sym (begun_call m.capacity c))
      (record { between = []; whole = first_own; goes = refl })

  still_asked : AreAsked m.capacity m.decisions m.may_insist (m.events ++ begin ∷ []) m.finished
  still_asked = ended_asked_on m.capacity m.decisions m.may_insist m.events begin m.finished k.recorded.among k.recorded.ended

  pub begun_keeps : IsKept (begun m party c)
  begun_keeps = record {
    small = k.small;
    cells = k.cells;
    places = k.places;
    began = each_seat (λ (q : ℕ) (t : Seat). t.first ≤ length m.events) (λ (q : ℕ) (t : Seat). t.first ≤ length (m.events ++ begin ∷ []))
        m.seats party begun_seat there k.began (λ q differs h. omega (arith, h, longer_begun)) (omega (arith, longer_begun));
    recorded = record {
      answered = answered_on (start_words m.capacity) m.words m.events begin refl k.recorded.answered;
      among = among_on m.events begin m.finished k.recorded.among;
      ended = still_asked;
      frees = each_frees m.capacity m.decisions m.may_insist (m.events ++ begin ∷ []) m.finished still_asked;
      going = asked_all m.capacity m.decisions m.may_insist m.seats m.events begin begun_seat there k.began k.recorded.going begun_asked;
    };
    counted = begun_counted m party c fit k.counted;
    sound = begun_sound;
  }

happens_keeps : (m : RobustSetState) (step : Move) → fits m step ≡ true → IsKept m → IsKept (happens m step)
happens_keeps m (Begin party c) fit k = begun_keeps m party c fit k
happens_keeps m (GoOn party) fit k = went_keeps m party false fit k (λ h. absurd (cc))
happens_keeps m (Insist party) fit k =
    let both : (m.may_insist ≡ true) × (fits m (GoOn party) ≡ true) = and_parts m.may_insist (fits m (GoOn party)) fit in
    went_keeps m party true both.1 k (λ h. both.0)

pub steps_keep : (m : RobustSetState) (step : Move) (r : Stepped) (n : RobustSetState) → StepsTo m step r n → IsKept m → IsKept n
steps_keep m step stepped.Went n h k = subst IsKept (sym h.2) (happens_keeps m step h.0 k)
steps_keep m step stepped.Finished n h k = subst IsKept (sym h.2) (happens_keeps m step h.0 k)
steps_keep m step stepped.Skipped n h k = subst IsKept (sym h.1) k
steps_keep m step stepped.NoMemory n h k = subst IsKept (sym h.1) k

-- the premise stood before a step, and a locked set stays locked
abbrev pub PassesTo : RobustSetState → RobustSetState → Type 0
PassesTo m n = HasFewSteps n → HasFewSteps m × StaysLocked m n

happens_goes : (m : RobustSetState) (step : Move) → fits m step ≡ true → IsKept m → PassesTo m (happens m step)
happens_goes m (Begin party c) fit k few = (fewer_begun m party c fit k few, λ h. h)
happens_goes m (GoOn party) fit k few = (fewer m party false fit k few, went_locked m party false fit k few)
happens_goes m (Insist party) fit k few =
    let both : (m.may_insist ≡ true) × (fits m (GoOn party) ≡ true) = and_parts m.may_insist (fits m (GoOn party)) fit in
    (fewer m party true both.1 k few, went_locked m party true both.1 k few)

pub steps_go : (m : RobustSetState) (step : Move) (r : Stepped) (n : RobustSetState) → StepsTo m step r n → IsKept m → PassesTo m n
steps_go m step stepped.Went n h k = subst (PassesTo m) (sym h.2) (happens_goes m step h.0 k)
steps_go m step stepped.Finished n h k = subst (PassesTo m) (sym h.2) (happens_goes m step h.0 k)
steps_go m step stepped.Skipped n h k = subst (PassesTo m) (sym h.1) (λ few. (few, λ h. h))
steps_go m step stepped.NoMemory n h k = subst (PassesTo m) (sym h.1) (λ few. (few, λ h. h))

-- what a machine shows
none_held : (x : Place) → IsQuiet x → one_if_held x ≡ 0
none_held place.Empty h = refl
none_held (place.Claimed p) h = refl
none_held (place.Counted p) h = refl
none_held (place.Held p) h = absurd h

pub orderly : (m : RobustSetState) → IsKept m → HasFewSteps m → IsOrderly m
orderly m k few =
    let s : IsConsistent m = k.sound few in
    record {
      one_holder = λ i p q h g. one_holds i p q m.events (s.whole.turns i) h g;
      holder = s.whole.holders;
      held = λ i p h. holder_is i p m.events (place_of m.places i) (s.whole.turns i) (s.whole.balance i) (s.whole.holders i) h;
      turns = s.whole.turns;
      cells = s.whole.cells;
      named = s.named;
      holds = s.whole.balance;
      locked_by = s.locked_by;
      none_out = λ locked i. omega (arith, s.whole.balance i, none i (eqb-true m.words.read lock_mark locked) s);
      told = s.told;
      going = λ party c answer is. subst (Knows m.capacity m.words m.places m.lost party
          (own party (drop (seat_at m.seats party).first m.events))) is (s.knows party);
      freed = s.freed;
    }
  where
    none : (i : ℕ) → m.words.read ≡ lock_mark → IsConsistent m → one_if_held (place_of m.places i) ≡ 0
    none i locked s = ⊎_elim
        (λ (below : i < m.capacity). none_held (place_of m.places i) (s.whole.quiet locked i below))
        (λ (past : m.capacity ≤ i). ap one_if_held (get_or_past m.places i place.Empty (omega (arith, past, k.places))))
        (cases_lt i m.capacity)

pub goes_on : (m n o : RobustSetState) → PassesTo m n → PassesTo n o → PassesTo m o
goes_on m n o first second few =
    let later : HasFewSteps n × StaysLocked n o = second few in
    let before : HasFewSteps m × StaysLocked m n = first later.0 in
    (before.0, λ h. later.1 (before.1 h))
