-- Every step of an index set's machine keeps what the machine keeps.
use Rattle.std.proofs.Common.{◌≡◌, ℕ, ◌+◌, ◌<◌, ◌≤◌, inl, inr, Bool, true, false, if◌then◌else◌, ◌==◌, ◌&&◌, nat_lt, Option, Some, None}
use Rattle.std.proofs.Common.{List, [], ◌∷◌, ◌++◌, length, drop, refl, sym, ◌∙◌, ap, subst, arith, length-append}
use Rattle.std.proofs.Math.Seq.{drop-append_seam}
use Rattle.std.proofs.lemmas.Bool.{and_parts, cases_eq, eqb-true, ltb-true}
use Rattle.iox_queues_steps.specs.Access.{answer_of, after_access}
use Rattle.iox_queues_steps.specs.declared.access.Access.TheVariants.{Local}
use Rattle.iox_queues_steps.specs.declared.schedule.Stepped.{Stepped}
use Rattle.iox_queues_steps.specs.declared.schedule.Stepped.TheVariants as stepped
use Rattle.iox_queues.specs.Recorded.{Answered}
use Rattle.iox_queues.specs.Told.{own}
use Rattle.iox_queues.proofs.OwnSteps.{own_more, own_more_since}
use Rattle.iox_queues.proofs.Recorded.{answered_on}
use Rattle.iox_queues.specs.declared.bits.machine.Event.{Event}
use Rattle.iox_index_steps.specs.Steps.{call_begun, call_is_idle, call_next, call_take}
use Rattle.iox_index_steps.specs.Changes.{times_given, times_taken}
use Rattle.iox_index_steps.specs.Told.{AreAsked, IsAskedSoFar, MoveNone, has_locked, is_locking, some_has_locked}
use Rattle.iox_index_steps.specs.Machine.{HasFewChanges, IndexSetState, IsOrderly, IsRecorded, StaysLocked, StepsTo, begun}
use Rattle.iox_index_steps.specs.Machine.{call_ended, fits, happens, holder_of, holders_after, is_locked, may_begin, seat_at, stage_at}
use Rattle.iox_index_steps.specs.Machine.{start_words, went}
use Rattle.iox_index_steps.specs.Kept.{HasCells, IsKept, IsConsistent, Knows}
use Rattle.iox_index_steps.specs.Machine.{one_if_holder}
use Rattle.iox_index_steps.specs.declared.call.Call.{Call}
use Rattle.iox_index_steps.specs.declared.call.Call.TheVariants as call
use Rattle.iox_index_steps.specs.declared.call.IndexCall.{IndexCall}
use Rattle.iox_index_steps.specs.declared.machine.Move.{Move}
use Rattle.iox_index_steps.specs.declared.machine.Move.TheVariants.{Begin, GoOn}
use Rattle.iox_index_steps.specs.declared.state.Seat.{Seat}
use Rattle.iox_index_steps.proofs.Places.{held_within, holder_is, none_left}
use Rattle.iox_index_steps.proofs.Whole.{locked_free, whole_kept}
use Rattle.iox_index_steps.proofs.Own.{MadeStep, leaves_all}
use Rattle.iox_index_steps.proofs.Going.{made}
use Rattle.iox_index_steps.proofs.Ending.{among_append, among_on, each_seat, ended_among, ended_told, knows_all, next_cells, same_cells}
use Rattle.iox_index_steps.proofs.Ending.{same_holders, told_append, told_on}
use Rattle.iox_index_steps.proofs.Asked.{asked_all, asked_append, asked_next, call_asked, ended_asked_on}
use Rattle.iox_index_steps.proofs.Brief.{few_before}
use Rattle.iox_index_steps.proofs.OfCalls.{begun_counted, went_counted}
use Rattle.iox_index_steps.specs.declared.machine.Finished.{Finished}
use Rattle.iox_index_steps.specs.Machine.{IsLockedByRelease}
use Rattle.iox_index_steps.proofs.Seats.{seat_here, seat_else}
use Rattle.iox_index_steps.specs.declared.call.IndexCall.TheVariants.{Idle, Acquire, Follow, Take, Release, Link, Give, Done}
use Rattle.std.proofs.Common.{◌||◌}

-- no release is in hand where no call is
idle_locks : (stage : IndexCall) → call_is_idle stage ≡ true → is_locking stage ≡ true → ⊥
idle_locks Idle idle locks = cc
idle_locks (Acquire capacity) idle locks = cc
idle_locks (Follow capacity word) idle locks = cc
idle_locks (Take capacity word next) idle locks = cc
idle_locks (Release index mode) idle locks = cc
idle_locks (Link index mode word) idle locks = cc
idle_locks (Give index mode word) idle locks = cc
idle_locks (Done c answer) idle locks = cc

or_on : (b c d : Bool) → (c ≡ true → d ≡ true) → (b || c) ≡ true → (b || d) ≡ true
or_on true c d goes h = refl
or_on false c d goes h = goes h

-- a release that locked stays among those that ended
locked_among : (xs ys : List Finished) → some_has_locked xs ≡ true → some_has_locked (xs ++ ys) ≡ true
locked_among [] ys h = absurd (cc)
locked_among (x ∷ xs) ys h = or_on (has_locked x.call x.answer) (some_has_locked xs) (some_has_locked (xs ++ ys)) (locked_among xs ys) h

or_true : (b : Bool) → (b || true) ≡ true
or_true true = refl
or_true false = refl

-- and one that ends is among them
locked_ended : (xs : List Finished) (party first last : ℕ) (stage : IndexCall) → is_locking stage ≡ true
    → some_has_locked (xs ++ call_ended party first last stage) ≡ true
locked_ended [] party first last (Done c answer) h = ap (λ (b : Bool). b || false) h
locked_ended [] party first last Idle h = absurd (cc)
locked_ended [] party first last (Acquire capacity) h = absurd (cc)
locked_ended [] party first last (Follow capacity word) h = absurd (cc)
locked_ended [] party first last (Take capacity word next) h = absurd (cc)
locked_ended [] party first last (Release index mode) h = absurd (cc)
locked_ended [] party first last (Link index mode word) h = absurd (cc)
locked_ended [] party first last (Give index mode word) h = absurd (cc)
locked_ended (x ∷ xs) party first last stage h = or_on (has_locked x.call x.answer) true
    (some_has_locked (xs ++ call_ended party first last stage)) (λ yes. locked_ended xs party first last stage h)
    (or_true (has_locked x.call x.answer))

-- a set that a release locked was locked by one after a party went on
locked_on : (m : IndexSetState) (party : ℕ) → party < length m.seats → IsLockedByRelease m → IsLockedByRelease (went m party)
locked_on m party within (inl ended) = inl (locked_among m.finished
    (call_ended party (seat_at m.seats party).first (length m.events) (stage_at m.seats party)) ended)
locked_on m party within (inr going) = elim (cases_eq going.0 party) [
  | inl same ↦ inl (locked_ended m.finished party (seat_at m.seats party).first (length m.events) (stage_at m.seats party)
      (ap (λ (q : ℕ). is_locking (stage_at m.seats q)) (sym same) ∙ going.1))
  | inr differs ↦ inr (
    going.0,
    subst (λ (seat : Seat). is_locking seat.stage ≡ true)
        (sym (seat_else m.seats party going.0 _ differs)) going.1,
  )
]

-- a party goes on
module _ (m : IndexSetState) (party : ℕ) (fit : fits m (GoOn party) ≡ true) (k : IsKept m) where
  abbrev stage : IndexCall
  stage = stage_at m.seats party

  abbrev answer : ℕ
  answer = answer_of m.words (call_next stage)

  abbrev event : Event
  event = record { party = party; access = call_next stage; answer = answer }

  abbrev seat : Seat
  seat = record { stage = call_take stage answer; first = (seat_at m.seats party).first }

  within : party < length m.seats
  within = ltb-true party (length m.seats) (and_parts (nat_lt party (length m.seats)) _ fit).0

  size : length (after_access m.words (call_next stage)).cells ≡ length m.words.cells
  size = same_cells m.words stage

  went_made : (few : HasFewChanges m)
      → MadeStep party (seat_at m.seats party).first m.words (after_access m.words (call_next stage)) m.holders
      (holders_after m.holders party stage answer) m.events event (call_take stage answer)
  went_made few =
      let s : IsConsistent m = k.sound few in
      made party (seat_at m.seats party).first m.words m.holders m.events s.whole k.few k.size (k.began party) stage (k.cells party)
      (few.going party) (s.knows party)

  went_locked : HasFewChanges m → is_locked m ≡ true → is_locked (went m party) ≡ true
  went_locked few = ((went_made few).leaves (party + 1) (λ same. omega (arith, same))).locked

  went_sound : HasFewChanges (went m party) → IsConsistent (went m party)
  went_sound after =
      let few : HasFewChanges m = few_before m (GoOn party) fit k.began k.recorded.among after in
      let s : IsConsistent m = k.sound few in
      let step : MadeStep party (seat_at m.seats party).first m.words (after_access m.words (call_next stage)) m.holders
      (holders_after m.holders party stage answer) m.events event (call_take stage answer) = went_made few in
      record {
        whole = step.whole;
        knows = knows_all m.words (went m party).words m.holders (went m party).holders m.seats m.events event party seat within refl
            k.began s.knows step.leaves step.knows;
        told = told_append (length (went m party).words.cells) (is_locked (went m party)) (went m party).events m.finished
            (call_ended party (seat_at m.seats party).first (length m.events) stage)
            (told_on (length m.words.cells) (length (went m party).words.cells) (is_locked m) (is_locked (went m party)) m.events event
            m.finished size (went_locked few) k.recorded.among s.told)
            (ended_told m.words m.holders (length (went m party).words.cells) (is_locked (went m party)) m.events event party
            (seat_at m.seats party).first stage size (went_locked few) (s.knows party));
        locked_by = λ locked. elim (step.locks locked) [
          | inl before ↦ locked_on m party within (s.locked_by before)
          | inr now ↦ inr (party, subst (λ (seat : Seat). is_locking seat.stage ≡ true) (sym (seat_here m.seats party seat within)) now)
        ];
      }

  went_recorded : IsRecorded (went m party)
  went_recorded = record {
    answered = subst (λ (n : ℕ). Answered (start_words n) (went m party).events (went m party).words) (sym size)
        (answered_on (start_words (length m.words.cells)) m.words m.events event refl k.recorded.answered);
    among = among_append (went m party).events m.finished (call_ended party (seat_at m.seats party).first (length m.events) stage)
        (among_on m.events event m.finished k.recorded.among)
        (ended_among m.events event party (seat_at m.seats party).first stage (k.began party));
    ended = subst (λ (n : ℕ). AreAsked n (went m party).events (went m party).finished) (sym size)
        (asked_append (length m.words.cells) (went m party).events m.finished
        (call_ended party (seat_at m.seats party).first (length m.events) stage)
        (ended_asked_on (length m.words.cells) m.events event m.finished k.recorded.among k.recorded.ended)
        (call_asked (length m.words.cells) party (seat_at m.seats party).first m.events event stage (k.recorded.going party)));
    going = subst (λ (n : ℕ). (q : ℕ) → IsAskedSoFar n q (stage_at (went m party).seats q)
        (own q (drop (seat_at (went m party).seats q).first (went m party).events))) (sym size)
        (asked_all (length m.words.cells) m.seats m.events event party seat within refl k.began k.recorded.going
        (subst (λ (es : List Event). IsAskedSoFar (length m.words.cells) party (call_take stage answer) es)
        (sym (own_more_since party (seat_at m.seats party).first m.events event (k.began party) refl))
        (asked_next (length m.words.cells) party (own party (drop (seat_at m.seats party).first m.events)) event stage refl
        (k.recorded.going party))));
  }

  went_keeps : IsKept (went m party)
  went_keeps = record {
    few = omega (arith, k.few, size);
    size = same_holders m.holders party answer stage ∙ k.size ∙ sym size;
    began = each_seat (λ (s : Seat). s.first ≤ length m.events) (λ (s : Seat). s.first ≤ length (m.events ++ event ∷ [])) m.seats party
        seat within k.began
        (λ s h. omega (arith, h, length-append m.events (event ∷ []))) (omega (arith, k.began party, length-append m.events (event ∷ [])));
    cells = each_seat (λ (s : Seat). HasCells (length m.words.cells) s.stage)
        (λ (s : Seat). HasCells (length (went m party).words.cells) s.stage) m.seats party seat within k.cells
        (λ s h. subst (λ (n : ℕ). HasCells n s.stage) (sym size) h)
        (subst (λ (n : ℕ). HasCells n (call_take stage answer)) (sym size)
        (next_cells (length m.words.cells) answer stage (k.cells party)));
    recorded = went_recorded;
    counted = went_counted m party fit k.counted;
    sound = went_sound;
  }

-- a party begins a call
module _ (m : IndexSetState) (party : ℕ) (c : Call) (fit : fits m (Begin party c) ≡ true) (k : IsKept m) where
  abbrev begin : Event
  begin = record { party = party; access = Local; answer = 0 }

  abbrev begun_seat : Seat
  begun_seat = record { stage = call_begun (length m.words.cells) c; first = length m.events }

  parts : (nat_lt party (length m.seats) ≡ true) × ((call_is_idle (stage_at m.seats party) && may_begin m.holders party c) ≡ true)
  parts = and_parts (nat_lt party (length m.seats)) (call_is_idle (stage_at m.seats party) && may_begin m.holders party c) fit

  there : party < length m.seats
  there = ltb-true party (length m.seats) parts.0

  may : may_begin m.holders party c ≡ true
  may = (and_parts (call_is_idle (stage_at m.seats party)) (may_begin m.holders party c) parts.1).1

  first_own : own party (drop (length m.events) (m.events ++ begin ∷ [])) ≡ begin ∷ []
  first_own = ap (own party) (drop-append_seam m.events (begin ∷ [])) ∙ own_more party [] begin refl

  idle : call_is_idle (stage_at m.seats party) ≡ true
  idle = (and_parts (call_is_idle (stage_at m.seats party)) (may_begin m.holders party c) parts.1).0

  none_yet : MoveNone (own party (drop (length m.events) (m.events ++ begin ∷ [])))
  none_yet = subst MoveNone (sym first_own) (λ j. omega arith, λ j. omega arith)

  begun_knows : (c : Call) → may_begin m.holders party c ≡ true
      → Knows m.words m.holders (m.events ++ begin ∷ []) party (length m.events) (call_begun (length m.words.cells) c)
  begun_knows call.Acquire ok = none_yet
  begun_knows (call.Release index mode) ok = (none_yet, holder_is (holder_of m.holders index) party ok)

  begun_cells : (c : Call) → may_begin m.holders party c ≡ true → HasCells (length m.words.cells) (call_begun (length m.words.cells) c)
  begun_cells call.Acquire ok = refl
  begun_cells (call.Release index mode) ok
      = omega (arith, held_within m.holders index party (holder_is (holder_of m.holders index) party ok), k.size)

  begun_sound : HasFewChanges (begun m party c) → IsConsistent (begun m party c)
  begun_sound after =
      let s : IsConsistent m = k.sound (few_before m (Begin party c) fit k.began k.recorded.among after) in
      record {
        whole = whole_kept m.holders m.events begin refl (λ j. refl) (λ j. refl) m.words s.whole;
        knows = knows_all m.words m.words m.holders m.holders m.seats m.events begin party begun_seat there refl k.began s.knows
            (λ q differs. leaves_all q m.words m.holders begin) (begun_knows c may);
        told = told_on (length m.words.cells) (length m.words.cells) (is_locked m) (is_locked m) m.events begin m.finished refl (λ h. h)
            k.recorded.among s.told;
        locked_by = λ locked. elim (s.locked_by locked) [
          | inl ended ↦ inl ended
          | inr going ↦ inr (
            going.0,
            subst (λ (seat : Seat). is_locking seat.stage ≡ true)
                (sym (seat_else m.seats party going.0 begun_seat (not_idle going.0 going.1))) going.1,
          )
        ];
      }
    where
      not_idle : (q : ℕ) → is_locking (stage_at m.seats q) ≡ true → q ≡ party → ⊥
      not_idle q locks same = idle_locks (stage_at m.seats party) idle (ap (λ (q : ℕ). is_locking (stage_at m.seats q)) (sym same) ∙ locks)

  begun_asked : (c : Call) → IsAskedSoFar (length m.words.cells) party (call_begun (length m.words.cells) c)
      (own party (drop (length m.events) (m.events ++ begin ∷ [])))
  begun_asked call.Acquire = record { between = []; whole = first_own; goes = refl }
  begun_asked (call.Release index mode) = record { between = []; whole = first_own; goes = refl }

  begun_recorded : IsRecorded (begun m party c)
  begun_recorded = record {
    answered = answered_on (start_words (length m.words.cells)) m.words m.events begin refl k.recorded.answered;
    among = among_on m.events begin m.finished k.recorded.among;
    ended = ended_asked_on (length m.words.cells) m.events begin m.finished k.recorded.among k.recorded.ended;
    going = asked_all (length m.words.cells) m.seats m.events begin party begun_seat there refl k.began k.recorded.going (begun_asked c);
  }

  begun_keeps : IsKept (begun m party c)
  begun_keeps = record {
    few = k.few;
    size = k.size;
    began = each_seat (λ (s : Seat). s.first ≤ length m.events) (λ (s : Seat). s.first ≤ length (m.events ++ begin ∷ [])) m.seats party
        begun_seat there k.began
        (λ s h. omega (arith, h, length-append m.events (begin ∷ []))) (omega (arith, length-append m.events (begin ∷ [])));
    cells = each_seat (λ (s : Seat). HasCells (length m.words.cells) s.stage) (λ (s : Seat). HasCells (length m.words.cells) s.stage)
        m.seats party begun_seat there k.cells (λ s h. h) (begun_cells c may);
    recorded = begun_recorded;
    counted = begun_counted m party c fit k.counted;
    sound = begun_sound;
  }

happens_keeps : (m : IndexSetState) (step : Move) → fits m step ≡ true → IsKept m → IsKept (happens m step)
happens_keeps m (Begin party c) fit k = begun_keeps m party c fit k
happens_keeps m (GoOn party) fit k = went_keeps m party fit k

pub steps_keep : (m : IndexSetState) (step : Move) (r : Stepped) (n : IndexSetState) → StepsTo m step r n → IsKept m → IsKept n
steps_keep m step stepped.Went n h k = subst IsKept (sym h.2) (happens_keeps m step h.0 k)
steps_keep m step stepped.Finished n h k = subst IsKept (sym h.2) (happens_keeps m step h.0 k)
steps_keep m step stepped.Skipped n h k = subst IsKept (sym h.1) k
steps_keep m step stepped.NoMemory n h k = subst IsKept (sym h.1) k

-- the premise stood before a step, and a locked set stays locked
abbrev pub PassesTo : IndexSetState → IndexSetState → Type 0
PassesTo m n = HasFewChanges n → HasFewChanges m × StaysLocked m n

happens_goes : (m : IndexSetState) (step : Move) → fits m step ≡ true → IsKept m → PassesTo m (happens m step)
happens_goes m (Begin party c) fit k few = (few_before m (Begin party c) fit k.began k.recorded.among few, λ h. h)
happens_goes m (GoOn party) fit k few = let before : HasFewChanges m
    = few_before m (GoOn party) fit k.began k.recorded.among few in (before, went_locked m party fit k before)

pub steps_go : (m : IndexSetState) (step : Move) (r : Stepped) (n : IndexSetState) → StepsTo m step r n → IsKept m → PassesTo m n
steps_go m step stepped.Went n h k = subst (PassesTo m) (sym h.2) (happens_goes m step h.0 k)
steps_go m step stepped.Finished n h k = subst (PassesTo m) (sym h.2) (happens_goes m step h.0 k)
steps_go m step stepped.Skipped n h k = subst (PassesTo m) (sym h.1) (λ few. (few, λ h. h))
steps_go m step stepped.NoMemory n h k = subst (PassesTo m) (sym h.1) (λ few. (few, λ h. h))

happens_length : (m : IndexSetState) (step : Move) → length (happens m step).words.cells ≡ length m.words.cells
happens_length m (Begin party c) = refl
happens_length m (GoOn party) = same_cells m.words (stage_at m.seats party)

pub steps_length : (m : IndexSetState) (step : Move) (r : Stepped) (n : IndexSetState) → StepsTo m step r n
    → length n.words.cells ≡ length m.words.cells
steps_length m step stepped.Went n h = ap (λ (x : IndexSetState). length x.words.cells) h.2 ∙ happens_length m step
steps_length m step stepped.Finished n h = ap (λ (x : IndexSetState). length x.words.cells) h.2 ∙ happens_length m step
steps_length m step stepped.Skipped n h = ap (λ (x : IndexSetState). length x.words.cells) h.1
steps_length m step stepped.NoMemory n h = ap (λ (x : IndexSetState). length x.words.cells) h.1

-- what a sound machine shows
out_is_held : (taken given : ℕ) (p : ℕ) (holder : Option ℕ) → taken ≡ given + one_if_holder p holder → given < taken → holder ≡ Some p
out_is_held taken given p None is out = absurd (omega arith)
out_is_held taken given p (Some q) is out = test (q == p) refl is
  where
    test : (b : Bool) → (q == p) ≡ b → taken ≡ given + (if b then 1 else 0) → Some q ≡ Some p
    test true e is = ap (λ (x : ℕ). Some x) (eqb-true q p e)
    test false e is = absurd (omega arith)

pub orderly : (m : IndexSetState) → IsKept m → HasFewChanges m → IsOrderly m
orderly m k few =
    let s : IsConsistent m = k.sound few in
    record {
      one_holder = λ i p q outp outq.
          let its : holder_of m.holders i ≡ Some p
          = out_is_held (times_taken i (own p m.events)) (times_given i (own p m.events)) p (holder_of m.holders i)
          (s.whole.each p i) outp in
          let others : holder_of m.holders i ≡ Some q
          = out_is_held (times_taken i (own q m.events)) (times_given i (own q m.events)) q (holder_of m.holders i)
          (s.whole.each q i) outq in
          let same : Some p ≡ Some q = sym its ∙ others in cc;
      turns = s.whole.turns;
      holds = s.whole.each;
      locked_by = s.locked_by;
      none_out = λ locked i. omega
          (arith, s.whole.taken i, none_left m.holders i (locked_free m.words m.holders m.events s.whole k.few k.size locked));
      told = s.told;
      going = λ party c answer is. subst (Knows m.words m.holders m.events party (seat_at m.seats party).first) is (s.knows party);
    }

pub goes_on : (m n o : IndexSetState) → PassesTo m n → PassesTo n o → PassesTo m o
goes_on m n o first second few =
    let later : HasFewChanges n × StaysLocked n o = second few in
    let before : HasFewChanges m × StaysLocked m n = first later.0 in
    (before.0, λ h. later.1 (before.1 h))
