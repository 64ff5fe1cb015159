-- Every step of a container's machine keeps what the machine keeps.
use Rattle.std.proofs.Common.{◌≡◌, ℕ, ◌+◌, ◌*◌, ◌<◌, ◌≤◌, inl, Bool, true, false, not, if◌then◌else◌, ◌==◌, ◌&&◌, nat_lt, Option, None}
use Rattle.std.proofs.Common.{Some}
use Rattle.std.proofs.Common.{List, [], ◌∷◌, ◌++◌, length, slice_index, take, drop, refl, sym, ◌∙◌, ap, subst, arith, length-append}
use Rattle.std.proofs.Common.{mod-eq_of_lt}
use Rattle.std.specs.Global.{Vec}
use Rattle.std.proofs.Math.Seq.{drop-append_seam, take-append_seam}
use Rattle.std.proofs.lemmas.Bool.{and_parts, eqb-true, ltb-true}
use Rattle.iox_queues_steps.specs.Access.{RingWords, answer_of, word_of}
use Rattle.iox_queues_steps.specs.declared.access.Access.TheVariants.{Local}
use Rattle.iox_queues_steps.specs.declared.access.Word.TheVariants.{Cell}
use Rattle.iox_queues_steps.specs.declared.schedule.Stepped.{Stepped}
use Rattle.iox_queues_steps.specs.declared.schedule.Stepped.TheVariants as stepped
use Rattle.iox_queues.specs.Recorded.{Answered}
use Rattle.iox_queues.specs.Told.{own}
use Rattle.iox_queues.specs.Values.{table_value}
use Rattle.iox_queues.specs.declared.bits.machine.Event.{Event}
use Rattle.iox_queues.proofs.OwnSteps.{own_else_since, own_more, own_more_since}
use Rattle.iox_queues.proofs.Recorded.{answered_on}
use Rattle.iox_robust_steps.specs.ContainerAsked.{AreMembersAsked}
use Rattle.iox_robust_steps.specs.ContainerSteps.{answer_at, is_clearing, is_shown, member_begun, member_in_hand, member_is_idle}
use Rattle.iox_robust_steps.specs.ContainerSteps.{member_next}
use Rattle.iox_robust_steps.specs.ContainerSteps.{member_take}
use Rattle.iox_robust_steps.specs.ContainerMachine.{ContainerParts, HasFewMoves, MemberStepsTo, asked_at, asked_by, empty_words, is_look}
use Rattle.iox_robust_steps.specs.ContainerMachine.{may_ask, may_call, member_begins, member_ended, member_fits, member_happens}
use Rattle.iox_robust_steps.specs.ContainerMachine.{member_seat, member_stage, member_went, seat_after, width_of}
use Rattle.iox_robust_steps.specs.ContainerTold.{times_counted}
use Rattle.iox_robust_steps.specs.ContainerOfSet.{AnsweredCall, answered_to, asked_for, asked_so_far}
use Rattle.iox_robust_steps.specs.ContainerRecovering.{IsCalm}
use Rattle.iox_robust_steps.specs.ContainerStays.{LetsPassSoFar}
use Rattle.iox_robust_steps.specs.ContainerInside.{inside_after}
use Rattle.iox_robust_steps.specs.ContainerKept.{FitsWhose, HasNoneLost, KnowsMember, MembersAreKept, MembersAreSound, ShownSoFar}
use Rattle.iox_robust_steps.specs.Kept.{IsConsistent}
use Rattle.iox_robust_steps.specs.Changes.{is_owner}
use Rattle.iox_robust_steps.specs.Machine.{HasFewSteps, begun, is_holder, is_lost, may_begin, place_of, seat_at, stage_at}
use Rattle.iox_robust_steps.specs.Machine as robust
use Rattle.iox_robust_steps.specs.Steps.{call_begun, call_in_hand, call_is_idle}
use Rattle.iox_robust_steps.specs.declared.call.Call.TheVariants as set_call
use Rattle.iox_robust_steps.specs.declared.call.RobustCall.{RobustCall}
use Rattle.iox_robust_steps.specs.declared.container.call.ContainerCall.{ContainerCall}
use Rattle.iox_robust_steps.specs.declared.container.call.ContainerCall.TheVariants as stage
use Rattle.iox_robust_steps.specs.declared.container.call.MemberCall.{MemberCall}
use Rattle.iox_robust_steps.specs.declared.container.call.MemberCall.TheVariants as call
use Rattle.iox_robust_steps.specs.declared.container.MemberMove.{MemberMove}
use Rattle.iox_robust_steps.specs.declared.container.MemberMove.TheVariants.{Begin, GoOn}
use Rattle.iox_robust_steps.specs.declared.container.state.MemberSeat.{MemberSeat}
use Rattle.iox_robust_steps.specs.declared.machine.Move.TheVariants as set_move
use Rattle.iox_robust_steps.specs.declared.state.Place.{Place}
use Rattle.iox_robust_steps.specs.declared.state.Place.TheVariants as place
use Rattle.iox_robust_steps.specs.declared.state.Seat.{Seat}
use Rattle.iox_robust_steps.proofs.ContainerAsked.{SoFar, member_asked_first, member_asked_next, member_call_asked}
use Rattle.iox_robust_steps.proofs.ContainerAsked.{members_asked_append}
use Rattle.iox_robust_steps.proofs.ContainerAsked.{members_asked_on}
use Rattle.iox_robust_steps.proofs.ContainerGoing.{MemberMade, leaves_all_members, leaves_same}
use Rattle.iox_robust_steps.proofs.ContainerLeaves.{LeavesMembers, knows_member_else}
use Rattle.iox_robust_steps.proofs.ContainerOfCalls.{member_begun_counted, member_went_counted}
use Rattle.iox_robust_steps.proofs.ContainerOfSet.{AsksFor, else_asks, own_asks}
use Rattle.iox_robust_steps.proofs.ContainerRuns.{KnowsAt, SetStays, acquires, asked, either_seat, ended_told, makes, saw_on, stays}
use Rattle.iox_robust_steps.proofs.ContainerRuns.{told_append, told_on}
use Rattle.iox_robust_steps.proofs.ContainerEnds.{was_append, was_ended, was_on}
use Rattle.iox_robust_steps.proofs.ContainerSeats.{each_member_seat}
use Rattle.iox_robust_steps.proofs.ContainerShown.{KeepsLost, KnowsIn, all_begun, count_stays, knows_in, showed_append, showed_ended}
use Rattle.iox_robust_steps.proofs.ContainerShown.{showed_on, shown_next, shown_on}
use Rattle.iox_robust_steps.proofs.ContainerInside.{calm_more, inside_more, till_out_more}
use Rattle.iox_robust_steps.proofs.ContainerStaying.{goes}
use Rattle.iox_robust_steps.proofs.ContainerStays.{calm_step, each_append, each_on, ended_passes, own_passes}
use Rattle.iox_robust_steps.proofs.ContainerWords.{count_position, more_counted}
use Rattle.iox_robust_steps.proofs.Ending.{same_cells}
use Rattle.iox_robust_steps.proofs.Seats.{seat_here}

-- what a party knows after a step of another one
module _ (m x : ContainerParts) (n party q : ℕ) (e : Event) (t : MemberSeat) (differs : party ≡ q → ⊥) (its : e.party ≡ party)
    (same_values : x.values ≡ m.values) (longer : x.events ≡ m.events ++ e ∷ [])
    (same_stage : stage_at x.indices.seats q ≡ stage_at m.indices.seats q)
    (leaves : LeavesMembers n (width_of m) q m.words.cells x.words.cells m.indices x.indices) where
  pub others_know : KnowsAt n m q t × (t.first ≤ length m.events) → KnowsAt n x q t
  others_know h =
      subst (λ (values : List (Vec ℕ)). KnowsMember n (length (table_value values 0)) values (empty_words n (length (table_value values 0)))
      x.words.cells x.indices q (stage_at x.indices.seats q) t.first x.events (own q (drop t.first x.events)) t.stage)
      (sym same_values)
      (subst (λ (s : RobustCall). KnowsMember n (width_of m) m.values (empty_words n (width_of m)) x.words.cells x.indices q s
      t.first
      x.events (own q (drop t.first x.events)) t.stage) (sym same_stage)
      (subst (λ (es : List Event). KnowsMember n (width_of m) m.values (empty_words n (width_of m)) x.words.cells x.indices q
      (stage_at m.indices.seats q) t.first es (own q (drop t.first es)) t.stage) (sym longer)
      (subst (λ (mine : List Event). KnowsMember n (width_of m) m.values (empty_words n (width_of m)) x.words.cells x.indices q
      (stage_at m.indices.seats q) t.first (m.events ++ e ∷ []) mine t.stage)
      (sym (own_else_since q t.first m.events e h.1 (λ same. differs (sym its ∙ same))))
      (knows_member_else n (width_of m) (empty_words n (width_of m)) t.first m.events e m.values q m.words.cells x.words.cells
      m.indices x.indices (stage_at m.indices.seats q) (own q (drop t.first m.events)) leaves t.stage h.0))))

-- a copy looks at the count of changes
pub look_write : (n width : ℕ) (values : List (Vec ℕ)) (words : RingWords) (t : ContainerCall) → is_look t ≡ true
    → answer_of words (member_next n width values t) ≡ words.write
look_write n width values words stage.Idle h = absurd (cc)
look_write n width values words (stage.Enter number owner) h = absurd (cc)
look_write n width values words (stage.Fill number owner index next) h = absurd (cc)
look_write n width values words (stage.Show number owner index seen) h = absurd (cc)
look_write n width values words (stage.Sink owner index mode) h = absurd (cc)
look_write n width values words (stage.Hide owner index mode seen) h = absurd (cc)
look_write n width values words (stage.Leave owner index mode) h = absurd (cc)
look_write n width values words (stage.Drop owner index mode) h = absurd (cc)
look_write n width values words (stage.Count c a) h = absurd (cc)
look_write n width values words (stage.Raise c a seen) h = absurd (cc)
look_write n width values words stage.Look h = refl
look_write n width values words (stage.Visit i) h = absurd (cc)
look_write n width values words (stage.Gather i seen next) h = absurd (cc)
look_write n width values words (stage.Search o j mode) h = absurd (cc)
look_write n width values words (stage.Watch o j mode i) h = absurd (cc)
look_write n width values words (stage.Ask o j mode i seen) h = absurd (cc)
look_write n width values words (stage.Expel o j mode i seen) h = absurd (cc)
look_write n width values words (stage.Clear o j mode i) h = absurd (cc)
look_write n width values words (stage.Close o j mode) h = absurd (cc)
look_write n width values words (stage.Done c a) h = absurd (cc)

-- a party goes on
module _ (m : ContainerParts) (party : ℕ) (fit : member_fits m (GoOn party) ≡ true) (k : MembersAreKept m) where
  abbrev n : ℕ
  n = m.indices.capacity

  abbrev seat : MemberSeat
  seat = member_seat m.seats party

  abbrev t : ContainerCall
  t = seat.stage

  abbrev answer : ℕ
  answer = answer_of m.words (member_next n (width_of m) m.values t)

  abbrev finds : Bool
  finds = is_clearing (stage_at (asked_at m.indices party t).seats party)

  abbrev next : ContainerCall
  next = member_take n (width_of m) seat.saw (answer_at (stage_at m.indices.seats party)) finds t answer

  abbrev e : Event
  e = record { party = party; access = member_next n (width_of m) m.values t; answer = answer }

  abbrev looks : Bool
  looks = is_look t && not (answer == seat.saw)

  abbrev x : ContainerParts
  x = member_went m party

  parts : (nat_lt party (length m.seats) ≡ true) × (may_ask m.indices party t ≡ true)
  parts = and_parts (nat_lt party (length m.seats)) (may_ask m.indices party t) fit

  there : party < length m.seats
  there = ltb-true party (length m.seats) parts.0

  set_stays : SetStays m party k (asked_at m.indices party t)
  set_stays = asked m party k t parts.1

  longer : length (m.events ++ e ∷ []) ≡ length m.events + 1
  longer = length-append m.events (e ∷ [])

  abbrev Made : Type 0
  Made = MemberMade n (width_of m) party m.values (empty_words n (width_of m)) m.words x.words m.indices x.indices
      (stage_at x.indices.seats party) seat.first m.events (own party (drop seat.first m.events)) e next

  went_sound : HasFewMoves x → MembersAreSound n x
  went_sound few =
      let s : MembersAreSound n m = k.sound (omega (arith, few, longer)) in
      let made : MemberMade n (width_of m) party m.values (empty_words n (width_of m)) m.words x.words m.indices x.indices
      (stage_at x.indices.seats party) seat.first m.events (own party (drop seat.first m.events)) e next
      = makes m party k (omega (arith, few, longer)) s t parts.1 (s.knows party) in
      record {
        write = omega (arith, made.write, s.write, more_counted m.events e);
        low = λ i within. omega (arith, made.low i within, longer);
        out = made.out;
        knows = each_member_seat (λ (q : ℕ) (t : MemberSeat). KnowsAt n m q t × (t.first ≤ length m.events))
            (λ (q : ℕ) (t : MemberSeat). KnowsAt n x q t) m.seats party (seat_after seat next answer (length m.events)) there
            (λ q. (s.knows q, k.began q))
            (λ q differs h. others_know m x n party q e (member_seat m.seats q) differs refl refl refl (set_stays.others q differs)
            (made.leaves q differs) h)
            (either_seat (KnowsAt n x party) looks (record { stage = next; first = seat.first; saw = answer; since = length m.events })
            (record seat { stage = next }) (here made.knows) (here made.knows));
        told = told_append n (width_of m) m.values (empty_words n (width_of m)) (m.events ++ e ∷ []) m.finished
            (member_ended party seat.first (length m.events) t)
            (told_on n (width_of m) m.values (empty_words n (width_of m)) m.events e m.finished s.told)
            (ended_told n (width_of m) m.values (empty_words n (width_of m)) m.words.cells m.indices party seat.first m.events e
            (stage_at m.indices.seats party) (k.began party) t (s.knows party));
        saw = each_member_seat (λ (q : ℕ) (t : MemberSeat). (t.saw ≡ times_counted (take t.since m.events)) × (t.since ≤ length m.events))
            (λ (q : ℕ) (t : MemberSeat). t.saw ≡ times_counted (take t.since x.events)) m.seats party
            (seat_after seat next answer (length m.events)) there (λ q. (s.saw q, k.since q))
            (λ q differs h. saw_on m e (member_seat m.seats q) h.1 h.0) (saw_here s looks refl);
        asks = each_member_seat
            (λ (q : ℕ) (t : MemberSeat). answered_to q m.indices.finished ≡ asked_for q m.finished ++ asked_so_far t.stage)
            (λ (q : ℕ) (t : MemberSeat). answered_to q x.indices.finished ≡ asked_for q x.finished ++ asked_so_far t.stage) m.seats party
            (seat_after seat next answer (length m.events)) there s.asks
            (λ q differs h. else_asks m.indices party q seat.first (length m.events) t (member_stage m.seats q) m.finished differs h)
            (either_seat
            (λ (t : MemberSeat). answered_to party x.indices.finished ≡ asked_for party x.finished ++ asked_so_far t.stage) looks
            (record { stage = next; first = seat.first; saw = answer; since = length m.events }) (record seat { stage = next })
            (asks_here few s) (asks_here few s));
        stays = λ i within. till_out_more n (width_of m) i None m.events e (s.stays i within)
            (goes m party k (omega (arith, few, longer)) s t parts.1 (s.knows party) i within (inside_after i None m.events)
            (s.inside i within)).0;
        inside = λ i within. subst (λ (o : Option ℕ). FitsWhose o (slice_index x.words.cells i) (place_of x.indices.places i))
            (sym (inside_more i None m.events e))
            (goes m party k (omega (arith, few, longer)) s t parts.1 (s.knows party) i within (inside_after i None m.events)
            (s.inside i within)).1;
        passes = each_append n (m.events ++ e ∷ []) m.finished (member_ended party seat.first (length m.events) t)
            (each_on n (width_of m) m.values (empty_words n (width_of m)) m.events e m.finished s.told s.passes)
            (ended_passes n party seat.first m.events e t (s.passing party));
        passing = each_member_seat (λ (q : ℕ) (t : MemberSeat). LetsPassSoFar n t.stage (own q (drop t.first m.events))
            × (t.first ≤ length m.events))
            (λ (q : ℕ) (t : MemberSeat). LetsPassSoFar n t.stage (own q (drop t.first x.events))) m.seats party
            (seat_after seat next answer (length m.events)) there (λ q. (s.passing q, k.began q))
            (λ q differs g. subst (λ (es : List Event). LetsPassSoFar n (member_stage m.seats q) es)
            (sym (own_else_since q (member_seat m.seats q).first m.events e g.1 differs)) g.0)
            (either_seat (λ (t : MemberSeat). LetsPassSoFar n t.stage (own party (drop t.first x.events))) looks
            (record { stage = next; first = seat.first; saw = answer; since = length m.events }) (record seat { stage = next })
            (passes_here few s) (passes_here few s));
        was_in = was_append x.indices.lost (m.events ++ e ∷ []) m.finished (member_ended party seat.first (length m.events) t)
            (was_on n (width_of m) m.values (empty_words n (width_of m)) m.indices.lost x.indices.lost set_stays.alive m.events e m.finished
            s.told s.was_in)
            (was_ended n (width_of m) m.values (empty_words n (width_of m)) m.words.cells m.indices x.indices.lost set_stays.alive party
            seat.first m.events e (stage_at m.indices.seats party) (own party (drop seat.first m.events)) s.inside t (s.knows party));
        shown = each_member_seat (λ (q : ℕ) (t : MemberSeat). ShownSoFar m.indices m.words.cells t.first m.events t.stage
            × KnowsIn n t.stage × (t.first ≤ length m.events))
            (λ (q : ℕ) (t : MemberSeat). ShownSoFar x.indices x.words.cells t.first x.events t.stage) m.seats party
            (seat_after seat next answer (length m.events)) there
            (λ q. (s.shown q, knows_in m q k (omega (arith, few, longer)) s (member_stage m.seats q) (s.knows q), k.began q))
            (λ q differs h. shown_on m.indices x.indices m.words.cells x.words.cells m.events e (keeps few s made)
            set_stays.same_size (lost_stays made) (member_seat m.seats q).first h.2 (member_stage m.seats q) h.1 h.0)
            (either_seat (λ (t : MemberSeat). ShownSoFar x.indices x.words.cells t.first x.events t.stage) looks
            (record { stage = next; first = seat.first; saw = answer; since = length m.events }) (record seat { stage = next })
            (shown_here few s made) (shown_here few s made));
        showed = showed_append x.indices x.words.cells x.events m.finished (member_ended party seat.first (length m.events) t)
            (showed_on m.indices x.indices m.words.cells x.words.cells m.events e (keeps few s made) set_stays.same_size
            (lost_stays made) m.finished
            (all_begun n (width_of m) m.values (empty_words n (width_of m)) m.events m.finished s.told) s.showed)
            (showed_ended x.indices x.words.cells x.events party seat.first (length m.events) t (shown_then few s made));
      }
    where
      lost_stays : Made → (o : ℕ) → is_lost o m.indices.lost ≡ true → is_lost o x.indices.lost ≡ true
      lost_stays made = (made.leaves (party + 1) (λ same. omega (arith, same))).gone

      keeps : HasFewMoves x → MembersAreSound n m → Made → KeepsLost m.indices x.indices m.words.cells x.words.cells e
      keeps few s made o i within lost its =
          let old : _ × _ = (made.leaves (party + 1) (λ same. omega (arith, same))).of_lost o i within lost its in (
            old.0,
            count_stays m party k (omega (arith, few, longer)) s t parts.1 (s.knows party) o i within lost old.0,
          )

      -- what the recovery of the party has of its own call, before it goes on
      shown_then : HasFewMoves x → MembersAreSound n m → Made → ShownSoFar x.indices x.words.cells seat.first x.events t
      shown_then few s made = shown_on m.indices x.indices m.words.cells x.words.cells m.events e (keeps few s made) set_stays.same_size
          (lost_stays made) seat.first (k.began party) t (knows_in m party k (omega (arith, few, longer)) s t (s.knows party))
          (s.shown party)

      shown_here : HasFewMoves x → MembersAreSound n m → Made → ShownSoFar x.indices x.words.cells seat.first x.events next
      shown_here few s made = shown_next m party k (omega (arith, few, longer)) s t seat.saw (answer_at (stage_at m.indices.seats party))
          set_stays.same_size parts.1 (s.knows party) (shown_then few s made)

      passes_here : HasFewMoves x → MembersAreSound n m → LetsPassSoFar n next (own party (drop seat.first (m.events ++ e ∷ [])))
      passes_here few s = subst (λ (es : List Event). LetsPassSoFar n next es)
          (sym (own_more_since party seat.first m.events e (k.began party) refl))
          (own_passes m party k (omega (arith, few, longer)) s seat.saw (answer_at (stage_at m.indices.seats party))
          finds answer t parts.1 (s.knows party) (own party (drop seat.first m.events)) e refl (s.passing party))

      set_few : HasFewMoves x → HasFewSteps m.indices
      set_few few = omega (arith, few, longer, k.few)

      asks_for : MembersAreSound n m → (t : ContainerCall)
          → KnowsMember n (width_of m) m.values (empty_words n (width_of m)) m.words.cells m.indices party
          (stage_at m.indices.seats party) seat.first m.events (own party (drop seat.first m.events)) t
          → (c : IsConsistent m.indices)
          → AsksFor m.indices party n (width_of m) seat.saw seat.first (length m.events) answer finds
          (own party (drop (seat_at m.indices.seats party).first m.indices.events)) (c.knows party) t
      asks_for s stage.Idle kn c = tt
      asks_for s (stage.Enter number owner) kn c = kn.2
      asks_for s (stage.Fill number owner index j) kn c = tt
      asks_for s (stage.Show number owner index seen) kn c = tt
      asks_for s (stage.Sink owner index mode) kn c = tt
      asks_for s (stage.Hide owner index mode seen) kn c = tt
      asks_for s (stage.Leave owner index mode) kn c = tt
      asks_for s (stage.Drop owner index mode) kn c = kn.4
      asks_for s (stage.Count c a) kn d = tt
      asks_for s (stage.Raise c a seen) kn d = tt
      asks_for s stage.Look kn c = tt
      asks_for s (stage.Visit i) kn c = tt
      asks_for s (stage.Gather i seen j) kn c = tt
      asks_for s (stage.Search o j mode) kn c = tt
      asks_for s (stage.Watch o j mode i) kn c = tt
      asks_for s (stage.Ask o j mode i seen) kn c = ap answer_at kn.3
      asks_for s (stage.Expel o j mode i seen) kn c = tt
      asks_for s (stage.Clear o j mode i) kn c = ap answer_at kn.3.1
      asks_for s (stage.Close o j mode) kn c = kn.2
      asks_for s (stage.Done c a) kn d = tt

      asks_here : HasFewMoves x → MembersAreSound n m
          → answered_to party x.indices.finished ≡ asked_for party x.finished ++ asked_so_far next
      asks_here few s =
          let c : IsConsistent m.indices = k.indices.sound (set_few few) in
          own_asks m.indices party n (width_of m) seat.saw seat.first (length m.events) answer finds
          (own party (drop (seat_at m.indices.seats party).first m.indices.events)) (c.knows party) t
          (asks_for s t (s.knows party) c) m.finished (s.asks party)

      here : KnowsMember n (width_of m) m.values (empty_words n (width_of m)) x.words.cells x.indices party
          (stage_at x.indices.seats party) seat.first (m.events ++ e ∷ []) (own party (drop seat.first m.events) ++ e ∷ []) next
          → KnowsMember n (width_of m) m.values (empty_words n (width_of m)) x.words.cells x.indices party
          (stage_at x.indices.seats party) seat.first (m.events ++ e ∷ []) (own party (drop seat.first (m.events ++ e ∷ []))) next
      here h = subst (λ (mine : List Event). KnowsMember n (width_of m) m.values (empty_words n (width_of m)) x.words.cells x.indices
          party (stage_at x.indices.seats party) seat.first (m.events ++ e ∷ []) mine next)
          (sym (own_more_since party seat.first m.events e (k.began party) refl)) h

      saw_here : MembersAreSound n m → (b : Bool) → looks ≡ b
          → (if b then (record { stage = next; first = seat.first; saw = answer; since = length m.events }) else record seat
          { stage = next }).saw
          ≡ times_counted (take (if b then (record { stage = next; first = seat.first; saw = answer; since = length m.events })
          else record seat { stage = next }).since x.events)
      saw_here s true is = look_write n (width_of m) m.values m.words t (and_parts (is_look t) (not (answer == seat.saw)) is).0 ∙ s.write
          ∙ ap times_counted (sym (take-append_seam m.events (e ∷ [])))
      saw_here s false is = saw_on m e seat (k.since party) (s.saw party)

  went_calm : HasFewMoves x → HasNoneLost x → IsCalm x.events
  went_calm few none = calm_more m.events e (k.calm (omega (arith, few, longer)) (set_stays.grew none))
      (calm_step m party k (omega (arith, few, longer)) (k.sound (omega (arith, few, longer))) (set_stays.grew none) t
      ((k.sound (omega (arith, few, longer))).knows party))

  asked_here : SoFar n (width_of m) m.values party (member_in_hand next) next (own party (drop seat.first (m.events ++ e ∷ [])))
  asked_here = subst (λ (es : List Event). SoFar n (width_of m) m.values party (member_in_hand next) next es)
      (sym (own_more_since party seat.first m.events e (k.began party) refl))
      (member_asked_next n (width_of m) m.values seat.saw (answer_at (stage_at m.indices.seats party)) finds e t refl party
      (own party (drop seat.first m.events)) (k.recorded.going party))

  pub member_went_keeps : MembersAreKept x
  member_went_keeps = record {
    indices = set_stays.kept;
    few = omega (arith, set_stays.steps, k.few, longer);
    small = omega (arith, k.small, same_cells m.words (member_next n (width_of m) m.values t));
    size = subst (λ (c : ℕ). length x.words.cells ≡ c + (c * width_of m + 1)) (sym set_stays.same_size)
        (same_cells m.words (member_next n (width_of m) m.values t) ∙ k.size);
    began = each_member_seat (λ (q : ℕ) (t : MemberSeat). t.first ≤ length m.events)
        (λ (q : ℕ) (t : MemberSeat). t.first ≤ length (m.events ++ e ∷ [])) m.seats party (seat_after seat next answer (length m.events))
        there k.began (λ q differs h. omega (arith, h, longer))
        (either_seat (λ (t : MemberSeat). t.first ≤ length (m.events ++ e ∷ [])) looks
        (record { stage = next; first = seat.first; saw = answer; since = length m.events }) (record seat { stage = next })
        (omega (arith, k.began party, longer)) (omega (arith, k.began party, longer)));
    since = each_member_seat (λ (q : ℕ) (t : MemberSeat). t.since ≤ length m.events)
        (λ (q : ℕ) (t : MemberSeat). t.since ≤ length (m.events ++ e ∷ [])) m.seats party (seat_after seat next answer (length m.events))
        there k.since (λ q differs h. omega (arith, h, longer))
        (either_seat (λ (t : MemberSeat). t.since ≤ length (m.events ++ e ∷ [])) looks
        (record { stage = next; first = seat.first; saw = answer; since = length m.events }) (record seat { stage = next })
        (omega (arith, longer)) (omega (arith, k.since party, longer)));
    recorded = record {
      answered = subst (λ (c : ℕ). Answered (empty_words c (width_of m)) x.events x.words) (sym set_stays.same_size)
          (answered_on (empty_words n (width_of m)) m.words m.events e refl k.recorded.answered);
      ended = subst (λ (c : ℕ). AreMembersAsked c (width_of m) m.values x.events x.finished) (sym set_stays.same_size)
          (members_asked_append n (width_of m) m.values (m.events ++ e ∷ []) m.finished (member_ended party seat.first (length m.events) t)
          (members_asked_on n (width_of m) m.values m.events e m.finished k.counted.within k.recorded.ended)
          (member_call_asked n (width_of m) m.values party seat.first m.events e t (k.recorded.going party)));
      going = subst (λ (c : ℕ). (q : ℕ) → SoFar c (width_of m) m.values q (member_in_hand (member_stage x.seats q))
          (member_stage x.seats q) (own q (drop (member_seat x.seats q).first x.events))) (sym set_stays.same_size)
          (each_member_seat
          (λ (q : ℕ) (t : MemberSeat). SoFar n (width_of m) m.values q (member_in_hand t.stage) t.stage (own q (drop t.first m.events))
          × (t.first ≤ length m.events))
          (λ (q : ℕ) (t : MemberSeat). SoFar n (width_of m) m.values q (member_in_hand t.stage) t.stage (own q (drop t.first x.events)))
          m.seats party (seat_after seat next answer (length m.events)) there (λ q. (k.recorded.going q, k.began q))
          (λ q differs h. subst (λ (es : List Event). SoFar n (width_of m) m.values q (member_in_hand (member_stage m.seats q))
          (member_stage m.seats q) es) (sym (own_else_since q (member_seat m.seats q).first m.events e h.1 differs)) h.0)
          (either_seat
          (λ (t : MemberSeat). SoFar n (width_of m) m.values party (member_in_hand t.stage) t.stage (own party (drop t.first x.events)))
          looks (record { stage = next; first = seat.first; saw = answer; since = length m.events }) (record seat { stage = next })
          asked_here asked_here));
    };
    counted = member_went_counted m party fit k.counted;
    sound = λ few. subst (λ (c : ℕ). MembersAreSound c x) (sym set_stays.same_size) (went_sound few);
    calm = went_calm;
  }

-- a party begins a call
module _ (m : ContainerParts) (party : ℕ) (c : MemberCall) (fit : member_fits m (Begin party c) ≡ true) (k : MembersAreKept m) where
  abbrev size_of : ℕ
  size_of = m.indices.capacity

  abbrev begin : Event
  begin = record { party = party; access = Local; answer = 0 }

  abbrev y : ContainerParts
  y = member_begins m party c

  begun_parts : (nat_lt party (length m.seats) ≡ true) × ((member_is_idle (member_stage m.seats party) && may_call m party c) ≡ true)
  begun_parts = and_parts (nat_lt party (length m.seats)) (member_is_idle (member_stage m.seats party) && may_call m party c) fit

  is_there : party < length m.seats
  is_there = ltb-true party (length m.seats) begun_parts.0

  may : may_call m party c ≡ true
  may = (and_parts (member_is_idle (member_stage m.seats party)) (may_call m party c) begun_parts.1).1

  one_longer : length (m.events ++ begin ∷ []) ≡ length m.events + 1
  one_longer = length-append m.events (begin ∷ [])

  begun_stays : (c : MemberCall) → may_call m party c ≡ true → SetStays m party k (asked_by m.indices party c)
  begun_stays (call.Add number owner) ok = acquires m party k owner
      (and_parts (robust.fits m.indices (set_move.Begin party (set_call.Acquire owner)))
      (length (table_value m.values number) == width_of m) ok).0
  begun_stays (call.Remove owner index mode) ok = stays m party k
  begun_stays call.Update ok = stays m party k
  begun_stays (call.Recover owner number mode) ok = stays m party k

  same_places : (c : MemberCall) → (asked_by m.indices party c).places ≡ m.indices.places
  same_places (call.Add number owner) = refl
  same_places (call.Remove owner index mode) = refl
  same_places call.Update = refl
  same_places (call.Recover owner number mode) = refl

  begun_leaves : (c : MemberCall) (q : ℕ)
      → LeavesMembers size_of (width_of m) q m.words.cells m.words.cells m.indices (asked_by m.indices party c)
  begun_leaves (call.Add number owner) q = leaves_all_members size_of (width_of m) q m.words.cells m.indices
      (begun m.indices party (set_call.Acquire owner)) refl (λ o h. h) (λ o h. h) (λ o i within live h. h) (λ i h. h)
      (λ o i within lost h. h) (λ o i within lost shown h. h)
  begun_leaves (call.Remove owner index mode) q = leaves_same size_of (width_of m) q m.words.cells m.indices
  begun_leaves call.Update q = leaves_same size_of (width_of m) q m.words.cells m.indices
  begun_leaves (call.Recover owner number mode) q = leaves_same size_of (width_of m) q m.words.cells m.indices

  held_is : (p : Place) → is_holder party p ≡ true → p ≡ place.Held party
  held_is place.Empty h = absurd (cc)
  held_is (place.Claimed q) h = absurd (cc)
  held_is (place.Counted q) h = absurd (cc)
  held_is (place.Held q) h = ap (λ (r : ℕ). place.Held r) (eqb-true q party h)

  begun_knows : (c : MemberCall) → may_call m party c ≡ true
      → KnowsMember size_of (width_of m) m.values (empty_words size_of (width_of m)) m.words.cells (asked_by m.indices party c) party
      (stage_at (asked_by m.indices party c).seats party) (length m.events) (m.events ++ begin ∷ []) (begin ∷ []) (member_begun c)
  begun_knows (call.Add number owner) ok =
      let both : _ × ((length (table_value m.values number) == width_of m) ≡ true)
      = and_parts (robust.fits m.indices (set_move.Begin party (set_call.Acquire owner)))
      (length (table_value m.values number) == width_of m) ok in
      let is : stage_at (begun m.indices party (set_call.Acquire owner)).seats party ≡ call_begun size_of (set_call.Acquire owner)
      = ap (λ (s : Seat). s.stage) (seat_here m.indices.seats party _ (ltb-true party (length m.indices.seats)
      (and_parts (nat_lt party (length m.indices.seats)) _ both.0).0)) in (
        refl,
        eqb-true (length (table_value m.values number)) (width_of m) both.1,
        ap call_in_hand is,
        λ i has. absurd (let wrong : None ≡ Some _ = sym (ap answer_at is) ∙ has in cc),
      )
  begun_knows (call.Remove owner index mode) ok =
      let both : _ × (is_shown (word_of m.words (Cell index)) ≡ true)
      = and_parts (robust.fits m.indices (set_move.Begin party (set_call.Release owner index mode)))
      (is_shown (word_of m.words (Cell index))) ok in
      let busy : _ × ((call_is_idle (stage_at m.indices.seats party)
      && may_begin m.indices party (set_call.Release owner index mode)) ≡ true)
      = and_parts (nat_lt party (length m.indices.seats)) _ both.0 in
      let begins : _ × (may_begin m.indices party (set_call.Release owner index mode) ≡ true)
      = and_parts (call_is_idle (stage_at m.indices.seats party)) _ busy.1 in
      let rest : _ × ((nat_lt index size_of && (is_holder party (place_of m.indices.places index)
      && (word_of m.indices.words (Cell index) == owner))) ≡ true)
      = and_parts (is_owner owner && not (is_lost owner m.indices.lost)) _ begins.1 in
      let low : (nat_lt index size_of ≡ true) × _ = and_parts (nat_lt index size_of) _ rest.1 in
      let holds : (is_holder party (place_of m.indices.places index) ≡ true) × ((word_of m.indices.words (Cell index) == owner) ≡ true)
      = and_parts (is_holder party (place_of m.indices.places index)) (word_of m.indices.words (Cell index) == owner) low.1 in
      let within : index < size_of = ltb-true index size_of low.0 in (
        refl,
        within,
        λ live. (
          (
            held_is (place_of m.indices.places index) holds.0,
            ap (λ (i : ℕ). slice_index m.indices.words.cells i) (sym (mod-eq_of_lt (omega (arith, within, k.indices.cells))))
                ∙ eqb-true (word_of m.indices.words (Cell index)) owner holds.1,
          ),
          ap (λ (i : ℕ). is_shown (slice_index m.words.cells i))
              (sym (count_position size_of (width_of m) m.words.cells k.size k.small index within)) ∙ both.1,
        ),
      )
  begun_knows call.Update ok = tt
  begun_knows (call.Recover owner number mode) ok = refl

  set_begun : SetStays m party k (asked_by m.indices party c)
  set_begun = begun_stays c may

  own_begin : own party (drop (length m.events) (m.events ++ begin ∷ [])) ≡ begin ∷ []
  own_begin = ap (own party) (drop-append_seam m.events (begin ∷ [])) ∙ own_more party [] begin refl

  begun_sound : HasFewMoves y → MembersAreSound size_of y
  begun_sound few =
      let s : MembersAreSound size_of m = k.sound (omega (arith, few, one_longer)) in
      record {
        write = omega (arith, s.write, more_counted m.events begin);
        low = λ i within. omega (arith, s.low i within, one_longer);
        out = λ i within unheld. s.out i within (subst (λ (ps : List Place). (p : ℕ) → place_of ps i ≡ place.Held p → ⊥) (same_places c)
            unheld);
        knows = each_member_seat (λ (q : ℕ) (t : MemberSeat). KnowsAt size_of m q t × (t.first ≤ length m.events))
            (λ (q : ℕ) (t : MemberSeat). KnowsAt size_of y q t) m.seats party
            (record (member_seat m.seats party) { stage = member_begun c; first = length m.events }) is_there (λ q. (s.knows q, k.began q))
            (λ q differs h. others_know m y size_of party q begin (member_seat m.seats q) differs refl refl refl
            (set_begun.others q differs)
            (begun_leaves c q) h)
            (subst (λ (mine : List Event). KnowsMember size_of (width_of m) m.values (empty_words size_of (width_of m)) m.words.cells
            (asked_by m.indices party c) party (stage_at (asked_by m.indices party c).seats party) (length m.events)
            (m.events ++ begin ∷ []) mine (member_begun c)) (sym own_begin) (begun_knows c may));
        told = told_on size_of (width_of m) m.values (empty_words size_of (width_of m)) m.events begin m.finished s.told;
        saw = each_member_seat (λ (q : ℕ) (t : MemberSeat). (t.saw ≡ times_counted (take t.since m.events)) × (t.since ≤ length m.events))
            (λ (q : ℕ) (t : MemberSeat). t.saw ≡ times_counted (take t.since y.events)) m.seats party
            (record (member_seat m.seats party) { stage = member_begun c; first = length m.events }) is_there (λ q. (s.saw q, k.since q))
            (λ q differs h. saw_on m begin (member_seat m.seats q) h.1 h.0)
            (saw_on m begin (member_seat m.seats party) (k.since party) (s.saw party));
        asks = each_member_seat
            (λ (q : ℕ) (t : MemberSeat). answered_to q m.indices.finished ≡ asked_for q m.finished ++ asked_so_far t.stage)
            (λ (q : ℕ) (t : MemberSeat). answered_to q (asked_by m.indices party c).finished
            ≡ asked_for q m.finished ++ asked_so_far t.stage)
            m.seats party (record (member_seat m.seats party) { stage = member_begun c; first = length m.events }) is_there s.asks
            (λ q differs h. ap (answered_to q) (same_finished c) ∙ h)
            (ap (answered_to party) (same_finished c) ∙ s.asks party
            ∙ ap (λ (cs : List AnsweredCall). asked_for party m.finished ++ cs)
            (idle_asked (member_stage m.seats party) idle ∙ sym (begun_asked c)));
        stays = λ i within. till_out_more size_of (width_of m) i None m.events begin (s.stays i within) tt;
        inside = λ i within. subst (λ (o : Option ℕ). FitsWhose o (slice_index m.words.cells i)
            (place_of (asked_by m.indices party c).places i)) (sym (inside_more i None m.events begin))
            (subst (λ (ps : List Place). FitsWhose (inside_after i None m.events) (slice_index m.words.cells i) (place_of ps i))
            (sym (same_places c)) (s.inside i within));
        passes = each_on size_of (width_of m) m.values (empty_words size_of (width_of m)) m.events begin m.finished s.told s.passes;
        passing = each_member_seat
            (λ (q : ℕ) (t : MemberSeat). LetsPassSoFar size_of t.stage (own q (drop t.first m.events)) × (t.first ≤ length m.events))
            (λ (q : ℕ) (t : MemberSeat). LetsPassSoFar size_of t.stage (own q (drop t.first y.events))) m.seats party
            (record (member_seat m.seats party) { stage = member_begun c; first = length m.events }) is_there
            (λ q. (s.passing q, k.began q))
            (λ q differs g. subst (λ (es : List Event). LetsPassSoFar size_of (member_stage m.seats q) es)
            (sym (own_else_since q (member_seat m.seats q).first m.events begin g.1 differs)) g.0)
            (subst (λ (es : List Event). LetsPassSoFar size_of (member_begun c) es) (sym own_begin) (none_passed c));
        was_in = was_on size_of (width_of m) m.values (empty_words size_of (width_of m)) m.indices.lost (asked_by m.indices party c).lost
            set_begun.alive m.events begin m.finished s.told s.was_in;
        shown = each_member_seat (λ (q : ℕ) (t : MemberSeat). ShownSoFar m.indices m.words.cells t.first m.events t.stage
            × KnowsIn size_of t.stage × (t.first ≤ length m.events))
            (λ (q : ℕ) (t : MemberSeat). ShownSoFar y.indices m.words.cells t.first y.events t.stage) m.seats party
            (record (member_seat m.seats party) { stage = member_begun c; first = length m.events }) is_there
            (λ q. (s.shown q, knows_in m q k (omega (arith, few, one_longer)) s (member_stage m.seats q) (s.knows q), k.began q))
            (λ q differs h. shown_on m.indices y.indices m.words.cells m.words.cells m.events begin keeps set_begun.same_size
            (begun_leaves c (party + 1)).gone (member_seat m.seats q).first h.2 (member_stage m.seats q) h.1 h.0)
            (none_shown c);
        showed = showed_on m.indices y.indices m.words.cells m.words.cells m.events begin keeps set_begun.same_size
            (begun_leaves c (party + 1)).gone m.finished
            (all_begun size_of (width_of m) m.values (empty_words size_of (width_of m)) m.events m.finished s.told) s.showed;
      }
    where
      keeps : KeepsLost m.indices y.indices m.words.cells m.words.cells begin
      keeps o i within lost its = (((begun_leaves c (party + 1)).of_lost o i within lost its).0, inl refl)

      none_shown : (c : MemberCall) → ShownSoFar y.indices m.words.cells (length m.events) y.events (member_begun c)
      none_shown (call.Add number owner) = tt
      none_shown (call.Remove owner index mode) = tt
      none_shown call.Update = tt
      none_shown (call.Recover owner number mode) = tt

      none_passed : (c : MemberCall) → LetsPassSoFar size_of (member_begun c) (begin ∷ [])
      none_passed (call.Add number owner) = λ going. refl
      none_passed (call.Remove owner index mode) = λ going. refl
      none_passed call.Update = λ going. refl
      none_passed (call.Recover owner number mode) = λ going. refl

      idle : member_is_idle (member_stage m.seats party) ≡ true
      idle = (and_parts (member_is_idle (member_stage m.seats party)) (may_call m party c) begun_parts.1).0

      same_finished : (c : MemberCall) → (asked_by m.indices party c).finished ≡ m.indices.finished
      same_finished (call.Add number owner) = refl
      same_finished (call.Remove owner index mode) = refl
      same_finished call.Update = refl
      same_finished (call.Recover owner number mode) = refl

      begun_asked : (c : MemberCall) → asked_so_far (member_begun c) ≡ []
      begun_asked (call.Add number owner) = refl
      begun_asked (call.Remove owner index mode) = refl
      begun_asked call.Update = refl
      begun_asked (call.Recover owner number mode) = refl

      idle_asked : (t : ContainerCall) → member_is_idle t ≡ true → asked_so_far t ≡ []
      idle_asked stage.Idle h = refl
      idle_asked (stage.Enter number owner) h = absurd (cc)
      idle_asked (stage.Fill number owner index j) h = absurd (cc)
      idle_asked (stage.Show number owner index seen) h = absurd (cc)
      idle_asked (stage.Sink owner index mode) h = absurd (cc)
      idle_asked (stage.Hide owner index mode seen) h = absurd (cc)
      idle_asked (stage.Leave owner index mode) h = absurd (cc)
      idle_asked (stage.Drop owner index mode) h = absurd (cc)
      idle_asked (stage.Count d a) h = absurd (cc)
      idle_asked (stage.Raise d a seen) h = absurd (cc)
      idle_asked stage.Look h = absurd (cc)
      idle_asked (stage.Visit i) h = absurd (cc)
      idle_asked (stage.Gather i seen j) h = absurd (cc)
      idle_asked (stage.Search o j mode) h = absurd (cc)
      idle_asked (stage.Watch o j mode i) h = absurd (cc)
      idle_asked (stage.Ask o j mode i seen) h = absurd (cc)
      idle_asked (stage.Expel o j mode i seen) h = absurd (cc)
      idle_asked (stage.Clear o j mode i) h = absurd (cc)
      idle_asked (stage.Close o j mode) h = absurd (cc)
      idle_asked (stage.Done d a) h = absurd (cc)

  pub member_begins_keeps : MembersAreKept y
  member_begins_keeps = record {
    indices = set_begun.kept;
    few = omega (arith, set_begun.steps, k.few, one_longer);
    small = k.small;
    size = subst (λ (c : ℕ). length m.words.cells ≡ c + (c * width_of m + 1)) (sym set_begun.same_size) k.size;
    began = each_member_seat (λ (q : ℕ) (t : MemberSeat). t.first ≤ length m.events)
        (λ (q : ℕ) (t : MemberSeat). t.first ≤ length (m.events ++ begin ∷ [])) m.seats party
        (record (member_seat m.seats party) { stage = member_begun c; first = length m.events }) is_there k.began
        (λ q differs h. omega (arith, h, one_longer)) (omega (arith, one_longer));
    since = each_member_seat (λ (q : ℕ) (t : MemberSeat). t.since ≤ length m.events)
        (λ (q : ℕ) (t : MemberSeat). t.since ≤ length (m.events ++ begin ∷ [])) m.seats party
        (record (member_seat m.seats party) { stage = member_begun c; first = length m.events }) is_there k.since
        (λ q differs h. omega (arith, h, one_longer)) (omega (arith, k.since party, one_longer));
    recorded = record {
      answered = subst (λ (c : ℕ). Answered (empty_words c (width_of m)) y.events m.words) (sym set_begun.same_size)
          (answered_on (empty_words size_of (width_of m)) m.words m.events begin refl k.recorded.answered);
      ended = subst (λ (c : ℕ). AreMembersAsked c (width_of m) m.values y.events m.finished) (sym set_begun.same_size)
          (members_asked_on size_of (width_of m) m.values m.events begin m.finished k.counted.within k.recorded.ended);
      going = subst (λ (c : ℕ). (q : ℕ) → SoFar c (width_of m) m.values q (member_in_hand (member_stage y.seats q))
          (member_stage y.seats q) (own q (drop (member_seat y.seats q).first y.events))) (sym set_begun.same_size)
          (each_member_seat
          (λ (q : ℕ) (t : MemberSeat). SoFar size_of (width_of m) m.values q (member_in_hand t.stage) t.stage
          (own q (drop t.first m.events)) × (t.first ≤ length m.events))
          (λ (q : ℕ) (t : MemberSeat). SoFar size_of (width_of m) m.values q (member_in_hand t.stage) t.stage
          (own q (drop t.first y.events)))
          m.seats party (record (member_seat m.seats party) { stage = member_begun c; first = length m.events }) is_there
          (λ q. (k.recorded.going q, k.began q))
          (λ q differs h. subst (λ (es : List Event). SoFar size_of (width_of m) m.values q (member_in_hand (member_stage m.seats q))
          (member_stage m.seats q) es) (sym (own_else_since q (member_seat m.seats q).first m.events begin h.1 differs)) h.0)
          (subst (λ (es : List Event). SoFar size_of (width_of m) m.values party (member_in_hand (member_begun c)) (member_begun c) es)
          (sym own_begin) (member_asked_first size_of (width_of m) m.values party c)));
    };
    counted = member_begun_counted m party c fit k.counted;
    sound = λ few. subst (λ (c : ℕ). MembersAreSound c y) (sym set_begun.same_size) (begun_sound few);
    calm = λ few none. calm_more m.events begin (k.calm (omega (arith, few, one_longer)) (set_begun.grew none)) tt;
  }

happens_keeps : (m : ContainerParts) (step : MemberMove) → member_fits m step ≡ true → MembersAreKept m
    → MembersAreKept (member_happens m step)
happens_keeps m (Begin party c) fit k = member_begins_keeps m party c fit k
happens_keeps m (GoOn party) fit k = member_went_keeps m party fit k

pub member_steps_keep : (m : ContainerParts) (step : MemberMove) (r : Stepped) (n : ContainerParts) → MemberStepsTo m step r n
    → MembersAreKept m → MembersAreKept n
member_steps_keep m step stepped.Went n h k = subst MembersAreKept (sym h.2) (happens_keeps m step h.0 k)
member_steps_keep m step stepped.Finished n h k = subst MembersAreKept (sym h.2) (happens_keeps m step h.0 k)
member_steps_keep m step stepped.Skipped n h k = subst MembersAreKept (sym h.1) k
member_steps_keep m step stepped.NoMemory n h k = subst MembersAreKept (sym h.1) k
