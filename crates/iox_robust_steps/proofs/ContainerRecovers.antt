-- A recovery takes out members of its own owner alone, and leaves none that it was to take out.
use Rattle.std.proofs.Common.{◌≡◌, ℕ, ◌+◌, ◌-◌, ◌^◌, ◌<◌, ⊎_elim, inl, inr, Bool, true, false, not, if◌then◌else◌, ◌==◌}
use Rattle.std.proofs.Common.{Option, Some, None, List, [], ◌∷◌, ◌++◌, length, slice_index, drop, refl, sym, ◌∙◌, ap, subst, arith}
use Rattle.std.proofs.Common.{append-nil, length-append}
use Rattle.std.proofs.Common.{nat_lt}
use Rattle.std.specs.Global.{Vec}
use Rattle.std.proofs.Math.Seq.{drop-append_seam}
use Rattle.std.proofs.lemmas.Bool.{cases_eq, eqb-true}
use Rattle.iox_container.specs.declared.release.ReleaseMode.{ReleaseMode}
use Rattle.iox_queues_steps.specs.Access.{RingWords, after_access, after_store, answer_of, successor, word_of}
use Rattle.iox_queues_steps.specs.declared.access.Access.{Access}
use Rattle.iox_queues_steps.specs.declared.access.Access.TheVariants.{Load, Store, Exchange, Local}
use Rattle.iox_queues_steps.specs.declared.access.Word.TheVariants.{Write, Cell}
use Rattle.iox_queues_steps.specs.declared.schedule.Stepped.{Stepped}
use Rattle.iox_queues_steps.specs.declared.schedule.Stepped.TheVariants as stepped
use Rattle.iox_queues.specs.Told.{own}
use Rattle.iox_queues.specs.Values.{table_value}
use Rattle.iox_queues.specs.declared.bits.machine.Event.{Event}
use Rattle.iox_robust_steps.specs.ContainerKept.{KnowsMember, MembersAreKept, MembersAreSound}
use Rattle.iox_robust_steps.specs.ContainerMachine.{ContainerParts, HasFewMoves, MemberStepsTo, empty_words, member_call}
use Rattle.iox_robust_steps.specs.ContainerMachine.{member_happens, member_seat, member_stage, member_went, width_of}
use Rattle.iox_robust_steps.specs.ContainerOfSet.{HaveReasons, HasReason}
use Rattle.iox_robust_steps.specs.ContainerRecovering.{IfRecoversMembers, IsCalm, IsCalmAccess, LeaveNone, LeavesNone}
use Rattle.iox_robust_steps.specs.ContainerRecovering.{RecoversMembersSo, StandsBeside, TakesOut}
use Rattle.iox_robust_steps.specs.ContainerRecovering.{TakesOutOnlyItsOwn}
use Rattle.iox_robust_steps.specs.ContainerSteps.{is_shown, member_in_hand, member_next, value_cell}
use Rattle.iox_robust_steps.specs.ContainerTold.{AreMembersTold, MemberTells}
use Rattle.iox_robust_steps.specs.Machine.{RobustSetState, stage_at}
use Rattle.iox_robust_steps.specs.Told.{AreFreed, FreedBy}
use Rattle.iox_robust_steps.specs.declared.call.Call.TheVariants as set_call
use Rattle.iox_robust_steps.specs.declared.call.RobustCall.{RobustCall}
use Rattle.iox_robust_steps.specs.declared.container.call.ContainerCall.{ContainerCall}
use Rattle.iox_robust_steps.specs.declared.container.call.ContainerCall.TheVariants as stage
use Rattle.iox_robust_steps.specs.declared.container.call.MemberAnswer.{MemberAnswer}
use Rattle.iox_robust_steps.specs.declared.container.call.MemberAnswer.TheVariants.{Added, Removed, Updated}
use Rattle.iox_robust_steps.specs.declared.container.call.MemberCall.{MemberCall}
use Rattle.iox_robust_steps.specs.declared.container.call.MemberCall.TheVariants as call
use Rattle.iox_robust_steps.specs.declared.container.MemberFinished.{MemberFinished}
use Rattle.iox_robust_steps.specs.declared.container.MemberMove.{MemberMove}
use Rattle.iox_robust_steps.specs.declared.container.MemberMove.TheVariants.{Begin, GoOn}
use Rattle.iox_robust_steps.specs.declared.machine.Finished.{Finished}
use Rattle.iox_robust_steps.proofs.ContainerWords.{count_else, count_here, count_position, next_shown, values_stay}

-- the set's recovery left its owner no index that it was to free
freed_among : (decisions : List (Vec Bool)) (lost cells : List ℕ) (n : ℕ) (before : List Finished) (f : Finished) (after : List Finished)
    → AreFreed decisions lost cells n (before ++ f ∷ after) → FreedBy decisions lost cells n f.call
freed_among decisions lost cells n [] f after h = h.0
freed_among decisions lost cells n (x ∷ before) f after h = freed_among decisions lost cells n before f after h.1

module _ (set : RobustSetState) (freed : AreFreed set.decisions set.lost set.words.cells set.capacity set.finished) (cells : List ℕ) where
  leaves_none : (party : ℕ) (c : MemberCall) (a : MemberAnswer) (n width : ℕ) (values : List (Vec ℕ)) (start : RingWords) (first : ℕ)
      (events mine : List Event) → MemberTells n width values start 1 party first events mine c a → HasReason set party c a
      → LeavesNone set cells c
  leaves_none party (call.Add number owner) a n width values start first events mine told reason = tt
  leaves_none party (call.Remove owner index mode) a n width values start first events mine told reason = tt
  leaves_none party call.Update a n width values start first events mine told reason = tt
  leaves_none party (call.Recover owner number mode) (Added got) n width values start first events mine told reason = absurd told
  leaves_none party (call.Recover owner number mode) (Removed state) n width values start first events mine told reason =
      let by : FreedBy set.decisions set.lost set.words.cells set.capacity (set_call.Recover owner number mode)
      = subst (FreedBy set.decisions set.lost set.words.cells set.capacity) reason.is
      (freed_among set.decisions set.lost set.words.cells set.capacity reason.before reason.ended reason.after
      (subst (AreFreed set.decisions set.lost set.words.cells set.capacity) reason.whole freed)) in
      λ i within wanted shown is. (by.3 i within wanted).0 is
  leaves_none party (call.Recover owner number mode) (Updated copied) n width values start first events mine told reason = absurd told

  pub leave_none : (n width : ℕ) (values : List (Vec ℕ)) (start : RingWords) (events : List Event) (finished : List MemberFinished)
      → AreMembersTold n width values start events finished → HaveReasons set finished → LeaveNone set cells finished
  leave_none n width values start events [] told reasons = tt
  leave_none n width values start events (f ∷ finished) told reasons = (
    leaves_none f.party f.call f.answer n width values start _ _ _ told.0.0 reasons.0,
    leave_none n width values start events finished told.1 reasons.1,
  )

-- a step that changes no cell, and exchanges no count
if_same : (n width : ℕ) (indices : RobustSetState) (cells : List ℕ) (added : List Event) → IsCalm added → (o : Option MemberCall)
    → IfRecoversMembers n width indices cells cells added o
if_same n width indices cells added calm None = calm
if_same n width indices cells added calm (Some (call.Add number owner)) = calm
if_same n width indices cells added calm (Some (call.Remove owner index mode)) = calm
if_same n width indices cells added calm (Some call.Update) = calm
if_same n width indices cells added calm (Some (call.Recover owner number mode)) = record {
  each = λ i within. inl refl;
  values = λ i j within low. refl;
}

-- a step of a party inside a call
module _ (m : ContainerParts) (party : ℕ) (k : MembersAreKept m) (few : length m.events + 1 < 2 ^ 64 - 1) where
  abbrev n : ℕ
  n = m.indices.capacity

  abbrev width : ℕ
  width = width_of m

  abbrev cells : List ℕ
  cells = m.words.cells

  abbrev inner : RobustCall
  inner = stage_at m.indices.seats party

  sound : MembersAreSound n m
  sound = k.sound (omega (arith, few))

  abbrev KnowsOwn : ContainerCall → Type 0
  KnowsOwn t = KnowsMember n width m.values (empty_words n width) cells m.indices party inner
      (member_seat m.seats party).first m.events (own party (drop (member_seat m.seats party).first m.events)) t

  abbrev event : ContainerCall → Event
  event t = record {
    party = party;
    access = member_next n width m.values t;
    answer = answer_of m.words (member_next n width m.values t);
  }

  abbrev Recovers : ContainerCall → Type 0
  Recovers t = IfRecoversMembers n width m.indices cells (after_access m.words (member_next n width m.values t)).cells (event t ∷ [])
      (member_in_hand t)

  module _ (owner number : ℕ) (mode : ReleaseMode) (i seen : ℕ) (kn : KnowsOwn (stage.Expel owner number mode i seen)) where
    expels : (b : Bool) → (word_of m.words (Cell i) == seen) ≡ b
        → RecoversMembersSo n width m.indices cells (if b then after_store m.words (Cell i) (successor seen) else m.words).cells owner
        number
    expels true e = record {
      each = λ l within. ⊎_elim
          (λ (same : l ≡ i). inr (subst (TakesOut m.indices cells (after_store m.words (Cell i) (successor seen)).cells owner number)
          (sym same) taken))
          (λ (differs : l ≡ i → ⊥). inl (count_else n width cells k.size k.small i (successor seen) kn.1 l differs))
          (cases_eq l i);
      values = λ l j within low. values_stay n width cells k.size k.small i (successor seen) kn.1 l j within low;
    }
      where
        is : slice_index cells i ≡ seen
        is = ap (λ (l : ℕ). slice_index cells l) (sym (count_position n width cells k.size k.small i kn.1))
            ∙ eqb-true (word_of m.words (Cell i)) seen e

        up : successor seen ≡ seen + 1
        up = omega (arith, is, sound.low i kn.1, few)

        taken : TakesOut m.indices cells (after_store m.words (Cell i) (successor seen)).cells owner number i
        taken = record {
          wanted = kn.8;
          in_before = ap is_shown is ∙ kn.6;
          owned = kn.7 is;
          out = ap is_shown (count_here n width cells k.size k.small i (successor seen) kn.1 ∙ up) ∙ next_shown seen ∙ ap not kn.6;
        }
    expels false e = record { each = λ l within. inl refl; values = λ l j within low. refl }

  raises : (b : Bool) (c : MemberCall) (seen : ℕ) (e : Event) → e.access ≡ Exchange Write seen (successor seen)
      → IfRecoversMembers n width m.indices cells (if b then after_store m.words Write (successor seen) else m.words).cells (e ∷ [])
      (Some c)
  raises true c seen e is = if_same n width m.indices cells (e ∷ []) (subst IsCalmAccess (sym is) tt, tt) (Some c)
  raises false c seen e is = if_same n width m.indices cells (e ∷ []) (subst IsCalmAccess (sym is) tt, tt) (Some c)

  either_calm : (b : Bool) (one other : Access) → IsCalmAccess one → IsCalmAccess other → IsCalmAccess (if b then one else other)
  either_calm true one other h g = h
  either_calm false one other h g = g

  went_recovers : (t : ContainerCall) → KnowsOwn t → Recovers t
  went_recovers stage.Idle kn = (tt, tt)
  went_recovers (stage.Enter number owner) kn = (tt, tt)
  went_recovers (stage.Fill number owner index next) kn = (
    either_calm (nat_lt next width)
        (Store (Cell (value_cell n width index next)) (slice_index (table_value m.values number) next)) (Load (Cell index)) tt tt,
    tt,
  )
  went_recovers (stage.Show number owner index seen) kn = (tt, tt)
  went_recovers (stage.Sink owner index mode) kn = (tt, tt)
  went_recovers (stage.Hide owner index mode seen) kn = (tt, tt)
  went_recovers (stage.Leave owner index mode) kn = (tt, tt)
  went_recovers (stage.Drop owner index mode) kn = (tt, tt)
  went_recovers (stage.Count c a) kn = if_same n width m.indices cells (event (stage.Count c a) ∷ []) (tt, tt) (Some c)
  went_recovers (stage.Raise c a seen) kn = raises (m.words.write == seen) c seen (event (stage.Raise c a seen)) refl
  went_recovers stage.Look kn = (tt, tt)
  went_recovers (stage.Visit i) kn = (tt, tt)
  went_recovers (stage.Gather i seen next) kn =
      (either_calm (nat_lt next width) (Load (Cell (value_cell n width i next))) (Load (Cell i)) tt tt, tt)
  went_recovers (stage.Search owner number mode) kn =
      if_same n width m.indices cells (event (stage.Search owner number mode) ∷ []) (tt, tt) (Some (call.Recover owner number mode))
  went_recovers (stage.Watch owner number mode i) kn =
      if_same n width m.indices cells (event (stage.Watch owner number mode i) ∷ []) (tt, tt) (Some (call.Recover owner number mode))
  went_recovers (stage.Ask owner number mode i seen) kn =
      if_same n width m.indices cells (event (stage.Ask owner number mode i seen) ∷ []) (tt, tt) (Some (call.Recover owner number mode))
  went_recovers (stage.Expel owner number mode i seen) kn = expels owner number mode i seen kn (word_of m.words (Cell i) == seen) refl
  went_recovers (stage.Clear owner number mode i) kn =
      if_same n width m.indices cells (event (stage.Clear owner number mode i) ∷ []) (tt, tt) (Some (call.Recover owner number mode))
  went_recovers (stage.Close owner number mode) kn =
      if_same n width m.indices cells (event (stage.Close owner number mode) ∷ []) (tt, tt) (Some (call.Recover owner number mode))
  went_recovers (stage.Done c a) kn = if_same n width m.indices cells (event (stage.Done c a) ∷ []) (tt, tt) (Some c)

  pub party_recovers : TakesOutOnlyItsOwn m (GoOn party) (member_went m party)
  party_recovers = subst (λ (added : List Event). IfRecoversMembers n width m.indices cells
      (after_access m.words (member_next n width m.values (member_stage m.seats party))).cells added
      (member_in_hand (member_stage m.seats party)))
      (sym (drop-append_seam m.events (event (member_stage m.seats party) ∷ [])))
      (went_recovers (member_stage m.seats party) (sound.knows party))

-- a step that isn't made
nothing_added : (m : ContainerParts) (step : MemberMove) → TakesOutOnlyItsOwn m step m
nothing_added m step = if_same m.indices.capacity (width_of m) m.indices m.words.cells (drop (length m.events) m.events)
    (subst IsCalm (sym (ap (drop (length m.events)) (sym (append-nil m.events)) ∙ drop-append_seam m.events [])) tt) (member_call m step)

-- a recovery in hand stands beside that of the set
module _ (n width : ℕ) (values : List (Vec ℕ)) (start : RingWords) (cells : List ℕ) (indices : RobustSetState) (party first : ℕ)
    (s : RobustCall) (events mine : List Event) where
  pub stands_beside : (t : ContainerCall) → KnowsMember n width values start cells indices party s first events mine t → StandsBeside t s
  stands_beside stage.Idle k = tt
  stands_beside (stage.Enter number owner) k = tt
  stands_beside (stage.Fill number owner index next) k = tt
  stands_beside (stage.Show number owner index seen) k = tt
  stands_beside (stage.Sink owner index mode) k = tt
  stands_beside (stage.Hide owner index mode seen) k = tt
  stands_beside (stage.Leave owner index mode) k = tt
  stands_beside (stage.Drop owner index mode) k = tt
  stands_beside (stage.Count c a) k = tt
  stands_beside (stage.Raise c a seen) k = tt
  stands_beside stage.Look k = tt
  stands_beside (stage.Visit i) k = tt
  stands_beside (stage.Gather i seen next) k = tt
  stands_beside (stage.Search owner number mode) k = tt
  stands_beside (stage.Watch owner number mode i) k = k.3
  stands_beside (stage.Ask owner number mode i seen) k = k.3
  stands_beside (stage.Expel owner number mode i seen) k = (k.3.0, k.3.1)
  stands_beside (stage.Clear owner number mode i) k = (k.3.0, k.3.1)
  stands_beside (stage.Close owner number mode) k = (k.2, k.3)
  stands_beside (stage.Done c a) k = tt

happens_recovers : (m : ContainerParts) (step : MemberMove) → MembersAreKept m → HasFewMoves (member_happens m step)
    → TakesOutOnlyItsOwn m step (member_happens m step)
happens_recovers m (Begin party c) k few = if_same m.indices.capacity (width_of m) m.indices m.words.cells
    (drop (length m.events) (m.events ++ record { party = party; access = Local; answer = 0 } ∷ []))
    (subst IsCalm (sym (drop-append_seam m.events (record { party = party; access = Local; answer = 0 } ∷ []))) (tt, tt)) (Some c)
happens_recovers m (GoOn party) k few = party_recovers m party k (omega (arith, few, one_more))
  where
    one_more : length (member_went m party).events ≡ length m.events + 1
    one_more = length-append m.events (_ ∷ [])

pub member_steps_recover : (m : ContainerParts) (step : MemberMove) (r : Stepped) (n : ContainerParts) → MemberStepsTo m step r n
    → MembersAreKept m → HasFewMoves n → TakesOutOnlyItsOwn m step n
member_steps_recover m step stepped.Went n h k few =
    subst (TakesOutOnlyItsOwn m step) (sym h.2) (happens_recovers m step k (subst HasFewMoves h.2 few))
member_steps_recover m step stepped.Finished n h k few =
    subst (TakesOutOnlyItsOwn m step) (sym h.2) (happens_recovers m step k (subst HasFewMoves h.2 few))
member_steps_recover m step stepped.Skipped n h k few = subst (TakesOutOnlyItsOwn m step) (sym h.1) (nothing_added m step)
member_steps_recover m step stepped.NoMemory n h k few = subst (TakesOutOnlyItsOwn m step) (sym h.1) (nothing_added m step)
