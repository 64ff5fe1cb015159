-- What a party's own step leaves of a container, where its call asks the set of indices.
use Rattle.std.proofs.Common.{not}
use Rattle.std.proofs.Common.{◌≡◌, ℕ, ◌<◌, ◌≤◌, inl, inr, ⊎_elim, true, false, if◌then◌else◌, ◌==◌, ◌||◌, ◌&&◌, nat_lt, Ok}
use Rattle.std.proofs.Common.{Err, Option, Some, None, Bool, ◌⊎◌, set, mod-eq_of_lt}
use Rattle.std.proofs.Common.{List, [], ◌∷◌, ◌++◌, length, slice_index, drop, refl, sym, ◌∙◌, ap, subst, arith}
use Rattle.std.specs.Global.{Vec}
use Rattle.std.proofs.Math.Seq.{get_or-set_other}
use Rattle.std.proofs.lemmas.Bool.{and_parts, cases_eq, eqb-true, ltb-true, or_cases}
use Rattle.iox_container.specs.declared.release.ReleaseMode.{ReleaseMode}
use Rattle.iox_container.specs.declared.release.ReleaseMode.TheVariants.{LockIfLastIndex, Default}
use Rattle.iox_container.specs.declared.release.ReleaseState.TheVariants.{Locked, Unlocked}
use Rattle.iox_queues_steps.specs.Access.{RingWords, after_access, answer_of, successor}
use Rattle.iox_queues_steps.specs.declared.access.Access.TheVariants.{Local}
use Rattle.iox_queues.specs.Told.{own}
use Rattle.iox_queues.specs.declared.bits.machine.Event.{Event}
use Rattle.iox_robust_steps.specs.ContainerSteps.{answer_at, asked_for_place, closed, dropped, entered, is_clearing, is_shown, watches_from}
use Rattle.iox_robust_steps.specs.ContainerTold.{times_counted}
use Rattle.iox_robust_steps.specs.ContainerKept.{HoldsFor, IsLostOwner, IsOf, IsSeenOrOut, IsToFree, IsUnheld, KnowsMember}
use Rattle.iox_robust_steps.specs.ContainerRecovering.{is_settling}
use Rattle.iox_robust_steps.specs.Steps.{call_in_hand, call_is_idle, call_next, call_take, is_freed, is_marked_by, lock_mark, looks_from}
use Rattle.iox_robust_steps.specs.Steps.{reserved, scans_from, settles, decided}
use Rattle.iox_robust_steps.specs.Changes.{is_owner}
use Rattle.iox_robust_steps.specs.Kept.{IsConsistent, IsKept}
use Rattle.iox_robust_steps.specs.Machine.{CellFits, HasFewSteps, RobustSetState, begun, fits, may_begin, place_of, places_after}
use Rattle.iox_robust_steps.specs.Machine.{seat_at, stage_at, went}
use Rattle.iox_robust_steps.specs.declared.call.Answer.{Answer}
use Rattle.iox_robust_steps.specs.declared.call.Answer.TheVariants.{Acquired, Settled}
use Rattle.iox_robust_steps.specs.declared.call.Call.TheVariants as set_call
use Rattle.iox_robust_steps.specs.declared.call.RobustCall.{RobustCall}
use Rattle.iox_robust_steps.specs.declared.call.RobustCall.TheVariants as set_stage
use Rattle.iox_robust_steps.specs.declared.container.call.ContainerCall.{ContainerCall}
use Rattle.iox_robust_steps.specs.declared.container.call.ContainerCall.TheVariants as stage
use Rattle.iox_robust_steps.specs.declared.machine.Move.TheVariants.{Begin, GoOn}
use Rattle.iox_robust_steps.specs.declared.state.Place.{Place}
use Rattle.iox_robust_steps.specs.declared.state.Place.TheVariants as place
use Rattle.iox_robust_steps.specs.declared.state.Seat.{Seat}
use Rattle.iox_robust_steps.proofs.Asked.{same_call}
use Rattle.iox_robust_steps.proofs.ContainerGoing.{MemberMade, leaves_all_members}
use Rattle.iox_robust_steps.proofs.ContainerLeaves.{goes_on_out}
use Rattle.iox_robust_steps.proofs.ContainerSet.{acquire_gives_none, done_places, done_words, keeps_for, lost_keeps, never_acquired}
use Rattle.iox_robust_steps.proofs.ContainerSet.{never_settled, never_taken, none_of_lost, not_halted, not_over, release_gives_own}
use Rattle.iox_robust_steps.proofs.ContainerSet.{release_keeps, release_takes_none, still_his, took_now, unheld_before}
use Rattle.iox_robust_steps.proofs.ContainerWords.{more_counted}
use Rattle.iox_robust_steps.proofs.Knowing.{lost_before, lost_still}
use Rattle.iox_robust_steps.proofs.Runs.{fewer, lost_now, owner_named}
use Rattle.iox_robust_steps.proofs.Seats.{seat_here}

-- a recovery of the set that goes on frees nothing yet, and one that ends settles
pub looks_clear : (n owner number : ℕ) (mode : ReleaseMode) (i : ℕ) → is_clearing (looks_from n owner number mode i) ≡ false
looks_clear n owner number mode i = of (nat_lt i n) mode
  where
    of : (b : Bool) (mode : ReleaseMode)
        → is_clearing (if b then set_stage.Look owner number mode i else settles mode (set_call.Recover owner number mode)) ≡ false
    of true mode = refl
    of false LockIfLastIndex = refl
    of false Default = refl

either_settles : (b : Bool) (one other : RobustCall) → is_settling one ≡ true → is_settling other ≡ true
    → is_settling (if b then one else other) ≡ true
either_settles true one other h g = h
either_settles false one other h g = g

settles_on : (n : ℕ) (decisions : List (Vec Bool)) (insists : Bool) (answer : ℕ) (s : RobustCall) → is_settling s ≡ true
    → answer_at s ≡ None
    → is_settling (call_take n decisions insists s answer) ≡ true
settles_on n decisions insists answer set_stage.Idle h g = absurd (cc)
settles_on n decisions insists answer (set_stage.Acquire o) h g = absurd (cc)
settles_on n decisions insists answer (set_stage.Claim o i count) h g = absurd (cc)
settles_on n decisions insists answer (set_stage.Count o i count) h g = absurd (cc)
settles_on n decisions insists answer (set_stage.Confirm o i) h g = absurd (cc)
settles_on n decisions insists answer (set_stage.Undo o i) h g = absurd (cc)
settles_on n decisions insists answer (set_stage.Free o i mode) h g = absurd (cc)
settles_on n decisions insists answer (set_stage.Look o j mode i) h g = absurd (cc)
settles_on n decisions insists answer (set_stage.Clear o j mode i seen) h g = absurd (cc)
settles_on n decisions insists answer (set_stage.Settle c) h g = either_settles (answer == lock_mark) (set_stage.Done c (Settled Locked))
    (scans_from n c 0 answer) refl (either_settles (nat_lt 0 n) (set_stage.Scan c 0 answer) (set_stage.Lock c answer) refl refl)
settles_on n decisions insists answer (set_stage.Scan c i count) h g = either_settles (answer == 0) (scans_from n c (successor i) count)
    (set_stage.Done c (Settled Unlocked))
    (either_settles (nat_lt (successor i) n) (set_stage.Scan c (successor i) count) (set_stage.Lock c count) refl refl) refl
settles_on n decisions insists answer (set_stage.Lock c count) h g = either_settles (is_marked_by count answer)
    (set_stage.Done c (Settled Locked)) (set_stage.Done c (Settled Unlocked)) refl refl
settles_on n decisions insists answer (set_stage.Done c a) h g = absurd (cc)

settle_places : (places : List Place) (p answer : ℕ) (s : RobustCall) → is_settling s ≡ true → places_after places p s answer ≡ places
settle_places places p answer set_stage.Idle h = absurd (cc)
settle_places places p answer (set_stage.Acquire o) h = absurd (cc)
settle_places places p answer (set_stage.Claim o i count) h = absurd (cc)
settle_places places p answer (set_stage.Count o i count) h = absurd (cc)
settle_places places p answer (set_stage.Confirm o i) h = absurd (cc)
settle_places places p answer (set_stage.Undo o i) h = absurd (cc)
settle_places places p answer (set_stage.Free o i mode) h = absurd (cc)
settle_places places p answer (set_stage.Look o j mode i) h = absurd (cc)
settle_places places p answer (set_stage.Clear o j mode i seen) h = absurd (cc)
settle_places places p answer (set_stage.Settle c) h = refl
settle_places places p answer (set_stage.Scan c i count) h = refl
settle_places places p answer (set_stage.Lock c count) h = refl
settle_places places p answer (set_stage.Done c a) h = refl

-- a call in hand is over, or is the same one after its next step
module _ (width p : ℕ) (values : List (Vec ℕ)) (start words : RingWords) (events own_steps : List Event) (first : ℕ) (m : RobustSetState)
    (k : IsKept m) (below : (i : ℕ) → i < m.capacity → slice_index words.cells i ≤ length events)
    (out : (i : ℕ) → i < m.capacity → IsUnheld m.places i → is_shown (slice_index words.cells i) ≡ false) where
  abbrev local : Event
  local = record { party = p; access = Local; answer = 0 }

  abbrev later : List Event
  later = events ++ local ∷ []

  abbrev mine : List Event
  mine = own_steps ++ local ∷ []

  none_counted : times_counted own_steps ≡ 0 → times_counted mine ≡ 0
  none_counted times = omega (arith, more_counted own_steps local, times)

  -- what a recovery knows that goes on to a place, if one is left
  watches_known : (x : RobustSetState) (owner number : ℕ) (mode : ReleaseMode) (i : ℕ) (r : RobustCall) → times_counted mine ≡ 0
      → IsLostOwner x owner → r ≡ looks_from m.capacity owner number mode i
      → KnowsMember m.capacity width values start words.cells x p r first later mine (watches_from m.capacity owner number mode i)
  watches_known x owner number mode i r times lost is = of (nat_lt i m.capacity) refl is
    where
      ends : (mode : ReleaseMode) → r ≡ settles mode (set_call.Recover owner number mode)
          → (call_in_hand r ≡ Some (set_call.Recover owner number mode)) × (is_settling r ≡ true)
      ends LockIfLastIndex h = (ap call_in_hand h, ap is_settling h)
      ends Default h = (ap call_in_hand h, ap is_settling h)

      of : (b : Bool) → nat_lt i m.capacity ≡ b
          → r ≡ (if b then set_stage.Look owner number mode i else settles mode (set_call.Recover owner number mode))
          → KnowsMember m.capacity width values start words.cells x p r first later mine
          (if b then stage.Watch owner number mode i else stage.Close owner number mode)
      of true e h = (times, ltb-true i m.capacity e, lost, h)
      of false e h = (times, lost, (ends mode h).0, (ends mode h).1)

  module _ (insists : Bool) (fit : fits m (GoOn p) ≡ true) (few : HasFewSteps (went m p insists)) where
    abbrev s : RobustCall
    s = stage_at m.seats p

    abbrev answer : ℕ
    answer = answer_of m.words (call_next s)

    abbrev next : RobustCall
    next = call_take m.capacity m.decisions insists s answer

    abbrev places' : List Place
    places' = places_after m.places p s answer

    c : IsConsistent m
    c = k.sound (fewer m p insists fit k few)

    next_is : stage_at (went m p insists).seats p ≡ next
    next_is = ap (λ (seat : Seat). seat.stage) (seat_here m.seats p _ (ltb-true p (length m.seats)
        (and_parts (nat_lt p (length m.seats)) _ fit).0))

    -- no member of an owner that is lost is in where the set frees an index
    abbrev FreesNone : Type 0
    FreesNone = (o i : ℕ) → IsLostOwner m o → is_shown (slice_index words.cells i) ≡ true → slice_index m.words.cells i ≡ o
        → (owner number : ℕ) (mode : ReleaseMode) (j seen : ℕ) → s ≡ set_stage.Clear owner number mode j seen
        → slice_index m.words.cells j ≡ seen → i ≡ j → ⊥

    not_clearing : is_clearing s ≡ false → FreesNone
    not_clearing other = λ o i lost shown is owner number mode j seen same found at.
        let wrong : false ≡ true = sym other ∙ ap is_clearing same in cc

    -- the set makes its step, and no word of the container changes
    asks : (t : ContainerCall) → ((i : ℕ) → i < m.capacity → IsUnheld places' i → is_shown (slice_index words.cells i) ≡ false)
        → FreesNone → KnowsMember m.capacity width values start words.cells (went m p insists) p next first later mine t
        → MemberMade m.capacity width p values start words words m (went m p insists) (stage_at
        (went m p insists).seats p) first events own_steps
        local t
    asks t hidden frees knows = record {
      write = omega arith;
      low = λ i within. omega (arith, below i within);
      out = hidden;
      leaves = λ q differs. leaves_all_members m.capacity width q words.cells m (went m p insists) refl (λ o h. h) (λ o h. h)
          (λ o i within live holds. keeps_for m p insists fit k few q o i differs within live holds)
          (λ i. still_his q m.places p s answer i differs) (λ o i within lost is. none_of_lost m p insists fit k few o i lost is)
          (λ o i within lost shown is. lost_keeps m p insists fit k few o i lost is (frees o i lost shown is));
      knows = subst (λ (r : RobustCall). KnowsMember m.capacity width values start words.cells (went m p insists) p r first later mine t)
          (sym next_is) knows;
    }

    pub enter_made : (number owner : ℕ)
        → KnowsMember m.capacity width values start words.cells m p s first events own_steps (stage.Enter number owner)
        → MemberMade m.capacity width p values start words words m (went m p insists) (stage_at
        (went m p insists).seats p) first events own_steps local
        (entered number owner (answer_at s))
    enter_made number owner kn = asks (entered number owner (answer_at s))
        (λ i within unheld. out i within
        (unheld_before m p insists fit k few i unheld (acquire_gives_none i answer owner s kn.2)))
        (λ o i lost shown is other number mode j seen same found at.
        let wrong : Some (set_call.Acquire owner) ≡ Some (set_call.Recover other number mode) = sym kn.2 ∙ ap call_in_hand same in cc)
        (of (answer_at s) refl)
      where
        of : (o : Option Answer) → answer_at s ≡ o
            → KnowsMember m.capacity width values start words.cells (went m p insists) p next first later mine (entered number owner o)
        of None h = (
          none_counted kn.0,
          kn.1,
          same_call m.capacity m.decisions insists s answer (set_call.Acquire owner) kn.2 (not_over s h),
          λ i is.
              let took : (i < m.capacity) × (place_of places' i ≡ place.Held p)
              × (slice_index (after_access m.words (call_next s)).cells i ≡ owner) × IsUnheld m.places i
              = took_now m.capacity p m.decisions insists m.words m.places m.lost (own p (drop (seat_at m.seats p).first m.events)) k.places
              k.cells i owner s kn.2 (not_halted m p insists fit k few) (c.knows p) is in
              (took.0, λ live. ((took.1, took.2), out i took.0 took.3)),
        )
        of (Some (Acquired (Ok i))) h = (
          none_counted kn.0,
          (kn.3 i h).0,
          omega arith,
          λ live.
              let has : HoldsFor m p owner i × (is_shown (slice_index words.cells i) ≡ false) = (kn.3 i h).1 live in (
                (
                  ap (λ (ps : List Place). place_of ps i) (done_places m.places p answer s _ h) ∙ has.0.0,
                  ap (λ (w : RingWords). slice_index w.cells i) (done_words m.words s _ h) ∙ has.0.1,
                ),
                has.1,
                λ j low. absurd (omega (arith, low)),
              ),
        )
        of (Some (Acquired (Err why))) h = (none_counted kn.0, tt)
        of (Some (Settled state)) h = absurd (never_settled m.capacity p m.words m.places m.lost _ owner state s kn.2 h (c.knows p))

    pub drop_made : (owner index : ℕ) (mode : ReleaseMode)
        → KnowsMember m.capacity width values start words.cells m p s first events own_steps (stage.Drop owner index mode)
        → MemberMade m.capacity width p values start words words m (went m p insists) (stage_at
        (went m p insists).seats p) first events own_steps local
        (dropped owner index mode (answer_at s))
    drop_made owner index mode kn = asks (dropped owner index mode (answer_at s)) hidden
        (λ o i lost shown is other number mode' j seen same found at.
        let wrong : Some (set_call.Release owner index mode) ≡ Some (set_call.Recover other number mode')
        = sym kn.4 ∙ ap call_in_hand same in cc)
        (of (answer_at s) refl)
      where
        -- its own index shows no member while the party holds it, and another party's stays held
        freed : (x : Place) → place_of m.places index ≡ x → IsUnheld places' index → is_shown (slice_index words.cells index) ≡ false
        freed place.Empty h unheld = out index kn.1 (λ r is. let wrong : place.Empty ≡ place.Held r = sym h ∙ is in cc)
        freed (place.Claimed q) h unheld = out index kn.1 (λ r is. let wrong : place.Claimed q ≡ place.Held r = sym h ∙ is in cc)
        freed (place.Counted q) h unheld = out index kn.1 (λ r is. let wrong : place.Counted q ≡ place.Held r = sym h ∙ is in cc)
        freed (place.Held q) h unheld = ⊎_elim
            (λ (same : p ≡ q). kn.3 (h ∙ ap (λ (r : ℕ). place.Held r) (sym same)))
            (λ (differs : p ≡ q → ⊥). absurd (unheld q
            (release_keeps m.capacity p q owner index mode m.words m.places m.lost (own p (drop (seat_at m.seats p).first m.events))
            differs index answer h s kn.4 (not_halted m p insists fit k few) (c.knows p))))
            (cases_eq p q)

        hidden : (i : ℕ) → i < m.capacity → IsUnheld places' i → is_shown (slice_index words.cells i) ≡ false
        hidden i within unheld = ⊎_elim
            (λ (same : i ≡ index). ap (λ (j : ℕ). is_shown (slice_index words.cells j)) same
            ∙ freed (place_of m.places index) refl (subst (IsUnheld places') same unheld))
            (λ (differs : i ≡ index → ⊥). out i within (unheld_before m p insists fit k few i unheld
            (release_gives_own i answer owner index mode s kn.4 differs)))
            (cases_eq i index)

        of : (o : Option Answer) → answer_at s ≡ o
            → KnowsMember m.capacity width values start words.cells (went m p insists) p next first later mine (dropped owner index mode o)
        of None h = (
          none_counted kn.0,
          kn.1,
          goes_on_out m.capacity width start first events local p index kn.2,
          λ is. kn.3 (release_takes_none p p m.places owner index mode s answer index kn.4 is),
          same_call m.capacity m.decisions insists s answer (set_call.Release owner index mode) kn.4 (not_over s h),
        )
        of (Some (Settled state)) h =
            (refl, (kn.1, goes_on_out m.capacity width start first events local p index kn.2, none_counted kn.0), tt)
        of (Some (Acquired got)) h =
            absurd (never_acquired m.capacity p m.words m.places m.lost _ owner index mode got s kn.4 h (c.knows p))

    -- the set looks whose the index of a place is
    pub ask_made : (owner number : ℕ) (mode : ReleaseMode) (i seen : ℕ) → insists ≡ not (is_shown seen)
        → KnowsMember m.capacity width values start words.cells m p s first events own_steps (stage.Ask owner number mode i seen)
        → MemberMade m.capacity width p values start words words m (went m p insists) (stage_at
        (went m p insists).seats p) first events own_steps local
        (asked_for_place m.capacity owner number mode i seen (is_clearing (stage_at (went m p insists).seats p)))
    ask_made owner number mode i seen insists_is kn = asks
        (asked_for_place m.capacity owner number mode i seen (is_clearing (stage_at (went m p insists).seats p)))
        (λ l within unheld. out l within (subst (λ (ps : List Place). IsUnheld ps l) same_places unheld))
        (not_clearing (ap is_clearing kn.3))
        (subst (λ (r : RobustCall). KnowsMember m.capacity width values start words.cells (went m p insists) p next first later mine
        (asked_for_place m.capacity owner number mode i seen (is_clearing r))) (sym next_is)
        (of (is_freed m.decisions insists owner number i answer) refl))
      where
        same_places : places' ≡ m.places
        same_places = ap (λ (t : RobustCall). places_after m.places p t answer) kn.3

        same_words : after_access m.words (call_next s) ≡ m.words
        same_words = ap (λ (t : RobustCall). after_access m.words (call_next t)) kn.3

        answer_is : answer ≡ slice_index m.words.cells i
        answer_is = ap (λ (t : RobustCall). answer_of m.words (call_next t)) kn.3
            ∙ ap (λ (l : ℕ). slice_index m.words.cells l) (mod-eq_of_lt (omega (arith, kn.1, k.cells)))

        goes : (b : Bool) → is_freed m.decisions insists owner number i answer ≡ b
            → next ≡ (if b then set_stage.Clear owner number mode i answer else looks_from m.capacity owner number mode (successor i))
        goes b e = ap (λ (t : RobustCall). call_take m.capacity m.decisions insists t answer) kn.3
            ∙ ap (λ (d : Bool). if d then set_stage.Clear owner number mode i answer
            else looks_from m.capacity owner number mode (successor i)) e

        seen_so : IsSeenOrOut owner (slice_index (after_access m.words (call_next s)).cells i) (slice_index words.cells i) seen
        seen_so = subst (λ (w : RingWords). IsSeenOrOut owner (slice_index w.cells i) (slice_index words.cells i) seen) (sym same_words)
            kn.5

        its : is_freed m.decisions insists owner number i answer ≡ true → IsOf owner answer
        its wanted = named (or_cases (answer == owner) (answer == reserved owner)
            (and_parts ((answer == owner) || (answer == reserved owner)) (insists || decided m.decisions number i) wanted).0)
          where
            named : ((answer == owner) ≡ true) ⊎ ((answer == reserved owner) ≡ true) → IsOf owner answer
            named (inl h) = inl (eqb-true answer owner h)
            named (inr h) = inr (eqb-true answer (reserved owner) h)

        to_free : is_freed m.decisions insists owner number i answer ≡ true → IsToFree owner number mode i next
        to_free wanted = (answer, goes true wanted, its wanted)

        -- a member is in there, so the owner holds the index
        owned : is_freed m.decisions insists owner number i answer ≡ true → is_shown seen ≡ true → slice_index words.cells i ≡ seen
            → slice_index (after_access m.words (call_next s)).cells i ≡ owner
        owned wanted shown is = ap (λ (w : RingWords). slice_index w.cells i) same_words ∙ sym answer_is ∙ ⊎_elim
            (λ (same : answer ≡ owner). same)
            (λ (about : answer ≡ reserved owner). absurd (
            let hidden : is_shown (slice_index words.cells i) ≡ false = out i kn.1 (λ r held.
            let both : CellFits (place.Held r) (slice_index m.words.cells i)
            = subst (λ (x : Place). CellFits x (slice_index m.words.cells i)) held (c.whole.cells i kn.1) in
            omega (arith, both.1, answer_is, about)) in
            let wrong : true ≡ false = sym shown ∙ ap is_shown (sym is) ∙ hidden in cc))
            (its wanted)

        -- where a member was seen, that was decided
        decided_on : is_freed m.decisions insists owner number i answer ≡ true → is_shown seen ≡ true
            → decided m.decisions number i ≡ true
        decided_on wanted shown = sym (ap (λ (b : Bool). b || decided m.decisions number i) (insists_is ∙ ap not shown))
            ∙ (and_parts ((answer == owner) || (answer == reserved owner)) (insists || decided m.decisions number i) wanted).1

        clears : is_freed m.decisions insists owner number i answer ≡ true → (b : Bool) → is_shown seen ≡ b
            → KnowsMember m.capacity width values start words.cells (went m p insists) p next first later mine
            (if b then stage.Expel owner number mode i seen else stage.Clear owner number mode i)
        clears wanted true e =
            (none_counted kn.0, kn.1, kn.2, to_free wanted, kn.4, seen_so, e, owned wanted e, decided_on wanted e)
        clears wanted false e = (
          none_counted kn.0,
          kn.1,
          kn.2,
          to_free wanted,
          λ is. ⊎_elim
              (λ (same : slice_index words.cells i ≡ seen). ap is_shown same ∙ e)
              (λ (hidden : is_shown (slice_index words.cells i) ≡ false). hidden)
              (seen_so is),
        )

        of : (b : Bool) → is_freed m.decisions insists owner number i answer ≡ b
            → KnowsMember m.capacity width values start words.cells (went m p insists) p next first later mine
            (asked_for_place m.capacity owner number mode i seen (is_clearing next))
        of true e = subst (λ (b : Bool). KnowsMember m.capacity width values start words.cells (went m p insists) p next first later mine
            (asked_for_place m.capacity owner number mode i seen b)) (sym (ap is_clearing (goes true e))) (clears e (is_shown seen) refl)
        of false e = subst (λ (b : Bool). KnowsMember m.capacity width values start words.cells (went m p insists) p next first later mine
            (asked_for_place m.capacity owner number mode i seen b))
            (sym (ap is_clearing (goes false e) ∙ looks_clear m.capacity owner number mode (successor i)))
            (watches_known (went m p insists) owner number mode (successor i) next (none_counted kn.0) kn.2 (goes false e))

    -- the set frees the index of a place at which no member is in
    pub clear_made : (owner number : ℕ) (mode : ReleaseMode) (i : ℕ)
        → KnowsMember m.capacity width values start words.cells m p s first events own_steps (stage.Clear owner number mode i)
        → MemberMade m.capacity width p values start words words m (went m p insists) (stage_at
        (went m p insists).seats p) first events own_steps local
        (watches_from m.capacity owner number mode (successor i))
    clear_made owner number mode i kn = asks (watches_from m.capacity owner number mode (successor i)) hidden frees
        (watches_known (went m p insists) owner number mode (successor i) next (none_counted kn.0) kn.2
        (ap (λ (t : RobustCall). call_take m.capacity m.decisions insists t answer) kn.3.1))
      where
        answer_is : answer ≡ slice_index m.words.cells i
        answer_is = ap (λ (t : RobustCall). answer_of m.words (call_next t)) kn.3.1
            ∙ ap (λ (l : ℕ). slice_index m.words.cells l) (mod-eq_of_lt (omega (arith, kn.1, k.cells)))

        -- where it frees the index no member is in
        none_in : slice_index m.words.cells i ≡ kn.3.0 → is_shown (slice_index words.cells i) ≡ false
        none_in found = kn.4 (subst (IsOf owner) (sym found) kn.3.2)

        hidden : (l : ℕ) → l < m.capacity → IsUnheld places' l → is_shown (slice_index words.cells l) ≡ false
        hidden l within unheld = of (answer == kn.3.0) refl (subst (λ (ps : List Place). IsUnheld ps l)
            (ap (λ (t : RobustCall). places_after m.places p t answer) kn.3.1) unheld)
          where
            of : (b : Bool) → (answer == kn.3.0) ≡ b → IsUnheld (if b then set m.places i place.Empty else m.places) l
                → is_shown (slice_index words.cells l) ≡ false
            of true e none = ⊎_elim
                (λ (same : l ≡ i). ap (λ (j : ℕ). is_shown (slice_index words.cells j)) same
                ∙ none_in (sym answer_is ∙ eqb-true answer kn.3.0 e))
                (λ (differs : l ≡ i → ⊥). out l within
                (λ r held. none r (get_or-set_other m.places i l place.Empty place.Empty differs ∙ held)))
                (cases_eq l i)
            of false e none = out l within none

        frees : FreesNone
        frees o l lost shown is other number' mode' j seen same found at =
            let both : set_stage.Clear owner number mode i kn.3.0 ≡ set_stage.Clear other number' mode' j seen = sym kn.3.1 ∙ same in
            let place_is : i ≡ j = cc in
            let seen_is : kn.3.0 ≡ seen = cc in
            let wrong : true ≡ false = sym shown ∙ ap (λ (l : ℕ). is_shown (slice_index words.cells l)) (at ∙ sym place_is)
            ∙ none_in (ap (λ (l : ℕ). slice_index m.words.cells l) place_is ∙ found ∙ sym seen_is) in cc

    -- the set ends its recovery
    pub close_made : (owner number : ℕ) (mode : ReleaseMode)
        → KnowsMember m.capacity width values start words.cells m p s first events own_steps (stage.Close owner number mode)
        → MemberMade m.capacity width p values start words words m (went m p insists) (stage_at
        (went m p insists).seats p) first events own_steps local
        (closed owner number mode (answer_at s))
    close_made owner number mode kn = asks (closed owner number mode (answer_at s))
        (λ l within unheld. out l within (subst (λ (ps : List Place). IsUnheld ps l) (settle_places m.places p answer s kn.3) unheld))
        (λ o i lost shown is other number mode j seen same found at.
        let wrong : true ≡ false = sym kn.3 ∙ ap is_settling same in cc)
        (of (answer_at s) refl)
      where
        of : (o : Option Answer) → answer_at s ≡ o
            → KnowsMember m.capacity width values start words.cells (went m p insists) p next first later mine (closed owner number mode o)
        of None h = (
          none_counted kn.0,
          kn.1,
          same_call m.capacity m.decisions insists s answer (set_call.Recover owner number mode) kn.2 (not_over s h),
          settles_on m.capacity m.decisions insists answer s kn.3 h,
        )
        of (Some (Settled state)) h = (refl, none_counted kn.0, tt)
        of (Some (Acquired got)) h =
            absurd (never_taken m.capacity p m.words m.places m.lost _ owner number mode got s kn.2 h (c.knows p))

  -- a recovery begins
  pub search_made : (owner number : ℕ) (mode : ReleaseMode) → fits m (Begin p (set_call.Recover owner number mode)) ≡ true
      → times_counted own_steps ≡ 0
      → MemberMade m.capacity width p values start words words m (begun m p (set_call.Recover owner number mode))
      (stage_at (begun m p (set_call.Recover owner number mode)).seats p) first events own_steps local
      (watches_from m.capacity owner number mode 0)
  search_made owner number mode fit times = record {
    write = omega arith;
    low = λ i within. omega (arith, below i within);
    out = out;
    leaves = λ q differs. leaves_all_members m.capacity width q words.cells m (begun m p (set_call.Recover owner number mode)) refl
        (λ o h. lost_before o owner m.lost h) (λ o h. lost_still o owner m.lost h) (λ o i within live h. h) (λ i h. h)
        (λ o i within lost h. h) (λ o i within lost shown h. h);
    knows = watches_known (begun m p (set_call.Recover owner number mode)) owner number mode 0
        (stage_at (begun m p (set_call.Recover owner number mode)).seats p) (none_counted times) (
          owner_named m p (set_call.Recover owner number mode) fit k owner may,
          lost_now m p (set_call.Recover owner number mode) fit k owner m.lost,
        )
        (ap (λ (seat : Seat). seat.stage) (seat_here m.seats p _ (ltb-true p (length m.seats) parts.0)));
  }
    where
      parts : (nat_lt p (length m.seats) ≡ true) × ((call_is_idle (stage_at m.seats p)
          && may_begin m p (set_call.Recover owner number mode)) ≡ true)
      parts = and_parts (nat_lt p (length m.seats)) _ fit

      may : is_owner owner ≡ true
      may = (and_parts (call_is_idle (stage_at m.seats p)) (is_owner owner) parts.1).1

  pub leave_made : (owner index : ℕ) (mode : ReleaseMode) → fits m (Begin p (set_call.Release owner index mode)) ≡ true
      → KnowsMember m.capacity width values start words.cells m p (stage_at m.seats p) first events own_steps
      (stage.Leave owner index mode)
      → MemberMade m.capacity width p values start words words m (begun m p (set_call.Release owner index mode))
      (stage_at (begun m p (set_call.Release owner index mode)).seats p) first events own_steps local (stage.Drop owner index mode)
  leave_made owner index mode fit kn = record {
    write = omega arith;
    low = λ i within. omega (arith, below i within);
    out = out;
    leaves = λ q differs. leaves_all_members m.capacity width q words.cells m (begun m p (set_call.Release owner index mode)) refl
        (λ o h. h) (λ o h. h) (λ o i within live h. h) (λ i h. h) (λ o i within lost h. h) (λ o i within lost shown h. h);
    knows = (
      none_counted kn.0,
      kn.1,
      goes_on_out m.capacity width start first events local p index kn.2,
      kn.3,
      ap (λ (seat : Seat). call_in_hand seat.stage) (seat_here m.seats p _ (ltb-true p (length m.seats)
          (and_parts (nat_lt p (length m.seats)) _ fit).0)),
    );
  }
