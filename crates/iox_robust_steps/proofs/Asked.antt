-- The steps of each call are those that its value asked for, after one more step.
use Rattle.std.proofs.Common.{◌≡◌, ℕ, ◌<◌, ◌≤◌, Bool, true, false, if◌then◌else◌, ◌==◌, nat_lt, Option, Some, None, List, []}
use Rattle.std.proofs.Common.{◌∷◌, ◌++◌, length, set, drop, refl, sym, ◌∙◌, ap, subst, arith}
use Rattle.std.specs.Global.{Vec}
use Rattle.std.proofs.Math.Seq.{take-append_seam}
use Rattle.std.proofs.lemmas.List.{take-append-le}
use Rattle.iox_container.specs.declared.release.ReleaseMode.{ReleaseMode}
use Rattle.iox_container.specs.declared.release.ReleaseMode.TheVariants.{LockIfLastIndex, Default}
use Rattle.iox_container.specs.declared.release.ReleaseState.TheVariants.{Locked, Unlocked}
use Rattle.iox_queues_steps.specs.Access.{successor}
use Rattle.iox_queues.specs.Told.{own}
use Rattle.iox_queues.specs.declared.bits.machine.Event.{Event}
use Rattle.iox_robust_steps.specs.Steps.{call_begun, call_in_hand, call_is_over, call_next, call_take, claims_from, is_freed, is_marked_by}
use Rattle.iox_robust_steps.specs.Steps.{lock_mark, looks_from, scans_from, settles}
use Rattle.iox_robust_steps.specs.Told.{AreAsked, IsAsked, IsAskedSoFar, LieWithin, SetGoes}
use Rattle.iox_robust_steps.specs.Machine.{call_ended, seat_at, stage_at}
use Rattle.iox_robust_steps.specs.declared.call.Answer.TheVariants.{Settled}
use Rattle.iox_robust_steps.specs.declared.call.Call.{Call}
use Rattle.iox_robust_steps.specs.declared.call.Call.TheVariants as call
use Rattle.iox_robust_steps.specs.declared.call.RobustCall.{RobustCall}
use Rattle.iox_robust_steps.specs.declared.call.RobustCall.TheVariants as stage
use Rattle.iox_robust_steps.specs.declared.machine.Finished.{Finished}
use Rattle.iox_robust_steps.specs.declared.state.Seat.{Seat}
use Rattle.iox_queues.proofs.OwnSteps.{own_else_since}
use Rattle.iox_robust_steps.proofs.Seats.{each_seat}

either_call : (b : Bool) (one other : RobustCall) (c : Option Call) → call_in_hand one ≡ c → call_in_hand other ≡ c
    → call_in_hand (if b then one else other) ≡ c
either_call true one other c h g = h
either_call false one other c h g = g

claims_call : (n owner place count : ℕ) → call_in_hand (claims_from n owner place count) ≡ Some (call.Acquire owner)
claims_call n owner place count = either_call (nat_lt place n) (stage.Claim owner place count) _ (Some (call.Acquire owner)) refl refl

settles_call : (mode : ReleaseMode) (c : Call) → call_in_hand (settles mode c) ≡ Some c
settles_call LockIfLastIndex c = refl
settles_call Default c = refl

pub looks_call : (n owner number : ℕ) (mode : ReleaseMode) (place : ℕ)
    → call_in_hand (looks_from n owner number mode place) ≡ Some (call.Recover owner number mode)
looks_call n owner number mode place = either_call (nat_lt place n) (stage.Look owner number mode place) _
    (Some (call.Recover owner number mode)) refl (settles_call mode (call.Recover owner number mode))

scans_call : (n : ℕ) (c : Call) (place count : ℕ) → call_in_hand (scans_from n c place count) ≡ Some c
scans_call n c place count = either_call (nat_lt place n) (stage.Scan c place count) (stage.Lock c count) (Some c) refl refl

-- a call is in hand as the same one, until it is over
pub same_call : (n : ℕ) (decisions : List (Vec Bool)) (insists : Bool) (s : RobustCall) (answer : ℕ) (c : Call) → call_in_hand s ≡ Some c
    → call_is_over s ≡ false → call_in_hand (call_take n decisions insists s answer) ≡ Some c
same_call n decisions insists stage.Idle answer c h over = absurd (cc)
same_call n decisions insists (stage.Acquire owner) answer c h over =
    either_call (answer == lock_mark) _ _ (Some (call.Acquire owner)) refl (claims_call n owner 0 answer) ∙ h
same_call n decisions insists (stage.Claim owner place count) answer c h over =
    either_call (answer == 0) (stage.Count owner place count) _ (Some (call.Acquire owner)) refl
    (claims_call n owner (successor place) count) ∙ h
same_call n decisions insists (stage.Count owner place count) answer c h over =
    either_call (answer == count) (stage.Confirm owner place) _ (Some (call.Acquire owner)) refl
    (either_call (answer == lock_mark) (stage.Undo owner place) (stage.Count owner place answer) (Some (call.Acquire owner)) refl refl) ∙ h
same_call n decisions insists (stage.Confirm owner place) answer c h over = h
same_call n decisions insists (stage.Undo owner place) answer c h over = h
same_call n decisions insists (stage.Free owner index mode) answer c h over = settles_call mode (call.Release owner index mode) ∙ h
same_call n decisions insists (stage.Look owner number mode place) answer c h over =
    either_call (is_freed decisions insists owner number place answer) (stage.Clear owner number mode place answer) _
    (Some (call.Recover owner number mode)) refl (looks_call n owner number mode (successor place)) ∙ h
same_call n decisions insists (stage.Clear owner number mode place seen) answer c h over
    = looks_call n owner number mode (successor place) ∙ h
same_call n decisions insists (stage.Settle d) answer c h over =
    either_call (answer == lock_mark) (stage.Done d (Settled Locked)) _ (Some d) refl (scans_call n d 0 answer) ∙ h
same_call n decisions insists (stage.Scan d place count) answer c h over =
    either_call (answer == 0) _ (stage.Done d (Settled Unlocked)) (Some d) (scans_call n d (successor place) count) refl ∙ h
same_call n decisions insists (stage.Lock d count) answer c h over =
    either_call (is_marked_by count answer) (stage.Done d (Settled Locked)) (stage.Done d (Settled Unlocked)) (Some d) refl refl ∙ h
same_call n decisions insists (stage.Done d a) answer c h over = absurd (cc)

-- where no call is in hand none comes
none_in_hand : (n : ℕ) (decisions : List (Vec Bool)) (insists : Bool) (answer : ℕ) (s : RobustCall) → call_in_hand s ≡ None
    → call_take n decisions insists s answer ≡ stage.Idle
none_in_hand n decisions insists answer (stage.Idle) h = refl
none_in_hand n decisions insists answer (stage.Acquire owner) h = absurd (cc)
none_in_hand n decisions insists answer (stage.Claim owner place count) h = absurd (cc)
none_in_hand n decisions insists answer (stage.Count owner place count) h = absurd (cc)
none_in_hand n decisions insists answer (stage.Confirm owner place) h = absurd (cc)
none_in_hand n decisions insists answer (stage.Undo owner place) h = absurd (cc)
none_in_hand n decisions insists answer (stage.Free owner index mode) h = absurd (cc)
none_in_hand n decisions insists answer (stage.Look owner number mode place) h = absurd (cc)
none_in_hand n decisions insists answer (stage.Clear owner number mode place seen) h = absurd (cc)
none_in_hand n decisions insists answer (stage.Settle c) h = absurd (cc)
none_in_hand n decisions insists answer (stage.Scan c place count) h = absurd (cc)
none_in_hand n decisions insists answer (stage.Lock c count) h = absurd (cc)
none_in_hand n decisions insists answer (stage.Done c a) h = absurd (cc)

pub keeps_call : (n : ℕ) (decisions : List (Vec Bool)) (insists : Bool) (s : RobustCall) (answer : ℕ) → call_is_over s ≡ false
    → call_in_hand (call_take n decisions insists s answer) ≡ call_in_hand s
keeps_call n decisions insists s answer going = of (call_in_hand s) refl
  where
    of : (o : Option Call) → call_in_hand s ≡ o → call_in_hand (call_take n decisions insists s answer) ≡ call_in_hand s
    of None h = ap call_in_hand (none_in_hand n decisions insists answer s h) ∙ sym h
    of (Some c) h = same_call n decisions insists s answer c h going ∙ sym h

module _ (n : ℕ) (decisions : List (Vec Bool)) (may : Bool) where
  module _ (insists : Bool) (allowed : insists ≡ true → may ≡ true) (party : ℕ) (events : List Event) (e : Event) where
    goes_more : (s : RobustCall) → e.access ≡ call_next s → (xs : List Event) (t : RobustCall) → SetGoes n decisions may t xs s
        → SetGoes n decisions may t (xs ++ e ∷ []) (call_take n decisions insists s e.answer)
    goes_more s is [] t h = (
      is ∙ ap call_next h,
      insists,
      allowed,
      ap (λ (u : RobustCall). call_take n decisions insists u e.answer) h,
    )
    goes_more s is (x ∷ xs) t h = (h.0, h.1, h.2, goes_more s is xs (call_take n decisions h.1 t x.answer) h.3)

    asked_by : (c : Call) (s : RobustCall) → call_in_hand (call_take n decisions insists s e.answer) ≡ Some c → e.access ≡ call_next s
        → IsAsked n decisions may party c s events
        → IsAskedSoFar n decisions may party (call_in_hand (call_take n decisions insists s e.answer))
        (call_take n decisions insists s e.answer)
        (events ++ e ∷ [])
    asked_by c s in_hand is a =
        subst (λ (o : Option Call). IsAskedSoFar n decisions may party o (call_take n decisions insists s e.answer) (events ++ e ∷ []))
        (sym in_hand)
        (record {
          between = a.between ++ e ∷ [];
          whole = ap (λ (es : List Event). es ++ e ∷ []) a.whole;
          goes = goes_more s is a.between (call_begun n c) a.goes;
        })

    pub asked_next : (s : RobustCall) → e.access ≡ call_next s → IsAskedSoFar n decisions may party (call_in_hand s) s events
        → IsAskedSoFar n decisions may party (call_in_hand (call_take n decisions insists s e.answer))
        (call_take n decisions insists s e.answer)
        (events ++ e ∷ [])
    asked_next s is a = of (call_in_hand s) refl (call_is_over s) refl a
      where
        over_is : (s : RobustCall) → call_is_over s ≡ true → call_take n decisions insists s e.answer ≡ stage.Idle
        over_is stage.Idle h = refl
        over_is (stage.Acquire owner) h = absurd (cc)
        over_is (stage.Claim owner place count) h = absurd (cc)
        over_is (stage.Count owner place count) h = absurd (cc)
        over_is (stage.Confirm owner place) h = absurd (cc)
        over_is (stage.Undo owner place) h = absurd (cc)
        over_is (stage.Free owner index mode) h = absurd (cc)
        over_is (stage.Look owner number mode place) h = absurd (cc)
        over_is (stage.Clear owner number mode place seen) h = absurd (cc)
        over_is (stage.Settle c) h = absurd (cc)
        over_is (stage.Scan c place count) h = absurd (cc)
        over_is (stage.Lock c count) h = absurd (cc)
        over_is (stage.Done c answer) h = refl

        idle_asked : (t : RobustCall) → t ≡ stage.Idle → IsAskedSoFar n decisions may party (call_in_hand t) t (events ++ e ∷ [])
        idle_asked t h = subst (λ (t : RobustCall). IsAskedSoFar n decisions may party (call_in_hand t) t (events ++ e ∷ [])) (sym h) tt

        of : (o : Option Call) → call_in_hand s ≡ o → (b : Bool) → call_is_over s ≡ b → IsAskedSoFar n decisions may party o s events
            → IsAskedSoFar n decisions may party (call_in_hand (call_take n decisions insists s e.answer))
            (call_take n decisions insists s e.answer)
            (events ++ e ∷ [])
        of None h b over a = idle_asked (call_take n decisions insists s e.answer) (none_in_hand n decisions insists e.answer s h)
        of (Some c) h true over a = idle_asked (call_take n decisions insists s e.answer) (over_is s over)
        of (Some c) h false over a = asked_by c s (same_call n decisions insists s e.answer c h over) is a

  pub ended_asked_on : (events : List Event) (e : Event) (finished : List Finished) → LieWithin events finished
      → AreAsked n decisions may events finished → AreAsked n decisions may (events ++ e ∷ []) finished
  ended_asked_on events e [] among h = tt
  ended_asked_on events e (f ∷ finished) among h = (
    subst (λ (es : List Event). IsAsked n decisions may f.party f.call (stage.Done f.call f.answer) (own f.party (drop f.first es)))
        (sym (take-append-le f.last events (e ∷ []) (omega (arith, among.0.ended)))) h.0,
    ended_asked_on events e finished among.1 h.1,
  )

  pub asked_append : (events : List Event) (xs ys : List Finished) → AreAsked n decisions may events xs → AreAsked n decisions may events ys
      → AreAsked n decisions may events (xs ++ ys)
  asked_append events [] ys h g = g
  asked_append events (x ∷ xs) ys h g = (h.0, asked_append events xs ys h.1 g)

  pub call_asked : (party first : ℕ) (events : List Event) (e : Event) (s : RobustCall)
      → IsAskedSoFar n decisions may party (call_in_hand s) s (own party (drop first events))
      → AreAsked n decisions may (events ++ e ∷ []) (call_ended party first (length events) s)
  call_asked party first events e stage.Idle a = tt
  call_asked party first events e (stage.Acquire owner) a = tt
  call_asked party first events e (stage.Claim owner place count) a = tt
  call_asked party first events e (stage.Count owner place count) a = tt
  call_asked party first events e (stage.Confirm owner place) a = tt
  call_asked party first events e (stage.Undo owner place) a = tt
  call_asked party first events e (stage.Free owner index mode) a = tt
  call_asked party first events e (stage.Look owner number mode place) a = tt
  call_asked party first events e (stage.Clear owner number mode place seen) a = tt
  call_asked party first events e (stage.Settle c) a = tt
  call_asked party first events e (stage.Scan c place count) a = tt
  call_asked party first events e (stage.Lock c count) a = tt
  call_asked party first events e (stage.Done c answer) a = (
    subst (λ (es : List Event). IsAsked n decisions may party c (stage.Done c answer) (own party (drop first es)))
        (sym (take-append_seam events (e ∷ []))) a,
    tt,
  )

  -- each party's call in hand, after a step of one of them
  pub asked_all : (seats : List Seat) (events : List Event) (e : Event) (seat : Seat) → e.party < length seats
      → ((q : ℕ) → (seat_at seats q).first ≤ length events)
      → ((q : ℕ) → IsAskedSoFar n decisions may q (call_in_hand (stage_at seats q)) (stage_at seats q)
      (own q (drop (seat_at seats q).first events)))
      → IsAskedSoFar n decisions may e.party (call_in_hand seat.stage) seat.stage (own e.party (drop seat.first (events ++ e ∷ [])))
      → (q : ℕ) → IsAskedSoFar n decisions may q (call_in_hand (stage_at (set seats e.party seat) q)) (stage_at (set seats e.party seat) q)
      (own q (drop (seat_at (set seats e.party seat) q).first (events ++ e ∷ [])))
  asked_all seats events e seat within began going here =
      each_seat (λ (q : ℕ) (s : Seat). IsAskedSoFar n decisions may q (call_in_hand s.stage) s.stage (own q (drop s.first events))
      × (s.first ≤ length events))
      (λ (q : ℕ) (s : Seat). IsAskedSoFar n decisions may q (call_in_hand s.stage) s.stage (own q (drop s.first (events ++ e ∷ []))))
      seats e.party seat within (λ q. (going q, began q))
      (λ q differs h. subst (λ (es : List Event). IsAskedSoFar n decisions may q (call_in_hand (stage_at seats q)) (stage_at seats q) es)
      (sym (own_else_since q (seat_at seats q).first events e h.1 differs)) h.0)
      here
