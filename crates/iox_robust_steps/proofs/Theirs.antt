-- A recovery frees nothing but what it is to free of its owner, since it asks for nothing else.
use Rattle.std.proofs.Common.{◌≡◌, ℕ, ◌<◌, ◌⊎◌, inl, inr, Bool, true, false, if◌then◌else◌, ◌==◌, ◌||◌, nat_lt, List, [], ◌∷◌, sym, ◌∙◌}
use Rattle.std.proofs.Common.{subst}
use Rattle.std.proofs.Common.{drop, refl, take, ap}
use Rattle.std.specs.Global.{Vec}
use Rattle.std.proofs.lemmas.Bool.{and_parts, eqb-true, ltb-true, or_cases}
use Rattle.iox_container.specs.declared.release.ReleaseMode.{ReleaseMode}
use Rattle.iox_container.specs.declared.release.ReleaseMode.TheVariants.{LockIfLastIndex, Default}
use Rattle.iox_container.specs.declared.release.ReleaseState.TheVariants.{Locked, Unlocked}
use Rattle.iox_queues_steps.specs.Access.{successor}
use Rattle.iox_queues.specs.Told.{own}
use Rattle.iox_queues.specs.declared.bits.machine.Event.{Event}
use Rattle.iox_robust_steps.specs.Steps.{call_begun, call_next, call_take, decided, is_freed, is_marked_by, lock_mark, looks_from}
use Rattle.iox_robust_steps.specs.Steps.{reserved, settles}
use Rattle.iox_robust_steps.specs.Told.{AreAsked, EachFreesItsOwn, FreeOnly, FreesItsOwn, FreesSo, IsAsked, SetGoes}
use Rattle.iox_robust_steps.specs.declared.call.Answer.TheVariants.{Settled}
use Rattle.iox_robust_steps.specs.declared.call.Call.{Call}
use Rattle.iox_robust_steps.specs.declared.call.Call.TheVariants as call
use Rattle.iox_robust_steps.specs.declared.call.RobustCall.{RobustCall}
use Rattle.iox_robust_steps.specs.declared.call.RobustCall.TheVariants as stage
use Rattle.iox_robust_steps.specs.declared.machine.Finished.{Finished}

module _ (n : ℕ) (decisions : List (Vec Bool)) (may : Bool) (owner number : ℕ) where
  -- a stage of this recovery; one that is to free a cell saw its owner there, and was to free it
  abbrev pub OfRecovery : RobustCall → Type 0
  OfRecovery stage.Idle = Unit {0}
  OfRecovery (stage.Acquire o) = ⊥
  OfRecovery (stage.Claim o place count) = ⊥
  OfRecovery (stage.Count o place count) = ⊥
  OfRecovery (stage.Confirm o place) = ⊥
  OfRecovery (stage.Undo o place) = ⊥
  OfRecovery (stage.Free o index mode) = ⊥
  OfRecovery (stage.Look o k mode place) = (o ≡ owner) × (k ≡ number) × (place < n)
  OfRecovery (stage.Clear o k mode place seen) =
      (o ≡ owner) × (k ≡ number) × ((decided decisions number place ≡ true) ⊎ (may ≡ true)) × ((seen ≡ owner)
      ⊎ (seen ≡ reserved owner)) × (place < n)
  OfRecovery (stage.Settle c) = Unit {0}
  OfRecovery (stage.Scan c place count) = Unit {0}
  OfRecovery (stage.Lock c count) = Unit {0}
  OfRecovery (stage.Done c answer) = Unit {0}

  either_of : (b : Bool) (one other : RobustCall) → OfRecovery one → OfRecovery other → OfRecovery (if b then one else other)
  either_of true one other h g = h
  either_of false one other h g = g

  settles_of : (mode : ReleaseMode) (c : Call) → OfRecovery (settles mode c)
  settles_of LockIfLastIndex c = tt
  settles_of Default c = tt

  looks_of : (o k : ℕ) (mode : ReleaseMode) (place : ℕ) → o ≡ owner → k ≡ number → OfRecovery (looks_from n o k mode place)
  looks_of o k mode place same number_is = test (nat_lt place n) refl
    where
      test : (b : Bool) → nat_lt place n ≡ b → OfRecovery (if b then stage.Look o k mode place else settles mode (call.Recover o k mode))
      test true e = (same, number_is, ltb-true place n e)
      test false e = settles_of mode (call.Recover o k mode)

  next_of : (insists : Bool) → (insists ≡ true → may ≡ true) → (s : RobustCall) (answer : ℕ) → OfRecovery s
      → OfRecovery (call_take n decisions insists s answer)
  next_of insists allowed stage.Idle answer k = tt
  next_of insists allowed (stage.Acquire o) answer k = absurd k
  next_of insists allowed (stage.Claim o place count) answer k = absurd k
  next_of insists allowed (stage.Count o place count) answer k = absurd k
  next_of insists allowed (stage.Confirm o place) answer k = absurd k
  next_of insists allowed (stage.Undo o place) answer k = absurd k
  next_of insists allowed (stage.Free o index mode) answer k = absurd k
  next_of insists allowed (stage.Look o j mode place) answer k = test (is_freed decisions insists o j place answer) refl
    where
      parts : is_freed decisions insists o j place answer ≡ true → OfRecovery (stage.Clear o j mode place answer)
      parts e =
          let both : (((answer == o) || (answer == reserved o)) ≡ true) × ((insists || decided decisions j place) ≡ true)
          = and_parts ((answer == o) || (answer == reserved o)) (insists || decided decisions j place) e in (
            k.0,
            k.1,
            wanted (or_cases insists (decided decisions j place) both.1),
            seen (or_cases (answer == o) (answer == reserved o) both.0),
            k.2,
          )
        where
          wanted : (insists ≡ true) ⊎ (decided decisions j place ≡ true) → (decided decisions number place ≡ true) ⊎ (may ≡ true)
          wanted (inl h) = inr (allowed h)
          wanted (inr h) = inl (subst (λ (i : ℕ). decided decisions i place ≡ true) k.1 h)

          seen : ((answer == o) ≡ true) ⊎ ((answer == reserved o) ≡ true) → (answer ≡ owner) ⊎ (answer ≡ reserved owner)
          seen (inl h) = inl (eqb-true answer o h ∙ k.0)
          seen (inr h) = inr (eqb-true answer (reserved o) h ∙ ap reserved k.0)

      test : (b : Bool) → is_freed decisions insists o j place answer ≡ b
          → OfRecovery (if b then stage.Clear o j mode place answer else looks_from n o j mode (successor place))
      test true e = parts e
      test false e = looks_of o j mode (successor place) k.0 k.1
  next_of insists allowed (stage.Clear o j mode place seen) answer k = looks_of o j mode (successor place) k.0 k.1
  next_of insists allowed (stage.Settle c) answer k = either_of (answer == lock_mark) (stage.Done c (Settled Locked)) _ tt
      (either_of (nat_lt 0 n) (stage.Scan c 0 answer) (stage.Lock c answer) tt tt)
  next_of insists allowed (stage.Scan c place count) answer k = either_of (answer == 0) _ (stage.Done c (Settled Unlocked))
      (either_of (nat_lt (successor place) n) (stage.Scan c (successor place) count) (stage.Lock c count) tt tt) tt
  next_of insists allowed (stage.Lock c count) answer k
      = either_of (is_marked_by count answer) (stage.Done c (Settled Locked)) (stage.Done c (Settled Unlocked)) tt tt
  next_of insists allowed (stage.Done c answered) answer k = tt

  frees_so : (s : RobustCall) → OfRecovery s → FreesSo decisions may owner number (call_next s)
  frees_so stage.Idle k = tt
  frees_so (stage.Acquire o) k = absurd k
  frees_so (stage.Claim o place count) k = absurd k
  frees_so (stage.Count o place count) k = absurd k
  frees_so (stage.Confirm o place) k = absurd k
  frees_so (stage.Undo o place) k = absurd k
  frees_so (stage.Free o index mode) k = absurd k
  frees_so (stage.Look o j mode place) k = tt
  frees_so (stage.Clear o j mode place seen) k = (k.2, k.3, refl)
  frees_so (stage.Settle c) k = tt
  frees_so (stage.Scan c place count) k = tt
  frees_so (stage.Lock c count) k = refl
  frees_so (stage.Done c answer) k = tt

  goes_free : (s end : RobustCall) (events : List Event) → OfRecovery s → SetGoes n decisions may s events end
      → FreeOnly decisions may owner number events
  goes_free s end [] k g = tt
  goes_free s end (e ∷ events) k g = (
    subst (FreesSo decisions may owner number) (sym g.0) (frees_so s k),
    goes_free (call_take n decisions g.1 s e.answer) end events (next_of g.1 g.2 s e.answer k) g.3,
  )

module _ (n : ℕ) (decisions : List (Vec Bool)) (may : Bool) (owner number : ℕ) where
  ends_of : (s end : RobustCall) (events : List Event) → OfRecovery n decisions may owner number s
      → SetGoes n decisions may s events end → OfRecovery n decisions may owner number end
  ends_of s end [] k g = subst (OfRecovery n decisions may owner number) (sym g) k
  ends_of s end (e ∷ events) k g = ends_of (call_take n decisions g.1 s e.answer) end events
      (next_of n decisions may owner number g.1 g.2 s e.answer k) g.3

  -- a recovery in hand stands at a stage of its own
  pub asked_of : (party : ℕ) (mode : ReleaseMode) (s : RobustCall) (events : List Event)
      → IsAsked n decisions may party (call.Recover owner number mode) s events → OfRecovery n decisions may owner number s
  asked_of party mode s events a = ends_of (call_begun n (call.Recover owner number mode)) s a.between
      (looks_of n decisions may owner number owner number mode 0 refl refl) a.goes

module _ (n : ℕ) (decisions : List (Vec Bool)) (may : Bool) where
  asked_frees : (party : ℕ) (c : Call) (s : RobustCall) (events : List Event) → IsAsked n decisions may party c s events
      → FreesItsOwn decisions may c events
  asked_frees party (call.Acquire owner) s events a = tt
  asked_frees party (call.Release owner i mode) s events a = tt
  asked_frees party (call.Recover owner number mode) s events a = subst (FreeOnly decisions may owner number) (sym a.whole) (
    tt,
    goes_free n decisions may owner number (call_begun n (call.Recover owner number mode)) s a.between
        (looks_of n decisions may owner number owner number mode 0 refl refl) a.goes,
  )

  pub each_frees : (events : List Event) (finished : List Finished) → AreAsked n decisions may events finished
      → EachFreesItsOwn decisions may events finished
  each_frees events [] a = tt
  each_frees events (f ∷ finished) a = (
    asked_frees f.party f.call (stage.Done f.call f.answer) (own f.party (drop f.first (take f.last events))) a.0,
    each_frees events finished a.1,
  )
