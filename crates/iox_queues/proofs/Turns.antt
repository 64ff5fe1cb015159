-- What a step of a machine of parties says of its calls, and what a list of steps is, for machines of any kind.
use Rattle.std.proofs.Common.{◌≡◌, ℕ, ◌+◌, ◌≤◌, inl, inr, Bool, true, false, Option, None, List, [], ◌∷◌, length, sym, subst, arith, refl}
use Rattle.iox_queues_steps.specs.Schedule.{count_of, is_stopped_of}
use Rattle.iox_queues_steps.specs.declared.schedule.Stepped.{Stepped}
use Rattle.iox_queues_steps.specs.declared.schedule.Stepped.TheVariants as stepped
use Rattle.iox_queues.specs.Spans.{AddsOne}
use Rattle.iox_queues.specs.Turns.{CallsOf, EndsOne, LeavesCalls, RunsBy, StepsBy, TellsCalls}

pub counts_one : (r : Stepped) (n : ℕ) → n ≡ count_of r → n ≤ 1
counts_one stepped.Went n e = omega arith
counts_one stepped.Finished n e = omega arith
counts_one stepped.Skipped n e = omega arith
counts_one stepped.NoMemory n e = omega arith

module _ (M S : Type 0) (fits ends : M → S → Bool) (happens : M → S → M) where
  -- one more step of a list
  pub run_more : (m : M) (step : S) (steps : List S) (r : Stepped) (m' n : M) (k made : ℕ) → StepsBy fits ends happens m step r m'
      → is_stopped_of r ≡ false → made ≡ count_of r + k → RunsBy fits happens m' steps k n → RunsBy fits happens m (step ∷ steps) made n
  run_more m step steps stepped.Went m' n k made h go e g
      = inr (inl (h.0, (k, omega arith, subst (λ (x : M). RunsBy fits happens x steps k n) h.2 g)))
  run_more m step steps stepped.Finished m' n k made h go e g
      = inr (inl (h.0, (k, omega arith, subst (λ (x : M). RunsBy fits happens x steps k n) h.2 g)))
  run_more m step steps stepped.Skipped m' n k made h go e g =
      inl (
        h.0,
        subst (λ (i : ℕ). RunsBy fits happens m steps i n) (omega arith)
            (subst (λ (x : M). RunsBy fits happens x steps k n) h.1 g),
      )
  run_more m step steps stepped.NoMemory m' n k made h go e g = absurd (cc)

  pub run_stops : (m : M) (step : S) (steps : List S) (r : Stepped) (m' : M) → StepsBy fits ends happens m step r m'
      → is_stopped_of r ≡ true → RunsBy fits happens m (step ∷ steps) 0 m'
  run_stops m step steps stepped.Went m' h go = absurd (cc)
  run_stops m step steps stepped.Finished m' h go = absurd (cc)
  run_stops m step steps stepped.Skipped m' h go = absurd (cc)
  run_stops m step steps stepped.NoMemory m' h go = inr (inr (h.0, refl, h.1))

  -- what one step tells of the calls, from what each step that fits does
  module _ (C F : Type 0) (of : CallsOf M C F) (m : M) (step : S) (party : ℕ) (hand : Option C)
      (adds : fits m step ≡ true → AddsOne (of.events m) (of.events (happens m step)) party)
      (goes : fits m step ≡ true → ends m step ≡ false
      → LeavesCalls C (of.hands m) (of.hands (happens m step)) party hand × (of.finished (happens m step) ≡ of.finished m))
      (ended : fits m step ≡ true → ends m step ≡ true
      → LeavesCalls C (of.hands m) (of.hands (happens m step)) party None
      × EndsOne C F of.whose of.which (of.finished m) (of.finished (happens m step)) party hand) where
    pub steps_tell_calls : (r : Stepped) (n : M) → StepsBy fits ends happens m step r n → TellsCalls M C F of m party hand r n
    steps_tell_calls stepped.Went n h = subst (TellsCalls M C F of m party hand stepped.Went) (sym h.2)
        (adds h.0, (goes h.0 h.1).0, (goes h.0 h.1).1)
    steps_tell_calls stepped.Finished n h = subst (TellsCalls M C F of m party hand stepped.Finished) (sym h.2)
        (adds h.0, (ended h.0 h.1).0, (ended h.0 h.1).1)
    steps_tell_calls stepped.Skipped n h = h.1
    steps_tell_calls stepped.NoMemory n h = h.1

pub none_left : {S : Type 0} → (xs : List S) → length xs ≡ 0 → xs ≡ []
none_left [] h = refl
none_left (x ∷ xs) h = absurd (omega arith)
