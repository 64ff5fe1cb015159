-- How one more step changes the number of times that an index was acquired and released.
use Rattle.std.proofs.Common.{◌≡◌, ℕ, ◌+◌, ◌<◌, ◌≤◌, ⊎_elim, List, [], ◌∷◌, ◌++◌, length, take, sym, subst, arith, length-append, take_all}
use Rattle.std.proofs.lemmas.Bool.{cases_lt}
use Rattle.std.proofs.lemmas.List.{take-append-le}
use Rattle.iox_queues.specs.declared.bits.machine.Event.{Event}
use Rattle.iox_robust_steps.specs.Changes.{times_given, times_taken}
use Rattle.iox_robust_steps.specs.Told.{TakesTurns}

pub more_taken : (i : ℕ) (xs ys : List Event) → times_taken i (xs ++ ys) ≡ times_taken i xs + times_taken i ys
more_taken i [] ys = omega arith
more_taken i (x ∷ xs) ys = omega (arith, more_taken i xs ys)

pub more_given : (i : ℕ) (xs ys : List Event) → times_given i (xs ++ ys) ≡ times_given i xs + times_given i ys
more_given i [] ys = omega arith
more_given i (x ∷ xs) ys = omega (arith, more_given i xs ys)

pub turns_on : (i k : ℕ) (events : List Event) (e : Event) → ((k : ℕ) → TakesTurns i (take k events)) → TakesTurns i (events ++ e ∷ [])
    → TakesTurns i (take k (events ++ e ∷ []))
turns_on i k events e turns last = ⊎_elim
    (λ (past : length events < k). subst (TakesTurns i)
    (sym (take_all k (events ++ e ∷ []) (omega (arith, past, length-append events (e ∷ []))))) last)
    (λ (within : k ≤ length events). subst (TakesTurns i) (sym (take-append-le k events (e ∷ []) within)) (turns k))
    (cases_lt (length events) k)
