-- What one more step adds to the counts of some steps.
use Rattle.std.proofs.Common.{◌≡◌, ℕ, ◌+◌, ◌≤◌, List, [], ◌∷◌, ◌++◌, length, take, drop}
use Rattle.std.proofs.Common.{sym, ◌∙◌, ap, subst, arith, length-append, take_all, ⊎_elim}
use Rattle.std.proofs.lemmas.Bool.{cases_lt}
use Rattle.std.proofs.lemmas.List.{take-append-le, drop-append-le}
use Rattle.iox_queues.specs.declared.bits.machine.Event.{Event}
use Rattle.iox_index_steps.specs.Changes.{changed_by, took_by, gave_by, head_changes, times_taken, times_given}
use Rattle.iox_index_steps.specs.Told.{MoveNone, TakesTurns}

pub more_changes : (xs ys : List Event) → head_changes (xs ++ ys) ≡ head_changes xs + head_changes ys
more_changes [] ys = omega arith
more_changes (x ∷ xs) ys = omega (arith, more_changes xs ys)

pub more_taken : (i : ℕ) (xs ys : List Event) → times_taken i (xs ++ ys) ≡ times_taken i xs + times_taken i ys
more_taken i [] ys = omega arith
more_taken i (x ∷ xs) ys = omega (arith, more_taken i xs ys)

pub more_given : (i : ℕ) (xs ys : List Event) → times_given i (xs ++ ys) ≡ times_given i xs + times_given i ys
more_given i [] ys = omega arith
more_given i (x ∷ xs) ys = omega (arith, more_given i xs ys)

-- the changes of the head since a step that was made before
pub changes_since : (first : ℕ) (xs : List Event) (e : Event) → first ≤ length xs
    → head_changes (drop first (xs ++ e ∷ [])) ≡ head_changes (drop first xs) + changed_by e.access e.answer
changes_since first xs e began = ap head_changes (drop-append-le first xs (e ∷ []) began) ∙ more_changes (drop first xs) (e ∷ []) ∙
    omega arith

-- steps that move no index, and one more of that kind
pub moves_none_on : (xs : List Event) (e : Event) → ((j : ℕ) → took_by j e.access e.answer ≡ 0)
    → ((j : ℕ) → gave_by j e.access e.answer ≡ 0) → MoveNone xs → MoveNone (xs ++ e ∷ [])
moves_none_on xs e took gave h
    = (λ j. omega (arith, more_taken j xs (e ∷ []), took j, h.0 j), λ j. omega (arith, more_given j xs (e ∷ []), gave j, h.1 j))

-- turns that were taken before are taken still
pub turns_on : (i k : ℕ) (xs : List Event) (e : Event) → ((k : ℕ) → TakesTurns i (take k xs)) → TakesTurns i (xs ++ e ∷ [])
    → TakesTurns i (take k (xs ++ e ∷ []))
turns_on i k xs e before now =
    ⊎_elim
    (λ lt. subst (TakesTurns i) (sym (take_all k (xs ++ e ∷ []) (omega (arith, lt, length-append xs (e ∷ []))))) now)
    (λ le. subst (TakesTurns i) (sym (take-append-le k xs (e ∷ []) le)) (before k))
    (cases_lt (length xs) k)
