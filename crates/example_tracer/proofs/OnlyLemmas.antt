-- The only number that passes a test, among those looked at so far.
use Rattle.std.proofs.Common.{◌≡◌, ℕ, ◌+◌, ◌<◌, Bool, true, false, arith, inl, inr, ⊎_elim, ◌⊎◌}
use Rattle.std.specs.Prelude.{Option, Some, None, is_some}
use Rattle.std.proofs.str.Laws.{order}
use Rattle.example_tracer.specs.Trace.{IsOnly, NoneOrTwo}

-- below n just this one passes, or none
abbrev pub OnlySo : (ℕ → Bool) → ℕ → Option ℕ → Type 0
OnlySo test n None = (k : ℕ) → k < n → test k ≡ false
OnlySo test n (Some k) = (k < n) × (test k ≡ true) × ((j : ℕ) → j < n → test j ≡ true → j ≡ k)

pub only_end : (test : ℕ → Bool) (n : ℕ) (only : Option ℕ) → OnlySo test n only → IsOnly test n only
only_end test n None so = inl so
only_end test n (Some k) so = so

-- a number below n + 1 is n, or below n
below_or_at : (j n : ℕ) → j < n + 1 → (j < n) ⊎ (j ≡ n)
below_or_at j n below = ⊎_elim (λ less. inl less) (λ more. inr (omega arith)) (order j n)

pub only_not : (test : ℕ → Bool) (n : ℕ) (only : Option ℕ) → OnlySo test n only → test n ≡ false → OnlySo test (n + 1) only
only_not test n None so fails = λ k below. ⊎_elim (λ less. so k less) (λ at. rw at fails) (below_or_at k n below)
only_not test n (Some k) so fails
    = (
      omega (arith, so.0),
      so.1,
      λ j below passes.
          ⊎_elim (λ less. so.2 j less passes) (λ at. let there : test n ≡ true = rw (← at) passes in absurd (clash there fails))
          (below_or_at j n below),
    )
  where
    clash : {b : Bool} → b ≡ true → b ≡ false → ⊥
    clash one other = cc

pub only_first : (test : ℕ → Bool) (n : ℕ) → OnlySo test n None → test n ≡ true → OnlySo test (n + 1) (Some n)
only_first test n so passes
    = (
      omega arith,
      passes,
      λ j below there.
          ⊎_elim (λ less. let not_there : test j ≡ false = so j less in cc) (λ at. at) (below_or_at j n below),
    )

pub only_two : (test : ℕ → Bool) (n m : ℕ) (only : Option ℕ) → OnlySo test n only → is_some only ≡ true → test n ≡ true → n < m
    → NoneOrTwo test m
only_two test n m None so is passes below = absurd (clash is)
  where
    clash : false ≡ true → ⊥
    clash e = cc
only_two test n m (Some k) so is passes below = inr (k, n, so.0, below, so.1, passes)
