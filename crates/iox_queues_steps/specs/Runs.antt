-- A call makes the accesses that it requests, and no others.
use Rattle.std.specs.Prelude.{ℕ, ◌≡◌, Bool, false, List, [], ◌∷◌}
use Rattle.iox_queues_steps.specs.declared.access.Access.{Access}

-- The call goes from one stage to another: each access is the one that its stage requests, the memory gave it this result, and no access is
-- made once the call is finished.
abbrev pub Runs : {M S : Type 0} → (M → Access → ℕ → M → Type 0) → (S → Access) → (S → ℕ → S) → (S → Bool) → List ℕ → M → S → M → S → Type 0
Runs answers asks takes over [] memory stage after end = (after ≡ memory) × (end ≡ stage)
Runs {M} {S} answers asks takes over (answer ∷ given) memory stage after end =
    (over stage ≡ false) × ((between : M) × answers memory (asks stage) answer between
    × Runs answers asks takes over given between (takes stage answer) after end)
