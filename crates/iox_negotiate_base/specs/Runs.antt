-- Lists of storage operations, made one after another.
use Rattle.std.specs.Prelude.{◌≡◌, ℕ, zero, suc, ◌<◌, List, [], ◌∷◌, ◌++◌, Option, None, Some, ◌⊎◌}
use Rattle.iox_negotiate_base.specs.Access.{Access}

-- These storage operations, one after another, lead from one storage to the other.
abbrev pub Went : {S : Type 0} → (S → Access → S → Type 0) → S → List Access → S → Type 0
Went gives old [] new = new ≡ old
Went {S} gives old (access ∷ accesses) new = (mid : S) × gives old access mid × Went gives mid accesses new

-- Some storage operations were made, for which `telling` holds.
pub record Does {S : Type 0} (gives : S → Access → S → Type 0) (old : S) (telling : List Access → Type 0) (new : S) : Type 0 where
  pub made : List Access
  pub went : Went gives old made new
  pub told : telling made

-- This number of rounds were made one after another, each of them without a result.
abbrev pub Led : {R : Type 0} → (List Access → Option R → Type 0) → ℕ → List Access → Type 0
Led round zero made = made ≡ []
Led round (suc count) made = (before : List Access) × (last : List Access) × (made ≡ before ++ last) × Led round count before
    × round last None

-- Up to four rounds had no result and the next one had it; or five rounds had no result, and the result is `exhausted`.
pub record Rounds {R : Type 0} (round : List Access → Option R → Type 0) (exhausted : R) (made : List Access) (result : R) : Type 0 where
  pub count : ℕ
  pub before : List Access
  pub last : List Access
  pub all : made ≡ before ++ last
  pub led : Led round count before
  pub ends : ((count < 5) × round last (Some result)) ⊎ ((count ≡ 5) × (last ≡ []) × (result ≡ exhausted))
