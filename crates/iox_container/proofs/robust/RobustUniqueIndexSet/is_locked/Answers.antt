use Rattle.std.proofs.Common.{ℕ, zero, suc, ◌≡◌, ◌∷◌, [], List, Option, None, Some, is_some, slice_get, false, arith, refl}
use Rattle.std.specs.List.{count_by}
use Rattle.iox_container.specs.Robust.{has_holder}
use Rattle.iox_container.proofs.Locked.{count-cons}
use Rattle.iox_container.proofs.robust.RobustUniqueIndexSet.is_locked.Goals as goal

nobody : (holders : List (Option ℕ)) (index : ℕ) → count_by is_some holders ≡ 0 → has_holder (slice_get holders index) ≡ false
nobody [] index none = refl
nobody (None ∷ holders) zero none = refl
nobody (Some owner ∷ holders) zero none = absurd (omega (arith, none, count-cons (Some owner) holders))
nobody (holder ∷ holders) (suc index) none = nobody holders index (omega (arith, none, count-cons holder holders))

pub returns-clause-unheld : goal.returns-clause-unheld
returns-clause-unheld c = λ locked index. rw (← c.self.view_is) (nobody c.self.inside.cells index (c.self.invariant.0 locked))
