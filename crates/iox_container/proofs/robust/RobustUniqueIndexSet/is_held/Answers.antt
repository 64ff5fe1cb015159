use Rattle.std.proofs.Common.{ℕ, zero, suc, ◌≡◌, ◌∷◌, [], List, Option, None, Some, is_some, slice_get, get_or, refl, ap, ◌∙◌}
use Rattle.iox_container.specs.Robust.{has_holder}
use Rattle.iox_container.proofs.robust.RobustUniqueIndexSet.is_held.Goals as goal

held-read : (holders : List (Option ℕ)) (index : ℕ) → is_some (get_or holders index None) ≡ has_holder (slice_get holders index)
held-read [] index = refl
held-read (None ∷ holders) zero = refl
held-read (Some owner ∷ holders) zero = refl
held-read (holder ∷ holders) (suc index) = held-read holders index

pub returns : goal.returns
returns c = rw (← c.self.view_is) (c.is_some.ensures ∙ ap (λ (holder : Option ℕ). is_some holder) c.get.ensures ∙ held-read
    c.self.inside.cells c.args.index)
