-- A run with one more access.
use Rattle.std.proofs.Common.{◌≡◌, ℕ, Bool, false, List, [], ◌∷◌, ◌++◌, refl, subst, ap}
use Rattle.iox_queues_steps.specs.Runs.{Runs}
use Rattle.iox_queues_steps.specs.declared.access.Access.{Access}

pub runs_more : {M S : Type 0} (answers : M → Access → ℕ → M → Type 0) (asks : S → Access) (takes : S → ℕ → S) (over : S → Bool)
    (given : List ℕ) (answer : ℕ) (memory : M) (stage : S) (after : M) (end : S) (more : M)
    → Runs answers asks takes over given memory stage after end → over end ≡ false → answers after (asks end) answer more
    → Runs answers asks takes over (given ++ answer ∷ []) memory stage more (takes end answer)
runs_more {M} {S} answers asks takes over [] answer memory stage after end more h on a = (
  subst (λ (s : S). over s ≡ false) h.1 on,
  (
    more,
    subst (λ (m : M). answers m (asks stage) answer more) h.0 (subst (λ (s : S). answers after (asks s) answer more) h.1 a),
    (refl, ap (λ (s : S). takes s answer) h.1),
  ),
)
runs_more {M} {S} answers asks takes over (x ∷ given) answer memory stage after end more h on a =
    (h.0, (h.1.0, h.1.1, runs_more answers asks takes over given answer h.1.0 (takes stage x) after end more h.1.2 on a))
