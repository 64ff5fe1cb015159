-- How many slots a publisher gets.
use Rattle.std.specs.Prelude.{◌≡◌, ℕ, max, min}
use Rattle.std.specs.declared.alloc.Global.{Global}
use Rattle.std.specs.declared.dyn_box.DynBox.{DynBox}
use Rattle.iox_domain_values.specs.declared.samples_override.PreallocatedSamplesOverride.{PreallocatedSamplesOverride}
use Rattle.iox_domain_values.specs.declared.samples_override.PreallocatedSamplesOverride.TheVariants as chosen

-- Whether `answer` may be given if the worst case needs `worst_case` slots: `WorstCase` answers that number, `Fixed` its own number,
-- and `Boxed` what its object allows.
abbrev pub Allowed : {X : Type 0} {F : X → Type 0} → (DynBox X Global F → ℕ → ℕ → Type 0) → PreallocatedSamplesOverride X F → ℕ → ℕ → Type 0
Allowed objects chosen.WorstCase worst_case answer = answer ≡ worst_case
Allowed objects (chosen.Fixed number) _ answer = answer ≡ number
Allowed objects (chosen.Boxed object) worst_case answer = objects object worst_case answer

-- How many slots a publisher gets for this answer: as many as that, but at most the worst case, and at least one.
abbrev pub places : ℕ → ℕ → ℕ
places worst_case answer = max 1 (min answer worst_case)
