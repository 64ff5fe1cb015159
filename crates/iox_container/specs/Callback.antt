-- Calls of a callback that may stop the loop.
use Rattle.std.specs.Prelude.{◌≡◌, List, [], ◌∷◌}
use Rattle.iox_container.specs.declared.callback_progression.CallbackProgression.{CallbackProgression}
use Rattle.iox_container.specs.declared.callback_progression.CallbackProgression.TheVariants.{Continue, Stop}

-- What holds after a callback's answer: `stop` if the answer is `Stop`, else `go_on`.
abbrev pub UnlessStopped : CallbackProgression → Type 0 → Type 0 → Type 0
UnlessStopped Continue go_on stop = go_on
UnlessStopped Stop go_on stop = stop

-- The callback was called with these items one after the other, until it returned `Stop` or no item was left; `last` is its state after it.
abbrev pub CallsUntilStop : {F X : Type 0} → (F → X → CallbackProgression → F → Type 0) → F → List X → F → Type 0
CallsUntilStop step first [] last = first ≡ last
CallsUntilStop {F} step first (x ∷ rest) last =
    (answer : CallbackProgression) × (next : F) × step first x answer next
    × UnlessStopped answer (CallsUntilStop step next rest last) (next ≡ last)
