-- What the handlers of a publisher may decide.
use Rattle.std.specs.Prelude.{◌≡◌, Option, None, Some}
use Rattle.std.specs.declared.alloc.Global.{Global}
use Rattle.std.specs.declared.dyn_box.DynBox.{DynBox}
use Rattle.iox_domain_values.specs.Actions.{decision_of}
use Rattle.iox_domain_values.specs.BackpressureAnswers.{Allowed}
use Rattle.iox_domain_values.specs.DegradationAnswers as degradation
use Rattle.iox_domain_values.specs.declared.backpressure.BackpressureInfo.{BackpressureInfo}
use Rattle.iox_domain_values.specs.declared.backpressure.BackpressureAction.{BackpressureAction}
use Rattle.iox_domain_values.specs.declared.backpressure.BackpressureDecision.{BackpressureDecision}
use Rattle.iox_domain_values.specs.declared.backpressure_handler.BackpressureHandler.{BackpressureHandler}
use Rattle.iox_domain_values.specs.declared.degradation.DegradationAction.{DegradationAction}
use Rattle.iox_domain_values.specs.declared.degradation.DegradationCause.{DegradationCause}
use Rattle.iox_domain_values.specs.declared.degradation.DegradationInfo.{DegradationInfo}
use Rattle.iox_domain_values.specs.declared.handlers.Handlers.{Handlers}

-- Whether the handler may give this answer for this info; without a handler there is no answer.
abbrev pub MayAnswer : {X : Type 0} {F : X → Type 0} → (DynBox X Global F → BackpressureInfo → BackpressureAction → Type 0)
    → Option (BackpressureHandler X F) → BackpressureInfo → Option BackpressureAction → Type 0
MayAnswer objects None info answer = answer ≡ None
MayAnswer objects (Some handler) info None = ⊥
MayAnswer objects (Some handler) info (Some action) = Allowed objects handler info action

-- Whether this may be the decision at a full mailbox, by the strategy and what the handler may answer.
abbrev pub MayDecide : {X Y : Type 0} {F : X → Type 0} {G : Y → Type 0}
    → (DynBox X Global F → BackpressureInfo → BackpressureAction → Type 0) → Handlers X Y F G → BackpressureInfo → BackpressureDecision
    → Type 0
MayDecide objects handlers info decision =
    (answer : Option BackpressureAction) × (MayAnswer objects handlers.backpressure info answer)
    × (decision ≡ decision_of handlers.strategy answer)

-- Whether the handler may give this answer if a connection of the publisher failed.
abbrev pub may_degrade : {X Y : Type 0} {F : X → Type 0} {G : Y → Type 0}
    → (DynBox Y Global G → DegradationCause → DegradationInfo → DegradationAction → Type 0) → Handlers X Y F G → DegradationCause
    → DegradationInfo → DegradationAction → Type 0
may_degrade objects handlers cause info answer = degradation.Allowed objects handlers.degradation cause info answer
