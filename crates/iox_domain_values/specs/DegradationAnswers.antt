-- What a handler may answer if a connection failed.
use Rattle.std.specs.Prelude.{◌≡◌, Option, Some, None}
use Rattle.std.specs.declared.alloc.Global.{Global}
use Rattle.std.specs.declared.dyn_box.DynBox.{DynBox}
use Rattle.iox_domain_values.specs.declared.degradation.DegradationAction.{DegradationAction}
use Rattle.iox_domain_values.specs.declared.degradation.DegradationCause.{DegradationCause}
use Rattle.iox_domain_values.specs.declared.degradation.DegradationInfo.{DegradationInfo}
use Rattle.iox_domain_values.specs.declared.degradation_handler.DegradationHandler.{DegradationHandler}
use Rattle.iox_domain_values.specs.declared.degradation_handler.DegradationHandler.TheVariants as handler

-- Whether the handler may give this answer for this cause and info: a fixed handler only its action, and a boxed one what its
-- object allows.
abbrev pub Allowed : {X : Type 0} {F : X → Type 0}
    → (DynBox X Global F → DegradationCause → DegradationInfo → DegradationAction → Type 0) → DegradationHandler X F → DegradationCause
    → DegradationInfo → DegradationAction → Type 0
Allowed objects (handler.Fixed action) _ _ answer = answer ≡ action
Allowed objects (handler.Boxed object) cause info answer = objects object cause info answer

-- The action of a fixed handler; None for a boxed one.
abbrev pub fixed_action_of : {X : Type 0} {F : X → Type 0} → DegradationHandler X F → Option DegradationAction
fixed_action_of (handler.Fixed action) = Some action
fixed_action_of (handler.Boxed _) = None
