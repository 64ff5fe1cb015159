-- What a handler may answer at a full mailbox.
use Rattle.std.specs.Prelude.{◌≡◌, Option, Some, None}
use Rattle.std.specs.declared.alloc.Global.{Global}
use Rattle.std.specs.declared.dyn_box.DynBox.{DynBox}
use Rattle.iox_domain_values.specs.declared.backpressure.BackpressureInfo.{BackpressureInfo}
use Rattle.iox_domain_values.specs.declared.backpressure.BackpressureAction.{BackpressureAction}
use Rattle.iox_domain_values.specs.declared.backpressure_handler.BackpressureHandler.{BackpressureHandler}
use Rattle.iox_domain_values.specs.declared.backpressure_handler.BackpressureHandler.TheVariants as handler

-- Whether the handler may give this answer for this info: a fixed handler only its action, and a boxed one what its object
-- allows.
abbrev pub Allowed : {X : Type 0} {F : X → Type 0} → (DynBox X Global F → BackpressureInfo → BackpressureAction → Type 0)
    → BackpressureHandler X F → BackpressureInfo → BackpressureAction → Type 0
Allowed objects (handler.Fixed action) _ answer = answer ≡ action
Allowed objects (handler.Boxed object) info answer = objects object info answer

-- The action of a fixed handler; None for a boxed one.
abbrev pub fixed_action_of : {X : Type 0} {F : X → Type 0} → BackpressureHandler X F → Option BackpressureAction
fixed_action_of (handler.Fixed action) = Some action
fixed_action_of (handler.Boxed _) = None
