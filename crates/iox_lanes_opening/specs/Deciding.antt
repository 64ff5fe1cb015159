-- Which ports have handlers of the caller, and which publishers would block or fail at a full mailbox.
use Rattle.std.proofs.Common.{ap, subst, ◌∙◌}
use Rattle.std.specs.Prelude.{ℕ, ◌≡◌, ◌&&◌, ◌||◌, Bool, true, false, is_none, not, List, Option, None, Some, if◌then◌else◌}
use Rattle.std.specs.List.{list_any}
use Rattle.std.specs.declared.alloc.Global.{Global}
use Rattle.std.specs.declared.dyn_box.DynBox.{DynBox}
use Rattle.iox_domain.specs.Handling.{passes_over, waits}
use Rattle.iox_domain.specs.DomainValues.Actions.{decision_of}
use Rattle.iox_domain.specs.DomainValues.BackpressureAnswers.{Allowed, fixed_action_of}
use Rattle.iox_domain.specs.DomainValues.DegradationAnswers as degradation
use Rattle.iox_domain.specs.DomainValues.HandlersAnswers.{MayAnswer, MayDecide, may_degrade}
use Rattle.iox_domain.specs.DomainValues.declared.backpressure.BackpressureAction.{BackpressureAction}
use Rattle.iox_domain.specs.DomainValues.declared.backpressure.BackpressureDecision.{BackpressureDecision}
use Rattle.iox_domain.specs.DomainValues.declared.backpressure.BackpressureDecision.TheVariants as decided
use Rattle.iox_domain.specs.DomainValues.declared.backpressure.BackpressureInfo.{BackpressureInfo}
use Rattle.iox_domain.specs.DomainValues.declared.backpressure_handler.BackpressureHandler.{BackpressureHandler}
use Rattle.iox_domain.specs.DomainValues.declared.backpressure_handler.BackpressureHandler.TheVariants as handler
use Rattle.iox_domain.specs.DomainValues.declared.backpressure_strategy.BackpressureStrategy.{BackpressureStrategy}
use Rattle.iox_domain.specs.DomainValues.declared.degradation.DegradationAction.{DegradationAction}
use Rattle.iox_domain.specs.DomainValues.declared.degradation.DegradationAction.TheVariants as taken
use Rattle.iox_domain.specs.DomainValues.declared.degradation.DegradationCause.{DegradationCause}
use Rattle.iox_domain.specs.DomainValues.declared.degradation.DegradationInfo.{DegradationInfo}
use Rattle.iox_domain.specs.DomainValues.declared.degradation_handler.DegradationHandler.{DegradationHandler}
use Rattle.iox_domain.specs.DomainValues.declared.degradation_handler.DegradationHandler.TheVariants as failing
use Rattle.iox_domain.specs.DomainValues.declared.handlers.Handlers.{Handlers}
use Rattle.iox_domain.specs.DomainPorts.declared.publisher_port.PublisherPort.{PublisherPort}
use Rattle.iox_domain.specs.Kept.{kept_under}
use Rattle.iox_domain.specs.declared.domain.Domain.{Domain}

-- Whether a send asks an object at a full mailbox.
abbrev pub asks_object : {X : Type 0} {F : X → Type 0} → Option (BackpressureHandler X F) → Bool
asks_object None = false
asks_object (Some handler) = is_none (fixed_action_of handler)

-- Whether an object is asked when a connection fails.
abbrev pub is_object : {X : Type 0} {F : X → Type 0} → DegradationHandler X F → Bool
is_object handler = is_none (degradation.fixed_action_of handler)

-- The action that the handler takes at each full mailbox, if it is a fixed one.
abbrev pub fixed_answer : {X : Type 0} {F : X → Type 0} → Option (BackpressureHandler X F) → Option BackpressureAction
fixed_answer None = None
fixed_answer (Some handler) = fixed_action_of handler

-- What a send with these handlers does at each full mailbox, if none of them is an object: the fixed action says so; or the strategy says
-- so, if there is no fixed action or the fixed action follows the strategy.
abbrev pub fixed_decision : {X Y : Type 0} {F : X → Type 0} {G : Y → Type 0} → Handlers X Y F G → Option BackpressureDecision
fixed_decision handlers =
    if asks_object handlers.backpressure || is_object handlers.degradation then None
    else Some (decision_of handlers.strategy (fixed_answer handlers.backpressure))

-- Whether a publisher with these handlers, of which `decision` says what a send does at each full mailbox, has one that is an object of the
-- caller.
abbrev pub has_object : {B : Type 0} → (B → Option BackpressureDecision) → Option B → Bool
has_object decision None = false
has_object decision (Some handlers) = is_none (decision handlers)

-- Whether this handler of a subscriber is an object of the caller, which `asks` says.
abbrev pub is_kept_object : {D : Type 0} → (D → Bool) → Option D → Bool
is_kept_object asks None = false
is_kept_object asks (Some handler) = asks handler

-- Whether some port has a handler that is an object of the caller.
abbrev pub has_handlers : {T U B D : Type 0} → (B → Option BackpressureDecision) → (D → Bool) → Domain T U B D → Bool
has_handlers decision asks domain =
    list_any (λ entry. has_object decision (kept_under entry.0 domain.state.publisher_handlers)) domain.state.ports.publishers
    || list_any (λ entry. is_kept_object asks (kept_under entry.0 domain.state.subscriber_handlers)) domain.state.ports.subscribers

-- Whether the decision is to wait, or isn't known.
abbrev pub is_retry : Option BackpressureDecision → Bool
is_retry None = true
is_retry (Some decided.Retry) = true
is_retry (Some decided.DiscardData) = false
is_retry (Some decided.DiscardDataAndFail) = false

-- Whether a send with these handlers blocks at a full mailbox. Without handlers a send blocks.
abbrev pub would_wait : {B : Type 0} → (B → Option BackpressureDecision) → Option B → Bool
would_wait decision None = true
would_wait decision (Some handlers) = is_retry (decision handlers)

-- Whether the decision is to skip the mailbox and fail.
abbrev pub is_failure : Option BackpressureDecision → Bool
is_failure None = false
is_failure (Some decided.Retry) = false
is_failure (Some decided.DiscardData) = false
is_failure (Some decided.DiscardDataAndFail) = true

-- Whether a send with these handlers fails at a full mailbox.
abbrev pub would_fail : {B : Type 0} → (B → Option BackpressureDecision) → Option B → Bool
would_fail decision None = false
would_fail decision (Some handlers) = is_failure (decision handlers)

-- Whether this publisher isn't closed, and a send of it would block at a full mailbox.
abbrev pub retries : {T U B : Type 0} → (B → Option BackpressureDecision) → List (ℕ × B) → ℕ × PublisherPort T U → Bool
retries decision handlers entry = entry.1.stands && would_wait decision (kept_under entry.0 handlers)

-- Whether mailboxes don't overflow, and a send of some publisher would block at a full mailbox.
abbrev pub is_retrying : {T U B D : Type 0} → (B → Option BackpressureDecision) → Domain T U B D → Bool
is_retrying decision domain = not domain.state.ports.sizes.enable_safe_overflow
    && list_any (retries decision domain.state.publisher_handlers) domain.state.ports.publishers

-- At each full mailbox no other decision may be made than this one.
abbrev pub OnlyDecides : (BackpressureInfo → BackpressureDecision → Type 0) → BackpressureDecision → Type 0
OnlyDecides may fixed = (info : BackpressureInfo) (made : BackpressureDecision) → may info made → made ≡ fixed

-- Only one action may be taken if a connection fails, whichever it is and why it fails.
abbrev pub TakesOneAction : (DegradationCause → DegradationInfo → DegradationAction → Type 0) → Type 0
TakesOneAction may = (action : DegradationAction)
    × ((cause : DegradationCause) (info : DegradationInfo) (answer : DegradationAction) → may cause info answer → answer ≡ action)

-- The decision, if there is one; otherwise the other one.
decision_or : BackpressureDecision → Option BackpressureDecision → BackpressureDecision
decision_or other None = other
decision_or other (Some decision) = decision

-- There is no decision.
IsNone : Option BackpressureDecision → Type 0
IsNone None = Unit {0}
IsNone (Some decision) = ⊥

-- It is so.
IsYes : Bool → Type 0
IsYes true = Unit {0}
IsYes false = ⊥

none_is_no_decision : {X : Type 0} (fixed : BackpressureDecision) → None ≡ Some fixed → X
unfolding IsNone
none_is_no_decision fixed is = absurd (subst IsNone is tt)

-- By cases of the handlers: without an object the strategy and the fixed action decide.
decides_by : {X Y : Type 0} {F : X → Type 0} {G : Y → Type 0} (objects : DynBox X Global F → BackpressureInfo → BackpressureAction → Type 0)
    (strategy : BackpressureStrategy) (backpressure : Option (BackpressureHandler X F)) (degrades : DegradationHandler Y G)
    (fixed : BackpressureDecision)
    → (if asks_object backpressure || is_object degrades then None else Some (decision_of strategy (fixed_answer backpressure)))
    ≡ Some fixed
    → (info : BackpressureInfo) (made : BackpressureDecision) (answer : Option BackpressureAction)
    → MayAnswer objects backpressure info answer → made ≡ decision_of strategy answer → made ≡ fixed
unfolding decision_or
decides_by objects strategy None (failing.Fixed action) fixed is info made answer may was =
    was ∙ ap (decision_of strategy) may ∙ ap (decision_or made) is
decides_by objects strategy None (failing.Boxed object) fixed is info made answer may was = none_is_no_decision fixed is
decides_by objects strategy (Some (handler.Fixed action)) (failing.Fixed other) fixed is info made None may was = absurd may
decides_by objects strategy (Some (handler.Fixed action)) (failing.Fixed other) fixed is info made (Some answer) may was =
    was ∙ ap (λ given. decision_of strategy (Some given)) may ∙ ap (decision_or made) is
decides_by objects strategy (Some (handler.Fixed action)) (failing.Boxed object) fixed is info made answer may was =
    none_is_no_decision fixed is
decides_by objects strategy (Some (handler.Boxed object)) degrades fixed is info made answer may was = none_is_no_decision fixed is

degrades_by : {X Y : Type 0} {F : X → Type 0} {G : Y → Type 0}
    (objects : DynBox Y Global G → DegradationCause → DegradationInfo → DegradationAction → Type 0) (strategy : BackpressureStrategy)
    (backpressure : Option (BackpressureHandler X F)) (degrades : DegradationHandler Y G) (fixed : BackpressureDecision)
    → (if asks_object backpressure || is_object degrades then None else Some (decision_of strategy (fixed_answer backpressure)))
    ≡ Some fixed → TakesOneAction (degradation.Allowed objects degrades)
degrades_by objects strategy backpressure (failing.Fixed action) fixed is = (action, λ cause info answer may. may)
degrades_by objects strategy None (failing.Boxed object) fixed is = none_is_no_decision fixed is
degrades_by objects strategy (Some (handler.Fixed action)) (failing.Boxed object) fixed is = none_is_no_decision fixed is
degrades_by objects strategy (Some (handler.Boxed other)) (failing.Boxed object) fixed is = none_is_no_decision fixed is

-- A publisher's handlers decide as their fixed decision says, whatever their objects may answer.
pub handlers_decide : {X Y : Type 0} {F : X → Type 0} {G : Y → Type 0}
    (objects : DynBox X Global F → BackpressureInfo → BackpressureAction → Type 0) (handlers : Handlers X Y F G)
    (fixed : BackpressureDecision) → fixed_decision handlers ≡ Some fixed → OnlyDecides (MayDecide objects handlers) fixed
handlers_decide objects handlers fixed is info made may =
    decides_by objects handlers.strategy handlers.backpressure handlers.degradation fixed is info made may.0 may.1 may.2

-- Where they have a fixed decision, they take one action if a connection fails.
pub handlers_degrade : {X Y : Type 0} {F : X → Type 0} {G : Y → Type 0}
    (objects : DynBox Y Global G → DegradationCause → DegradationInfo → DegradationAction → Type 0) (handlers : Handlers X Y F G)
    (fixed : BackpressureDecision) → fixed_decision handlers ≡ Some fixed → TakesOneAction (may_degrade objects handlers)
handlers_degrade objects handlers fixed is =
    degrades_by objects handlers.strategy handlers.backpressure handlers.degradation fixed is

-- A subscriber's handler that is no object takes one action.
pub handler_degrades : {Y : Type 0} {G : Y → Type 0}
    (objects : DynBox Y Global G → DegradationCause → DegradationInfo → DegradationAction → Type 0) (it : DegradationHandler Y G)
    → is_object it ≡ false → TakesOneAction (degradation.Allowed objects it)
unfolding IsYes
handler_degrades objects (failing.Fixed action) isnt = (action, λ cause info answer may. may)
handler_degrades objects (failing.Boxed object) isnt = absurd (subst IsYes isnt tt)

-- Without handlers a send blocks, and a failed connection is answered with `Warn`.
pub nobody_decides : (fixed : BackpressureDecision) → Some decided.Retry ≡ Some fixed → OnlyDecides waits fixed
unfolding decision_or
nobody_decides fixed is info made was = was ∙ ap (decision_or made) is

pub nobody_degrades : TakesOneAction passes_over
nobody_degrades = (taken.Warn, λ cause info answer may. may)
