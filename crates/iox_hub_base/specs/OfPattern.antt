-- Creating and opening a service of a pattern in a hub.
use Rattle.std.specs.Prelude.{ℕ, List, None, Result}
use Rattle.iox_delivery_factories.specs.DescribeBase.Detail.{Detail}
use Rattle.iox_delivery_factories.specs.DescribeBase.Hash.{service_hash_of}
use Rattle.iox_delivery_factories.specs.DescribeBase.declared.attribute.Attribute.{Attribute}
use Rattle.iox_delivery_factories.specs.DescribeBase.declared.hash.ServiceHash.{ServiceHash}
use Rattle.iox_delivery_factories.specs.DescribeBase.declared.pattern.MessagingPattern.{MessagingPattern}
use Rattle.iox_delivery_factories.specs.DescribeSettings.Agreement.{Agreement, agreement}
use Rattle.iox_delivery_factories.specs.DescribeSettings.declared.static_config.Settings.{Settings}
use Rattle.iox_negotiate.specs.Asked.{IsRefusal}
use Rattle.iox_negotiate.specs.Negotiation.{Negotiates, Creates, Either}
use Rattle.iox_negotiate_table.specs.NegotiateBase.Opening.{Opens}
use Rattle.iox_negotiate_table.specs.NegotiateBase.declared.failure.CreateFailure.{CreateFailure}
use Rattle.iox_negotiate_table.specs.NegotiateBase.declared.failure.CreateFailure.TheVariants as uncreated
use Rattle.iox_negotiate_table.specs.NegotiateBase.declared.failure.OpenFailure.{OpenFailure}
use Rattle.iox_negotiate_table.specs.NegotiateBase.declared.failure.OpenFailure.TheVariants as unopened
use Rattle.iox_negotiate_table.specs.NegotiateBase.declared.failure.OpenOrCreateFailure.{OpenOrCreateFailure}
use Rattle.iox_negotiate_table.specs.Stepped.{SteppedSight}
use Rattle.iox_negotiate_table.specs.declared.step.ForeignStep.{ForeignStep}
use Rattle.iox_hub_base.specs.FirstLook.{MayBeEither, MayBeOpened, acts_first, found_first}
use Rattle.iox_hub_base.specs.Opening.{Made, OpensInHub, lacking_either}
use Rattle.iox_hub_base.specs.declared.hub.Hub.{Hub}

-- A node creates a service of this pattern with these settings; `is_within` and `is_too_long` say whether the settings are possible.
abbrev pub CreatesOfPattern : {T U B D E : Type 0} → Detail → Detail → MessagingPattern → Settings → Type 0 → Type 0 → (CreateFailure → E)
    → ℕ → List ℕ → List Attribute → List (List ForeignStep) → Hub T U B D → Result Made E → Hub T U B D → Type 0
CreatesOfPattern payload user_header pattern settings is_within is_too_long error node name attributes lists old opened new =
    OpensInHub payload user_header (IsRefusal is_within is_too_long None) (λ was_new. error uncreated.OutOfMemory)
    (λ before came after. Creates SteppedSight before.table.id (service_hash_of pattern name) node
    (agreement name (service_hash_of pattern name) settings attributes) is_within is_too_long error before came after)
    lists old opened new

-- A node opens the service of this hash, if its agreement passes the verdict. `error` says as which error a failure is reported. Memory for
-- the service's entry runs out only if what the first lookup finds doesn't decide the call.
abbrev pub OpensJudged : {T U B D V E : Type 0} → Detail → Detail → (OpenFailure V → E) → ServiceHash → ℕ
    → (Agreement → Result (Unit {0}) V) → List (List ForeignStep) → Hub T U B D → Result Made E → Hub T U B D → Type 0
OpensJudged payload user_header error hash node verdict lists old opened new =
    OpensInHub payload user_header (MayBeOpened (found_first (acts_first lists) hash old)) (λ was_new. error unopened.OutOfMemory)
    (λ before came after. Negotiates SteppedSight before.table.id node error (λ made answer. Opens hash node verdict made answer) before
    came after)
    lists old opened new

-- A node opens a service of this pattern, if its agreement passes the verdict, or creates it with these settings. Memory for the service's
-- entry runs out only if what the first lookup finds doesn't decide the call.
abbrev pub EitherOfPattern : {T U B D V E : Type 0} → Detail → Detail → MessagingPattern → Settings → Type 0 → Type 0
    → (Agreement → Result (Unit {0}) V) → (OpenOrCreateFailure V → E) → ℕ → List ℕ → List Attribute → List (List ForeignStep)
    → Hub T U B D → Result Made E → Hub T U B D → Type 0
EitherOfPattern payload user_header pattern settings is_within is_too_long verdict error node name attributes lists old opened new =
    OpensInHub payload user_header
    (MayBeEither is_within is_too_long (found_first (acts_first lists) (service_hash_of pattern name) old))
    (λ was_new. error (lacking_either was_new))
    (λ before came after. Either SteppedSight before.table.id (service_hash_of pattern name) node verdict
    (agreement name (service_hash_of pattern name) settings attributes) is_within is_too_long error before came after)
    lists old opened new
