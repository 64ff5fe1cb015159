-- When the settings of a service are refused.
use Rattle.std.specs.Prelude.{Option, None, Some}
use Rattle.iox_negotiate_base.specs.declared.failure.CreateFailure.{CreateFailure}
use Rattle.iox_negotiate_base.specs.declared.failure.CreateFailure.TheVariants as failure

-- The settings are refused as an internal failure if they are beyond the limits; else they are refused if the history doesn't fit into a
-- buffer that blocks the publisher when it is full; else they aren't refused.
abbrev pub IsRefusal : Type 0 → Type 0 → Option CreateFailure → Type 0
IsRefusal is_within is_history_too_long None = is_within × (is_history_too_long → ⊥)
IsRefusal is_within is_history_too_long (Some failure.InternalFailure) = is_within → ⊥
IsRefusal is_within is_history_too_long (Some failure.SubscriberBufferMustBeLargerThanHistorySize) = is_within × is_history_too_long
IsRefusal is_within is_history_too_long (Some other) = ⊥
