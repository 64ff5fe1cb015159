-- Why a domain doesn't become lanes.
use Rattle.std.specs.Prelude.{Option, None, Some}
use Rattle.iox_lanes_opening.specs.declared.refusals.into_lanes_error.IntoLanesError.{IntoLanesError}
use Rattle.iox_lanes_opening.specs.declared.refusals.into_lanes_error.IntoLanesError.TheVariants as reason

-- The error that is returned: the first reason that applies, or `OutOfMemory` if no reason applies.
abbrev pub told_of : Option IntoLanesError → IntoLanesError
told_of None = reason.OutOfMemory
told_of (Some error) = error
