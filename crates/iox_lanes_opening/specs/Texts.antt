-- The texts of the reasons: the type's name, `::` and the variant.
use Rattle.std.specs.Prelude.{ℕ, List, ◌++◌, codes}
use Rattle.iox_lanes_opening.specs.declared.refusals.into_lanes_error.IntoLanesError.{IntoLanesError}
use Rattle.iox_lanes_opening.specs.declared.refusals.into_lanes_error.IntoLanesError.TheVariants as reason

-- The name of the variant.
abbrev pub into_lanes_name : IntoLanesError → List ℕ
into_lanes_name reason.Blocked = codes "Blocked"
into_lanes_name reason.ConnectionsNotUpToDate = codes "ConnectionsNotUpToDate"
into_lanes_name reason.NotStatic = codes "NotStatic"
into_lanes_name reason.HasHandlers = codes "HasHandlers"
into_lanes_name reason.Retrying = codes "Retrying"
into_lanes_name reason.Lingering = codes "Lingering"
into_lanes_name reason.HasSlices = codes "HasSlices"
into_lanes_name reason.Unsound = codes "Unsound"
into_lanes_name reason.SequenceTooLarge = codes "SequenceTooLarge"
into_lanes_name reason.OutOfMemory = codes "OutOfMemory"

-- The text of the reason: the type's name, `::` and the name of the variant.
abbrev pub into_lanes_text : IntoLanesError → List ℕ
into_lanes_text error = codes "IntoLanesError::" ++ into_lanes_name error
