-- A relocatable option as an `Option`.
use Rattle.std.specs.Prelude as std
use Rattle.iox_container.specs.declared.relocatable_option.RelocatableOption.{RelocatableOption}
use Rattle.iox_container.specs.declared.relocatable_option.RelocatableOption.TheVariants.{None, Some}

-- The equivalent `Option`.
abbrev pub option_of : {T : Type 0} → RelocatableOption T → std.Option T
option_of None = std.None
option_of (Some x) = std.Some x
