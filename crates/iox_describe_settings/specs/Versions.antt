-- The versions of the line that encodes a description.
use Rattle.std.specs.Prelude.{ℕ, false, ◌≡◌}
use Rattle.iox_describe_settings.specs.declared.description.Version.{Version}
use Rattle.iox_describe_settings.specs.declared.description.Version.TheVariants.{One, Two}
use Rattle.iox_describe_settings.specs.declared.static_config.Settings.{Settings}
use Rattle.iox_describe_settings.specs.declared.static_config.Settings.TheVariants.{PublishSubscribe}

-- The number with which a line states its version.
abbrev pub number_of : Version → ℕ
number_of One = 1
number_of Two = 2

-- A line of this version can state all settings: version 1 can't state that messages have sequence numbers.
abbrev pub HasAll : Version → Settings → Type 0
HasAll One (PublishSubscribe c) = c.sequence_numbers ≡ false
HasAll version settings = Unit {0}
