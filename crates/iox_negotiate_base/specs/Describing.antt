-- What agreement bytes encode.
use Rattle.std.specs.Prelude.{◌≡◌, ℕ, List}
use Rattle.iox_describe.specs.DescribeBase.declared.hash.ServiceHash.{ServiceHash}
use Rattle.iox_describe.specs.DescribeSettings.Agreement.{Agreement}
use Rattle.iox_describe.specs.Line.{Spells}
use Rattle.iox_describe.specs.Within.{IsWithinLimits}

-- The bytes encode an agreement within the limits that has this hash.
pub record Describes (hash : ServiceHash) (bytes : List ℕ) (agreed : Agreement) : Type 0 where
  pub within : IsWithinLimits agreed
  pub spelled : Spells bytes agreed
  pub own : agreed.service_hash ≡ hash
