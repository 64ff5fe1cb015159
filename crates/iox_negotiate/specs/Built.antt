-- The calls of builders in a table on which foreign nodes act, as calls to which the theorems about whole calls apply.
use Rattle.std.specs.Prelude.{◌≡◌, ℕ, List, Option, Result}
use Rattle.std.specs.Result.{result_map_both}
use Rattle.iox_negotiate_table.specs.DescribeBase.declared.hash.ServiceHash.{ServiceHash}
use Rattle.iox_negotiate_table.specs.DescribeSettings.Agreement.{Agreement}
use Rattle.iox_negotiate_table.specs.NegotiateBase.Opening.{Opens}
use Rattle.iox_negotiate_table.specs.NegotiateBase.declared.failure.CreateFailure.{CreateFailure}
use Rattle.iox_negotiate_table.specs.NegotiateBase.declared.failure.OpenFailure.{OpenFailure}
use Rattle.iox_negotiate_table.specs.NegotiateBase.declared.failure.OpenOrCreateFailure.{OpenOrCreateFailure}
use Rattle.iox_negotiate_table.specs.NegotiateBase.declared.request.Opened.{Opened}
use Rattle.iox_negotiate_table.specs.declared.step.ForeignStep.{ForeignStep}
use Rattle.iox_negotiate_table.specs.Contents.{Contents}
use Rattle.iox_negotiate_table.specs.Stepped.{Steps, SteppedSight}
use Rattle.iox_negotiate.specs.declared.factory.Membership.{Membership}
use Rattle.iox_negotiate.specs.Calls.{Call, Creates, Opening, Either, Goes}
use Rattle.iox_negotiate.specs.Factory.{membership}
use Rattle.iox_negotiate.specs.Negotiation as built
use Rattle.iox_negotiate.specs.Rooms.{IsWithin}

-- The call leads from the table `old` to `new`, what it agrees on is within the limits, and the builder returns what the call does.
pub record IsBuilt {V : ℕ → Type 0} {E F : Type 0} (call : Call V) (storage node : ℕ) (error : F → E) (answer : Result Opened F)
    (old new : Contents) (result : Result Membership E) : Type 0 where
  pub within : IsWithin call
  pub goes : Goes call old new
  pub told : result ≡ result_map_both (membership storage node) error answer

-- Whatever a builder does (create, open, or either) is a call of the theorems, with the verdict, the agreement and the node of the
-- builder. Its settings are of any type, with their own limits.
pub record BuildersMakeCalls {C : Type 0} (IsWithinLimits IsTooLong : C → Type 0) (V : ℕ → Type 0) (E : Type 0) : Type 0 where
  pub creates : (storage node : ℕ) (agreed : Agreement) (config : C) (error : CreateFailure → E)
      (lists : List (List ForeignStep)) (old : Contents) (new : Steps) (result : Result Membership E)
      → built.Creates SteppedSight storage agreed.service_hash node agreed (IsWithinLimits config) (IsTooLong config) error
      (record { table = old; lists = lists }) result new
      → (refusal : Option CreateFailure) × (answer : Result Opened CreateFailure)
      × IsBuilt {V = V} (Creates node agreed refusal answer) storage node error answer old new.table result
  pub opens : (kind storage node : ℕ) (hash : ServiceHash) (verdict : Agreement → Result (Unit {0}) (V kind))
      (error : OpenFailure (V kind) → E)
      (lists : List (List ForeignStep)) (old : Contents) (new : Steps) (result : Result Membership E)
      → built.Negotiates SteppedSight storage node error (λ made answer. Opens hash node verdict made answer)
      (record { table = old; lists = lists }) result new
      → (answer : Result Opened (OpenFailure (V kind)))
      × IsBuilt {V = V} (Opening kind hash node verdict answer) storage node error answer old new.table result
  pub does_either : (kind storage node : ℕ) (verdict : Agreement → Result (Unit {0}) (V kind)) (agreed : Agreement)
      (config : C) (error : OpenOrCreateFailure (V kind) → E)
      (lists : List (List ForeignStep)) (old : Contents) (new : Steps) (result : Result Membership E)
      → built.Either SteppedSight storage agreed.service_hash node verdict agreed (IsWithinLimits config) (IsTooLong config) error
      (record { table = old; lists = lists }) result new
      → (refusal : Option CreateFailure) × (answer : Result Opened (OpenOrCreateFailure (V kind)))
      × IsBuilt {V = V} (Either kind node verdict agreed refusal answer) storage node error answer old new.table result
