-- What a lookup shows of a service.
use Rattle.std.specs.Prelude.{◌≡◌, ℕ, List}
use Rattle.iox_describe.specs.DescribeBase.declared.hash.ServiceHash.{ServiceHash}
use Rattle.iox_describe.specs.DescribeSettings.Agreement.{Agreement}
use Rattle.iox_negotiate_base.specs.Describing.{Describes}
use Rattle.iox_negotiate_base.specs.declared.answer.LookAnswer.{LookAnswer}
use Rattle.iox_negotiate_base.specs.declared.answer.LookAnswer.TheVariants as look
use Rattle.iox_negotiate_base.specs.declared.sight.Sight.{Sight}
use Rattle.iox_negotiate_base.specs.declared.sight.Sight.TheVariants as sight
use Rattle.iox_negotiate_base.specs.declared.sight.SightFailure.TheVariants.{HangsInCreation, InsufficientPermissions}
use Rattle.iox_negotiate_base.specs.declared.sight.SightFailure.TheVariants.{ServiceInCorruptedState, OutOfMemory}

-- What bytes show: the service that they describe; or that they describe none; or nothing, if memory to read them runs out.
abbrev pub IsRead : ServiceHash → ℕ → List ℕ → Sight → Type 0
IsRead hash number bytes sight.Absent = ⊥
IsRead hash number bytes (sight.Standing shown agreed) = (shown ≡ number) × Describes hash bytes agreed
IsRead hash number bytes (sight.Failed HangsInCreation) = ⊥
IsRead hash number bytes (sight.Failed InsufficientPermissions) = ⊥
IsRead hash number bytes (sight.Failed ServiceInCorruptedState) = (agreed : Agreement) → Describes hash bytes agreed → ⊥
IsRead hash number bytes (sight.Failed OutOfMemory) = Unit {0}

-- What the result of a lookup of a hash shows.
abbrev pub IsSight : ServiceHash → LookAnswer → Sight → Type 0
IsSight hash look.Absent shown = shown ≡ sight.Absent
IsSight hash look.Locked shown = shown ≡ sight.Failed HangsInCreation
IsSight hash (look.Found number bytes) shown = IsRead hash number bytes shown
IsSight hash look.Denied shown = shown ≡ sight.Failed InsufficientPermissions
IsSight hash look.Broken shown = shown ≡ sight.Failed ServiceInCorruptedState
IsSight hash look.OutOfMemory shown = shown ≡ sight.Failed OutOfMemory
