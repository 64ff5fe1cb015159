-- What the first lookup of a call that opens a service decides. It takes no memory, so a call that finds no memory still reports it.
use Rattle.std.specs.Prelude.{Bool, true, false, List, ◌∷◌, Option, None, Some, if◌then◌else◌}
use Rattle.iox_delivery_factories.specs.DescribeBase.declared.hash.ServiceHash.{ServiceHash}
use Rattle.iox_negotiate.specs.Asked.{IsRefusal}
use Rattle.iox_negotiate_table.specs.Contents.{entry_at}
use Rattle.iox_negotiate_table.specs.NegotiateBase.declared.failure.CreateFailure.{CreateFailure}
use Rattle.iox_negotiate_table.specs.NegotiateBase.declared.failure.OpenFailure.{OpenFailure}
use Rattle.iox_negotiate_table.specs.NegotiateBase.declared.failure.OpenFailure.TheVariants as unopened
use Rattle.iox_negotiate_table.specs.NegotiateBase.declared.failure.OpenOrCreateFailure.{OpenOrCreateFailure}
use Rattle.iox_negotiate_table.specs.NegotiateBase.declared.failure.OpenOrCreateFailure.TheVariants as either
use Rattle.iox_negotiate_table.specs.declared.step.ForeignStep.{ForeignStep}
use Rattle.iox_hub_base.specs.Hubs.{hash_state}
use Rattle.iox_hub_base.specs.declared.hub.HashState.{HashState}
use Rattle.iox_hub_base.specs.declared.hub.HashState.TheVariants as state
use Rattle.iox_hub_base.specs.declared.hub.Hub.{Hub}

-- Whether other nodes act before the first storage operation of a call that is handed these lists of actions.
abbrev pub acts_first : List (List ForeignStep) → Bool
acts_first ((step ∷ more) ∷ lists) = true
acts_first lists = false

-- What the first lookup finds in the hub under this hash. It is None if other nodes act before.
abbrev pub found_first : {T U B D : Type 0} → Bool → ServiceHash → Hub T U B D → Option HashState
found_first acts hash hub = if acts then None else Some (hash_state (entry_at hash hub.table))

-- What the first lookup found doesn't decide an opening: the service exists, or other nodes act before.
abbrev pub MayBeOpened : Option HashState → Type 0
MayBeOpened (Some state.Absent) = ⊥
MayBeOpened (Some state.Locked) = ⊥
MayBeOpened found = Unit {0}

-- What the first lookup found doesn't decide a call that opens or creates: the service exists; or it doesn't, and settings are possible; or
-- other nodes act before.
abbrev pub MayBeEither : Type 0 → Type 0 → Option HashState → Type 0
MayBeEither is_within is_too_long (Some state.Absent) = IsRefusal is_within is_too_long None
MayBeEither is_within is_too_long (Some state.Locked) = ⊥
MayBeEither is_within is_too_long found = Unit {0}

-- Why an opening fails for which there is no memory: what its first lookup found decides it, or else memory runs out.
abbrev pub opening_failure : {V : Type 0} → Option HashState → OpenFailure V
opening_failure (Some state.Absent) = unopened.DoesNotExist
opening_failure (Some state.Locked) = unopened.HangsInCreation
opening_failure found = unopened.OutOfMemory

-- Why a call fails that opens or creates, and for which there is no memory, if its settings are refused so: what its first lookup found
-- decides it, or else memory runs out.
abbrev pub either_failure : {V : Type 0} → Option CreateFailure → Option HashState → OpenOrCreateFailure V
either_failure (Some failure) (Some state.Absent) = either.Create failure
either_failure refused (Some state.Locked) = either.Open unopened.HangsInCreation
either_failure refused found = either.Open unopened.OutOfMemory
