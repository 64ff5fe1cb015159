-- Calls of a table's own nodes, made one after another, with actions of other nodes before their storage operations and between the calls.
use Rattle.std.specs.Prelude.{◌≡◌, ℕ, zero, suc, List, [], ◌∷◌, ◌++◌, Option, Result, Ok, Err}
use Rattle.std.specs.declared.alloc.AllocError.{AllocError}
use Rattle.iox_negotiate_table.specs.DescribeBase.declared.hash.ServiceHash.{ServiceHash}
use Rattle.iox_negotiate_table.specs.DescribeSettings.Agreement.{Agreement}
use Rattle.iox_negotiate_table.specs.NegotiateBase.Access.{Access}
use Rattle.iox_negotiate_table.specs.NegotiateBase.Runs.{Went, Does}
use Rattle.iox_negotiate_table.specs.NegotiateBase.Creating.{CreatesIf}
use Rattle.iox_negotiate_table.specs.NegotiateBase.Opening.{Opens, OpensOrCreates}
use Rattle.iox_negotiate_table.specs.NegotiateBase.declared.request.Opened.{Opened}
use Rattle.iox_negotiate_table.specs.NegotiateBase.declared.failure.CreateFailure.{CreateFailure}
use Rattle.iox_negotiate_table.specs.NegotiateBase.declared.failure.OpenFailure.{OpenFailure}
use Rattle.iox_negotiate_table.specs.NegotiateBase.declared.failure.OpenOrCreateFailure.{OpenOrCreateFailure}
use Rattle.iox_negotiate.specs.NegotiateBase.declared.errors.close.CloseError.{CloseError}
use Rattle.iox_negotiate.specs.Factory.{Closes as ClosesBy}
use Rattle.iox_negotiate_table.specs.declared.step.ForeignStep.{ForeignStep}
use Rattle.iox_negotiate_table.specs.Contents.{Contents, empty_table}
use Rattle.iox_negotiate_table.specs.Foreign.{Acts}
use Rattle.iox_negotiate_table.specs.Stepped.{Steps, SteppedSight}
use Rattle.iox_negotiate.specs.Factories.{Factory, AllStand}

-- The factory of a node in the service that was opened or created.
abbrev pub factory_of : ℕ → Opened → Factory
factory_of node service = record { number = service.number; node = node; agreed = service.description }

-- The open factories after a call that opens one more if it succeeds.
abbrev pub opened_too : {E : Type 0} → ℕ → Result Opened E → List Factory → List Factory
opened_too node (Ok service) held = factory_of node service ∷ held
opened_too node (Err failure) held = held

-- A call of an own node with its result, or an action of a foreign node between calls. The errors of a verdict may differ by the kind
-- of the service; `V` has the type of the errors of each kind.
pub data Call (V : ℕ → Type 0) : Type 0 where
  Creates : (node : ℕ) (agreed : Agreement) (refusal : Option CreateFailure) (result : Result Opened CreateFailure) → Call V
  Opening : (kind : ℕ) (hash : ServiceHash) (node : ℕ) (verdict : Agreement
      → Result (Unit {0}) (V kind)) (result : Result Opened (OpenFailure (V kind))) → Call V
  Either : (kind node : ℕ) (verdict : Agreement → Result (Unit {0}) (V kind)) (agreed : Agreement) (refusal : Option CreateFailure)
      (result : Result Opened (OpenOrCreateFailure (V kind))) → Call V
  Closing : (before : List Factory) (factory : Factory) (after : List Factory) (result : Result (Unit {0}) CloseError) → Call V
  Between : (hash : ServiceHash) (step : ForeignStep) → Call V

-- The storage operations that the call makes.
abbrev pub Tells : {V : ℕ → Type 0} → Call V → List Access → Type 0
Tells (Creates node agreed refusal result) made = CreatesIf agreed.service_hash node agreed refusal made result
Tells (Opening kind hash node verdict result) made = Opens hash node verdict made result
Tells (Either kind node verdict agreed refusal result) made = OpensOrCreates agreed.service_hash node verdict agreed refusal made result
Tells (Closing before factory after result) made = ClosesBy factory.agreed.service_hash factory.number factory.node made result
Tells (Between hash step) made = made ≡ []

-- A closing may begin only if its factory is open; any other call may begin.
abbrev pub MayBegin : {V : ℕ → Type 0} → Call V → List Factory → Type 0
MayBegin (Closing before factory after result) held = held ≡ before ++ (factory ∷ after)
MayBegin call held = Unit {0}

-- The factories that are open throughout the call; the factory that the call closes isn't one of them.
abbrev pub kept : {V : ℕ → Type 0} → Call V → List Factory → List Factory
kept (Closing before factory after result) held = before ++ after
kept call held = held

-- The factories that are open after the call.
abbrev pub open_after : {V : ℕ → Type 0} → Call V → List Factory → List Factory
open_after (Creates node agreed refusal result) held = opened_too node result held
open_after (Opening kind hash node verdict result) held = opened_too node result held
open_after (Either kind node verdict agreed refusal result) held = opened_too node result held
open_after (Closing before factory after result) held = before ++ after
open_after (Between hash step) held = held

-- A call leads from one table to another, with these lists of actions of other nodes before its storage operations; or an action of another
-- node does.
abbrev pub Goes : {V : ℕ → Type 0} → Call V → Contents → Contents → Type 0
Goes (Between hash step) old new = (result : Result (Unit {0}) AllocError) × Acts hash step old result new
Goes call old new =
    (lists : List (List ForeignStep)) × (end : Steps)
    × Does SteppedSight (record { table = old; lists = lists }) (λ made. Tells call made) end × (new ≡ end.table)

-- These calls, one after another, lead from one table to another, and from some open factories to others.
abbrev pub Called : {V : ℕ → Type 0} → Contents → List Factory → List (Call V) → Contents → List Factory → Type 0
Called table held [] new after = (new ≡ table) × (after ≡ held)
Called table held (call ∷ calls) new after =
    MayBegin call held × (mid : Contents) × Goes call table mid × Called mid (open_after call held) calls new after

-- After any calls in a new table, with any actions of other nodes before each storage operation and between the calls, the service of each
-- open factory exists.
abbrev pub OpenFactoriesStand : (ℕ → Type 0) → Type 0
OpenFactoriesStand V = (id : ℕ) (calls : List (Call V)) (table : Contents) (held : List Factory)
    → Called (empty_table id) [] calls table held → AllStand held table

-- After each storage operation within a call, the service of each open factory that the call doesn't close exists.
abbrev pub StandInsideCalls : (ℕ → Type 0) → Type 0
StandInsideCalls V = (id : ℕ) (calls : List (Call V)) (table : Contents) (held : List Factory) (call : Call V)
    (lists : List (List ForeignStep)) (mid : Steps) (done rest : List Access)
    → Called (empty_table id) [] calls table held → MayBegin call held → Tells call (done ++ rest)
    → Went SteppedSight (record { table = table; lists = lists }) done mid → AllStand (kept call held) mid.table

-- The errors of three kinds of services.
abbrev pub of_three : Type 0 → Type 0 → Type 0 → ℕ → Type 0
of_three A B C zero = A
of_three A B C (suc zero) = B
of_three A B C (suc (suc more)) = C
