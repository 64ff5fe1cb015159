-- A factory is closed by its number.
use Rattle.std.specs.Prelude.{ℕ, ◌≡◌, Bool, true, false, Option, None, Some, Result, Err, nat_eq}
use Rattle.iox_hub_base.specs.Closing.{in_use, less_one}
use Rattle.iox_hub_base.specs.declared.hub.Hub.{Hub}
use Rattle.iox_hub_base.specs.Negotiate.Factory.{Closes}
use Rattle.iox_hub_base.specs.Negotiate.declared.factory.Membership.{Membership}
use Rattle.iox_command.specs.NegotiateBase.declared.errors.close.CloseError.{CloseError}
use Rattle.iox_command.specs.NegotiateBase.declared.errors.close.CloseError.TheVariants.{StillInUse}
use Rattle.iox_command.specs.NegotiateBase.Runs.{Does}
use Rattle.iox_negotiate_table.specs.Sights.{Sight}
use Rattle.iox_container.specs.NumberTable.{removed}
use Rattle.iox_hub_commands.specs.ServicesNumbering.{IsSkipped}
use Rattle.iox_hub_commands.specs.ServicesTables.{FactoryTable, parts_of}
use Rattle.iox_hub_commands.specs.declared.services.made.MadeFactory.{MadeFactory}

-- The node leaves its service in the table, with this answer, and the service has one factory fewer.
abbrev pub Leaves : {T U B D : Type 0} → Membership → Hub T U B D → Result (Unit {0}) CloseError → Hub T U B D → Type 0
Leaves member old closed new =
    Does Sight old.table (λ accesses. Closes member.service.description.service_hash member.service.number member.node accesses closed)
    new.table
    × (new ≡ less_one member.service.number (record old { table = new.table }))

-- A factory that is in use stays, and nothing happens. Otherwise it is closed, and its number names nothing any longer, whatever the table
-- answers.
abbrev pub ClosesUnless : {T U B D : Type 0} → Bool → ℕ → Membership → FactoryTable → Hub T U B D
    → Option (Result (Unit {0}) CloseError) → FactoryTable → Hub T U B D → Type 0
ClosesUnless true number member table old answer after new = (answer ≡ Some (Err StillInUse)) × (after ≡ table) × (new ≡ old)
ClosesUnless false number member table old answer after new =
    (closed : Result (Unit {0}) CloseError) × Leaves member old closed new × (answer ≡ Some closed) × (after ≡ removed table number)

-- Nothing happens at a factory of another hub, as if the number had no factory.
abbrev pub ClosesIfOf : {T U B D : Type 0} → Bool → ℕ → MadeFactory → FactoryTable → Hub T U B D → Option (Result (Unit {0}) CloseError)
    → FactoryTable → Hub T U B D → Type 0
ClosesIfOf false number made table old answer after new = IsSkipped table old answer after new
ClosesIfOf true number made table old answer after new =
    ClosesUnless (in_use (parts_of made).0.service.number (parts_of made).1 old) number (parts_of made).0 table old answer after new

-- The factory with this number is closed; nothing happens if there is none.
abbrev pub ClosesNumbered : {T U B D : Type 0} → ℕ → Option MadeFactory → FactoryTable → Hub T U B D
    → Option (Result (Unit {0}) CloseError) → FactoryTable → Hub T U B D → Type 0
ClosesNumbered number None table old answer after new = IsSkipped table old answer after new
ClosesNumbered number (Some made) table old answer after new
    = ClosesIfOf (nat_eq (parts_of made).0.storage old.table.id) number made table old answer after new
