-- Actions of other nodes on the services of a hub.
use Rattle.std.specs.Prelude.{◌≡◌, List, Result, Ok, Err}
use Rattle.std.specs.declared.alloc.AllocError.{AllocError}
use Rattle.iox_command.specs.declared.refusal.HubError.{HubError}
use Rattle.iox_command.specs.declared.refusal.HubError.TheVariants.{OutOfMemory}
use Rattle.iox_delivery_factories.specs.DescribeBase.declared.hash.ServiceHash.{ServiceHash}
use Rattle.iox_negotiate_table.specs.Contents.{Contents}
use Rattle.iox_negotiate_table.specs.Stepped.{ActsAll}
use Rattle.iox_negotiate_table.specs.declared.step.ForeignStep.{ForeignStep}
use Rattle.iox_hub_base.specs.declared.hub.Hub.{Hub}

-- The reply to a list of actions: they were done, or one ran out of memory.
abbrev pub told : Result (Unit {0}) AllocError → Result (Unit {0}) HubError
told (Ok done) = Ok tt
told (Err lacking) = Err OutOfMemory

-- The actions are done one after the other, up to the first that runs out of memory.
abbrev pub ActsInTurn : ServiceHash → List ForeignStep → Contents → Result (Unit {0}) HubError → Contents → Type 0
ActsInTurn hash steps old result new = (happened : Result (Unit {0}) AllocError) × ActsAll hash steps old happened new
    × (result ≡ told happened)

-- The actions are done on the table of the hub, and all else stays.
abbrev pub ActsOn : {T U B D : Type 0} → ServiceHash → List ForeignStep → Hub T U B D → Result (Unit {0}) HubError → Hub T U B D → Type 0
ActsOn hash steps old result new = ActsInTurn hash steps old.table result new.table × (new ≡ record old { table = new.table })
