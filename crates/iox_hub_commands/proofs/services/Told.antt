-- What is told of a call for which no memory was found before its first storage operation.
use Rattle.std.proofs.Common.{◌≡◌, Err, refl, ap}
use Rattle.iox_command.specs.declared.refusal.Refusal.{Refusal}
use Rattle.iox_command.specs.declared.service.ServiceOptions.{ServiceOptions}
use Rattle.iox_hub_commands.specs.Creating.{create_lacking}
use Rattle.iox_hub_commands.specs.Either.{either_lacking}
use Rattle.iox_hub_commands.specs.Opening.{open_lacking}
use Rattle.iox_hub_commands.specs.OpeningCalls.{ByCall, lacking_of}
use Rattle.iox_hub_commands.specs.ServicesNumbering.{IsRefusedWith}
use Rattle.iox_hub_commands.specs.ServicesTables.{FactoryTable}
use Rattle.iox_hub_commands.specs.declared.services.opening_call.OpeningCall.{OpeningCall}
use Rattle.iox_hub_commands.specs.declared.services.opening_call.OpeningCall.TheVariants as opening

-- it is refused as the call is that was made
pub lacks : {H : Type 0} (call : OpeningCall) (options : ServiceOptions) (told : Refusal) (table : FactoryTable) (hub : H)
    → told ≡ lacking_of call options
    → ByCall call (λ attributes. IsRefusedWith (create_lacking options) table hub (Err told) table hub)
    (λ attributes. IsRefusedWith (open_lacking options) table hub (Err told) table hub)
    (λ attributes. IsRefusedWith (either_lacking options) table hub (Err told) table hub)
lacks (opening.Create attributes) options told table hub is = (ap Err is, refl, refl)
lacks (opening.Open attributes) options told table hub is = (ap Err is, refl, refl)
lacks (opening.OpenOrCreate attributes) options told table hub is = (ap Err is, refl, refl)
