-- Closing a factory of a hub.
use Rattle.std.specs.Prelude.{ℕ, ◌≡◌, ◌-◌, Bool, true, false, List, Option, None, Some, Result, Ok, Err, nat_lt, nat_le, if◌then◌else◌}
use Rattle.iox_delivery_factories.specs.Domain.Kept.{kept, forgotten}
use Rattle.iox_delivery_factories.specs.Domain.Living.{living}
use Rattle.iox_hub_base.specs.Open.{presence_of}
use Rattle.iox_hub_base.specs.ServicesOpening.{without_service}
use Rattle.iox_hub_base.specs.declared.presence.Presence.{Presence}
use Rattle.iox_hub_base.specs.declared.presence.Presence.TheVariants.{Here, Out}
use Rattle.iox_negotiate.specs.Factory.{Closes as ClosesIn}
use Rattle.iox_negotiate.specs.declared.factory.Membership.{Membership}
use Rattle.iox_command.specs.NegotiateBase.declared.errors.close.CloseError.{CloseError}
use Rattle.iox_command.specs.NegotiateBase.declared.errors.close.CloseError.TheVariants.{StillInUse}
use Rattle.iox_negotiate_table.specs.NegotiateBase.Runs.{Does}
use Rattle.iox_negotiate_table.specs.Sights.{Sight}
use Rattle.iox_hub_base.specs.Hubs.{factories_of}
use Rattle.iox_hub_base.specs.declared.hub.Hub.{Hub}

-- Whether a service has at most one factory.
abbrev pub is_last : ℕ → List (ℕ × ℕ) → Bool
is_last number counts = nat_le (factories_of number counts) 1

-- The owner whose ports, loans and samples keep a factory from being closed: the factory itself, or every owner (`None`) if it is the
-- service's last factory.
abbrev pub who_counts : Bool → ℕ → Option ℕ
who_counts true owner = None
who_counts false owner = Some owner

-- Whether a service keeps a factory from being closed: its domain is out, or a port, a loan, a blocked send or a sample of this owner
-- exists in its domain.
abbrev pub lives_in : {T U B D : Type 0} → Option ℕ → Option (Presence T U B D) → Bool
lives_in owner None = false
lives_in owner (Some (Here domain)) = nat_lt 0 (living owner domain.state.ports)
lives_in owner (Some (Out agreed)) = true

-- Whether something keeps this factory from being closed.
abbrev pub in_use : {T U B D : Type 0} → ℕ → ℕ → Hub T U B D → Bool
in_use number owner hub = lives_in (who_counts (is_last number hub.factory_counts) owner) (presence_of number hub.services.domains)

-- The hub with one factory fewer of the service. With the last factory the service's domain ends.
abbrev pub less_one : {T U B D : Type 0} → ℕ → Hub T U B D → Hub T U B D
less_one number hub =
    if is_last number hub.factory_counts then record hub
    { factory_counts = forgotten number hub.factory_counts; services = without_service number hub.services }
    else record hub { factory_counts = kept number (factories_of number hub.factory_counts - 1) hub.factory_counts }

-- The reply after the table has closed a factory: the factory isn't handed back.
abbrev pub spent : {F : Type 0} → Result (Unit {0}) CloseError → Result (Unit {0}) (CloseError × Option F)
spent (Ok done) = Ok tt
spent (Err error) = Err (error, None)

-- While the factory is in use, it is handed back with `StillInUse`, and nothing changes. Otherwise the table closes the factory, and its
-- service has one factory fewer.
abbrev pub ClosesIf : {T U B D F : Type 0} → Bool → Membership → F → Hub T U B D → Result (Unit {0}) (CloseError × Option F)
    → Hub T U B D → Type 0
ClosesIf true member factory old result new = (result ≡ Err (StillInUse, Some factory)) × (new ≡ old)
ClosesIf false member factory old result new = (closed : Result (Unit {0}) CloseError)
    × Does Sight old.table (λ accesses. ClosesIn member.service.description.service_hash member.service.number member.node accesses
    closed) new.table
    × (result ≡ spent closed) × (new ≡ less_one member.service.number (record old { table = new.table }))

-- A call of `close`: its result for this factory, and the hub before and after it.
abbrev pub Closes : {T U B D F : Type 0} → Membership → ℕ → F → Hub T U B D → Result (Unit {0}) (CloseError × Option F) → Hub T U B D
    → Type 0
Closes member owner factory old result new = ClosesIf (in_use member.service.number owner old) member factory old result new
