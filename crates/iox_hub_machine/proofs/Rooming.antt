-- Ports that came by calls are roomy.
use Rattle.std.proofs.Common.{◌≡◌, ℕ, Bool, true, false, cond, List, [], ◌∷◌, Some, sym, subst}
use Rattle.std.specs.BTreeMap.{is_at}
use Rattle.std.specs.Ordering.{nat_cmp}
use Rattle.iox_domain.proofs.StayRoomy.{stay_roomy, new_roomy}
use Rattle.iox_domain.specs.Calls.{PortCall}
use Rattle.iox_domain.specs.Order.{Happen}
use Rattle.iox_domain.specs.Ports.{no_ports}
use Rattle.iox_domain.specs.Roomy.{AreRoomy}
use Rattle.iox_domain.specs.Sizes.{sizes}
use Rattle.iox_domain.specs.declared.domain.Domain.{Domain}
use Rattle.iox_domain.specs.declared.domain_id.DomainId.{DomainId}
use Rattle.iox_domain.specs.declared.ports.service_ports.ServicePorts.{ServicePorts}
use Rattle.iox_hub_base.specs.AsHome.{hub_ports}
use Rattle.iox_hub_base.specs.Numbered.{one_value}
use Rattle.iox_hub_base.specs.Open.{presence_of}
use Rattle.iox_hub_base.specs.ServicesAsHome.{domain_at}
use Rattle.iox_hub_base.specs.declared.hub.Hub.{Hub}
use Rattle.iox_hub_base.specs.declared.presence.Presence.{Presence}
use Rattle.iox_hub_base.specs.declared.presence.Presence.TheVariants.{Here}
use Rattle.iox_hub_commands.specs.Grown.{AnySlots, AnyAction, AnyDecision, HasGrown, HaveGrown}
use Rattle.iox_hub_machine.proofs.Housed.{some_ports, stands_here}

module _ {T U : Type 0} where
  happen_roomy : (calls : List (PortCall T U × ServicePorts T U)) (old new : ServicePorts T U)
      → Happen AnySlots AnyAction AnyDecision calls old new → AreRoomy old → AreRoomy new
  happen_roomy [] old new same roomy = subst AreRoomy (sym same) roomy
  happen_roomy (call ∷ calls) old new (happens, later) roomy =
      happen_roomy calls call.1 new later (stay_roomy AnySlots AnyAction AnyDecision call.0 old call.1 happens roomy)

module _ {T U B D : Type 0} where
  grown_roomy : (number : ℕ) (domain : Domain T U B D) → HasGrown number (Here domain) → AreRoomy domain.state.ports
  grown_roomy number domain (buffer, (calls, happen)) =
      happen_roomy calls (no_ports number (sizes buffer domain.agreed)) domain.state.ports happen
      (new_roomy AnySlots AnyAction AnyDecision number (sizes buffer domain.agreed))

  roomy_by : (b : Bool) (number : ℕ) (service : ℕ × Presence T U B D) (services : List (ℕ × Presence T U B D)) (domain : Domain T U B D)
      → HasGrown service.0 service.1 → cond b (Some service.1) (presence_of number services) ≡ Some (Here domain)
      → (presence_of number services ≡ Some (Here domain) → AreRoomy domain.state.ports) → AreRoomy domain.state.ports
  roomy_by true number service services domain grown found rest =
      grown_roomy service.0 domain (subst (HasGrown service.0) (one_value found) grown)
  roomy_by false number service services domain grown found rest = rest found

  are_roomy : (number : ℕ) (services : List (ℕ × Presence T U B D)) (domain : Domain T U B D) → HaveGrown services
      → presence_of number services ≡ Some (Here domain) → AreRoomy domain.state.ports
  are_roomy number [] domain grown found = cc
  are_roomy number (service ∷ services) domain (grown, others) found =
      roomy_by (is_at (nat_cmp number) service.0) number service services domain grown found
      (λ later. are_roomy number services domain others later)

  -- so are those of a hub
  pub roomy_there : (id : DomainId) (ports : ServicePorts T U) (hub : Hub T U B D) → HaveGrown hub.services.domains
      → hub_ports id hub ≡ Some ports → AreRoomy ports
  roomy_there id ports hub grown found =
      let (domain, is, same) = some_ports (domain_at id hub.services) ports found in
      subst AreRoomy same (are_roomy id.service hub.services.domains domain grown (stands_here id ports hub domain is))
