-- A hub in which the ports of one domain are others.
use Rattle.std.proofs.Common.{◌≡◌, ◌≢◌, ◌⊎◌, ℕ, true, Option, None, Some, refl, sym, ap, inl, inr, ◌∙◌}
use Rattle.std.proofs.Math.Logic.{⊎_elim}
use Rattle.std.proofs.lemmas.Bool.Decides.{eqb_tells}
use Rattle.std.specs.Option.{option_map}
use Rattle.std.specs.Prelude.{is_some}
use Rattle.iox_domain.specs.Domains.{in_state}
use Rattle.iox_domain.specs.States.{with_ports}
use Rattle.iox_domain.specs.declared.domain.Domain.{Domain}
use Rattle.iox_domain.specs.declared.domain_id.DomainId.{DomainId}
use Rattle.iox_domain.specs.declared.ports.service_ports.ServicePorts.{ServicePorts}
use Rattle.iox_domain_machine.proofs.Found.{same_some, never_some, never_true}
use Rattle.iox_hub_base.specs.AsHome.{hub_ports, with_hub_ports}
use Rattle.iox_hub_base.specs.HomeLaws.{StandsAt, stands_at, here_stands, stepped_here, stepped_elsewhere, alike, unchanged}
use Rattle.iox_hub_base.specs.Open.{OpenServices, presence_of, with_domain}
use Rattle.iox_hub_base.specs.ServicesAsHome.{domain_at, state_if, ports_if, stepped_if, publisher_handlers_in, subscriber_handler_in}
use Rattle.iox_hub_base.specs.declared.hub.Hub.{Hub}
use Rattle.iox_hub_base.specs.declared.presence.Presence.TheVariants.{Here}

-- two ids are one, or they aren't
pub one_or_other : (id other : DomainId) → (id ≡ other) ⊎ (id ≢ other)
one_or_other id other = ⊎_elim
    (λ hubs. ⊎_elim
    (λ services. inl (λ i. record { hub = hubs.1 i; service = services.1 i }))
    (λ off. inr (λ same. off.1 (ap (λ (it : DomainId). it.service) same))) (eqb_tells id.service other.service))
    (λ off. inr (λ same. off.1 (ap (λ (it : DomainId). it.hub) same))) (eqb_tells id.hub other.hub)

module _ {T U B D : Type 0} where
  -- whether a domain is there that may be here
  pub some_here : (found : Option (Domain T U B D)) → is_some found ≡ true → (domain : Domain T U B D) × (found ≡ Some domain)
  some_here None is = never_true is
  some_here (Some domain) is = (domain, refl)

  pub some_ports : (found : Option (Domain T U B D)) (ports : ServicePorts T U) → ports_if found ≡ Some ports
      → (domain : Domain T U B D) × (found ≡ Some domain) × (domain.state.ports ≡ ports)
  some_ports None ports is = never_some ports is
  some_ports (Some domain) ports is = (domain, refl, same_some domain.state.ports ports is)

  module _ (id : DomainId) (after : ServicePorts T U) (hub : Hub T U B D) (domain : Domain T U B D)
      (is : domain_at id hub.services ≡ Some domain) where
    abbrev changed : Hub T U B D
    changed = with_hub_ports id after hub

    -- the domain with its other ports
    abbrev pub became : Domain T U B D
    became = in_state (with_ports after) domain

    pub stands : StandsAt id hub.services domain
    stands = stands_at id hub.services domain is

    pub stands_here : presence_of id.service hub.services.domains ≡ Some (Here domain)
    stands_here = here_stands (presence_of id.service hub.services.domains) domain stands.found

    -- it is put in the place of the one that there was
    pub put_there : changed.services ≡ record hub.services { domains = with_domain id.service hub.services.domains became }
    put_there = ap (λ (found : Option (Domain T U B D)). stepped_if found id.service (in_state (with_ports after)) hub.services) is

    pub found_there : domain_at id changed.services ≡ Some became
    found_there = stepped_here id (in_state (with_ports after)) hub.services ∙ ap (option_map (in_state (with_ports after))) is

    pub found_elsewhere : (other : DomainId) → id ≢ other → domain_at other changed.services ≡ domain_at other hub.services
    found_elsewhere other off = stepped_elsewhere id other (in_state (with_ports after)) hub.services off

    -- each domain is here still that was
    pub still_here : (other : DomainId) → is_some (domain_at other hub.services) ≡ true → is_some (domain_at other changed.services) ≡ true
    still_here other was = ⊎_elim
        (λ same. ap (λ (it : DomainId). is_some (domain_at it changed.services)) (sym same) ∙ ap is_some found_there)
        (λ off. ap is_some (found_elsewhere other off) ∙ was) (one_or_other id other)

    -- who decides stays
    pub same_publisher_handlers : (other : DomainId) (number : ℕ)
        → publisher_handlers_in number (domain_at other changed.services) ≡ publisher_handlers_in number (domain_at other hub.services)
    same_publisher_handlers other number = ⊎_elim
        (λ same. ap (λ (it : DomainId). publisher_handlers_in number (domain_at it changed.services)) (sym same)
        ∙ ap (publisher_handlers_in number) found_there ∙ sym (ap (publisher_handlers_in number) is)
        ∙ ap (λ (it : DomainId). publisher_handlers_in number (domain_at it hub.services)) same)
        (λ off. ap (publisher_handlers_in number) (found_elsewhere other off)) (one_or_other id other)

    pub same_subscriber_handler : (other : DomainId) (number : ℕ)
        → subscriber_handler_in number (domain_at other changed.services) ≡ subscriber_handler_in number (domain_at other hub.services)
    same_subscriber_handler other number = ⊎_elim
        (λ same. ap (λ (it : DomainId). subscriber_handler_in number (domain_at it changed.services)) (sym same)
        ∙ ap (subscriber_handler_in number) found_there ∙ sym (ap (subscriber_handler_in number) is)
        ∙ ap (λ (it : DomainId). subscriber_handler_in number (domain_at it hub.services)) same)
        (λ off. ap (subscriber_handler_in number) (found_elsewhere other off)) (one_or_other id other)

  -- ports that are put where they are change nothing
  pub put_again : (id : DomainId) (ports : ServicePorts T U) (hub : Hub T U B D) → hub_ports id hub ≡ Some ports
      → with_hub_ports id ports hub ≡ hub
  put_again id ports hub found =
      let (domain, is, same) = some_ports (domain_at id hub.services) ports found in
      ap (λ (services : OpenServices T U B D). record hub { services = services })
      (alike id (with_ports ports) (λ state. state) hub.services
      (ap (λ (it : Option (Domain T U B D)). option_map (with_ports ports) (state_if it)) is
      ∙ ap (λ (it : ServicePorts T U). Some (record domain.state { ports = it })) (sym same)
      ∙ sym (ap (λ (it : Option (Domain T U B D)). option_map (λ state. state) (state_if it)) is))
      ∙ unchanged id hub.services)
