-- A hub in which the domain of an id did a step, by which a port may have come.
use Rattle.std.proofs.Common.{◌≡◌, ◌≢◌, ◌⊎◌, ℕ, Bool, true, false, List, Option, None, Some, refl, sym, ap, inl, inr, ◌∙◌}
use Rattle.std.proofs.Math.Logic.{⊎_elim}
use Rattle.std.proofs.lemmas.Bool.Decides.{eqb_tells}
use Rattle.std.specs.Option.{option_map}
use Rattle.std.specs.Prelude.{is_some}
use Rattle.iox_command.specs.NegotiateBase.DescribeSettings.declared.static_config.Settings.TheVariants as settings
use Rattle.iox_command.specs.NegotiateBase.DescribeSettings.declared.static_config.publish_subscribe.StaticConfig.{StaticConfig}
use Rattle.iox_domain.specs.Domains.{in_state}
use Rattle.iox_domain.specs.declared.domain.Domain.{Domain}
use Rattle.iox_domain.specs.declared.domain_id.DomainId.{DomainId}
use Rattle.iox_domain.specs.declared.ports.service_ports.ServicePorts.{ServicePorts}
use Rattle.iox_domain.specs.declared.state.DomainState.{DomainState}
use Rattle.iox_domain_machine.proofs.Found.{never_true}
use Rattle.iox_hub_base.specs.AsHome.{hub_changed}
use Rattle.iox_hub_base.specs.HomeLaws.{StandsAt, again, here_stands, stands_at, stepped_elsewhere, stepped_here}
use Rattle.iox_hub_base.specs.Numbered.{changed_found, one_value, others_unchanged}
use Rattle.iox_hub_base.specs.Open.{OpenServices, domain_of, here_if, presence_of, with_domain}
use Rattle.iox_hub_base.specs.ServicesAsHome.{domain_at, ports_if, stepped_if}
use Rattle.iox_hub_base.specs.ServicesOpening.{is_open}
use Rattle.iox_hub_base.specs.declared.hub.Hub.{Hub}
use Rattle.iox_hub_base.specs.declared.presence.Presence.{Presence}
use Rattle.iox_hub_base.specs.declared.presence.Presence.TheVariants.{Here}
use Rattle.iox_hub_commands.specs.ServicesTables.{FactoryTable}
use Rattle.iox_hub_machine.proofs.ComesNamed.{IsAside, same_or_aside}
use Rattle.iox_hub_machine.proofs.Housed.{one_or_other}
use Rattle.iox_hub_machine.specs.Services.{IsServedBy}
use Rattle.iox_machine.specs.Service.{Service}

-- two steps of a domain are one
pub changed_again : {T U B D : Type 0} (id : DomainId) (first second : DomainState T U B D → DomainState T U B D) (hub : Hub T U B D)
    → hub_changed id second (hub_changed id first hub) ≡ hub_changed id (λ state. second (first state)) hub
changed_again {T} {U} {B} {D} id first second hub =
    ap (λ (services : OpenServices T U B D). record hub { services = services }) (again id first second hub.services)

module _ {T U B D : Type 0} (id : DomainId) (step : DomainState T U B D → DomainState T U B D) (hub : Hub T U B D)
    (domain : Domain T U B D) (is : domain_at id hub.services ≡ Some domain) where
  abbrev pub changed : Hub T U B D
  changed = hub_changed id step hub

  abbrev pub became : Domain T U B D
  became = in_state step domain

  there : StandsAt id hub.services domain
  there = stands_at id hub.services domain is

  presence : presence_of id.service hub.services.domains ≡ Some (Here domain)
  presence = here_stands (presence_of id.service hub.services.domains) domain there.found

  abbrev domains_then : List (ℕ × Presence T U B D)
  domains_then = with_domain id.service hub.services.domains became

  pub put_there : changed.services ≡ record hub.services { domains = domains_then }
  put_there = ap (λ (found : Option (Domain T U B D)). stepped_if found id.service (in_state step) hub.services) is

  pub found_there : domain_at id changed.services ≡ Some became
  found_there = stepped_here id (in_state step) hub.services ∙ ap (option_map (in_state step)) is

  found_elsewhere : (other : DomainId) → id ≢ other → domain_at other changed.services ≡ domain_at other hub.services
  found_elsewhere other off = stepped_elsewhere id other (in_state step) hub.services off

  pub still_here : (other : DomainId) → is_some (domain_at other hub.services) ≡ true → is_some (domain_at other changed.services) ≡ true
  still_here other was = ⊎_elim
      (λ same. ap (λ (it : DomainId). is_some (domain_at it changed.services)) (sym same) ∙ ap is_some found_there)
      (λ off. ap is_some (found_elsewhere other off) ∙ was) (one_or_other id other)

  presence_there : presence_of id.service domains_then ≡ Some (Here became)
  presence_there = changed_found id.service hub.services.domains (Here domain) (Here became) presence

  presence_beside : (number : ℕ) → number ≢ id.service → presence_of number domains_then ≡ presence_of number hub.services.domains
  presence_beside number off = others_unchanged id.service number hub.services.domains (Here became) (λ same. off (sym same))

  -- each service is open still
  pub still_open : (number : ℕ) → is_open number hub.services ≡ true → is_open number changed.services ≡ true
  still_open number was =
      ap (is_open number) put_there
      ∙ ⊎_elim
      (λ same. ap (λ (it : ℕ). is_some (presence_of it domains_then)) same.1 ∙ ap is_some presence_there)
      (λ off. ap is_some (presence_beside number off.1) ∙ was) (eqb_tells number id.service)

  -- the domain of each number is for what it was for
  agreed_so : (number : ℕ) (later : Domain T U B D) → domain_of number domains_then ≡ Some later
      → (was : Domain T U B D) × (domain_of number hub.services.domains ≡ Some was) × (later.agreed ≡ was.agreed)
  agreed_so number later found = ⊎_elim
      (λ same. (
        domain,
        ap (λ (it : ℕ). domain_of it hub.services.domains) same.1 ∙ ap here_if presence,
        ap (λ (it : Domain T U B D). it.agreed)
            (one_value (sym found ∙ ap (λ (it : ℕ). domain_of it domains_then) same.1 ∙ ap here_if presence_there)),
      ))
      (λ off. (later, sym (ap here_if (presence_beside number off.1)) ∙ found, refl)) (eqb_tells number id.service)

  -- a domain is of its service still
  pub served_still : (table : FactoryTable) (number : ℕ) (service after : Service T) → after.name ≡ service.name
      → after.settings ≡ service.settings → IsServedBy table hub.services number service → IsServedBy table changed.services number after
  served_still table number service after same_name same_settings served = record {
    factory = served.factory;
    made = served.made;
    found = served.found;
    pattern = served.pattern;
    number_is = served.number_is;
    name = same_name ∙ served.name;
    carried = served.carried ∙ ap (λ (it : StaticConfig). settings.PublishSubscribe it) (sym same_settings);
    agreed = λ later found.
        let was = agreed_so number later (sym (ap (λ (it : OpenServices T U B D). domain_of number it.domains) put_there) ∙ found) in
        was.2 ∙ served.agreed was.0 was.1 ∙ sym same_settings;
  }

  -- what is the same of the domain is the same of each
  pub everywhere : {A : Type 0} (f : Option (Domain T U B D) → A) → f (Some became) ≡ f (Some domain) → (other : DomainId)
      → f (domain_at other changed.services) ≡ f (domain_at other hub.services)
  everywhere f same other = ⊎_elim
      (λ it. ap (λ (one : DomainId). f (domain_at one changed.services)) (sym it) ∙ ap f found_there ∙ same ∙ sym (ap f is)
      ∙ ap (λ (one : DomainId). f (domain_at one hub.services)) it)
      (λ off. ap f (found_elsewhere other off)) (one_or_other id other)

  -- so it is with what is the same of all ports but one
  pub everywhere_else : {A : Type 0} (f : ℕ → Option (Domain T U B D) → A) (next : ℕ)
      → ((number : ℕ) → number ≢ next → f number (Some became) ≡ f number (Some domain)) → (other : DomainId) (number : ℕ)
      → IsAside id.service next other.service number
      → f number (domain_at other changed.services) ≡ f number (domain_at other hub.services)
  everywhere_else f next same other number aside = ⊎_elim
      (λ it. ap (λ (one : DomainId). f number (domain_at one changed.services)) (sym it) ∙ ap (f number) found_there
      ∙ same number
      (⊎_elim (λ apart. absurd (apart (sym (ap (λ (one : DomainId). one.service) it)))) (λ apart. apart) aside)
      ∙ sym (ap (f number) is) ∙ ap (λ (one : DomainId). f number (domain_at one hub.services)) it)
      (λ off. ap (f number) (found_elsewhere other off)) (one_or_other id other)

  -- ---- who stands

  module _ (stands_in : ℕ → Option (ServicePorts T U) → Bool) (nobody : (number : ℕ) → stands_in number None ≡ false) where
    abbrev up_in : Hub T U B D → DomainId → ℕ → Bool
    up_in of other number = stands_in number (ports_if (domain_at other of.services))

    -- who stands is of a domain of the hub
    of_hub : (of : Hub T U B D) (other : DomainId) (number : ℕ) (found : Option (Domain T U B D)) → domain_at other of.services ≡ found
        → stands_in number (ports_if found) ≡ true → other.hub ≡ of.services.hub
    of_hub of other number None at up = never_true (sym (nobody number) ∙ up)
    of_hub of other number (Some one) at up = (stands_at other of.services one at).hub

    same_id : (other : DomainId) → other.hub ≡ hub.services.hub → other.service ≡ id.service → other ≡ id
    same_id other hubs services = λ i. record { hub = (hubs ∙ sym there.hub) i; service = services i }

    pub up_same : ((number : ℕ) → stands_in number (Some became.state.ports) ≡ stands_in number (Some domain.state.ports))
        → (other : DomainId) (number : ℕ) → up_in changed other number ≡ up_in hub other number
    up_same same other number =
        everywhere (λ (found : Option (Domain T U B D)). stands_in number (ports_if found)) (same number) other

    module _ (next : ℕ)
        (same : (number : ℕ) → number ≢ next
        → stands_in number (Some became.state.ports) ≡ stands_in number (Some domain.state.ports))
        (was_none : stands_in next (Some domain.state.ports) ≡ false) (comes : stands_in next (Some became.state.ports) ≡ true) where
      pub up_there : up_in changed id next ≡ true
      up_there = ap (λ (found : Option (Domain T U B D)). stands_in next (ports_if found)) found_there ∙ comes

      pub up_aside : (other : DomainId) (number : ℕ) → IsAside id.service next other.service number
          → up_in changed other number ≡ up_in hub other number
      up_aside = everywhere_else (λ number found. stands_in number (ports_if found)) next same

      pub aside : (other : DomainId) (number : ℕ) → up_in hub other number ≡ true → IsAside id.service next other.service number
      aside other number up = ⊎_elim
          (λ both. never_true (sym was_none
          ∙ sym (ap (λ (found : Option (Domain T U B D)). stands_in next (ports_if found)) is)
          ∙ ap (λ (one : DomainId). up_in hub one next) (sym (same_id other (of_hub hub other number (domain_at other hub.services) refl up)
          both.0))
          ∙ ap (up_in hub other) (sym both.1) ∙ up))
          (λ off. off) (same_or_aside id.service next other.service number)

      pub or_there : (other : DomainId) (number : ℕ) → up_in changed other number ≡ true
          → ((other ≡ id) × (number ≡ next)) ⊎ IsAside id.service next other.service number
      or_there other number up = ⊎_elim
          (λ both. inl (
            same_id other
                (of_hub changed other number (domain_at other changed.services) refl up
                ∙ ap (λ (services : OpenServices T U B D). services.hub) put_there) both.0,
            both.1,
          ))
          (λ off. inr off) (same_or_aside id.service next other.service number)
