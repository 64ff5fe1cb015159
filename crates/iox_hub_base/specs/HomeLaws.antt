-- Theorems about the services of a hub as a home of domains.
use Rattle.std.proofs.Common.{ℕ, ◌≡◌, Bool, true, false, List, Option, None, Some, refl, sym, ap, ◌∙◌, cond}
use Rattle.std.proofs.lemmas.Bool.{eqb-true, eq-eqb}
use Rattle.std.specs.Option.{option_map}
use Rattle.std.specs.Prelude.{◌==◌}
use Rattle.iox_domain.specs.Domains.{in_state}
use Rattle.iox_domain.specs.declared.domain.Domain.{Domain}
use Rattle.iox_domain.specs.declared.state.DomainState.{DomainState}
use Rattle.iox_domain.specs.declared.domain_id.DomainId.{DomainId}
use Rattle.iox_hub_base.specs.ServicesAsHome.{domain_at, state_if, state_at, stepped_if, stepped, changed_at}
use Rattle.iox_hub_base.specs.Numbered.{one_value, changed_found as value_found, others_unchanged, same_unchanged, changed_twice}
use Rattle.iox_hub_base.specs.Open.{OpenServices, here_if, presence_of, domain_of, with_domain}
use Rattle.iox_hub_base.specs.declared.presence.Presence.{Presence}
use Rattle.iox_hub_base.specs.declared.presence.Presence.TheVariants.{Here, Out}

-- If a domain is found in the hub, then it is what is open under its number.
pub here_stands : {T U B D : Type 0} (found : Option (Presence T U B D)) (domain : Domain T U B D) → here_if found ≡ Some domain
    → found ≡ Some (Here domain)
here_stands None domain is = cc
here_stands (Some (Here other)) domain is = ap (λ d. Some (Here d)) (one_value is)
here_stands (Some (Out agreed)) domain is = cc

-- A domain that was changed in its place is found under its number.
found_number : {T U B D : Type 0} (number : ℕ) (domains : List (ℕ × Presence T U B D)) (domain after : Domain T U B D)
    → domain_of number domains ≡ Some domain → domain_of number (with_domain number domains after) ≡ Some after
found_number number domains domain after is =
    ap here_if (value_found number domains (Here domain) (Here after) (here_stands (presence_of number domains) domain is))

other_number : {T U B D : Type 0} (number other : ℕ) (domains : List (ℕ × Presence T U B D)) (after : Domain T U B D)
    → (number ≡ other → ⊥) → domain_of other (with_domain number domains after) ≡ domain_of other domains
other_number number other domains after apart = ap here_if (others_unchanged number other domains (Here after) apart)

-- The id is of this hub, and the domain under the id's number is in the hub.
pub record StandsAt {T U B D : Type 0} (id : DomainId) (services : OpenServices T U B D) (domain : Domain T U B D) : Type 0 where
  pub hub : id.hub ≡ services.hub
  pub found : domain_of id.service services.domains ≡ Some domain

stands_if : {T U B D : Type 0} (b : Bool) (id : DomainId) (services : OpenServices T U B D) (domain : Domain T U B D)
    → (id.hub == services.hub) ≡ b → cond b (domain_of id.service services.domains) None ≡ Some domain → StandsAt id services domain
stands_if true id services domain is there = record { hub = eqb-true id.hub services.hub is; found = there }
stands_if false id services domain is there = cc

-- A domain that is found by its id is of this hub, and is found under the id's number.
pub stands_at : {T U B D : Type 0} (id : DomainId) (services : OpenServices T U B D) (domain : Domain T U B D)
    → domain_at id services ≡ Some domain → StandsAt id services domain
stands_at id services domain there = stands_if (id.hub == services.hub) id services domain refl there

-- The domain of an id of this hub is found by the id's number.
pub at_hub : {T U B D : Type 0} (id : DomainId) (services : OpenServices T U B D) → id.hub ≡ services.hub
    → domain_at id services ≡ domain_of id.service services.domains
at_hub id services is = ap (λ here. cond here (domain_of id.service services.domains) None) (eq-eqb id.hub services.hub is)

stepped_found : {T U B D : Type 0} (id : DomainId) (step : Domain T U B D
    → Domain T U B D) (services : OpenServices T U B D) (found : Option (Domain T U B D)) → domain_at id services ≡ found
    → domain_at id (stepped_if found id.service step services) ≡ option_map step found
stepped_found id step services None is = is
stepped_found id step services (Some domain) is =
    let stands = stands_at id services domain is in
    at_hub id (record services { domains = with_domain id.service services.domains (step domain) }) stands.hub
    ∙ found_number id.service services.domains domain (step domain) stands.found

-- After a step of the domain with an id, that step of the domain is found under the id.
pub stepped_here : {T U B D : Type 0} (id : DomainId) (step : Domain T U B D → Domain T U B D) (services : OpenServices T U B D)
    → domain_at id (stepped id step services) ≡ option_map step (domain_at id services)
stepped_here id step services = stepped_found id step services (domain_at id services) refl

again_if : {T U B D : Type 0} (id : DomainId) (first second : Domain T U B D
    → Domain T U B D) (services : OpenServices T U B D) (found : Option (Domain T U B D)) → domain_at id services ≡ found
    → stepped id second (stepped_if found id.service first services)
    ≡ stepped_if found id.service (λ domain. second (first domain)) services
again_if id first second services None is = ap (λ found. stepped_if found id.service second services) is
again_if id first second services (Some domain) is =
    ap (λ found. stepped_if found id.service second
    (record services { domains = with_domain id.service services.domains (first domain) }))
    (stepped_found id first services (Some domain) is)
    ∙ ap (λ domains. record services { domains = domains })
    (changed_twice id.service services.domains (Here (first domain)) (Here (second (first domain))))

-- Two steps of the domain with an id, one after the other, are one step.
pub stepped_again : {T U B D : Type 0} (id : DomainId) (first second : Domain T U B D
    → Domain T U B D) (services : OpenServices T U B D)
    → stepped id second (stepped id first services) ≡ stepped id (λ domain. second (first domain)) services
stepped_again id first second services = again_if id first second services (domain_at id services) refl

stepped_beside : {T U B D : Type 0} (b : Bool) (id other : DomainId) (services : OpenServices T U B D) (domain after : Domain T U B D)
    → (other.hub == services.hub) ≡ b → StandsAt id services domain → (id ≡ other → ⊥)
    → cond b (domain_of other.service (with_domain id.service services.domains after)) None
    ≡ cond b (domain_of other.service services.domains) None
stepped_beside true id other services domain after is stands apart =
    let hubs : id.hub ≡ other.hub = stands.hub ∙ sym (eqb-true other.hub services.hub is) in
    other_number id.service other.service services.domains after
    (λ same. apart (ap (λ hub. record { hub = hub; service = id.service }) hubs ∙ ap
    (λ service. record { hub = other.hub; service = service }) same))
stepped_beside false id other services domain after is stands apart = refl

stepped_other : {T U B D : Type 0} (id other : DomainId) (step : Domain T U B D
    → Domain T U B D) (services : OpenServices T U B D) (found : Option (Domain T U B D)) → domain_at id services ≡ found → (id ≡ other → ⊥)
    → domain_at other (stepped_if found id.service step services) ≡ domain_at other services
stepped_other id other step services None is apart = refl
stepped_other id other step services (Some domain) is apart =
    stepped_beside (other.hub == services.hub) id other services domain (step domain) refl (stands_at id services domain is) apart

-- A step of one domain leaves the other domains as they were.
pub stepped_elsewhere : {T U B D : Type 0} (id other : DomainId) (step : Domain T U B D
    → Domain T U B D) (services : OpenServices T U B D) → (id ≡ other → ⊥)
    → domain_at other (stepped id step services) ≡ domain_at other services
stepped_elsewhere id other step services apart = stepped_other id other step services (domain_at id services) refl apart

-- The state of a domain after a step is that step of its state.
state_stepped : {T U B D : Type 0} (step : DomainState T U B D → DomainState T U B D) (found : Option (Domain T U B D))
    → state_if (option_map (in_state step) found) ≡ option_map step (state_if found)
state_stepped step None = refl
state_stepped step (Some domain) = refl

-- After a step of the state of the domain with an id, that step of the state is found under the id.
pub changed_found : {T U B D : Type 0} (id : DomainId) (step : DomainState T U B D
    → DomainState T U B D) (services : OpenServices T U B D)
    → state_at id (changed_at id step services) ≡ option_map step (state_at id services)
changed_found id step services = ap state_if (stepped_here id (in_state step) services) ∙ state_stepped step (domain_at id services)

-- A step of one domain's state leaves the states of the other domains as they were.
pub others_stay : {T U B D : Type 0} (id other : DomainId) (step : DomainState T U B D
    → DomainState T U B D) (services : OpenServices T U B D) → (id ≡ other → ⊥)
    → state_at other (changed_at id step services) ≡ state_at other services
others_stay id other step services apart = ap state_if (stepped_elsewhere id other (in_state step) services apart)

alike_if : {T U B D : Type 0} (number : ℕ) (one other : DomainState T U B D
    → DomainState T U B D) (services : OpenServices T U B D) (found : Option (Domain T U B D))
    → option_map one (state_if found) ≡ option_map other (state_if found)
    → stepped_if found number (in_state one) services ≡ stepped_if found number (in_state other) services
alike_if number one other services None same = refl
alike_if number one other services (Some domain) same
    = ap (λ state. record services { domains = with_domain number services.domains (record domain { state = state }) }) (one_value same)

-- Two steps that agree on the state that is found make the same change.
pub alike : {T U B D : Type 0} (id : DomainId) (one other : DomainState T U B D → DomainState T U B D) (services : OpenServices T U B D)
    → option_map one (state_at id services) ≡ option_map other (state_at id services)
    → changed_at id one services ≡ changed_at id other services
alike id one other services same = alike_if id.service one other services (domain_at id services) same

unchanged_if : {T U B D : Type 0} (id : DomainId) (services : OpenServices T U B D) (found : Option (Domain T U B D))
    → domain_at id services ≡ found → stepped_if found id.service (in_state (λ state. state)) services ≡ services
unchanged_if id services None is = refl
unchanged_if id services (Some domain) is =
    let stands = here_stands (presence_of id.service services.domains) domain (stands_at id services domain is).found in
    ap (λ domains. record services { domains = domains }) (same_unchanged id.service services.domains (Here domain) stands)

-- A step that changes nothing leaves the services as they were.
pub unchanged : {T U B D : Type 0} (id : DomainId) (services : OpenServices T U B D) → changed_at id (λ state. state) services ≡ services
unchanged id services = unchanged_if id services (domain_at id services) refl

-- Two steps of a state, one after the other, are one step.
pub again : {T U B D : Type 0} (id : DomainId) (first second : DomainState T U B D
    → DomainState T U B D) (services : OpenServices T U B D)
    → changed_at id second (changed_at id first services) ≡ changed_at id (λ state. second (first state)) services
again id first second services = stepped_again id (in_state first) (in_state second) services
