-- Who decides for a port and the ports don't touch one another.
use Rattle.std.proofs.Common.{◌≡◌, Bool, true, false, Option, None, Some, refl, sym, ap, subst, ◌∙◌}
use Rattle.std.proofs.lemmas.Bool.{eqb-true, eq-eqb}
use Rattle.std.specs.Option.{option_map}
use Rattle.std.specs.Prelude.{◌==◌, ◌&&◌}
use Rattle.iox_domain.specs.declared.domain_id.DomainId.{DomainId}
use Rattle.iox_domain.specs.AsHome.{same_id}
use Rattle.iox_domain.specs.HomesLaws.{AreApart}
use Rattle.iox_domain.specs.States as state
use Rattle.iox_domain.specs.declared.state.DomainState.{DomainState}

both_same : (a b : DomainId) → (hub service : Bool) → (a.hub == b.hub) ≡ hub → (a.service == b.service) ≡ service
    → (hub && service) ≡ true → a ≡ b
both_same a b true true hub service same =
    ap (λ h. record { hub = h; service = a.service }) (eqb-true a.hub b.hub hub) ∙ ap (λ s. record { hub = b.hub; service = s })
    (eqb-true a.service b.service service)
both_same a b true false hub service same = cc
both_same a b false true hub service same = cc
both_same a b false false hub service same = cc

itself : (a b : DomainId) → a ≡ b → same_id a b ≡ true
itself a b same = ap (λ hub. hub && (a.service == b.service)) (eq-eqb a.hub b.hub (ap (λ id. id.hub) same)) ∙ eq-eqb a.service b.service
    (ap (λ id. id.service) same)

differ : true ≡ false → ⊥
differ e = cc

module _ {T U B D H : Type 0} (domain_of : DomainId → H → Option (DomainState T U B D))
    (changed : DomainId → (DomainState T U B D → DomainState T U B D) → H → H)
    (found : (id : DomainId) (step : DomainState T U B D → DomainState T U B D) (home : H)
    → domain_of id (changed id step home) ≡ option_map step (domain_of id home))
    (others : (id other : DomainId) (step : DomainState T U B D → DomainState T U B D) (home : H) → (id ≡ other → ⊥)
    → domain_of other (changed id step home) ≡ domain_of other home) where
  spared_if : {X : Type 0} (seen : Option (DomainState T U B D) → X) (step : DomainState T U B D → DomainState T U B D)
      → ((domain : DomainState T U B D) → seen (Some (step domain)) ≡ seen (Some domain)) → (there : Option (DomainState T U B D))
      → seen (option_map step there) ≡ seen there
  spared_if seen step spares None = refl
  spared_if seen step spares (Some domain) = spares domain

  spared_by : {X : Type 0} (same : Bool) (seen : Option (DomainState T U B D) → X) (id other : DomainId)
      (step : DomainState T U B D → DomainState T U B D) (home : H) → same_id id other ≡ same
      → ((domain : DomainState T U B D) → seen (Some (step domain)) ≡ seen (Some domain))
      → seen (domain_of other (changed id step home)) ≡ seen (domain_of other home)
  spared_by true seen id other step home is spares =
      subst (λ one. seen (domain_of one (changed id step home)) ≡ seen (domain_of one home))
      (both_same id other (id.hub == other.hub) (id.service == other.service) refl refl is)
      (ap seen (found id step home) ∙ spared_if seen step spares (domain_of id home))
  spared_by false seen id other step home is spares = ap seen (others id other step home (λ same. differ (sym (itself id other same) ∙ is)))

  -- what a step spares of a domain is as before in each
  spared : {X : Type 0} (seen : Option (DomainState T U B D) → X) (id other : DomainId)
      (step : DomainState T U B D → DomainState T U B D) (home : H)
      → ((domain : DomainState T U B D) → seen (Some (step domain)) ≡ seen (Some domain))
      → seen (domain_of other (changed id step home)) ≡ seen (domain_of other home)
  spared seen id other step home spares = spared_by (same_id id other) seen id other step home refl spares

  pub are_apart : AreApart domain_of changed
  are_apart = record {
    ports_with_publisher = λ id other number handlers home. spared state.ports_in id other (state.publisher_kept number handlers) home
        (λ domain. refl);
    ports_with_subscriber = λ id other number handler home. spared state.ports_in id other (state.subscriber_kept number handler) home
        (λ domain. refl);
    ports_without_publisher = λ id other number home. spared state.ports_in id other (state.publisher_forgotten number) home
        (λ domain. refl);
    ports_without_subscriber = λ id other number home. spared state.ports_in id other (state.subscriber_forgotten number) home
        (λ domain. refl);
    same_publisher = λ id other number ports home. spared (state.publisher_handlers_in number) id other (state.with_ports ports) home
        (λ domain. refl);
    same_subscriber = λ id other number ports home. spared (state.subscriber_handler_in number) id other (state.with_ports ports) home
        (λ domain. refl);
  }
