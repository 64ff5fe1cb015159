-- What a command on ports leaves of a hub: all but the domains, and of these what each is for.
use Rattle.std.proofs.Common.{◌≡◌, ℕ, Bool, true, false, cond, List, [], ◌∷◌, Option, None, Some, Result, Ok, Err, refl, sym, ap, subst}
use Rattle.std.proofs.Common.{◌∙◌}
use Rattle.std.proofs.lemmas.Map.Lookups.{exact_unsigned}
use Rattle.std.specs.BTreeMap.{is_at}
use Rattle.std.specs.Cmp.{nat_cmp_total}
use Rattle.std.specs.Option.{option_map}
use Rattle.std.specs.Ordering.{nat_cmp}
use Rattle.iox_command.specs.NegotiateBase.DescribeSettings.declared.static_config.publish_subscribe.StaticConfig.{StaticConfig}
use Rattle.iox_delivery.specs.Publishing.{changed_at}
use Rattle.iox_domain.specs.AtHomes.{AtDomain, LeavesDomain, MakesAt}
use Rattle.iox_domain.specs.Domains.{with_ports}
use Rattle.iox_domain.specs.declared.domain.Domain.{Domain}
use Rattle.iox_domain.specs.declared.domain_id.DomainId.{DomainId}
use Rattle.iox_domain.specs.declared.ports.service_ports.ServicePorts.{ServicePorts}
use Rattle.iox_hub_base.specs.AsHome.{with_hub_ports, with_services}
use Rattle.iox_hub_base.specs.HomeLaws.{here_stands, stands_at}
use Rattle.iox_hub_base.specs.Numbered.{one_value}
use Rattle.iox_hub_base.specs.Open.{presence_of, with_domain}
use Rattle.iox_hub_base.specs.ServicesAsHome.{domain_at, stepped, stepped_if}
use Rattle.iox_hub_base.specs.declared.hub.Hub.{Hub}
use Rattle.iox_hub_base.specs.declared.presence.Presence.{Presence}
use Rattle.iox_hub_base.specs.declared.presence.Presence.TheVariants.{Here, Out}
use Rattle.iox_negotiate.proofs.Maps.{Rising, set-rising}

module _ {T U B D : Type 0} where
  -- what the domain of a service is for, if it is here
  abbrev pub agreed_here : Presence T U B D → Option StaticConfig
  agreed_here (Here domain) = Some domain.agreed
  agreed_here (Out agreed) = None

  -- what is open under a number, and what its domain is for
  abbrev pub shown : Option (Presence T U B D) → Option (Option StaticConfig)
  shown found = option_map agreed_here found

  -- a hub with other domains
  abbrev pub with_domains : Hub T U B D → List (ℕ × Presence T U B D) → Hub T U B D
  with_domains hub domains = record hub { services = record hub.services { domains = domains } }

  -- All but the domains stays, and the same services are open, each for what it was for; by rising numbers, where they were.
  pub record Rests (old new : Hub T U B D) : Type 0 where
    pub rest : new ≡ with_domains old new.services.domains
    pub services : (number : ℕ) → shown (presence_of number new.services.domains) ≡ shown (presence_of number old.services.domains)
    pub rising : Rising nat_cmp old.services.domains → Rising nat_cmp new.services.domains

  pub rests_same : (old new : Hub T U B D) → new ≡ old → Rests old new
  rests_same old new same = record {
    rest = same ∙ ap (λ (hub : Hub T U B D). with_domains old hub.services.domains) (sym same);
    services = λ number. ap (λ (hub : Hub T U B D). shown (presence_of number hub.services.domains)) same;
    rising = λ rises. subst (λ (hub : Hub T U B D). Rising nat_cmp hub.services.domains) (sym same) rises;
  }

  pub rests_then : (old mid new : Hub T U B D) → Rests old mid → Rests mid new → Rests old new
  rests_then old mid new first second = record {
    rest = second.rest ∙ ap (λ (hub : Hub T U B D). with_domains hub new.services.domains) first.rest;
    services = λ number. second.services number ∙ first.services number;
    rising = λ rises. second.rising (first.rising rises);
  }

  -- ---- a step of one domain

  shown_by : (here : Bool) (key : ℕ × Presence T U B D) (services changed : List (ℕ × Presence T U B D)) (before after : Domain T U B D)
      (number other : ℕ) → after.agreed ≡ before.agreed → cond here (Some key.1) (presence_of number services) ≡ Some (Here before)
      → (presence_of number services ≡ Some (Here before) → shown (presence_of other changed) ≡ shown (presence_of other services))
      → shown (presence_of other (cond here ((key.0, Here after) ∷ services) (key ∷ changed))) ≡ shown (presence_of other (key ∷ services))
  shown_by true key services changed before after number other same found rest = there (is_at (nat_cmp other) key.0)
    where
      there : (b : Bool) → shown (cond b (Some (Here after)) (presence_of other services))
          ≡ shown (cond b (Some key.1) (presence_of other services))
      there true = ap Some (ap Some same ∙ sym (ap agreed_here (one_value found)))
      there false = refl
  shown_by false key services changed before after number other same found rest = there (is_at (nat_cmp other) key.0)
    where
      there : (b : Bool) → shown (cond b (Some key.1) (presence_of other changed))
          ≡ shown (cond b (Some key.1) (presence_of other services))
      there true = refl
      there false = rest found

  shown_still : (number other : ℕ) (domains : List (ℕ × Presence T U B D)) (before after : Domain T U B D)
      → presence_of number domains ≡ Some (Here before) → after.agreed ≡ before.agreed
      → shown (presence_of other (with_domain number domains after)) ≡ shown (presence_of other domains)
  shown_still number other [] before after found same = refl
  shown_still number other (service ∷ services) before after found same =
      shown_by (is_at (nat_cmp number) service.0) service services (with_domain number services after) before after number other same found
      (λ later. shown_still number other services before after later same)

  step_by : (id : DomainId) (step : Domain T U B D → Domain T U B D) (hub : Hub T U B D) (found : Option (Domain T U B D))
      → domain_at id hub.services ≡ found → ((domain : Domain T U B D) → (step domain).agreed ≡ domain.agreed)
      → Rests hub (with_services hub (stepped_if found id.service step hub.services))
  step_by id step hub None is keeps = record { rest = refl; services = λ number. refl; rising = λ rises. rises }
  step_by id step hub (Some domain) is keeps =
      let stands = here_stands (presence_of id.service hub.services.domains) domain (stands_at id hub.services domain is).found in record {
        rest = refl;
        services = λ number. shown_still id.service number hub.services.domains domain (step domain) stands (keeps domain);
        rising = λ rises. set-rising nat_cmp nat_cmp_total (λ x y same. exact_unsigned x y same) (is_at (nat_cmp id.service))
            (Here (step domain))
            hub.services.domains rises;
      }

  pub step_rests : (id : DomainId) (step : Domain T U B D → Domain T U B D) (hub : Hub T U B D)
      → ((domain : Domain T U B D) → (step domain).agreed ≡ domain.agreed)
      → Rests hub (with_services hub (stepped id step hub.services))
  step_rests id step hub keeps = step_by id step hub (domain_at id hub.services) refl keeps

  -- a hub with other ports in one domain
  pub put_rests : (id : DomainId) (after : ServicePorts T U) (hub : Hub T U B D) → Rests hub (with_hub_ports id after hub)
  put_rests id after hub = step_rests id (with_ports after) hub (λ domain. refl)

  -- ---- calls of ports

  pub at_domain_rests : {A : Type 0} (id : DomainId) (step : ServicePorts T U → Option A → ServicePorts T U → Type 0)
      (found : Option (ServicePorts T U)) (old new : Hub T U B D) (answer : Option A)
      → AtDomain (λ after. with_hub_ports id after old) step found old answer new → Rests old new
  at_domain_rests id step None old new answer at = rests_same old new at.1
  at_domain_rests id step (Some ports) old new answer (after, does, is) = subst (Rests old) (sym is) (put_rests id after old)

  pub leaves_rests : (id : DomainId) (without : Hub T U B D → Hub T U B D) (step : ServicePorts T U → Bool → ServicePorts T U → Type 0)
      → ((hub : Hub T U B D) → Rests hub (without hub))
      → (found : Option (ServicePorts T U)) (old new : Hub T U B D) (answer : Bool)
      → LeavesDomain (λ after. with_hub_ports id after old) without step found old answer new → Rests old new
  leaves_rests id without step spares None old new answer at = rests_same old new at.1
  leaves_rests id without step spares (Some ports) old new false (after, does, is) = subst (Rests old) (sym is) (put_rests id after old)
  leaves_rests id without step spares (Some ports) old new true (after, does, is) =
      let mid = with_hub_ports id after old in
      subst (Rests old) (sym is) (rests_then old mid (without mid) (put_rests id after old) (spares mid))

  pub makes_rests : {E : Type 0} (id : DomainId) (keeping : ℕ → Hub T U B D → Hub T U B D)
      (step : ServicePorts T U → ℕ → ServicePorts T U → Type 0) (refusal : ServicePorts T U → E)
      → ((number : ℕ) (hub : Hub T U B D) → Rests hub (keeping number hub))
      → (found : Option (ServicePorts T U)) (old new : Hub T U B D) (answer : Option (Result ℕ E))
      → MakesAt (λ after. with_hub_ports id after old) keeping step refusal found old answer new → Rests old new
  makes_rests id keeping step refusal spares None old new answer at = rests_same old new at.1
  makes_rests id keeping step refusal spares (Some ports) old new None at = absurd at
  makes_rests id keeping step refusal spares (Some ports) old new (Some (Err error)) at = rests_same old new at.1
  makes_rests id keeping step refusal spares (Some ports) old new (Some (Ok number)) (after, does, is) =
      let mid = with_hub_ports id after old in
      subst (Rests old) (sym is) (rests_then old mid (keeping number mid) (put_rests id after old) (spares number mid))

  pub changed_rests : (id : DomainId) (change : ServicePorts T U → ServicePorts T U) (found : Option (ServicePorts T U)) (old : Hub T U B D)
      → Rests old (changed_at (λ after. with_hub_ports id after old) change found old)
  changed_rests id change None old = rests_same old old refl
  changed_rests id change (Some ports) old = put_rests id (change ports) old
