-- A hub in which a new domain is here, and all others are as they were.
use Rattle.std.proofs.Common.{◌≡◌, ◌≢◌, ℕ, Bool, true, false, cond, List, [], ◌∷◌, Option, None, Some, refl, sym, ap, ◌∙◌, true≢false}
use Rattle.std.proofs.Math.Logic.{⊎_elim}
use Rattle.std.proofs.lemmas.Bool.Decides.{eqb_tells}
use Rattle.std.specs.BTreeMap.{insert_entry}
use Rattle.std.specs.Ordering.{nat_cmp, match_ordering}
use Rattle.std.specs.Prelude.{is_some, ◌==◌}
use Rattle.std.specs.declared.cmp.Ordering.{Ordering}
use Rattle.std.specs.declared.cmp.Ordering.TheVariants.{Less, Equal, Greater}
use Rattle.iox_delivery.specs.Holding.{publisher_stands, subscriber_stands}
use Rattle.iox_domain.proofs.Keeping.{kept_is_there}
use Rattle.iox_domain.specs.Ports.{no_ports}
use Rattle.iox_domain.specs.Sizes.{sizes}
use Rattle.iox_domain.specs.declared.domain.Domain.{Domain}
use Rattle.iox_domain.specs.declared.domain_id.DomainId.{DomainId}
use Rattle.iox_domain.specs.declared.ports.service_ports.ServicePorts.{ServicePorts}
use Rattle.iox_domain_machine.proofs.Found.{never_true}
use Rattle.iox_hub_base.specs.Numbered.{others_beside}
use Rattle.iox_hub_base.specs.Open.{OpenServices, here_if, opened, presence_of}
use Rattle.iox_hub_base.specs.ServicesAsHome.{domain_at, ports_if}
use Rattle.iox_hub_base.specs.ServicesOpening.{is_open}
use Rattle.iox_hub_base.specs.declared.presence.Presence.{Presence}
use Rattle.iox_hub_base.specs.declared.presence.Presence.TheVariants.{Here}
use Rattle.iox_hub_machine.specs.Ports.{AreHere}

module _ {T U B D : Type 0} where
  come_by : (number : ℕ) (domain : Domain T U B D) (service : ℕ × Presence T U B D) (domains : List (ℕ × Presence T U B D)) (o : Ordering)
      → AreHere (service ∷ domains) → AreHere (insert_entry nat_cmp domains number (Here domain))
      → AreHere (match_ordering o ((number, Here domain) ∷ service ∷ domains) ((service.0, Here domain) ∷ domains)
      (service ∷ insert_entry nat_cmp domains number (Here domain)))
  come_by number domain service domains Less here rest = (refl, here)
  come_by number domain service domains Equal here rest = (refl, here.1)
  come_by number domain service domains Greater here rest = (here.0, rest)

  -- they are here still where one comes
  pub come_here : (number : ℕ) (domain : Domain T U B D) (domains : List (ℕ × Presence T U B D)) → AreHere domains
      → AreHere (opened number (Here domain) domains)
  come_here number domain [] here = (refl, tt)
  come_here number domain (service ∷ domains) here =
      come_by number domain service domains (nat_cmp number service.0) here (come_here number domain domains here.1)

  closed_by : (found : Option (Presence T U B D)) → is_some found ≡ false → found ≡ None
  closed_by None is = refl
  closed_by (Some presence) is = absurd (true≢false is)

  module _ (number : ℕ) (domain : Domain T U B D) (old : OpenServices T U B D) (closed : is_open number old ≡ false) where
    -- the services with the new one
    abbrev pub grown : OpenServices T U B D
    grown = record old { domains = opened number (Here domain) old.domains }

    pub none_open : presence_of number old.domains ≡ None
    none_open = closed_by (presence_of number old.domains) closed

    pub new_there : presence_of number grown.domains ≡ Some (Here domain)
    new_there = kept_is_there number (Here domain) old.domains

    pub others_there : (other : ℕ) → other ≢ number → presence_of other grown.domains ≡ presence_of other old.domains
    others_there other off = others_beside number other old.domains (Here domain) (λ same. off (sym same))

    -- each service is open still
    pub open_still : (other : ℕ) → is_open other old ≡ true → is_open other grown ≡ true
    open_still other is = ⊎_elim
        (λ same. ap (λ (n : ℕ). is_some (presence_of n grown.domains)) same.1 ∙ ap is_some new_there)
        (λ off. ap is_some (others_there other off.1) ∙ is) (eqb_tells other number)

    pub same_elsewhere : (id : DomainId) → id.service ≢ number → domain_at id grown ≡ domain_at id old
    same_elsewhere id off =
        ap (λ (found : Option (Presence T U B D)). cond (id.hub == old.hub) (here_if found) None) (others_there id.service off)

    nothing_by : (b : Bool) → ◌≡◌ {A = Option (Domain T U B D)} (cond b None None) None
    nothing_by true = refl
    nothing_by false = refl

    -- what was here isn't of the new number
    pub not_new : (id : DomainId) → is_some (domain_at id old) ≡ true → id.service ≢ number
    not_new id is same = never_true (sym (ap is_some
        (ap (λ (n : ℕ). cond (id.hub == old.hub) (here_if (presence_of n old.domains)) None) same
        ∙ ap (λ (found : Option (Presence T U B D)). cond (id.hub == old.hub) (here_if found) None) none_open
        ∙ nothing_by (id.hub == old.hub))) ∙ is)

    pub here_still : (id : DomainId) → is_some (domain_at id old) ≡ true → is_some (domain_at id grown) ≡ true
    here_still id is = ap is_some (same_elsewhere id (not_new id is)) ∙ is

    -- what is at an id of the new number
    abbrev at_new : DomainId → Option (Domain T U B D)
    at_new id = cond (id.hub == old.hub) (Some domain) None

    is_new : (id : DomainId) → id.service ≡ number → domain_at id grown ≡ at_new id
    is_new id same =
        ap (λ (n : ℕ). cond (id.hub == old.hub) (here_if (presence_of n grown.domains)) None) same
        ∙ ap (λ (found : Option (Presence T U B D)). cond (id.hub == old.hub) (here_if found) None) new_there

    module _ (buffer : ℕ) (blank : domain.state.ports ≡ no_ports number (sizes buffer domain.agreed)) where
      no_publisher_by : (which : ℕ) (b : Bool) → publisher_stands which (ports_if (cond b (Some domain) None)) ≡ false
      no_publisher_by which true = ap (λ (ports : ServicePorts T U). publisher_stands which (Some ports)) blank
      no_publisher_by which false = refl

      no_subscriber_by : (which : ℕ) (b : Bool) → subscriber_stands which (ports_if (cond b (Some domain) None)) ≡ false
      no_subscriber_by which true = ap (λ (ports : ServicePorts T U). subscriber_stands which (Some ports)) blank
      no_subscriber_by which false = refl

      -- a port that stands is not of the new domain
      pub publisher_elsewhere : (id : DomainId) (which : ℕ) → publisher_stands which (ports_if (domain_at id grown)) ≡ true
          → id.service ≢ number
      publisher_elsewhere id which up same =
          never_true (sym (no_publisher_by which (id.hub == old.hub))
          ∙ sym (ap (λ (found : Option (Domain T U B D)). publisher_stands which (ports_if found)) (is_new id same)) ∙ up)

      pub subscriber_elsewhere : (id : DomainId) (which : ℕ) → subscriber_stands which (ports_if (domain_at id grown)) ≡ true
          → id.service ≢ number
      subscriber_elsewhere id which up same =
          never_true (sym (no_subscriber_by which (id.hub == old.hub))
          ∙ sym (ap (λ (found : Option (Domain T U B D)). subscriber_stands which (ports_if found)) (is_new id same)) ∙ up)

  publisher_by : (which : ℕ) (found : Option (Domain T U B D)) → publisher_stands which (ports_if found) ≡ true → is_some found ≡ true
  publisher_by which None up = up
  publisher_by which (Some domain) up = refl

  subscriber_by : (which : ℕ) (found : Option (Domain T U B D)) → subscriber_stands which (ports_if found) ≡ true → is_some found ≡ true
  subscriber_by which None up = up
  subscriber_by which (Some domain) up = refl

  -- the domain of a port that stands is here
  pub publisher_here : (which : ℕ) (id : DomainId) (services : OpenServices T U B D)
      → publisher_stands which (ports_if (domain_at id services)) ≡ true → is_some (domain_at id services) ≡ true
  publisher_here which id services up = publisher_by which (domain_at id services) up

  pub subscriber_here : (which : ℕ) (id : DomainId) (services : OpenServices T U B D)
      → subscriber_stands which (ports_if (domain_at id services)) ≡ true → is_some (domain_at id services) ≡ true
  subscriber_here which id services up = subscriber_by which (domain_at id services) up
