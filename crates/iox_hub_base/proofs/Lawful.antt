-- The laws of the services of a hub.
use Rattle.std.proofs.Common.{ℕ, ◌≡◌, inl, inr, true, false, None, Some, Result, Ok, Err, refl, sym, ap, subst, ◌∙◌}
use Rattle.std.specs.Prelude.{is_some}
use Rattle.iox_domain.specs.DescribeSettings.declared.static_config.Settings.{Settings}
use Rattle.iox_domain.proofs.Keeping.{kept_is_there}
use Rattle.iox_domain.specs.Domains.{IsNewDomain}
use Rattle.iox_domain.specs.declared.domain.Domain.{Domain}
use Rattle.iox_domain.specs.declared.domain_id.DomainId.{DomainId}
use Rattle.iox_hub_base.proofs.Own.{own_found}
use Rattle.iox_hub_base.specs.ServicesAsHome.{ports_at, ports_if}
use Rattle.iox_hub_base.specs.HomeLaws.{at_hub}
use Rattle.iox_hub_base.specs.Laws.{OthersStay, OpenedIsFound, IsBlank, BeginsAnew, GivesBack, ChangedIsPutBack}
use Rattle.iox_hub_base.specs.Numbered.{changed_found, others_unchanged, same_unchanged, changed_twice, others_beside}
use Rattle.iox_hub_base.specs.Open.{OpenServices, AreOwn, here_if, presence_of, domain_of, with_presence, with_domain, opened}
use Rattle.iox_hub_base.specs.ServicesOpening.{is_open}
use Rattle.iox_hub_base.specs.Taking.{Takes, IsAwaited, Puts}
use Rattle.iox_hub_base.specs.declared.presence.Presence.{Presence}
use Rattle.iox_hub_base.specs.declared.presence.Presence.TheVariants.{Here, Out}
use Rattle.iox_hub_base.specs.declared.taking.DomainIsForeign.{DomainIsForeign}
use Rattle.iox_hub_base.specs.declared.taking.TakeError.{TakeError}
use Rattle.iox_hub_base.specs.declared.taking.TakeError.TheVariants.{DomainIsOut}

differ : true ≡ false → ⊥
differ e = cc

-- what a law tells of services that opened
abbrev Told : {T U B D : Type 0} → ℕ → OpenServices T U B D → OpenServices T U B D → Type 0
Told number old new = (is_open number new ≡ true)
    × (is_open number old ≡ true → presence_of number new.domains ≡ presence_of number old.domains) × OthersStay number old new

told_same : {T U B D : Type 0} (number : ℕ) (old : OpenServices T U B D) → is_open number old ≡ true → Told number old old
told_same number old is_one = (is_one, λ _. refl, (refl, λ other apart. refl))

told_opened : {T U B D : Type 0} (number : ℕ) (presence : Presence T U B D) (old : OpenServices T U B D) → is_open number old ≡ false
    → Told number old (record old { domains = opened number presence old.domains })
told_opened number presence old none = (
  ap is_some (kept_is_there number presence old.domains),
  λ is_one. absurd (differ (sym is_one ∙ none)),
  (refl, λ other apart. others_beside number other old.domains presence apart),
)

-- a service that was opened is found, and the others stay
pub opened_is_found : (T U B D : Type 0) → OpenedIsFound T U B D
opened_is_found T U B D payload user_header buffer number settings old new (inl (inl is_one, same)) fits
    = subst (Told number old) (sym same) (told_same number old is_one)
opened_is_found T U B D payload user_header buffer number settings old new (inl (inr unfit, same)) fits = absurd (unfit fits)
opened_is_found T U B D payload user_header buffer number settings old new (inr (none, fit, (domain, is, same))) fits
    = subst (Told number old) (sym same) (told_opened number (Here domain) old none)

blank : {T U B D : Type 0} (hub number buffer : ℕ) (settings : Settings) (domain : Domain T U B D)
    → IsNewDomain (record { hub = hub; service = number }) buffer settings domain → IsBlank hub number domain
blank hub number buffer settings domain is = (
  is.id,
  ap (λ ports. ports.service) is.ports,
  ap (λ ports. ports.publishers) is.ports,
  ap (λ ports. ports.subscribers) is.ports,
  is.publisher_handlers,
  is.subscriber_handlers,
)

-- a service begins anew
pub begins_anew : (T U B D : Type 0) → BeginsAnew T U B D
begins_anew T U B D payload user_header buffer number settings old new none (inl (inl is_one, same)) fits
    = absurd (differ (sym is_one ∙ ap is_some none))
begins_anew T U B D payload user_header buffer number settings old new none (inl (inr unfit, same)) fits = absurd (unfit fits)
begins_anew T U B D payload user_header buffer number settings old new none (inr (closed, fit, (domain, is, same))) fits = (
  domain,
  ap (λ services. domain_of number services.domains) same ∙ ap here_if (kept_is_there number (Here domain) old.domains),
  blank
      old.hub number buffer settings domain is,
)

-- the services while a domain is out
abbrev without : {T U B D : Type 0} → ℕ → OpenServices T U B D → Domain T U B D → OpenServices T U B D
without number old domain = record old { domains = with_presence number old.domains (Out domain.agreed) }

out_there : {T U B D : Type 0} (number : ℕ) (old : OpenServices T U B D) (domain : Domain T U B D)
    → presence_of number old.domains ≡ Some (Here domain)
    → presence_of number (without number old domain).domains ≡ Some (Out domain.agreed)
out_there number old domain there = changed_found number old.domains (Here domain) (Out domain.agreed) there

-- it is awaited, also one that changed
awaited : {T U B D : Type 0} (number : ℕ) (old : OpenServices T U B D) (domain changed : Domain T U B D)
    → changed.id ≡ record { hub = old.hub; service = number } → changed.agreed ≡ domain.agreed
    → presence_of number old.domains ≡ Some (Here domain) → IsAwaited changed (without number old domain)
awaited number old domain changed own agreed there = (
  ap (λ id. id.hub) own,
  ap (λ service. presence_of service (without number old domain).domains) (ap (λ id. id.service) own)
      ∙ out_there number old domain there ∙ ap (λ config. Some (Out config)) (sym agreed),
)

-- and put back
put_changed : {T U B D : Type 0} (number : ℕ) (old new : OpenServices T U B D) (domain changed : Domain T U B D)
    (answer : Result (Unit {0}) (DomainIsForeign (Domain T U B D))) → changed.id ≡ record { hub = old.hub; service = number }
    → changed.agreed ≡ domain.agreed → presence_of number old.domains ≡ Some (Here domain)
    → Puts changed (without number old domain) answer new
    → (answer ≡ Ok tt) × (new ≡ record old { domains = with_domain number old.domains changed })
put_changed number old new domain changed (Ok done) own agreed there (is, same) = (
  refl,
  same
      ∙ ap (λ service. record old { domains = with_domain service (with_presence number old.domains (Out domain.agreed)) changed })
      (ap (λ id. id.service) own)
      ∙ ap (λ domains. record old { domains = domains }) (changed_twice number old.domains (Out domain.agreed) (Here changed)),
)
put_changed number old new domain changed (Err refused) own agreed there (back, foreign, same)
    = absurd (foreign (awaited number old domain changed own agreed there))

put_again : {T U B D : Type 0} (number : ℕ) (old new : OpenServices T U B D) (domain : Domain T U B D)
    (answer : Result (Unit {0}) (DomainIsForeign (Domain T U B D))) → domain.id ≡ record { hub = old.hub; service = number }
    → presence_of number old.domains ≡ Some (Here domain)
    → Puts domain (without number old domain) answer new → (answer ≡ Ok tt) × (new ≡ old)
put_again number old new domain answer own there puts =
    let (accepted, is) = put_changed number old new domain domain answer own refl there puts in
    (accepted, is ∙ ap (λ domains. record old { domains = domains }) (same_unchanged number old.domains (Here domain) there))

no_more : {T U B D : Type 0} (number : ℕ) (between after : OpenServices T U B D) (again : Result (Domain T U B D) TakeError)
    → domain_of number between.domains ≡ None → Takes number between again after → (again ≡ Err DomainIsOut) × (after ≡ between)
no_more number between after (Ok domain) none (there, same) = absurd (some-none (sym (ap here_if there) ∙ none))
  where
    some-none : Some domain ≡ None → ⊥
    some-none e = cc
no_more number between after (Err error) none (is, out, same) = (ap (λ e. Err e) is, same)

-- what is told while a domain is out, and after
abbrev Back : {T U B D : Type 0} → ℕ → OpenServices T U B D → OpenServices T U B D → OpenServices T U B D
    → Result (Unit {0}) (DomainIsForeign (Domain T U B D)) → Type 0
Back {T} {U} {B} {D} number old between new answer =
    (answer ≡ Ok tt) × (new ≡ old) × (is_open number between ≡ true)
    × (ports_at (record { hub = old.hub; service = number }) between ≡ None) × OthersStay number old between
    × ((again : Result (Domain T U B D) TakeError) (after : OpenServices T U B D) → Takes number between again after
    → (again ≡ Err DomainIsOut) × (after ≡ between))

back : {T U B D : Type 0} (number : ℕ) (old new : OpenServices T U B D) (domain : Domain T U B D)
    (answer : Result (Unit {0}) (DomainIsForeign (Domain T U B D))) → AreOwn old.hub old.domains
    → presence_of number old.domains ≡ Some (Here domain)
    → Puts domain (without number old domain) answer new → Back number old (without number old domain) new answer
back number old new domain answer own there puts =
    let out = out_there number old domain there in
    let put = put_again number old new domain answer (own_found old.hub number old.domains (Here domain) own there) there puts in
    let id : DomainId = record { hub = old.hub; service = number } in (
      put.0,
      put.1,
      ap is_some out,
      ap ports_if (at_hub id (without number old domain) refl ∙ ap here_if out),
      (refl, λ other apart. others_unchanged number other old.domains (Out domain.agreed) apart),
      λ again after. no_more number (without number old domain) after again (ap here_if out),
    )

-- a domain that is taken and put back is as it was
pub gives_back : (T U B D : Type 0) → GivesBack T U B D
gives_back T U B D number old between new domain answer own (there, same) puts =
    subst (λ between. Back number old between new answer) (sym same)
    (back number old new domain answer own there (subst (λ between. Puts domain between answer new) same puts))

-- what is told of a domain that is taken, while it is out
abbrev Returns : {T U B D : Type 0} → ℕ → OpenServices T U B D → OpenServices T U B D → Domain T U B D → Type 0
Returns {T} {U} {B} {D} number old between changed = IsAwaited changed between
    × ((answer : Result (Unit {0}) (DomainIsForeign (Domain T U B D))) (new : OpenServices T U B D) → Puts changed between answer new
    → (answer ≡ Ok tt) × (new ≡ record old { domains = with_domain number old.domains changed }))

-- a domain that is taken is awaited and put back however it changed
pub changed_is_put_back : (T U B D : Type 0) → ChangedIsPutBack T U B D
changed_is_put_back T U B D number old between domain changed own same agreed (there, is) =
    subst (λ between. Returns number old between changed) (sym is) (
      awaited number old domain changed (same ∙ own) agreed there,
      λ answer new puts. put_changed number old new domain changed answer (same ∙ own) agreed there puts,
    )
