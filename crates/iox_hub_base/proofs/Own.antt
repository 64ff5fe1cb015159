-- Each domain that is here stays the hub's own.
use Rattle.std.proofs.Common.{ℕ, ◌≡◌, Bool, true, false, List, [], ◌∷◌, Option, None, Some, refl, sym, subst, ◌∙◌, cond}
use Rattle.std.specs.BTreeMap.{is_at}
use Rattle.std.specs.Ordering.{nat_cmp, is_eq, match_ordering}
use Rattle.std.specs.declared.cmp.Ordering.{Ordering}
use Rattle.std.specs.declared.cmp.Ordering.TheVariants.{Less, Equal, Greater}
use Rattle.std.specs.Option.{option_map}
use Rattle.std.specs.Prelude.{IfSome}
use Rattle.std.proofs.Common.{ap}
use Rattle.iox_domain.specs.declared.domain.Domain.{Domain}
use Rattle.iox_hub_base.specs.HomeLaws.{here_stands}
use Rattle.iox_hub_base.specs.Numbered.{is_number, one_value}
use Rattle.iox_hub_base.specs.Open.{OpenServices, IsOwn, AreOwn, presence_of, domain_of, with_presence, with_domain, opened, closed}
use Rattle.iox_hub_base.specs.Taking.{IsAwaited}
use Rattle.iox_hub_base.specs.declared.presence.Presence.{Presence}
use Rattle.iox_hub_base.specs.declared.presence.Presence.TheVariants.{Here}

found_at : {T U B D : Type 0} (b : Bool) (hub number key : ℕ) (first found : Presence T U B D) (later : Option (Presence T U B D))
    → is_at (nat_cmp number) key ≡ b → IsOwn hub key first → (later ≡ Some found → IsOwn hub number found)
    → cond b (Some first) later ≡ Some found → IsOwn hub number found
found_at true hub number key first found later is own further there =
    subst (λ presence. IsOwn hub number presence) (one_value there) (subst (λ key. IsOwn hub key first) (sym (is_number number key is)) own)
found_at false hub number key first found later is own further there = further there

-- what stands under a number is the hub's own
pub own_found : {T U B D : Type 0} (hub number : ℕ) (domains : List (ℕ × Presence T U B D)) (found : Presence T U B D)
    → AreOwn hub domains → presence_of number domains ≡ Some found → IsOwn hub number found
own_found hub number [] found own there = cc
own_found hub number (service ∷ services) found own there =
    found_at (is_at (nat_cmp number) service.0) hub number service.0 service.1 found (presence_of number services) refl own.0
    (own_found hub number services found own.1) there

-- a domain that is here under a number is of that hub and number
pub own_id : {T U B D : Type 0} (hub number : ℕ) (domains : List (ℕ × Presence T U B D)) (domain : Domain T U B D) → AreOwn hub domains
    → domain_of number domains ≡ Some domain → domain.id ≡ record { hub = hub; service = number }
own_id hub number domains domain own there
    = own_found hub number domains (Here domain) own (here_stands (presence_of number domains) domain there)

changed_at : {T U B D : Type 0} (b : Bool) (hub number key : ℕ) (first after : Presence T U B D)
    (rest changed : List (ℕ × Presence T U B D)) → is_at (nat_cmp number) key ≡ b → IsOwn hub key first → AreOwn hub rest
    → IsOwn hub number after → AreOwn hub changed
    → AreOwn hub (cond b ((key, after) ∷ rest) ((key, first) ∷ changed))
changed_at true hub number key first after rest changed is own others new later
    = (subst (λ key. IsOwn hub key after) (is_number number key is) new, others)
changed_at false hub number key first after rest changed is own others new later = (own, later)

-- what is put in its place is to be the hub's own
pub own_changed : {T U B D : Type 0} (hub number : ℕ) (domains : List (ℕ × Presence T U B D)) (after : Presence T U B D)
    → AreOwn hub domains → IsOwn hub number after → AreOwn hub (with_presence number domains after)
own_changed hub number [] after own new = tt
own_changed hub number (service ∷ services) after own new =
    changed_at (is_at (nat_cmp number) service.0) hub number service.0 service.1 after services (with_presence number services after)
    refl own.0 own.1 new (own_changed hub number services after own.1 new)

-- a domain that keeps its id stays the hub's own
pub own_stepped : {T U B D : Type 0} (hub number : ℕ) (domains : List (ℕ × Presence T U B D)) (domain after : Domain T U B D)
    → AreOwn hub domains → domain_of number domains ≡ Some domain → after.id ≡ domain.id → AreOwn hub (with_domain number domains after)
own_stepped hub number domains domain after own there same
    = own_changed hub number domains (Here after) own (same ∙ own_id hub number domains domain own there)

opened_at : {T U B D : Type 0} (order : Ordering) (hub number key : ℕ) (first new : Presence T U B D)
    (rest inserted : List (ℕ × Presence T U B D)) → nat_cmp number key ≡ order → IsOwn hub key first → AreOwn hub rest
    → IsOwn hub number new → AreOwn hub inserted
    → AreOwn hub (match_ordering order ((number, new) ∷ (key, first) ∷ rest) ((key, new) ∷ rest) ((key, first) ∷ inserted))
opened_at Less hub number key first new rest inserted is own others came later = (came, (own, others))
opened_at Equal hub number key first new rest inserted is own others came later
    = (subst (λ key. IsOwn hub key new) (is_number number key (ap is_eq is)) came, others)
opened_at Greater hub number key first new rest inserted is own others came later = (own, later)

-- what opens is to be the hub's own
pub own_opened : {T U B D : Type 0} (hub number : ℕ) (domains : List (ℕ × Presence T U B D)) (new : Presence T U B D)
    → AreOwn hub domains → IsOwn hub number new → AreOwn hub (opened number new domains)
own_opened hub number [] new own came = (came, tt)
own_opened hub number (service ∷ services) new own came =
    opened_at (nat_cmp number service.0) hub number service.0 service.1 new services (opened number new services) refl own.0 own.1 came
    (own_opened hub number services new own.1 came)

closed_at : {T U B D : Type 0} (b : Bool) (hub key : ℕ) (first : Presence T U B D) (rest removed : List (ℕ × Presence T U B D))
    → IsOwn hub key first → AreOwn hub rest → AreOwn hub removed → AreOwn hub (cond b rest ((key, first) ∷ removed))
closed_at true hub key first rest removed own others later = others
closed_at false hub key first rest removed own others later = (own, later)

-- what stays is the hub's own
pub own_closed : {T U B D : Type 0} (hub number : ℕ) (domains : List (ℕ × Presence T U B D)) → AreOwn hub domains
    → AreOwn hub (closed number domains)
own_closed hub number [] own = tt
own_closed hub number (service ∷ services) own =
    closed_at (is_at (nat_cmp number) service.0) hub service.0 service.1 services (closed number services) own.0 own.1
    (own_closed hub number services own.1)

-- the domain that is lent under a number is of that hub and number
pub own_if : {T U B D L : Type 0} (hub number : ℕ) (domains : List (ℕ × Presence T U B D)) (seen : L → Domain T U B D) (lent : Option L)
    → AreOwn hub domains → option_map seen lent ≡ domain_of number domains
    → IfSome lent (λ domain. (seen domain).id ≡ record { hub = hub; service = number })
own_if hub number domains seen None own is = tt
own_if hub number domains seen (Some domain) own is = own_id hub number domains (seen domain) own (sym is)

-- a domain that is put back where it was awaited is the hub's own
pub own_put : {T U B D : Type 0} (domain : Domain T U B D) (services : OpenServices T U B D) → AreOwn services.hub services.domains
    → IsAwaited domain services → AreOwn services.hub (with_domain domain.id.service services.domains domain)
own_put domain services own awaited =
    own_changed services.hub domain.id.service services.domains (Here domain) own
    (ap (λ hub. record { hub = hub; service = domain.id.service }) awaited.0)
