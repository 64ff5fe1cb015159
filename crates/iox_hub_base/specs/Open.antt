-- The open publish-subscribe services of a hub, each with its number.
use Rattle.std.specs.Prelude.{ℕ, ◌≡◌, List, [], ◌∷◌, Option, None, Some}
use Rattle.std.specs.BTreeMap.{insert_entry, is_at}
use Rattle.std.specs.Map.{lookup, set_value, remove_entry}
use Rattle.std.specs.Ordering.{nat_cmp}
use Rattle.iox_domain.specs.declared.domain.Domain.{Domain}
use Rattle.iox_hub_base.specs.declared.presence.Presence.{Presence}
use Rattle.iox_hub_base.specs.declared.presence.Presence.TheVariants.{Here, Out}

-- The open services of a hub: each one has its number, and its domain is in the hub or out. They are ordered by rising number.
pub record OpenServices (T U B D : Type 0) : Type 0 where
  pub hub : ℕ
  pub domains : List (ℕ × Presence T U B D)

-- The domain of a service, if it is in the hub.
abbrev pub here : {T U B D : Type 0} → Presence T U B D → Option (Domain T U B D)
here (Here domain) = Some domain
here (Out agreed) = None

-- The service with its domain out: its agreement stays in the domain's place. A service whose domain is out already stays as it is.
abbrev pub taken_out : {T U B D : Type 0} → Presence T U B D → Presence T U B D
taken_out (Here domain) = Out domain.agreed
taken_out (Out agreed) = Out agreed

-- The service that is open under this number, if one is.
abbrev pub presence_of : {T U B D : Type 0} → ℕ → List (ℕ × Presence T U B D) → Option (Presence T U B D)
presence_of number domains = lookup (is_at (nat_cmp number)) domains

-- The domain of a service, if the service is open and its domain is in the hub.
abbrev pub here_if : {T U B D : Type 0} → Option (Presence T U B D) → Option (Domain T U B D)
here_if None = None
here_if (Some presence) = here presence

-- The domain under this number, if it is in the hub.
abbrev pub domain_of : {T U B D : Type 0} → ℕ → List (ℕ × Presence T U B D) → Option (Domain T U B D)
domain_of number domains = here_if (presence_of number domains)

-- The services with another one under this number, if one is open under it.
abbrev pub with_presence : {T U B D : Type 0} → ℕ → List (ℕ × Presence T U B D) → Presence T U B D → List (ℕ × Presence T U B D)
with_presence number domains presence = set_value (is_at (nat_cmp number)) domains presence

-- The services with another domain under this number, if a service is open under it.
abbrev pub with_domain : {T U B D : Type 0} → ℕ → List (ℕ × Presence T U B D) → Domain T U B D → List (ℕ × Presence T U B D)
with_domain number domains domain = with_presence number domains (Here domain)

-- The services after a service was opened under this number, in the order of rising numbers.
abbrev pub opened : {T U B D : Type 0} → ℕ → Presence T U B D → List (ℕ × Presence T U B D) → List (ℕ × Presence T U B D)
opened number presence domains = insert_entry nat_cmp domains number presence

-- The services without the one under this number.
abbrev pub closed : {T U B D : Type 0} → ℕ → List (ℕ × Presence T U B D) → List (ℕ × Presence T U B D)
closed number domains = remove_entry (is_at (nat_cmp number)) domains

-- A domain that is in the hub has the hub's id and the number of the service under which it is kept.
abbrev pub IsOwn : {T U B D : Type 0} → ℕ → ℕ → Presence T U B D → Type 0
IsOwn hub number (Here domain) = domain.id ≡ record { hub = hub; service = number }
IsOwn hub number (Out agreed) = Unit {0}

-- Each domain that is in the hub is the hub's own.
abbrev pub AreOwn : {T U B D : Type 0} → ℕ → List (ℕ × Presence T U B D) → Type 0
AreOwn hub [] = Unit {0}
AreOwn hub (service ∷ services) = IsOwn hub service.0 service.1 × AreOwn hub services
