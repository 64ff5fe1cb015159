-- What is taken, by what stood under its number.
use Rattle.std.proofs.Common.{ℕ, ◌≡◌, Some, refl, sym, ap, ◌∙◌}
use Rattle.std.proofs.lemmas.Map.Steps.{set_value_same}
use Rattle.std.specs.BTreeMap.{is_at}
use Rattle.std.specs.Option.{ok_or}
use Rattle.std.specs.Ordering.{nat_cmp}
use Rattle.std.specs.Prelude.{IfOk}
use Rattle.iox_domain.specs.DescribeSettings.declared.static_config.publish_subscribe.StaticConfig.{StaticConfig}
use Rattle.iox_hub_base.specs.Open.{OpenServices, IsOwn, here, here_if, taken_out, presence_of, with_presence}
use Rattle.iox_hub_base.specs.Taking.{Takes}
use Rattle.iox_hub_base.specs.declared.presence.Presence.{Presence}
use Rattle.iox_hub_base.specs.declared.presence.Presence.TheVariants.{Here, Out}
use Rattle.iox_hub_base.specs.declared.taking.TakeError.TheVariants.{DomainIsOut}

-- the domain comes out if it was here
pub takes_presence : {T U B D : Type 0} (found : Presence T U B D) (number : ℕ) (services : OpenServices T U B D)
    → presence_of number services.domains ≡ Some found
    → Takes number services (ok_or (here found) DomainIsOut)
    (record services { domains = with_presence number services.domains (taken_out found) })
takes_presence (Here domain) number services there = (there, refl)
takes_presence (Out agreed) number services there = (
  refl,
  ap here_if there,
  ap (λ domains. record services { domains = domains })
      (set_value_same (is_at (nat_cmp number)) services.domains (Out agreed) there),
)

-- what stays is the hub's own
pub own_left : {T U B D : Type 0} (hub number : ℕ) (found : Presence T U B D) → IsOwn hub number (taken_out found)
own_left hub number (Here domain) = tt
own_left hub number (Out agreed) = tt

-- and so is the domain that comes out
pub own_given : {T U B D : Type 0} (hub number : ℕ) (found : Presence T U B D) → IsOwn hub number found
    → IfOk (ok_or (here found) DomainIsOut) (λ domain. domain.id ≡ record { hub = hub; service = number })
own_given hub number (Here domain) own = own
own_given hub number (Out agreed) own = tt

abbrev agreed_or : {T U B D : Type 0} → StaticConfig → Presence T U B D → StaticConfig
agreed_or default (Here domain) = default
agreed_or default (Out agreed) = agreed

-- what is agreed of one that is out is one
pub one_agreement : {T U B D : Type 0} (a b : StaticConfig) (found : Presence T U B D) → found ≡ Out a → found ≡ Out b → a ≡ b
one_agreement a b found first second = sym (ap (agreed_or a) first) ∙ ap (agreed_or a) second
