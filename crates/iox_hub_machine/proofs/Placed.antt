-- The service of a machine that the ports of one domain among others are.
use Rattle.std.proofs.Common.{◌≡◌, ◌≤◌, ◌<◌, ℕ, Bool, false, cond, List, [], ◌∷◌, ◌++◌, Option, None, Some, refl, sym, ap, ◌∙◌, arith}
use Rattle.std.proofs.Common.{true≢false}
use Rattle.std.proofs.Math.Logic.{⊎_elim}
use Rattle.std.proofs.lemmas.Bool.Decides.{eqb_tells}
use Rattle.std.specs.Map.{keys_of}
use Rattle.std.specs.Option.{option_or, option_map_or}
use Rattle.std.specs.Prelude.{◌==◌, if◌then◌else◌}
use Rattle.iox_command.specs.declared.command.Command.TheVariants as command
use Rattle.iox_delivery.specs.Holding.{publisher_stands, subscriber_stands, stands_there}
use Rattle.iox_domain.specs.DomainPorts.Publishers.{port_of}
use Rattle.iox_domain.specs.DomainPorts.declared.attached.Taken.{Taken}
use Rattle.iox_domain.specs.DomainPorts.declared.publisher_port.PublisherPort.{PublisherPort}
use Rattle.iox_domain.specs.DomainPorts.declared.subscriber_port.SubscriberPort.{SubscriberPort}
use Rattle.iox_domain.specs.Lending.{passes_port}
use Rattle.iox_domain.specs.Subscribers.{subscriber_of}
use Rattle.iox_domain.specs.Tries.{how_often}
use Rattle.iox_domain.specs.declared.ports.service_ports.ServicePorts.{ServicePorts}
use Rattle.iox_domain_machine.specs.Naming.{Naming}
use Rattle.iox_domain_machine.specs.Services.{those_of, AreNamedApart, ComesOnce, StandInTurn, DomainsStandFor}
use Rattle.iox_domain_machine.specs.Standing.{StandsFor}
use Rattle.iox_domain_machine.specs.Tables.{LentSlot}
use Rattle.iox_domain_machine.proofs.Services.{has_none, parted}
use Rattle.iox_hub_machine.specs.Ports.{among}
use Rattle.iox_hub_machine.proofs.Amidst.{is_none, among_one}
use Rattle.iox_machine.specs.Message.{Sample}
use Rattle.iox_machine.specs.Service.{Service, Publisher, Subscriber}
use Rattle.iox_machine.specs.Table.{at}

-- ---- numbers that come once

abbrev tick : ℕ → ℕ → ℕ
tick number key = if number == key then 1 else 0

ticks_itself : (number : ℕ) → tick number number ≡ 1
ticks_itself number = ⊎_elim (λ same. ap (λ (b : Bool). cond b 1 0) same.0) (λ other. absurd (other.1 refl)) (eqb_tells number number)

comes_there : {V : Type 0} (number : ℕ) (v : V) (before behind : List (ℕ × V))
    → 0 < how_often number (keys_of (before ++ (number, v) ∷ behind))
comes_there number v [] behind = omega (arith, ticks_itself number)
comes_there number v (entry ∷ before) behind = omega (arith, comes_there number v before behind)

-- where a number comes once, it doesn't come before or after
pub comes_alone : {V : Type 0} (number : ℕ) (v : V) (before behind : List (ℕ × V))
    → how_often number (keys_of (before ++ (number, v) ∷ behind)) ≤ 1
    → (how_often number (keys_of before) ≡ 0) × (how_often number (keys_of behind) ≡ 0)
comes_alone number v [] behind once = (refl, omega (arith, once, ticks_itself number))
comes_alone number v (entry ∷ before) behind once =
    let rest = comes_alone number v before behind (omega (arith, once)) in
    (omega (arith, rest.0, once, comes_there number v before behind), rest.1)

-- ---- one domain among others

module _ {T U : Type 0} (names : ℕ → Naming) (lent : List (ℕ × (ℕ × LentSlot))) (held : List (ℕ × (ℕ × Taken))) (buffer : ℕ) where
  module _ (domain number : ℕ) where
    -- services of others have no publisher that has a name of this one
    pub no_publisher : AreNamedApart (λ one. (names one).publisher) → (domains : List (ℕ × ServicePorts T U)) (services : List (Service T))
        → how_often domain (keys_of domains) ≡ 0 → StandInTurn names lent held buffer domains services
        → among (λ service. service.publishers) ((names domain).publisher number) services ≡ None
    no_publisher apart [] services none stands = ap (among (λ service. service.publishers) ((names domain).publisher number)) stands
    no_publisher apart (one ∷ domains) [] none stands = absurd stands
    no_publisher apart (one ∷ domains) (service ∷ services) none (it, rest) =
        ap (λ (o : Option (Publisher T)). option_or o (among (λ service. service.publishers) ((names domain).publisher number) services))
        (is_none (at ((names domain).publisher number) service.publishers)
        (λ is.
        let (mine, named, some) = it.named_publishers.each ((names domain).publisher number) is in
        let same : domain ≡ one.0 = apart domain one.0 number mine some (sym named) in
        omega (arith, none, ap (tick domain) (sym same), ticks_itself domain)))
        ∙ no_publisher apart domains services (omega (arith, none)) rest

    pub no_subscriber : AreNamedApart (λ one. (names one).subscriber)
        → (domains : List (ℕ × ServicePorts T U)) (services : List (Service T))
        → how_often domain (keys_of domains) ≡ 0 → StandInTurn names lent held buffer domains services
        → among (λ service. service.subscribers) ((names domain).subscriber number) services ≡ None
    no_subscriber apart [] services none stands = ap (among (λ service. service.subscribers) ((names domain).subscriber number)) stands
    no_subscriber apart (one ∷ domains) [] none stands = absurd stands
    no_subscriber apart (one ∷ domains) (service ∷ services) none (it, rest) =
        ap (λ (o : Option Subscriber). option_or o (among (λ service. service.subscribers) ((names domain).subscriber number) services))
        (is_none (at ((names domain).subscriber number) service.subscribers)
        (λ is.
        let (mine, named, some) = it.named_subscribers.each ((names domain).subscriber number) is in
        let same : domain ≡ one.0 = apart domain one.0 number mine some (sym named) in
        omega (arith, none, ap (tick domain) (sym same), ticks_itself domain)))
        ∙ no_subscriber apart domains services (omega (arith, none)) rest

    -- what of a domain goes by a number is no other's
    pub no_sample : AreNamedApart (λ one. (names one).publisher) → AreNamedApart (λ one. (names one).subscriber) → ComesOnce lent
        → ComesOnce held → (taken : Taken) → at number held ≡ Some (domain, taken) → (domains : List (ℕ × ServicePorts T U))
        (services : List (Service T)) → how_often domain (keys_of domains) ≡ 0 → StandInTurn names lent held buffer domains services
        → among (λ service. service.samples) number services ≡ None
    no_sample publishers subscribers loans samples taken goes [] services none stands =
        ap (among (λ service. service.samples) number) stands
    no_sample publishers subscribers loans samples taken goes (one ∷ domains) [] none stands = absurd stands
    no_sample publishers subscribers loans samples taken goes (one ∷ domains) (service ∷ services) none (it, rest) =
        ap (λ (o : Option (Sample T)). option_or o (among (λ service. service.samples) number services))
        (is_none (at number service.samples)
        (λ is. true≢false (sym is ∙ has_none names lent held buffer domain publishers subscribers loans samples one service
        (λ same. omega (arith, none, ap (tick domain) same, ticks_itself domain)) it [] (command.Sequence number) (taken, goes))))
        ∙ no_sample publishers subscribers loans samples taken goes domains services (omega (arith, none)) rest

  -- The service of a domain: whoever has a name of the domain is there, and what goes by a number of it.
  pub record IsPlaced (domain : ℕ × ServicePorts T U) (services : List (Service T)) : Type 0 where
    pub service : Service T
    pub stands : StandsFor (names domain.0) (those_of domain.0 lent) (those_of domain.0 held) buffer domain.1 service
    pub publishers : (number : ℕ) → among (λ service. service.publishers) ((names domain.0).publisher number) services
        ≡ at ((names domain.0).publisher number) service.publishers
    pub subscribers : (number : ℕ) → among (λ service. service.subscribers) ((names domain.0).subscriber number) services
        ≡ at ((names domain.0).subscriber number) service.subscribers
    pub samples : (number : ℕ) (taken : Taken) → at number held ≡ Some (domain.0, taken)
        → among (λ service. service.samples) number services ≡ at number service.samples

  pub is_placed : (before behind : List (ℕ × ServicePorts T U)) (domain : ℕ × ServicePorts T U) (services : List (Service T))
      → DomainsStandFor names lent held buffer (before ++ domain ∷ behind) services → IsPlaced domain services
  is_placed before behind domain services all =
      let (first, service, last, are, stand_before, it, stand_behind) = parted names lent held buffer before behind domain services
      all.each in
      let alone = comes_alone domain.0 domain.1 before behind (all.once domain.0) in record {
        service = service;
        stands = it;
        publishers = λ number. ap (among (λ service. service.publishers) ((names domain.0).publisher number)) are
            ∙ among_one (λ service. service.publishers) ((names domain.0).publisher number) first service last
            (no_publisher domain.0 number all.publishers before first alone.0 stand_before)
            (no_publisher domain.0 number all.publishers behind last alone.1 stand_behind);
        subscribers = λ number. ap (among (λ service. service.subscribers) ((names domain.0).subscriber number)) are
            ∙ among_one (λ service. service.subscribers) ((names domain.0).subscriber number) first service last
            (no_subscriber domain.0 number all.subscribers before first alone.0 stand_before)
            (no_subscriber domain.0 number all.subscribers behind last alone.1 stand_behind);
        samples = λ number taken goes. ap (among (λ service. service.samples) number) are
            ∙ among_one (λ service. service.samples) number first service last
            (no_sample domain.0 number all.publishers all.subscribers all.loans all.samples taken goes before first alone.0 stand_before)
            (no_sample domain.0 number all.publishers all.subscribers all.loans all.samples taken goes behind last alone.1 stand_behind);
      }

-- ---- who stands

-- whether a publisher of the machine stands; none doesn't
abbrev pub publisher_up : {T : Type 0} → Option (Publisher T) → Bool
publisher_up found = option_map_or (λ publisher. publisher.stands) found false

-- whether a subscriber of the machine stands; none doesn't
abbrev pub subscriber_up : Option Subscriber → Bool
subscriber_up found = option_map_or (λ subscriber. subscriber.stands) found false

module _ {T U : Type 0} (names : Naming) (lent : List (ℕ × LentSlot)) (held : List (ℕ × Taken)) (buffer : ℕ) (ports : ServicePorts T U)
    (service : Service T) (stands : StandsFor names lent held buffer ports service) (number : ℕ) where
  gone_publisher : (found : Option (Publisher T)) → at (names.publisher number) service.publishers ≡ found
      → port_of number ports.publishers ≡ None → false ≡ publisher_up found
  gone_publisher None is none = refl
  gone_publisher (Some publisher) is none = sym (stands.gone_publishers number publisher none is)

  publisher_by : (port : Option (PublisherPort T U)) → port_of number ports.publishers ≡ port
      → passes_port (λ one. one.stands) port ≡ publisher_up (at (names.publisher number) service.publishers)
  publisher_by None none = gone_publisher (at (names.publisher number) service.publishers) refl none
  publisher_by (Some port) there =
      let (publisher, found, it, boxes) = stands.publishers number port there in
      sym it.stands ∙ ap publisher_up (sym found)

  -- a publisher stands of both, or of neither
  pub publisher_as : publisher_stands number (Some ports) ≡ publisher_up (at (names.publisher number) service.publishers)
  publisher_as = publisher_by (port_of number ports.publishers) refl

  gone_subscriber : (found : Option Subscriber) → at (names.subscriber number) service.subscribers ≡ found
      → subscriber_of number ports.subscribers ≡ None → false ≡ subscriber_up found
  gone_subscriber None is none = refl
  gone_subscriber (Some subscriber) is none = sym (stands.gone_subscribers number subscriber none is)

  subscriber_by : (port : Option SubscriberPort) → subscriber_of number ports.subscribers ≡ port
      → stands_there port ≡ subscriber_up (at (names.subscriber number) service.subscribers)
  subscriber_by None none = gone_subscriber (at (names.subscriber number) service.subscribers) refl none
  subscriber_by (Some port) there =
      let (subscriber, found, it) = stands.subscribers number port there in
      sym it.stands ∙ ap subscriber_up (sym found)

  -- a subscriber stands of both, or of neither
  pub subscriber_as : subscriber_stands number (Some ports) ≡ subscriber_up (at (names.subscriber number) service.subscribers)
  subscriber_as = subscriber_by (subscriber_of number ports.subscribers) refl
