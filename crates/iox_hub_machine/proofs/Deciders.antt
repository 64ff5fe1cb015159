-- Who decides for a publisher of a hub does so as the machine's publisher, at the service in its place.
use Rattle.std.proofs.Common.{◌≡◌, ◌≢◌, ◌≤◌, ℕ, true, List, [], ◌∷◌, ◌++◌, Some, refl, sym, ap, subst, ◌∙◌}
use Rattle.std.specs.Map.{keys_of}
use Rattle.std.specs.Prelude.{is_some}
use Rattle.iox_command.specs.DomainValues.declared.backpressure.BackpressureDecision.{BackpressureDecision}
use Rattle.iox_command.specs.DomainValues.declared.backpressure.BackpressureInfo.{BackpressureInfo}
use Rattle.iox_command.specs.DomainValues.declared.degradation.DegradationAction.{DegradationAction}
use Rattle.iox_command.specs.DomainValues.declared.degradation.DegradationCause.{DegradationCause}
use Rattle.iox_command.specs.DomainValues.declared.degradation.DegradationInfo.{DegradationInfo}
use Rattle.iox_delivery.specs.Holding.{publisher_stands}
use Rattle.iox_domain.specs.DomainPorts.declared.attached.Taken.{Taken}
use Rattle.iox_domain.specs.Tries.{how_often}
use Rattle.iox_domain.specs.declared.domain_id.DomainId.{DomainId}
use Rattle.iox_domain.specs.declared.ports.service_ports.ServicePorts.{ServicePorts}
use Rattle.iox_domain_machine.specs.Naming.{Naming}
use Rattle.iox_domain_machine.specs.PublisherUpdateLaws.{DegradesAs}
use Rattle.iox_domain_machine.specs.SendLaws.{DecidesAs}
use Rattle.iox_domain_machine.specs.Services.{those_of, StandInTurn, DomainsStandFor}
use Rattle.iox_domain_machine.specs.Standing.{StandsFor}
use Rattle.iox_domain_machine.specs.Tables.{LentSlot}
use Rattle.iox_hub_base.specs.AsHome.{hub_ports}
use Rattle.iox_hub_commands.specs.CommandSteps.{publisher_may_degrade, publisher_may_decide}
use Rattle.iox_hub_commands.specs.declared.numbered_hub.NumberedHub.{NumberedHub}
use Rattle.iox_hub_machine.specs.Ports.{among}
use Rattle.iox_hub_machine.specs.Standing.{PortsStandFor, PublisherIsHandled, lent_in, held_in}
use Rattle.iox_hub_machine.proofs.Amidst.{among_one}
use Rattle.iox_hub_machine.proofs.Placed.{comes_alone, no_publisher, publisher_up, publisher_as}
use Rattle.iox_machine.specs.Choices.{Choices}
use Rattle.iox_machine.specs.Service.{Service, Publisher}
use Rattle.iox_machine.specs.State.{State}
use Rattle.iox_machine.specs.Table.{at}

never_none : {T : Type 0} (first : List (Service T)) (service : Service T) (last : List (Service T)) → first ++ service ∷ last ≡ [] → ⊥
never_none [] service last none = cc
never_none (one ∷ first) service last none = cc

module _ {T U : Type 0} (names : ℕ → Naming) (lent : List (ℕ × (ℕ × LentSlot))) (held : List (ℕ × (ℕ × Taken))) (buffer : ℕ) where
  -- A service between others is that of a domain between others.
  pub record IsHoused (first : List (Service T)) (service : Service T) (last : List (Service T)) (domains : List (ℕ × ServicePorts T U))
      : Type 0 where
    pub before : List (ℕ × ServicePorts T U)
    pub domain : ℕ × ServicePorts T U
    pub behind : List (ℕ × ServicePorts T U)
    pub are : domains ≡ before ++ domain ∷ behind
    pub earlier : StandInTurn names lent held buffer before first
    pub stands : StandsFor (names domain.0) (those_of domain.0 lent) (those_of domain.0 held) buffer domain.1 service
    pub later : StandInTurn names lent held buffer behind last

  pub housed : (first : List (Service T)) (service : Service T) (last : List (Service T)) (domains : List (ℕ × ServicePorts T U))
      → StandInTurn names lent held buffer domains (first ++ service ∷ last) → IsHoused first service last domains
  housed first service last [] turn = absurd (never_none first service last turn)
  housed [] service last (domain ∷ domains) (it, rest) =
      record { before = []; domain = domain; behind = domains; are = refl; earlier = refl; stands = it; later = rest }
  housed (one ∷ first) service last (domain ∷ domains) (it, rest) =
      let more = housed first service last domains rest in record {
        before = domain ∷ more.before;
        domain = more.domain;
        behind = more.behind;
        are = ap (λ (others : List (ℕ × ServicePorts T U)). domain ∷ others) more.are;
        earlier = (it, more.earlier);
        stands = more.stands;
        later = more.later;
      }

  -- what a service has by the name of a domain's publisher is what all have by it
  publisher_in_place : (domains : List (ℕ × ServicePorts T U)) (first : List (Service T)) (service : Service T) (last : List (Service T))
      → DomainsStandFor names lent held buffer domains (first ++ service ∷ last) → (domain number : ℕ) (publisher : Publisher T)
      → (names domain).publisher number ≢ 0 → at ((names domain).publisher number) service.publishers ≡ Some publisher
      → among (λ one. one.publishers) ((names domain).publisher number) (first ++ service ∷ last) ≡ Some publisher
  publisher_in_place domains first service last all domain number publisher some there =
      let name : ℕ = (names domain).publisher number in
      let place = housed first service last domains all.each in
      let (mine, named, not_none) = place.stands.named_publishers.each name (ap is_some there) in
      let same : domain ≡ place.domain.0 = all.publishers domain place.domain.0 number mine some (sym named) in
      let alone = comes_alone place.domain.0 place.domain.1 place.before place.behind
      (subst (λ (others : List (ℕ × ServicePorts T U)). how_often place.domain.0 (keys_of others) ≤ 1) place.are
      (all.once place.domain.0)) in
      among_one (λ one. one.publishers) name first service last
      (no_publisher names lent held buffer domain number all.publishers place.before first
      (ap (λ (n : ℕ). how_often n (keys_of place.before)) same ∙ alone.0) place.earlier)
      (no_publisher names lent held buffer domain number all.publishers place.behind last
      (ap (λ (n : ℕ). how_often n (keys_of place.behind)) same ∙ alone.1) place.later) ∙ there

module _ {T U B D : Type 0} (choices : Choices T) (degrades : B → DegradationCause → DegradationInfo → DegradationAction → Type 0)
    (decides : B → BackpressureInfo → BackpressureDecision → Type 0)
    (reader_degrades : D → DegradationCause → DegradationInfo → DegradationAction → Type 0) (naming : ℕ → Naming)
    (order : List (ℕ × ServicePorts T U)) (old : NumberedHub T U B D) (state : State T)
    (stands : PortsStandFor choices degrades decides reader_degrades naming order old state)
    (id : DomainId) (ports : ServicePorts T U) (found : hub_ports id old.hub ≡ Some ports) (first : List (Service T))
    (service : Service T) (last : List (Service T)) (are : state.services ≡ first ++ service ∷ last)
    (its : StandsFor (naming id.service) (those_of id.service (lent_in old.made)) (those_of id.service (held_in old.made))
    old.hub.expired_connection_buffer ports service) (number : ℕ) where
  abbrev name : ℕ
  name = (naming id.service).publisher number

  is_handled : (publisher : Publisher T) → at name service.publishers ≡ Some publisher → publisher.stands ≡ true
      → PublisherIsHandled choices degrades decides old.hub id number name publisher
  is_handled publisher there standing =
      let lent = those_of id.service (lent_in old.made) in
      let held = those_of id.service (held_in old.made) in
      let buffer = old.hub.expired_connection_buffer in
      let (port, named, some) = its.named_publishers.each name (ap is_some there) in
      stands.publishers_handled id number publisher
      (ap (publisher_stands number) found ∙ publisher_as (naming id.service) lent held buffer ports service its number
      ∙ ap publisher_up there ∙ standing)
      (ap (among (λ (one : Service T). one.publishers) name) are
      ∙ publisher_in_place naming (lent_in old.made) (held_in old.made) buffer order first service last
      (subst (DomainsStandFor naming (lent_in old.made) (held_in old.made) buffer order) are stands.domains)
      id.service number publisher some there)

  -- at a full mailbox
  pub decides_as : (publisher : Publisher T) → at name service.publishers ≡ Some publisher → publisher.stands ≡ true
      → DecidesAs choices (publisher_may_decide decides id number old.hub) name publisher
  decides_as publisher there standing = (is_handled publisher there standing).full

  -- where a connection fails
  pub degrades_as : DegradesAs choices (publisher_may_degrade degrades id number old.hub) name service
  degrades_as publisher there standing info action may = (is_handled publisher there standing).failed info action may
