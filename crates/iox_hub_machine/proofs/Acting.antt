-- Who decides for a subscriber of a hub does so as the machine's subscriber, at the service in its place.
use Rattle.std.proofs.Common.{◌≡◌, ◌≢◌, ◌≤◌, ℕ, List, ◌∷◌, ◌++◌, Some, sym, ap, subst, ◌∙◌}
use Rattle.std.specs.Map.{keys_of}
use Rattle.std.specs.Prelude.{is_some}
use Rattle.iox_command.specs.DomainValues.declared.backpressure.BackpressureDecision.{BackpressureDecision}
use Rattle.iox_command.specs.DomainValues.declared.backpressure.BackpressureInfo.{BackpressureInfo}
use Rattle.iox_command.specs.DomainValues.declared.degradation.DegradationAction.{DegradationAction}
use Rattle.iox_command.specs.DomainValues.declared.degradation.DegradationCause.{DegradationCause}
use Rattle.iox_command.specs.DomainValues.declared.degradation.DegradationInfo.{DegradationInfo}
use Rattle.iox_delivery.specs.Holding.{subscriber_stands}
use Rattle.iox_domain.specs.DomainPorts.declared.attached.Taken.{Taken}
use Rattle.iox_domain.specs.Tries.{how_often}
use Rattle.iox_domain.specs.declared.domain_id.DomainId.{DomainId}
use Rattle.iox_domain.specs.declared.ports.service_ports.ServicePorts.{ServicePorts}
use Rattle.iox_domain_machine.specs.Naming.{Naming}
use Rattle.iox_domain_machine.specs.Services.{those_of, DomainsStandFor}
use Rattle.iox_domain_machine.specs.Standing.{StandsFor}
use Rattle.iox_domain_machine.specs.SubscriberUpdateLaws.{ActsAs}
use Rattle.iox_domain_machine.specs.Tables.{LentSlot}
use Rattle.iox_hub_base.specs.AsHome.{hub_ports}
use Rattle.iox_hub_commands.specs.CommandSteps.{subscriber_may_degrade}
use Rattle.iox_hub_commands.specs.declared.numbered_hub.NumberedHub.{NumberedHub}
use Rattle.iox_hub_machine.specs.Ports.{among}
use Rattle.iox_hub_machine.specs.Standing.{PortsStandFor, lent_in, held_in}
use Rattle.iox_hub_machine.proofs.Amidst.{among_one}
use Rattle.iox_hub_machine.proofs.Deciders.{housed}
use Rattle.iox_hub_machine.proofs.Placed.{comes_alone, no_subscriber, subscriber_up, subscriber_as}
use Rattle.iox_machine.specs.Choices.{Choices}
use Rattle.iox_machine.specs.Service.{Service, Subscriber}
use Rattle.iox_machine.specs.State.{State}
use Rattle.iox_machine.specs.Table.{at}

-- what a service has by the name of a domain's subscriber is what all have by it
subscriber_in_place : {T U : Type 0} (names : ℕ → Naming) (lent : List (ℕ × (ℕ × LentSlot))) (held : List (ℕ × (ℕ × Taken)))
    (buffer : ℕ) (domains : List (ℕ × ServicePorts T U)) (first : List (Service T)) (service : Service T) (last : List (Service T))
    → DomainsStandFor names lent held buffer domains (first ++ service ∷ last) → (domain number : ℕ) (subscriber : Subscriber)
    → (names domain).subscriber number ≢ 0 → at ((names domain).subscriber number) service.subscribers ≡ Some subscriber
    → among (λ (one : Service T). one.subscribers) ((names domain).subscriber number) (first ++ service ∷ last) ≡ Some subscriber
subscriber_in_place {T} names lent held buffer domains first service last all domain number subscriber some there =
    let name : ℕ = (names domain).subscriber number in
    let place = housed names lent held buffer first service last domains all.each in
    let (mine, named, not_none) = place.stands.named_subscribers.each name (ap is_some there) in
    let same : domain ≡ place.domain.0 = all.subscribers domain place.domain.0 number mine some (sym named) in
    let alone = comes_alone place.domain.0 place.domain.1 place.before place.behind
    (subst (λ (others : List (ℕ × ServicePorts _ _)). how_often place.domain.0 (keys_of others) ≤ 1) place.are
    (all.once place.domain.0)) in
    among_one (λ (one : Service T). one.subscribers) name first service last
    (no_subscriber names lent held buffer domain number all.subscribers place.before first
    (ap (λ (n : ℕ). how_often n (keys_of place.before)) same ∙ alone.0) place.earlier)
    (no_subscriber names lent held buffer domain number all.subscribers place.behind last
    (ap (λ (n : ℕ). how_often n (keys_of place.behind)) same ∙ alone.1) place.later) ∙ there

module _ {T U B D : Type 0} (choices : Choices T) (degrades : B → DegradationCause → DegradationInfo → DegradationAction → Type 0)
    (decides : B → BackpressureInfo → BackpressureDecision → Type 0)
    (reader_degrades : D → DegradationCause → DegradationInfo → DegradationAction → Type 0) (naming : ℕ → Naming)
    (order : List (ℕ × ServicePorts T U)) (old : NumberedHub T U B D) (state : State T)
    (stands : PortsStandFor choices degrades decides reader_degrades naming order old state) (id : DomainId) (ports : ServicePorts T U)
    (found : hub_ports id old.hub ≡ Some ports) (first : List (Service T)) (service : Service T) (last : List (Service T))
    (are : state.services ≡ first ++ service ∷ last)
    (its : StandsFor (naming id.service) (those_of id.service (lent_in old.made)) (those_of id.service (held_in old.made))
    old.hub.expired_connection_buffer ports service) (number : ℕ) where
  abbrev name : ℕ
  name = (naming id.service).subscriber number

  -- where a connection fails
  pub reader_acts_as : ActsAs choices (subscriber_may_degrade reader_degrades id number old.hub) name service
  reader_acts_as subscriber there standing =
      let buffer = old.hub.expired_connection_buffer in
      let (port, named, some) = its.named_subscribers.each name (ap is_some there) in
      stands.subscribers_handled id number subscriber
      (ap (subscriber_stands number) found ∙ subscriber_as (naming id.service) _ _ buffer ports service its number
      ∙ ap subscriber_up there ∙ standing)
      (ap (among (λ (one : Service T). one.subscribers) name) are
      ∙ subscriber_in_place naming (lent_in old.made) (held_in old.made) buffer order first service last
      (subst (DomainsStandFor naming (lent_in old.made) (held_in old.made) buffer order) are stands.domains)
      id.service number subscriber some there)
