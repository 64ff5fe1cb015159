-- Where a sample that is dropped isn't released, nothing happens.
use Rattle.std.proofs.Common.{◌≡◌, ◌∙◌, ℕ, false, Option, None, Some, ap}
use Rattle.iox_delivery.specs.Domain.PortsSubscribing.{Releases, ReleasesAt, ReleasesOf, taker_of}
use Rattle.iox_delivery.specs.Domain.declared.domain_id.DomainId.{DomainId}
use Rattle.iox_delivery.specs.Domain.declared.ports.service_ports.ServicePorts.{ServicePorts}
use Rattle.iox_delivery.specs.DomainPorts.Publishers.{connection_in}
use Rattle.iox_delivery.specs.DomainPorts.Reading.{place_of}
use Rattle.iox_delivery.specs.DomainPorts.declared.attached.Taken.{Taken}
use Rattle.iox_delivery.specs.DomainPorts.declared.subscriber_port.SubscriberPort.{SubscriberPort}
use Rattle.iox_delivery.specs.Subscribing.{DropsAt}
use Rattle.iox_delivery.specs.declared.port_id.PortId.{PortId}

module _ {T U : Type 0} (number : ℕ) (taken : Taken) (old new : ServicePorts T U) where
  kept_at : (place : Option ℕ) → ReleasesAt number taken place old false new → new ≡ old
  kept_at None (told, same) = same
  kept_at (Some at) (told, is) = cc told

  kept_of : (port : Option SubscriberPort) → ReleasesOf port number taken old false new → new ≡ old
  kept_of None (told, same) = same
  kept_of (Some port) releases = kept_at (place_of taken.slot (connection_in taken.publisher taken.index old.publishers)) releases

  kept : Releases number taken old false new → new ≡ old
  kept releases = kept_of (taker_of number taken old.subscribers) releases

module _ {T U H : Type 0} (ports_of : DomainId → H → Option (ServicePorts T U)) (with_ports : DomainId → ServicePorts T U → H → H)
    (same_stays : (id : DomainId) (ports : ServicePorts T U) (home : H) → ports_of id home ≡ Some ports → with_ports id ports home ≡ home)
    (port : PortId) (taken : Taken) (old new : H) where
  -- a sample that isn't released stays
  pub stays : (found : Option (ServicePorts T U)) → ports_of port.domain old ≡ found
      → DropsAt (λ after. with_ports port.domain after old) port.number taken found old false new → new ≡ old
  stays None here (told, same) = same
  stays (Some ports) here (after, releases, is) =
      is ∙ ap (λ one. with_ports port.domain one old) (kept port.number taken ports after releases) ∙ same_stays port.domain ports old here
