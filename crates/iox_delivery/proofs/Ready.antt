-- What is held may be sent, and released.
use Rattle.std.proofs.Common.{◌≡◌, ◌&&◌, ◌==◌, ◌∙◌, ℕ, Bool, true, false, cond, List, [], is_some, option_map, slice_get, unwrap_or}
use Rattle.std.proofs.Common.{Option, None, Some, refl, sym, ap}
use Rattle.iox_domain.specs.DomainValues.declared.backpressure.BackpressureDecision.{BackpressureDecision}
use Rattle.iox_domain.specs.DomainValues.declared.backpressure.BackpressureInfo.{BackpressureInfo}
use Rattle.iox_domain.specs.DomainValues.declared.degradation.DegradationAction.{DegradationAction}
use Rattle.iox_domain.specs.DomainValues.declared.degradation.DegradationInfo.{DegradationInfo}
use Rattle.iox_domain.specs.DomainPorts.Messages.{Message}
use Rattle.iox_domain.specs.DomainPorts.MessagesSending.{is_written_loan}
use Rattle.iox_domain.proofs.DomainPorts.Finding.{at_none}
use Rattle.iox_domain.specs.DomainPorts.Ports.{connection_of}
use Rattle.iox_domain.specs.DomainPorts.declared.publisher_port.PublisherPort.{PublisherPort}
use Rattle.iox_domain.specs.DomainPorts.Publishers.{port_of, connection_in, connection_at_port}
use Rattle.iox_domain.specs.DomainPorts.Reading.{place_of}
use Rattle.iox_domain.specs.DomainPorts.declared.attached.Taken.{Taken}
use Rattle.iox_domain.specs.DomainPorts.declared.subscriber_port.SubscriberPort.{SubscriberPort}
use Rattle.iox_domain.proofs.Lent.{ready_there, none_ready}
use Rattle.iox_domain.specs.Lending.{passes_port, loan_at_port}
use Rattle.iox_domain.specs.Ports.{AtPublisher}
use Rattle.iox_domain.specs.PortsPublishing.{is_blocked, SendsOne}
use Rattle.iox_domain.specs.Reading.{sample_at_port, sample_in}
use Rattle.iox_domain.specs.Subscribers.{subscriber_of}
use Rattle.iox_domain.specs.PortsSubscribing.{Releases, ReleasesAt, ReleasesOf}
use Rattle.iox_domain.specs.declared.ports.service_ports.ServicePorts.{ServicePorts}
use Rattle.iox_domain.specs.AtHomes.{AtDomain}
use Rattle.iox_domain.specs.Steps.{SendsBy}
use Rattle.iox_delivery.specs.Holding.{publisher_blocked, loan_found, value_found, holds_sample, holds_message}
use Rattle.iox_delivery.specs.KindLaws.{left_of, right_of, sample_is_message}

no : false ≡ true → ⊥
no h = cc

port_sends : {T U : Type 0} (may_degrade : DegradationInfo → DegradationAction → Type 0)
    (may : BackpressureInfo → BackpressureDecision → Type 0) (number slot : ℕ) (port : Option (PublisherPort T U))
    (old new : ServicePorts T U)
    → is_written_loan (loan_at_port slot port) ≡ true → passes_port is_blocked port ≡ false
    → AtPublisher number (SendsOne may_degrade may old.subscriber_list slot) port old None new → ⊥
port_sends may_degrade may number slot None old new holds free sends = no holds
port_sends may_degrade may number slot (Some port) old new holds free sends =
    ready_there slot port _ refl holds free (none_ready may_degrade may sends.1.0 old.subscriber_list.changes _ port sends.0 sends.1.2)

-- a sample that is held by a publisher of which no send is blocked is sent
pub sample_sends : {T U H : Type 0} (with_ports : ServicePorts T U → H) (may_degrade : DegradationInfo → DegradationAction → Type 0)
    (may : BackpressureInfo → BackpressureDecision → Type 0) (number slot : ℕ) (found : Option (ServicePorts T U)) (old new : H)
    → is_written_loan (loan_found number slot found) ≡ true → publisher_blocked number found ≡ false
    → AtDomain with_ports (SendsBy may_degrade may number slot) found old None new → ⊥
sample_sends with_ports may_degrade may number slot None old new holds free sends = no holds
sample_sends with_ports may_degrade may number slot (Some ports) old new holds free sends
    = port_sends may_degrade may number slot (port_of number ports.publishers) ports sends.0 holds free sends.1

releases_at : {T U : Type 0} (number : ℕ) (taken : Taken) (port : Option (PublisherPort T U)) (old new : ServicePorts T U)
    (place : Option ℕ) → port_of taken.publisher old.publishers ≡ port
    → place ≡ place_of taken.slot (connection_in taken.publisher taken.index old.publishers)
    → is_some (sample_at_port taken port) ≡ true → ReleasesAt number taken place old false new → ⊥
releases_at number taken None old new place there is holds releases = no holds
releases_at number taken (Some port) old new (Some at) there is holds releases = no releases.0
releases_at number taken (Some port) old new None there is holds releases =
    let here : None ≡ place_of taken.slot (connection_of taken.index port)
    = is ∙ ap (λ found. place_of taken.slot (connection_at_port taken.index found)) there in
    no (sym (ap (λ message. is_some message)
    (at_none (λ message. message.slot == taken.slot) (connection_of taken.index port).borrowed here)) ∙ holds)

releases_of : {T U : Type 0} (subscriber : Option SubscriberPort) (number : ℕ) (taken : Taken) (old new : ServicePorts T U)
    → (is_some subscriber && is_some (sample_in taken old)) ≡ true → ReleasesOf subscriber number taken old false new → ⊥
releases_of None number taken old new holds releases = no holds
releases_of (Some subscriber) number taken old new holds releases =
    releases_at number taken (port_of taken.publisher old.publishers) old new _ refl refl holds releases

-- a sample that is held is released
pub sample_releases : {T U : Type 0} (number : ℕ) (taken : Taken) (ports new : ServicePorts T U)
    → holds_message number taken (Some ports) ≡ true → Releases number taken ports false new → ⊥
sample_releases {T} {U} number taken ports new holds releases = found (taken.subscriber == number) holds releases
  where
    found : (own : Bool) → ((is_some (subscriber_of number ports.subscribers) && is_some (sample_in taken ports)) && own) ≡ true
        → ReleasesOf (cond own (subscriber_of number ports.subscribers) None) number taken ports false new → ⊥
    found true holds releases = releases_of (subscriber_of number ports.subscribers) number taken ports new (left_of _ _ holds) releases
    found false holds releases = no (right_of _ _ holds)

-- a sample with a value is a message that is held
pub held_sample : {T U : Type 0} (number : ℕ) (taken : Taken) (ports : Option (ServicePorts T U)) → holds_sample number taken ports ≡ true
    → holds_message number taken ports ≡ true
held_sample number taken ports holds = sample_is_message number taken ports holds

-- the first value of a message
pub first_value : {T U : Type 0} (found : Option (Message T U)) (values : List T)
    → Some values ≡ option_map (λ message. message.values) found → value_found 0 found ≡ slice_get values 0
first_value None values is = cc
first_value (Some message) values is = ap (λ some. slice_get (unwrap_or some []) 0) (sym is)
