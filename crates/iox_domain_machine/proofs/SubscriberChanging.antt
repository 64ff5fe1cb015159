-- One subscriber of a domain, and of the machine, is another under its number.
use Rattle.std.proofs.Common.{◌≡◌, ◌≤◌, ℕ, List, Some, sym, subst, ◌∙◌}
use Rattle.std.proofs.lemmas.Map.{keys-set_value}
use Rattle.iox_domain.proofs.Numbered.{at_number, same_set}
use Rattle.iox_domain.specs.DomainPorts.Publishers.{port_of}
use Rattle.iox_domain.specs.DomainPorts.declared.attached.Taken.{Taken}
use Rattle.iox_domain.specs.DomainPorts.declared.publisher_port.PublisherPort.{PublisherPort}
use Rattle.iox_domain.specs.DomainPorts.declared.subscriber_port.SubscriberPort.{SubscriberPort}
use Rattle.iox_domain.specs.Subscribers as subscribers
use Rattle.iox_domain.specs.Subscribers.{subscriber_of}
use Rattle.iox_domain.specs.Tries.{how_often}
use Rattle.iox_domain.specs.declared.ports.service_ports.ServicePorts.{ServicePorts}
use Rattle.iox_domain_machine.specs.Mailboxes.{IsKeyed}
use Rattle.iox_domain_machine.specs.Naming.{Naming}
use Rattle.iox_domain_machine.specs.Standing.{StandsFor, SubscriberIs}
use Rattle.iox_domain_machine.specs.Subscribers.{SubscriberStandsFor}
use Rattle.iox_domain_machine.specs.Tables.{LentSlot}
use Rattle.iox_domain_machine.proofs.Found.{at_changed, at_changed_other, other_found}
use Rattle.iox_domain_machine.proofs.UpdateSubscriber.{subscriber_changed}
use Rattle.iox_machine.specs.Service.{Service, Subscriber}
use Rattle.iox_machine.proofs.Shorthands.{with_subscriber}

-- it stands as before, at its place, for as many messages, and holds as many samples; and whoever reads has a key still
pub subscriber_set : {T U : Type 0} (names : Naming) (lent : List (ℕ × LentSlot)) (held : List (ℕ × Taken)) (buffer : ℕ)
    (ports : ServicePorts T U) (service : Service T) (number : ℕ) (port after : SubscriberPort) (later : Subscriber)
    → StandsFor names lent held buffer ports service → subscriber_of number ports.subscribers ≡ Some port
    → SubscriberStandsFor names.publisher ports.sizes.max_publishers ports.sizes.expired_connections after later
    → after.stands ≡ port.stands → after.place ≡ port.place → after.buffer_size ≡ port.buffer_size → after.held ≡ port.held
    → ((other : ℕ) (found : PublisherPort T U) → port_of other ports.publishers ≡ Some found
    → IsKeyed other found (subscribers.with_subscriber number ports.subscribers after))
    → StandsFor names lent held buffer (record ports { subscribers = subscribers.with_subscriber number ports.subscribers after })
    (with_subscriber (names.subscriber number) later service)
subscriber_set names lent held buffer ports service number port after later stands there is same_stands same_place same_buffer same_held
    keyed =
    let name = names.subscriber number in
    let was : SubscriberIs names ports service number port = stands.subscribers number port there in
    let set = with_subscriber name later service in
    subscriber_changed names lent held buffer ports service number port after
    (subscribers.with_subscriber number ports.subscribers after) later set.subscribers stands there
    (same_set (at_number number) ports.subscribers after port there)
    (λ other off. other_found number other after ports.subscribers off)
    (λ other. subst (λ keys. how_often other keys ≤ 1) (sym (keys-set_value (at_number number) ports.subscribers after))
    (stands.once_subscribers other))
    same_stands same_place same_held (at_changed name later was.0 service.subscribers was.1)
    (λ other off. at_changed_other name other later service.subscribers off) (is.stands ∙ same_stands ∙ sym was.2.stands)
    (is.buffer_size ∙ same_buffer ∙ sym was.2.buffer_size) is keyed
