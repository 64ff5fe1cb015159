-- What a release answers and changes, by its subscriber and by whether its sample is borrowed.
use Rattle.std.proofs.Common.{◌≡◌, ◌==◌, ◌-◌, ◌∙◌, ℕ, Bool, true, false, List, Option, None, Some, is_some, refl, ap, sym}
use Rattle.std.specs.BTreeMap.{is_at}
use Rattle.std.specs.Ordering.{nat_cmp}
use Rattle.iox_domain.specs.DomainPorts.Publishers.{connection_in, released}
use Rattle.iox_domain.specs.DomainPorts.Reading.{place_of}
use Rattle.iox_domain.specs.DomainPorts.declared.attached.Taken.{Taken}
use Rattle.iox_domain.specs.DomainPorts.declared.publisher_port.PublisherPort.{PublisherPort}
use Rattle.iox_domain.specs.DomainPorts.declared.subscriber_port.SubscriberPort.{SubscriberPort}
use Rattle.iox_domain.specs.Ports.{with_both}
use Rattle.iox_domain.specs.PortsSubscribing.{ReleasesAt, Releases, let_go_at}
use Rattle.iox_domain.specs.Subscribers.{subscriber_of, with_subscriber, is_over, is_over_in, settled}
use Rattle.iox_domain.specs.declared.ports.service_ports.ServicePorts.{ServicePorts}
use Rattle.iox_domain.proofs.Lifting.{same_both}
use Rattle.iox_domain.proofs.Numbered.{same_set}

-- the subscriber with one sample less
abbrev pub lessened : SubscriberPort → SubscriberPort
lessened port = record port { held = port.held - 1 }

-- a release of a sample that the subscriber received is what it is at the sample's connection
pub releases_by : {T U : Type 0} (number : ℕ) (sample : Taken) (old new : ServicePorts T U) (port : SubscriberPort) (answer : Bool)
    → (sample.subscriber == number) ≡ true → subscriber_of number old.subscribers ≡ Some port
    → ReleasesAt number sample (place_of sample.slot (connection_in sample.publisher sample.index old.publishers)) old answer new
    → Releases number sample old answer new
releases_by number sample old new port answer same there releases = rw same (rw there releases)

-- where no such message is borrowed nothing changes
pub releases_nothing : {T U : Type 0} (number : ℕ) (sample : Taken) (place : Option ℕ) (old new : ServicePorts T U) (port : SubscriberPort)
    (ports_after : List (ℕ × PublisherPort T U)) → is_some place ≡ false → subscriber_of number old.subscribers ≡ Some port
    → ports_after ≡ released sample.publisher sample.index place old.publishers → new ≡ with_both number port ports_after old
    → ReleasesAt number sample place old false new
releases_nothing number sample None old new port ports_after none there after is
    = (refl, is ∙ same_both number old port port ports_after there refl after)
releases_nothing number sample (Some at) old new port ports_after none there after is = cc

-- the subscriber is removed if it is over
pub releases_settled : {T U : Type 0} (number : ℕ) (sample : Taken) (place : Option ℕ) (old new : ServicePorts T U) (port : SubscriberPort)
    (ports_after : List (ℕ × PublisherPort T U)) → is_some place ≡ true → subscriber_of number old.subscribers ≡ Some port
    → ports_after ≡ released sample.publisher sample.index place old.publishers
    → new ≡ record (with_both number (lessened port) ports_after old)
    { subscribers = settled number (with_subscriber number old.subscribers (lessened port)) }
    → ReleasesAt number sample place old true new
releases_settled number sample None old new port ports_after some there after is = cc
releases_settled number sample (Some at) old new port ports_after some there after is = (
  refl,
  is ∙ ap (λ ports. record (with_both number (lessened port) ports old)
      { subscribers = settled number (with_subscriber number old.subscribers (lessened port)) }) after
      ∙ ap (λ found. record old {
        publishers = released sample.publisher sample.index (Some at) old.publishers;
        subscribers = settled number (let_go_at number found old.subscribers);
      }) (sym there),
)

-- an open one stays
open_over : (port : SubscriberPort) → port.stands ≡ true → is_over (Some port) ≡ false
open_over port stands = rw stands refl

pub open_settled : (number : ℕ) (ports : List (ℕ × SubscriberPort)) (before port : SubscriberPort)
    → subscriber_of number ports ≡ Some before → port.stands ≡ true
    → settled number (with_subscriber number ports port) ≡ with_subscriber number ports port
open_settled number ports before port there stands =
    let found : subscriber_of number (with_subscriber number ports port) ≡ Some port
    = same_set (is_at (nat_cmp number)) ports port before there in
    let over : is_over_in number (with_subscriber number ports port) ≡ false = ap is_over found ∙ open_over port stands in
    rw over refl

pub releases_standing : {T U : Type 0} (number : ℕ) (sample : Taken) (place : Option ℕ) (old new : ServicePorts T U) (port : SubscriberPort)
    (ports_after : List (ℕ × PublisherPort T U)) → is_some place ≡ true → subscriber_of number old.subscribers ≡ Some port
    → ports_after ≡ released sample.publisher sample.index place old.publishers → port.stands ≡ true
    → new ≡ with_both number (lessened port) ports_after old → ReleasesAt number sample place old true new
releases_standing number sample place old new port ports_after some there after stands is =
    releases_settled number sample place old new port ports_after some there after
    (is ∙ ap (λ subscribers. record (with_both number (lessened port) ports_after old) { subscribers = subscribers })
    (sym (open_settled number old.subscribers port (lessened port) there stands)))
