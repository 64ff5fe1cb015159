-- What a call does at one port is what it does at the ports of a service.
use Rattle.std.proofs.Common.{ℕ, ◌≡◌, List, Bool, true, false, Option, None, Some, Result, refl, ap, ◌∙◌}
use Rattle.std.proofs.lemmas.Map.Steps.{set_value_same}
use Rattle.std.specs.BTreeMap.{is_at}
use Rattle.std.specs.Ordering.{nat_cmp}
use Rattle.iox_domain_ports.specs.DomainValues.declared.backpressure.BackpressureDecision.{BackpressureDecision}
use Rattle.iox_domain_ports.specs.DomainValues.declared.backpressure.BackpressureInfo.{BackpressureInfo}
use Rattle.iox_domain_ports.specs.DomainValues.declared.port_error.SendError.{SendError}
use Rattle.iox_domain_ports.specs.Progress.{tried_again}
use Rattle.iox_domain_ports.specs.Sending.{with_progress, Finishes}
use Rattle.iox_domain_ports.specs.declared.meeting.Sent.{Sent}
use Rattle.iox_domain_ports.specs.declared.publisher_port.PublisherPort.{PublisherPort}
use Rattle.iox_domain_ports.specs.Publishers.{port_of, with_port}
use Rattle.iox_domain_ports.specs.declared.subscriber_port.SubscriberPort.{SubscriberPort}
use Rattle.iox_domain.specs.Ports.{AtPublisher, AtSubscriber, with_publisher, with_both}
use Rattle.iox_domain.specs.PortsPublishing.{is_blocked, is_free, RetriesOne}
use Rattle.iox_domain.specs.PortsPublishing as publishing
use Rattle.iox_domain.specs.PortsSubscribing as subscribing
use Rattle.iox_domain.specs.Subscribers.{subscriber_of, with_subscriber}
use Rattle.iox_domain.specs.declared.ports.service_ports.ServicePorts.{ServicePorts}

pub retries_there : {T U : Type 0} (may : BackpressureInfo → BackpressureDecision → Type 0) (elapsed : ℕ)
    (port after : PublisherPort T U) (outcome : Result Sent SendError)
    → is_blocked port ≡ true → Finishes may (with_progress (tried_again elapsed port.progress) port) outcome after
    → RetriesOne may elapsed port (Some outcome) after
retries_there may elapsed port after outcome blocked finishes = rw blocked (outcome, finishes, refl)

-- the publisher of a number is put back as it was
pub same_publisher : {T U : Type 0} (number : ℕ) (old : ServicePorts T U) (port after : PublisherPort T U)
    → port_of number old.publishers ≡ Some port → after ≡ port
    → record old { publishers = with_port number old.publishers after } ≡ old
same_publisher number old port after there same =
    ap (λ ports. record old { publishers = ports })
    (ap (λ after. with_port number old.publishers after) same ∙ set_value_same (is_at (nat_cmp number)) old.publishers port there)

pub at_publisher : {T U A : Type 0} (number : ℕ) (step : PublisherPort T U → Option A → PublisherPort T U → Type 0)
    (old new : ServicePorts T U) (port after : PublisherPort T U) (value : A)
    → port_of number old.publishers ≡ Some port → step port (Some value) after → new ≡ with_publisher number after old
    → AtPublisher number step (port_of number old.publishers) old (Some value) new
at_publisher number step old new port after value there steps is = rw there (after, steps, is)

pub at_publisher-none : {T U A : Type 0} (number : ℕ) (step : PublisherPort T U → Option A → PublisherPort T U → Type 0)
    (old new : ServicePorts T U) (port after : PublisherPort T U)
    → port_of number old.publishers ≡ Some port → step port None after → after ≡ port
    → new ≡ record old { publishers = with_port number old.publishers after }
    → AtPublisher number step (port_of number old.publishers) old None new
at_publisher-none number step old new port after there steps same is
    = rw there (after, steps, is ∙ same_publisher number old port after there same)

-- the subscriber of a number and the publishers are put back as they were
pub same_both : {T U : Type 0} (number : ℕ) (old : ServicePorts T U) (port after : SubscriberPort)
    (ports_after : List (ℕ × PublisherPort T U)) → subscriber_of number old.subscribers ≡ Some port
    → after ≡ port → ports_after ≡ old.publishers → with_both number after ports_after old ≡ old
same_both number old port after ports_after there same same_ports =
    ap (λ ports. with_both number after ports old) same_ports
    ∙ ap (λ subscribers. record old { subscribers = subscribers })
    (ap (λ after. with_subscriber number old.subscribers after) same ∙ set_value_same (is_at (nat_cmp number)) old.subscribers port there)

-- where a call at a subscriber answers none nothing happened
pub at_subscriber : {T U A : Type 0} (number : ℕ)
    (step : SubscriberPort → List (ℕ × PublisherPort T U) → Option A → SubscriberPort → List (ℕ × PublisherPort T U) → Type 0)
    (old new : ServicePorts T U) (port after : SubscriberPort) (ports_after : List (ℕ × PublisherPort T U)) (answer : Option A)
    → subscriber_of number old.subscribers ≡ Some port → step port old.publishers answer after ports_after
    → (answer ≡ None → after ≡ port) → (answer ≡ None → ports_after ≡ old.publishers) → new ≡ with_both number after ports_after old
    → AtSubscriber number step (subscriber_of number old.subscribers) old answer new
at_subscriber number step old new port after ports_after None there steps same same_ports is =
    rw there (after, ports_after, steps, is ∙ same_both number old port after ports_after there (same refl) (same_ports refl))
at_subscriber number step old new port after ports_after (Some value) there steps same same_ports is
    = rw there (after, ports_after, steps, is)

not_free : {T U : Type 0} (free : Bool) (port after : PublisherPort T U) → publishing.LeavesIf free port None after → free ≡ false
not_free false port after leaves = refl
not_free true port after leaves = let no : None ≡ Some port.place = leaves.0 in cc

-- a publisher that doesn't leave stays as it is
pub publisher_stays : {T U : Type 0} (number : ℕ) (old new : ServicePorts T U) (port after : PublisherPort T U)
    → port_of number old.publishers ≡ Some port
    → publishing.LeavesOne port None after → after ≡ port → new ≡ record old { publishers = with_port number old.publishers after }
    → publishing.LeavesAt number (port_of number old.publishers) old false new
publisher_stays number old new port after there leaves same is =
    rw (there, not_free (is_free port) port after leaves) (refl, is ∙ same_publisher number old port after there same)

not_standing : {T U : Type 0} (stands : Bool) (port after : SubscriberPort) (ports ports_after : List (ℕ × PublisherPort T U))
    → subscribing.LeavesIf stands port ports None after ports_after → stands ≡ false
not_standing false port after ports ports_after leaves = refl
not_standing true port after ports ports_after leaves = let no : None ≡ Some port.place = leaves.0 in cc

-- a subscriber that doesn't leave stays as it is
pub subscriber_stays : {T U : Type 0} (number : ℕ) (old new : ServicePorts T U) (port after : SubscriberPort)
    (ports_after : List (ℕ × PublisherPort T U)) → subscriber_of number old.subscribers ≡ Some port
    → subscribing.LeavesOne port old.publishers None after ports_after → after ≡ port → ports_after ≡ old.publishers
    → new ≡ with_both number after ports_after old
    → subscribing.LeavesAt number (subscriber_of number old.subscribers) old false new
subscriber_stays number old new port after ports_after there leaves same same_ports is =
    rw (there, not_standing port.stands port after old.publishers ports_after leaves)
    (refl, is ∙ same_both number old port after ports_after there same same_ports)
