-- Each call leaves the service of its ports, and how much it allows, as they are.
use Rattle.std.proofs.Common.{◌≡◌, ◌∙◌, ℕ, Bool, true, false, List, Option, None, Some, Result, Ok, Err, refl, ap}
use Rattle.std.specs.declared.alloc.AllocError.{AllocError}
use Rattle.iox_domain.specs.DomainValues.declared.backpressure.BackpressureDecision.{BackpressureDecision}
use Rattle.iox_domain.specs.DomainValues.declared.backpressure.BackpressureInfo.{BackpressureInfo}
use Rattle.iox_domain.specs.DomainValues.declared.create_error.PublisherCreateError.{PublisherCreateError}
use Rattle.iox_domain.specs.DomainValues.declared.create_error.SubscriberCreateError.{SubscriberCreateError}
use Rattle.iox_domain.specs.DomainValues.declared.degradation.DegradationAction.{DegradationAction}
use Rattle.iox_domain.specs.DomainValues.declared.degradation.DegradationInfo.{DegradationInfo}
use Rattle.iox_domain.specs.DomainValues.declared.port_owner.PortOwner.{PortOwner}
use Rattle.iox_domain.specs.DomainValues.Sizes.{buffer_of}
use Rattle.iox_domain.specs.DomainPorts.declared.publisher_port.PublisherPort.{PublisherPort}
use Rattle.iox_domain.specs.DomainPorts.Publishers.{port_of, connection_in}
use Rattle.iox_domain.specs.DomainPorts.Reading.{place_of}
use Rattle.iox_domain.specs.DomainPorts.declared.attached.Taken.{Taken}
use Rattle.iox_domain.specs.DomainPorts.declared.subscriber_port.SubscriberPort.{SubscriberPort}
use Rattle.iox_domain.specs.Lending.{LoansOne}
use Rattle.iox_domain.specs.Making.{slots_needed, publisher_place, subscriber_place, AddsPublisher, CreatesPublisher, AddsSubscriber}
use Rattle.iox_domain.specs.Making.{CreatesSubscriber}
use Rattle.iox_domain.specs.Ports.{AtPublisher, AtSubscriber}
use Rattle.iox_domain.specs.PortsPublishing as publishing
use Rattle.iox_domain.specs.Subscribers.{subscriber_of}
use Rattle.iox_domain.specs.PortsSubscribing as subscribing
use Rattle.iox_domain.specs.declared.ports.making.PublisherConfig.{PublisherConfig}
use Rattle.iox_domain.specs.declared.ports.service_ports.ServicePorts.{ServicePorts}
use Rattle.iox_domain.specs.Calls.{PortCall, PublisherComes, SubscriberComes, Lends, Writes, GivesLoanUp, PublisherUpdates, Sends}
use Rattle.iox_domain.specs.Calls.{Retries, GivesSendUp, PublisherLeaves, SubscriberUpdates, AsksForSamples, Receives, Releases}
use Rattle.iox_domain.specs.Calls.{SubscriberLeaves, Happens}
use Rattle.iox_domain.specs.ServiceLaws.{SameService, ServiceStays}

-- what comes to ports of the same service
same_as : {T U : Type 0} (old made new : ServicePorts T U) → new ≡ made → made.service ≡ old.service → made.sizes ≡ old.sizes
    → SameService old new
same_as old made new is service sizes
    = record { service = ap (λ ports. ports.service) is ∙ service; sizes = ap (λ ports. ports.sizes) is ∙ sizes }

same_is : {T U : Type 0} (old new : ServicePorts T U) → new ≡ old → SameService old new
same_is old new is = same_as old old new is refl refl

at_publisher : {T U A : Type 0} (number : ℕ) (step : PublisherPort T U → Option A → PublisherPort T U → Type 0)
    (found : Option (PublisherPort T U)) (old new : ServicePorts T U) (answer : Option A)
    → AtPublisher number step found old answer new → SameService old new
at_publisher number step None old new answer at = same_is old new at.1
at_publisher number step (Some port) old new None (after, steps, is) = same_is old new is
at_publisher number step (Some port) old new (Some value) (after, steps, is) = same_as old _ new is refl refl

at_subscriber : {T U A : Type 0} (number : ℕ)
    (step : SubscriberPort → List (ℕ × PublisherPort T U) → Option A → SubscriberPort → List (ℕ × PublisherPort T U) → Type 0)
    (found : Option SubscriberPort) (old new : ServicePorts T U) (answer : Option A) → AtSubscriber number step found old answer new
    → SameService old new
at_subscriber number step None old new answer at = same_is old new at.1
at_subscriber number step (Some port) old new None (after, ports_after, steps, is) = same_is old new is
at_subscriber number step (Some port) old new (Some value) (after, ports_after, steps, is) = same_as old _ new is refl refl

publisher_leaves : {T U : Type 0} (number : ℕ) (found : Option (PublisherPort T U)) (old new : ServicePorts T U) (answer : Bool)
    → publishing.LeavesAt number found old answer new → SameService old new
publisher_leaves number None old new answer leaves = same_is old new leaves.1
publisher_leaves {T} {U} number (Some port) old new answer leaves = at (publishing.is_free port) leaves
  where
    at : (free : Bool) → publishing.LeavesPortIf free number port old answer new → SameService old new
    at false leaves = same_is old new leaves.1
    at true leaves = same_as old _ new leaves.1 refl refl

subscriber_leaves : {T U : Type 0} (number : ℕ) (found : Option SubscriberPort) (old new : ServicePorts T U) (answer : Bool)
    → subscribing.LeavesAt number found old answer new → SameService old new
subscriber_leaves number None old new answer leaves = same_is old new leaves.1
subscriber_leaves {T} {U} number (Some port) old new answer leaves = at port.stands leaves
  where
    at : (stands : Bool) → subscribing.LeavesPortIf stands number port old answer new → SameService old new
    at false leaves = same_is old new leaves.1
    at true leaves = same_as old _ new leaves.1 refl refl

releases : {T U : Type 0} (number : ℕ) (sample : Taken) (found : Option SubscriberPort) (old new : ServicePorts T U) (answer : Bool)
    → subscribing.ReleasesOf found number sample old answer new → SameService old new
releases number sample None old new answer released = same_is old new released.1
releases {T} {U} number sample (Some port) old new answer released
    = at (place_of sample.slot (connection_in sample.publisher sample.index old.publishers)) released
  where
    at : (place : Option ℕ) → subscribing.ReleasesAt number sample place old answer new → SameService old new
    at None released = same_is old new released.1
    at (Some place) released = same_as old _ new released.1 refl refl

adds_publisher : {T U : Type 0} (may : DegradationInfo → DegradationAction → Type 0) (config : PublisherConfig) (user_header : U)
    (place slots : ℕ) (old new : ServicePorts T U) (outcome : Result ℕ AllocError)
    → AddsPublisher may config user_header place slots old outcome new → SameService old new
adds_publisher may config user_header place slots old new (Err error) adds = same_is old new adds
adds_publisher may config user_header place slots old new (Ok number) (listed, is_list, outcome, port, updates, next, made)
    = same_as old _ new made refl refl

creates_publisher : {T U : Type 0} (overrides : ℕ → ℕ → Type 0) (may : DegradationInfo → DegradationAction → Type 0)
    (config : PublisherConfig) (user_header : U) (needed place : Option ℕ)
    (old new : ServicePorts T U) (answer : Result ℕ PublisherCreateError)
    → CreatesPublisher overrides may config user_header needed place old answer new → SameService old new
creates_publisher overrides may config user_header None place old new answer creates = same_is old new creates.1
creates_publisher overrides may config user_header (Some needed) None old new answer creates = same_is old new creates.1
creates_publisher overrides may config user_header (Some needed) (Some place) old new answer (slots, allowed, outcome, adds, is) =
    adds_publisher may config user_header place _ old new outcome adds

adds_subscriber : {T U : Type 0} (may : DegradationInfo → DegradationAction → Type 0) (owner : PortOwner) (place buffer_size : ℕ)
    (old new : ServicePorts T U) (outcome : Result ℕ AllocError)
    → AddsSubscriber may owner place buffer_size old outcome new → SameService old new
adds_subscriber may owner place buffer_size old new (Err error) adds = same_is old new adds
adds_subscriber may owner place buffer_size old new (Ok number)
    (between, (listed, is_list, outcome, after, ports_after, updates, followed), next, made) =
    same_as old _ new made (ap (λ ports. ports.service) followed) (ap (λ ports. ports.sizes) followed)

creates_subscriber : {T U : Type 0} (may : DegradationInfo → DegradationAction → Type 0) (owner : PortOwner)
    (buffer_size : Result ℕ SubscriberCreateError) (place : Option ℕ)
    (old new : ServicePorts T U) (answer : Result ℕ SubscriberCreateError)
    → CreatesSubscriber may owner buffer_size place old answer new → SameService old new
creates_subscriber may owner (Err refusal) place old new answer creates = same_is old new creates.1
creates_subscriber may owner (Ok buffer_size) None old new answer creates = same_is old new creates.1
creates_subscriber may owner (Ok buffer_size) (Some place) old new answer (outcome, adds, is)
    = adds_subscriber may owner place buffer_size old new outcome adds

-- each call
each_stays : {T U : Type 0} (overrides : ℕ → ℕ → Type 0) (may : DegradationInfo → DegradationAction → Type 0)
    (decide : BackpressureInfo → BackpressureDecision → Type 0) (call : PortCall T U) (old new : ServicePorts T U)
    → Happens overrides may decide call old new → SameService old new
each_stays overrides may decide (PublisherComes config user_header answer) old new happens =
    creates_publisher overrides may config user_header (slots_needed config old) (publisher_place old) old new answer happens
each_stays overrides may decide (SubscriberComes owner buffer_size answer) old new happens =
    creates_subscriber may owner (buffer_of buffer_size old.sizes) (subscriber_place old) old new answer happens
each_stays overrides may decide (Lends number values elements answer) old new happens
    = at_publisher number (LoansOne values elements) (port_of number old.publishers) old new answer happens
each_stays overrides may decide (Writes number slot test change) old new happens = same_as old _ new happens refl refl
each_stays overrides may decide (GivesLoanUp number slot) old new happens = same_as old _ new happens refl refl
each_stays overrides may decide (PublisherUpdates number answer) old new happens =
    at_publisher number (publishing.UpdatesOne may old.subscriber_list) (port_of number old.publishers) old new answer happens
each_stays overrides may decide (Sends number slot answer) old new happens =
    at_publisher number (publishing.SendsOne may decide old.subscriber_list slot) (port_of number old.publishers) old new answer happens
each_stays overrides may decide (Retries number elapsed answer) old new happens =
    at_publisher number (publishing.RetriesOne decide elapsed) (port_of number old.publishers) old new answer happens
each_stays overrides may decide (GivesSendUp number answer) old new happens
    = at_publisher number publishing.GivesUpOne (port_of number old.publishers) old new answer happens
each_stays overrides may decide (PublisherLeaves number answer) old new happens
    = publisher_leaves number (port_of number old.publishers) old new answer happens
each_stays overrides may decide (SubscriberUpdates number answer) old new happens =
    at_subscriber number (subscribing.UpdatesOne may old.publisher_list) (subscriber_of number old.subscribers) old new answer happens
each_stays overrides may decide (AsksForSamples number answer) old new happens =
    at_subscriber number (subscribing.HasSamplesOne may old.publisher_list) (subscriber_of number old.subscribers) old new answer happens
each_stays overrides may decide (Receives number answer) old new happens =
    at_subscriber number (subscribing.ReceivesOne may old.publisher_list) (subscriber_of number old.subscribers) old new answer happens
each_stays overrides may decide (Releases number sample answer) old new happens
    = releases number sample (subscribing.taker_of number sample old.subscribers) old new answer happens
each_stays overrides may decide (SubscriberLeaves number answer) old new happens
    = subscriber_leaves number (subscriber_of number old.subscribers) old new answer happens

pub service_stays : {T U : Type 0} (overrides : ℕ → ℕ → Type 0) (may : DegradationInfo → DegradationAction → Type 0)
    (decide : BackpressureInfo → BackpressureDecision → Type 0) → ServiceStays T U overrides may decide
service_stays overrides may decide = record { stays = each_stays overrides may decide }
