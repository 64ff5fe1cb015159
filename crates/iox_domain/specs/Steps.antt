-- What each call of a port answers and changes, by the port's number.
use Rattle.std.specs.Prelude.{ℕ, Bool, List, Option, Result, Ok}
use Rattle.iox_domain.specs.DomainValues.declared.backpressure.BackpressureDecision.{BackpressureDecision}
use Rattle.iox_domain.specs.DomainValues.declared.backpressure.BackpressureInfo.{BackpressureInfo}
use Rattle.iox_domain.specs.DomainValues.Sizes.{buffer_of}
use Rattle.iox_domain.specs.DomainValues.declared.connection_failure.ConnectionFailure.{ConnectionFailure}
use Rattle.iox_domain.specs.DomainValues.declared.create_error.PublisherCreateError.{PublisherCreateError}
use Rattle.iox_domain.specs.DomainValues.declared.create_error.SubscriberCreateError.{SubscriberCreateError}
use Rattle.iox_domain.specs.DomainValues.declared.degradation.DegradationAction.{DegradationAction}
use Rattle.iox_domain.specs.DomainValues.declared.degradation.DegradationInfo.{DegradationInfo}
use Rattle.iox_domain.specs.DomainValues.declared.port_error.LoanError.{LoanError}
use Rattle.iox_domain.specs.DomainValues.declared.port_error.ReceiveError.{ReceiveError}
use Rattle.iox_domain.specs.DomainValues.declared.port_error.SendError.{SendError}
use Rattle.iox_domain.specs.DomainPorts.declared.meeting.Sent.{Sent}
use Rattle.iox_domain.specs.DomainPorts.Publishers.{port_of}
use Rattle.iox_domain.specs.DomainPorts.declared.attached.Taken.{Taken}
use Rattle.iox_domain.specs.Lending.{LoansOne}
use Rattle.iox_domain.specs.Making.{slots_needed, publisher_place, publisher_refusal, CreatesPublisher, subscriber_place}
use Rattle.iox_domain.specs.Making.{subscriber_refusal, CreatesSubscriber}
use Rattle.iox_domain.specs.Ports.{AtPublisher, AtSubscriber}
use Rattle.iox_domain.specs.PortsPublishing as publishing
use Rattle.iox_domain.specs.Putting.{PutsOne}
use Rattle.iox_domain.specs.Subscribers.{subscriber_of}
use Rattle.iox_domain.specs.PortsSubscribing as subscribing
use Rattle.iox_domain.specs.declared.ports.making.PublisherConfig.{PublisherConfig}
use Rattle.iox_domain.specs.declared.ports.making.SubscriberConfig.{SubscriberConfig}
use Rattle.iox_domain.specs.declared.ports.service_ports.ServicePorts.{ServicePorts}

-- What a loan of `values` values and `elements` elements at the publisher with this number answers and changes.
abbrev pub LoansBy : {T U : Type 0} → ℕ → ℕ → ℕ → ServicePorts T U → Option (Result ℕ LoanError) → ServicePorts T U → Type 0
LoansBy number values elements old answer new = AtPublisher number (LoansOne values elements) (port_of number old.publishers) old answer new

-- What an update of the publisher with this number answers and changes.
abbrev pub UpdatesBy : {T U : Type 0} → (DegradationInfo → DegradationAction → Type 0) → ℕ → ServicePorts T U
    → Option (Result (Unit {0}) ConnectionFailure) → ServicePorts T U → Type 0
UpdatesBy may number old answer new
    = AtPublisher number (publishing.UpdatesOne may old.subscriber_list) (port_of number old.publishers) old answer new

-- What a send of the written loan in this slot by the publisher with this number answers and changes.
abbrev pub SendsBy : {T U : Type 0} → (DegradationInfo → DegradationAction → Type 0)
    → (BackpressureInfo → BackpressureDecision → Type 0) → ℕ → ℕ → ServicePorts T U → Option (Result Sent SendError) → ServicePorts T U
    → Type 0
SendsBy may_degrade may number slot old answer new
    = AtPublisher number (publishing.SendsOne may_degrade may old.subscriber_list slot) (port_of number old.publishers) old answer new

-- What putting these values by the publisher with this number answers and changes: it loans as many, writes them and sends
-- them.
abbrev pub PutsBy : {T U : Type 0} → (DegradationInfo → DegradationAction → Type 0)
    → (BackpressureInfo → BackpressureDecision → Type 0) → ℕ → List T → ServicePorts T U → Option (Result Sent SendError)
    → ServicePorts T U → Type 0
PutsBy may_degrade may number values old answer new
    = AtPublisher number (PutsOne may_degrade may old.subscriber_list values) (port_of number old.publishers) old answer new

-- What a retry of the blocked send of the publisher with this number answers and changes.
abbrev pub RetriesBy : {T U : Type 0} → (BackpressureInfo → BackpressureDecision → Type 0) → ℕ → ℕ → ServicePorts T U
    → Option (Result Sent SendError) → ServicePorts T U → Type 0
RetriesBy may number elapsed old answer new
    = AtPublisher number (publishing.RetriesOne may elapsed) (port_of number old.publishers) old answer new

-- What giving up the blocked send of the publisher with this number answers and changes.
abbrev pub GivesUpBy : {T U : Type 0} → ℕ → ServicePorts T U → Option ℕ → ServicePorts T U → Type 0
GivesUpBy number old answer new = AtPublisher number publishing.GivesUpOne (port_of number old.publishers) old answer new

-- What closing the publisher with this number answers and changes.
abbrev pub PublisherLeaves : {T U : Type 0} → ℕ → ServicePorts T U → Bool → ServicePorts T U → Type 0
PublisherLeaves number old answer new = publishing.LeavesAt number (port_of number old.publishers) old answer new

-- What an update of the subscriber with this number answers and changes.
abbrev pub FollowsBy : {T U : Type 0} → (DegradationInfo → DegradationAction → Type 0) → ℕ → ServicePorts T U
    → Option (Result (Unit {0}) ConnectionFailure) → ServicePorts T U → Type 0
FollowsBy may number old answer new
    = AtSubscriber number (subscribing.UpdatesOne may old.publisher_list) (subscriber_of number old.subscribers) old answer new

-- What `has_samples` answers and changes: whether some connection of the subscriber with this number has data.
abbrev pub TellsBy : {T U : Type 0} → (DegradationInfo → DegradationAction → Type 0) → ℕ → ServicePorts T U
    → Option (Result Bool ConnectionFailure) → ServicePorts T U → Type 0
TellsBy may number old answer new = AtSubscriber number (subscribing.HasSamplesOne may old.publisher_list)
    (subscriber_of number old.subscribers) old answer new

-- What a receive by the subscriber with this number answers and changes.
abbrev pub ReceivesBy : {T U : Type 0} → (DegradationInfo → DegradationAction → Type 0) → ℕ → ServicePorts T U
    → Option (Result (Option Taken) ReceiveError) → ServicePorts T U → Type 0
ReceivesBy may number old answer new
    = AtSubscriber number (subscribing.ReceivesOne may old.publisher_list) (subscriber_of number old.subscribers) old answer new

-- What closing the subscriber with this number answers and changes.
abbrev pub SubscriberLeaves : {T U : Type 0} → ℕ → ServicePorts T U → Bool → ServicePorts T U → Type 0
SubscriberLeaves number old answer new = subscribing.LeavesAt number (subscriber_of number old.subscribers) old answer new

-- A publisher is created, under this number.
abbrev pub PublisherComes : {T U : Type 0} → (ℕ → ℕ → Type 0) → (DegradationInfo → DegradationAction → Type 0) → PublisherConfig → U
    → ServicePorts T U → ℕ → ServicePorts T U → Type 0
PublisherComes overrides may config user_header old number new
    = CreatesPublisher overrides may config user_header (slots_needed config old) (publisher_place old) old (Ok number) new

-- Why a publisher isn't created.
abbrev pub why_no_publisher : {T U : Type 0} → PublisherConfig → ServicePorts T U → PublisherCreateError
why_no_publisher config ports = publisher_refusal (slots_needed config ports) (publisher_place ports)

-- A subscriber is created, under this number.
abbrev pub SubscriberComes : {T U : Type 0} → (DegradationInfo → DegradationAction → Type 0) → SubscriberConfig → ServicePorts T U → ℕ
    → ServicePorts T U → Type 0
SubscriberComes may config old number new
    = CreatesSubscriber may config.owner (buffer_of config.buffer_size old.sizes) (subscriber_place old) old (Ok number) new

-- Why a subscriber isn't created.
abbrev pub why_no_subscriber : {T U : Type 0} → SubscriberConfig → ServicePorts T U → SubscriberCreateError
why_no_subscriber config ports = subscriber_refusal (buffer_of config.buffer_size ports.sizes) (subscriber_place ports)
