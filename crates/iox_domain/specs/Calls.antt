-- The calls of a service's ports, each with what its contract says of it.
use Rattle.std.specs.Prelude.{ℕ, ◌≡◌, Bool, Option, Result}
use Rattle.iox_domain.specs.DomainValues.declared.backpressure.BackpressureDecision.{BackpressureDecision}
use Rattle.iox_domain.specs.DomainValues.declared.backpressure.BackpressureInfo.{BackpressureInfo}
use Rattle.iox_domain.specs.DomainValues.declared.connection_failure.ConnectionFailure.{ConnectionFailure}
use Rattle.iox_domain.specs.DomainValues.declared.create_error.PublisherCreateError.{PublisherCreateError}
use Rattle.iox_domain.specs.DomainValues.declared.create_error.SubscriberCreateError.{SubscriberCreateError}
use Rattle.iox_domain.specs.DomainValues.declared.degradation.DegradationAction.{DegradationAction}
use Rattle.iox_domain.specs.DomainValues.declared.degradation.DegradationInfo.{DegradationInfo}
use Rattle.iox_domain.specs.DomainValues.declared.port_error.LoanError.{LoanError}
use Rattle.iox_domain.specs.DomainValues.declared.port_error.ReceiveError.{ReceiveError}
use Rattle.iox_domain.specs.DomainValues.declared.port_error.SendError.{SendError}
use Rattle.iox_domain.specs.DomainValues.declared.port_owner.PortOwner.{PortOwner}
use Rattle.iox_domain.specs.DomainPorts.Messages.{Loan}
use Rattle.iox_domain.specs.DomainPorts.declared.meeting.Sent.{Sent}
use Rattle.iox_domain.specs.DomainPorts.declared.publisher_port.PublisherPort.{PublisherPort}
use Rattle.iox_domain.specs.DomainPorts.Publishers.{port_of}
use Rattle.iox_domain.specs.DomainPorts.declared.attached.Taken.{Taken}
use Rattle.iox_domain.specs.Lending.{LoansOne, written_in, gave_up_in}
use Rattle.iox_domain.specs.DomainValues.Sizes.{buffer_of}
use Rattle.iox_domain.specs.Making.{slots_needed, publisher_place, subscriber_place, CreatesPublisher, CreatesSubscriber}
use Rattle.iox_domain.specs.Ports.{AtPublisher, AtSubscriber}
use Rattle.iox_domain.specs.PortsPublishing.{SendsOne, RetriesOne, GivesUpOne}
use Rattle.iox_domain.specs.PortsPublishing as publishing
use Rattle.iox_domain.specs.Subscribers.{subscriber_of}
use Rattle.iox_domain.specs.PortsSubscribing.{HasSamplesOne, ReceivesOne}
use Rattle.iox_domain.specs.PortsSubscribing as subscribing
use Rattle.iox_domain.specs.declared.ports.making.PublisherConfig.{PublisherConfig}
use Rattle.iox_domain.specs.declared.ports.service_ports.ServicePorts.{ServicePorts}

-- A call that may change something: the port, the arguments, and the answer. `Writes` represents the four calls that write into a
-- loan: the loan is changed if its publisher passes a test.
pub data PortCall (T U : Type 0) : Type 0 where
  PublisherComes : (config : PublisherConfig) (user_header : U) (answer : Result ℕ PublisherCreateError) → PortCall T U
  SubscriberComes : (owner : PortOwner) (buffer_size : Option ℕ) (answer : Result ℕ SubscriberCreateError) → PortCall T U
  Lends : (publisher values elements : ℕ) (answer : Option (Result ℕ LoanError)) → PortCall T U
  Writes : (publisher slot : ℕ) (test : PublisherPort T U → Bool) (change : Loan T U → Loan T U) → PortCall T U
  GivesLoanUp : (publisher slot : ℕ) → PortCall T U
  PublisherUpdates : (publisher : ℕ) (answer : Option (Result (Unit {0}) ConnectionFailure)) → PortCall T U
  Sends : (publisher slot : ℕ) (answer : Option (Result Sent SendError)) → PortCall T U
  Retries : (publisher elapsed : ℕ) (answer : Option (Result Sent SendError)) → PortCall T U
  GivesSendUp : (publisher : ℕ) (answer : Option ℕ) → PortCall T U
  PublisherLeaves : (publisher : ℕ) (answer : Bool) → PortCall T U
  SubscriberUpdates : (subscriber : ℕ) (answer : Option (Result (Unit {0}) ConnectionFailure)) → PortCall T U
  AsksForSamples : (subscriber : ℕ) (answer : Option (Result Bool ConnectionFailure)) → PortCall T U
  Receives : (subscriber : ℕ) (answer : Option (Result (Option Taken) ReceiveError)) → PortCall T U
  Releases : (subscriber : ℕ) (sample : Taken) (answer : Bool) → PortCall T U
  SubscriberLeaves : (subscriber : ℕ) (answer : Bool) → PortCall T U

-- What the call answers and changes, as its contract says. Overrides and handlers answer as their traits allow.
abbrev pub Happens : {T U : Type 0} → (ℕ → ℕ → Type 0) → (DegradationInfo → DegradationAction → Type 0)
    → (BackpressureInfo → BackpressureDecision → Type 0) → PortCall T U → ServicePorts T U → ServicePorts T U → Type 0
Happens overrides may decide (PublisherComes config user_header answer) old new =
    CreatesPublisher overrides may config user_header (slots_needed config old) (publisher_place old) old answer new
Happens overrides may decide (SubscriberComes owner buffer_size answer) old new =
    CreatesSubscriber may owner (buffer_of buffer_size old.sizes) (subscriber_place old) old answer new
Happens overrides may decide (Lends number values elements answer) old new
    = AtPublisher number (LoansOne values elements) (port_of number old.publishers) old answer new
Happens overrides may decide (Writes number slot test change) old new = new ≡ written_in number test slot change old
Happens overrides may decide (GivesLoanUp number slot) old new = new ≡ gave_up_in number slot old
Happens overrides may decide (PublisherUpdates number answer) old new =
    AtPublisher number (publishing.UpdatesOne may old.subscriber_list) (port_of number old.publishers) old answer new
Happens overrides may decide (Sends number slot answer) old new =
    AtPublisher number (SendsOne may decide old.subscriber_list slot) (port_of number old.publishers) old answer new
Happens overrides may decide (Retries number elapsed answer) old new
    = AtPublisher number (RetriesOne decide elapsed) (port_of number old.publishers) old answer new
Happens overrides may decide (GivesSendUp number answer) old new
    = AtPublisher number GivesUpOne (port_of number old.publishers) old answer new
Happens overrides may decide (PublisherLeaves number answer) old new
    = publishing.LeavesAt number (port_of number old.publishers) old answer new
Happens overrides may decide (SubscriberUpdates number answer) old new =
    AtSubscriber number (subscribing.UpdatesOne may old.publisher_list) (subscriber_of number old.subscribers) old answer new
Happens overrides may decide (AsksForSamples number answer) old new =
    AtSubscriber number (HasSamplesOne may old.publisher_list) (subscriber_of number old.subscribers) old answer new
Happens overrides may decide (Receives number answer) old new =
    AtSubscriber number (ReceivesOne may old.publisher_list) (subscriber_of number old.subscribers) old answer new
Happens overrides may decide (Releases number sample answer) old new = subscribing.Releases number sample old answer new
Happens overrides may decide (SubscriberLeaves number answer) old new
    = subscribing.LeavesAt number (subscriber_of number old.subscribers) old answer new
