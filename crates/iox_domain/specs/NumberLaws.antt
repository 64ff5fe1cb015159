-- Each number is given to at most one port.
use Rattle.std.specs.Prelude.{ℕ, ◌<◌, ◌≡◌, Bool, All, Option, None, Result}
use Rattle.std.specs.Map.{keys_of}
use Rattle.iox_domain.specs.DomainValues.declared.backpressure.BackpressureDecision.{BackpressureDecision}
use Rattle.iox_domain.specs.DomainValues.declared.backpressure.BackpressureInfo.{BackpressureInfo}
use Rattle.iox_domain.specs.DomainValues.declared.connection_failure.ConnectionFailure.{ConnectionFailure}
use Rattle.iox_domain.specs.DomainValues.declared.create_error.PublisherCreateError.{PublisherCreateError}
use Rattle.iox_domain.specs.DomainValues.declared.create_error.SubscriberCreateError.{SubscriberCreateError}
use Rattle.iox_domain.specs.DomainValues.declared.degradation.DegradationAction.{DegradationAction}
use Rattle.iox_domain.specs.DomainValues.declared.degradation.DegradationInfo.{DegradationInfo}
use Rattle.iox_domain.specs.DomainValues.declared.port_error.LoanError.{LoanError}
use Rattle.iox_domain.specs.DomainValues.declared.port_error.ReceiveError.{ReceiveError}
use Rattle.iox_domain.specs.DomainValues.declared.port_error.SendError.{SendError}
use Rattle.iox_domain.specs.DomainValues.declared.port_owner.PortOwner.{PortOwner}
use Rattle.iox_domain.specs.DomainValues.declared.service_sizes.ServiceSizes.{ServiceSizes}
use Rattle.iox_domain.specs.DomainPorts.Messages.{Loan}
use Rattle.iox_domain.specs.DomainPorts.declared.meeting.Sent.{Sent}
use Rattle.iox_domain.specs.DomainPorts.declared.publisher_port.PublisherPort.{PublisherPort}
use Rattle.iox_domain.specs.DomainPorts.Publishers.{port_of}
use Rattle.iox_domain.specs.DomainPorts.declared.attached.Taken.{Taken}
use Rattle.iox_domain.specs.Lending.{LoansOne, written_in, gave_up_in}
use Rattle.iox_domain.specs.Making.{CreatesPublisher, CreatesSubscriber}
use Rattle.iox_domain.specs.Ports.{no_ports, AtPublisher, AtSubscriber}
use Rattle.iox_domain.specs.PortsPublishing.{SendsOne, RetriesOne, GivesUpOne}
use Rattle.iox_domain.specs.PortsPublishing as publishing
use Rattle.iox_domain.specs.Subscribers.{subscriber_of}
use Rattle.iox_domain.specs.PortsSubscribing.{HasSamplesOne, ReceivesOne, Releases}
use Rattle.iox_domain.specs.PortsSubscribing as subscribing
use Rattle.iox_domain.specs.declared.ports.making.PublisherConfig.{PublisherConfig}
use Rattle.iox_domain.specs.declared.ports.service_ports.ServicePorts.{ServicePorts}

-- The number of each port is below the next one.
abbrev pub IsNumbered : {T U : Type 0} → ServicePorts T U → Type 0
IsNumbered ports = All (λ number. number < ports.next_port) (keys_of ports.publishers)
    × All (λ number. number < ports.next_port) (keys_of ports.subscribers)

-- The number of each port is below the next one in a new service, and after each call; so no port has the next number yet.
pub record NumbersStay (T U : Type 0) (overrides : ℕ → ℕ → Type 0) (may_degrade : DegradationInfo → DegradationAction
    → Type 0) (may : BackpressureInfo → BackpressureDecision → Type 0) : Type 0 where
  pub new : (service : ℕ) (sizes : ServiceSizes) → IsNumbered {T = T} {U = U} (no_ports service sizes)
  pub next : (ports : ServicePorts T U) → IsNumbered ports → (port_of ports.next_port ports.publishers ≡ None)
      × (subscriber_of ports.next_port ports.subscribers ≡ None)
  pub create_publisher : (config : PublisherConfig) (user_header : U) (needed place : Option ℕ) (old new : ServicePorts T U)
      (answer : Result ℕ PublisherCreateError) → IsNumbered old
      → CreatesPublisher overrides may_degrade config user_header needed place old answer new → IsNumbered new
  pub create_subscriber : (owner : PortOwner) (buffer_size : Result ℕ SubscriberCreateError) (place : Option ℕ)
      (old new : ServicePorts T U) (answer : Result ℕ SubscriberCreateError) → IsNumbered old
      → CreatesSubscriber may_degrade owner buffer_size place old answer new → IsNumbered new
  pub loan : (number values elements : ℕ) (old new : ServicePorts T U) (answer : Option (Result ℕ LoanError)) → IsNumbered old
      → AtPublisher number (LoansOne values elements) (port_of number old.publishers) old answer new → IsNumbered new
  pub write : (number slot : ℕ) (test : PublisherPort T U → Bool) (change : Loan T U → Loan T U) (old : ServicePorts T U)
      → IsNumbered old → IsNumbered (written_in number test slot change old)
  pub drop_loan : (number slot : ℕ) (old : ServicePorts T U) → IsNumbered old → IsNumbered (gave_up_in number slot old)
  pub update_publisher : (number : ℕ) (old new : ServicePorts T U) (answer : Option (Result (Unit {0}) ConnectionFailure)) → IsNumbered old
      → AtPublisher number (publishing.UpdatesOne may_degrade old.subscriber_list) (port_of number old.publishers) old answer new
      → IsNumbered new
  pub send : (number slot : ℕ) (old new : ServicePorts T U) (answer : Option (Result Sent SendError)) → IsNumbered old
      → AtPublisher number (SendsOne may_degrade may old.subscriber_list slot) (port_of number old.publishers) old answer new
      → IsNumbered new
  pub retry : (number elapsed : ℕ) (old new : ServicePorts T U) (answer : Option (Result Sent SendError)) → IsNumbered old
      → AtPublisher number (RetriesOne may elapsed) (port_of number old.publishers) old answer new → IsNumbered new
  pub give_up : (number : ℕ) (old new : ServicePorts T U) (answer : Option ℕ) → IsNumbered old
      → AtPublisher number GivesUpOne (port_of number old.publishers) old answer new → IsNumbered new
  pub leave_publisher : (number : ℕ) (old new : ServicePorts T U) (answer : Bool) → IsNumbered old
      → publishing.LeavesAt number (port_of number old.publishers) old answer new → IsNumbered new
  pub update_subscriber : (number : ℕ) (old new : ServicePorts T U) (answer : Option (Result (Unit {0}) ConnectionFailure)) → IsNumbered old
      → AtSubscriber number (subscribing.UpdatesOne may_degrade old.publisher_list) (subscriber_of number old.subscribers) old answer
      new → IsNumbered new
  pub has_samples : (number : ℕ) (old new : ServicePorts T U) (answer : Option (Result Bool ConnectionFailure)) → IsNumbered old
      → AtSubscriber number (HasSamplesOne may_degrade old.publisher_list) (subscriber_of number old.subscribers) old answer new
      → IsNumbered new
  pub receive : (number : ℕ) (old new : ServicePorts T U) (answer : Option (Result (Option Taken) ReceiveError)) → IsNumbered old
      → AtSubscriber number (ReceivesOne may_degrade old.publisher_list) (subscriber_of number old.subscribers) old answer new
      → IsNumbered new
  pub release : (number : ℕ) (sample : Taken) (old new : ServicePorts T U) (answer : Bool) → IsNumbered old
      → Releases number sample old answer new → IsNumbered new
  pub leave_subscriber : (number : ℕ) (old new : ServicePorts T U) (answer : Bool) → IsNumbered old
      → subscribing.LeavesAt number (subscriber_of number old.subscribers) old answer new → IsNumbered new
