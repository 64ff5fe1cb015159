-- How each call changes the counts of what is alive.
use Rattle.std.specs.Prelude.{ℕ, ◌+◌, ◌^◌, ◌<◌, ◌≡◌, Bool, true, is_some, Option, None, Some, Result, Ok, Err}
use Rattle.iox_domain.specs.DomainValues.declared.backpressure.BackpressureDecision.{BackpressureDecision}
use Rattle.iox_domain.specs.DomainValues.declared.backpressure.BackpressureInfo.{BackpressureInfo}
use Rattle.iox_domain.specs.DomainValues.declared.connection_failure.ConnectionFailure.{ConnectionFailure}
use Rattle.iox_domain.specs.DomainValues.declared.create_error.SubscriberCreateError.{SubscriberCreateError}
use Rattle.iox_domain.specs.DomainValues.declared.degradation.DegradationAction.{DegradationAction}
use Rattle.iox_domain.specs.DomainValues.declared.degradation.DegradationInfo.{DegradationInfo}
use Rattle.iox_domain.specs.DomainValues.declared.port_error.LoanError.{LoanError}
use Rattle.iox_domain.specs.DomainValues.declared.port_error.ReceiveError.{ReceiveError}
use Rattle.iox_domain.specs.DomainValues.declared.port_error.SendError.{SendError}
use Rattle.iox_domain.specs.DomainValues.declared.port_owner.PortOwner.{PortOwner}
use Rattle.iox_domain.specs.DomainPorts.Messages.{Loan}
use Rattle.iox_domain.specs.DomainPorts.Writing.{place_of}
use Rattle.iox_domain.specs.DomainPorts.declared.meeting.Sent.{Sent}
use Rattle.iox_domain.specs.DomainPorts.declared.meeting.Sent.TheVariants as sent
use Rattle.iox_domain.specs.DomainPorts.declared.publisher_port.PublisherPort.{PublisherPort}
use Rattle.iox_domain.specs.DomainPorts.Living.{counted}
use Rattle.iox_domain.specs.DomainPorts.Publishers.{port_of}
use Rattle.iox_domain.specs.DomainPorts.declared.attached.Taken.{Taken}
use Rattle.iox_domain.specs.DomainPorts.declared.subscriber_port.SubscriberPort.{SubscriberPort}
use Rattle.iox_domain.specs.Lending.{LoansOne, written_in, gave_up_in}
use Rattle.iox_domain.specs.Living.{living}
use Rattle.iox_domain.specs.Making.{CreatesPublisher, CreatesSubscriber}
use Rattle.iox_domain.specs.Ports.{AtPublisher, AtSubscriber}
use Rattle.iox_domain.specs.PortsPublishing.{UpdatesOne, SendsOne, RetriesOne, GivesUpOne, LeavesAt}
use Rattle.iox_domain.specs.Subscribers.{subscriber_of}
use Rattle.iox_domain.specs.PortsSubscribing.{HasSamplesOne, ReceivesOne, Releases}
use Rattle.iox_domain.specs.PortsSubscribing as subscribing
use Rattle.iox_domain.specs.declared.ports.making.PublisherConfig.{PublisherConfig}
use Rattle.iox_domain.specs.declared.ports.service_ports.ServicePorts.{ServicePorts}

-- Of each owner, and of all owners together, as much is alive as before.
abbrev pub AsMuchLives : {T U : Type 0} → ServicePorts T U → ServicePorts T U → Type 0
AsMuchLives old new = (owner : Option ℕ) → living owner new ≡ living owner old

-- One more is alive of this owner, and of all owners together; of each other owner as much as before.
abbrev pub OneMoreLives : {T U : Type 0} → ℕ → ServicePorts T U → ServicePorts T U → Type 0
OneMoreLives number old new = (owner : Option ℕ) → living owner new ≡ living owner old + counted owner number 1

-- One less is alive of this owner, and of all owners together; of each other owner as much as before.
abbrev pub OneLessLives : {T U : Type 0} → ℕ → ServicePorts T U → ServicePorts T U → Type 0
OneLessLives number old new = (owner : Option ℕ) → living owner new + counted owner number 1 ≡ living owner old

-- A loan that was made adds one.
abbrev pub LoanAdds : {T U : Type 0} → ℕ → Option (Result ℕ LoanError) → ServicePorts T U → ServicePorts T U → Type 0
LoanAdds number None old new = AsMuchLives old new
LoanAdds number (Some (Err error)) old new = AsMuchLives old new
LoanAdds number (Some (Ok slot)) old new = OneMoreLives number old new

-- A finished or refused send lowers the count of what is alive by one, since its loan is gone. A blocked send counts as much as its loan
-- did.
abbrev pub SendTakes : {T U : Type 0} → ℕ → Option (Result Sent SendError) → ServicePorts T U → ServicePorts T U → Type 0
SendTakes number None old new = AsMuchLives old new
SendTakes number (Some (Ok sent.Blocked)) old new = AsMuchLives old new
SendTakes number (Some (Ok (sent.Delivered connections))) old new = OneLessLives number old new
SendTakes number (Some (Err error)) old new = OneLessLives number old new

-- A send that is given up takes one away.
abbrev pub GivingUpTakes : {T U : Type 0} → ℕ → Option ℕ → ServicePorts T U → ServicePorts T U → Type 0
GivingUpTakes number None old new = AsMuchLives old new
GivingUpTakes number (Some delivered) old new = OneLessLives number old new

-- How each call at a publisher changes the count of what is alive of its owner.
pub record PublisherSteps (T U : Type 0) (may_degrade : DegradationInfo → DegradationAction → Type 0) (may : BackpressureInfo
    → BackpressureDecision → Type 0) : Type 0 where
  pub loan : (number values elements : ℕ) (port : PublisherPort T U) (old new : ServicePorts T U) (answer : Option (Result ℕ LoanError))
      → port_of number old.publishers ≡ Some port
      → AtPublisher number (LoansOne values elements) (Some port) old answer new → LoanAdds port.owner.number answer old new
  pub write : (number slot : ℕ) (test : PublisherPort T U → Bool) (change : Loan T U → Loan T U) (old : ServicePorts T U)
      → AsMuchLives old (written_in number test slot change old)
  pub drop : (number slot : ℕ) (port : PublisherPort T U) (old : ServicePorts T U) → port_of number old.publishers ≡ Some port
      → is_some (place_of slot port) ≡ true
      → OneLessLives port.owner.number old (gave_up_in number slot old)
  pub update : (number : ℕ) (port : PublisherPort T U) (old new : ServicePorts T U)
      (answer : Option (Result (Unit {0}) ConnectionFailure)) → port_of number old.publishers ≡ Some port
      → AtPublisher number (UpdatesOne may_degrade old.subscriber_list) (Some port) old answer new → AsMuchLives old new
  pub send : (number slot : ℕ) (port : PublisherPort T U) (old new : ServicePorts T U) (answer : Option (Result Sent SendError))
      → port_of number old.publishers ≡ Some port
      → AtPublisher number (SendsOne may_degrade may old.subscriber_list slot) (Some port) old answer new
      → SendTakes port.owner.number answer old new
  pub retry : (number elapsed : ℕ) (port : PublisherPort T U) (old new : ServicePorts T U) (answer : Option (Result Sent SendError))
      → port_of number old.publishers ≡ Some port
      → AtPublisher number (RetriesOne may elapsed) (Some port) old answer new → SendTakes port.owner.number answer old new
  pub give_up : (number : ℕ) (port : PublisherPort T U) (old new : ServicePorts T U) (answer : Option ℕ)
      → port_of number old.publishers ≡ Some port
      → AtPublisher number GivesUpOne (Some port) old answer new → GivingUpTakes port.owner.number answer old new
  pub leave : (number : ℕ) (port : PublisherPort T U) (old new : ServicePorts T U) → port_of number old.publishers ≡ Some port
      → LeavesAt number (Some port) old true new → OneLessLives port.owner.number old new

-- A sample that was received adds one.
abbrev pub ReceivingAdds : {T U : Type 0} → ℕ → Option (Result (Option Taken) ReceiveError) → ServicePorts T U → ServicePorts T U → Type 0
ReceivingAdds number None old new = AsMuchLives old new
ReceivingAdds number (Some (Err error)) old new = AsMuchLives old new
ReceivingAdds number (Some (Ok None)) old new = AsMuchLives old new
ReceivingAdds number (Some (Ok (Some taken))) old new = OneMoreLives number old new

-- How each call at a subscriber changes the count of what is alive of its owner. Held samples are counted up to 2^64 - 1.
pub record SubscriberSteps (T U : Type 0) (may : DegradationInfo → DegradationAction → Type 0) : Type 0 where
  pub update : (number : ℕ) (port : SubscriberPort) (old new : ServicePorts T U) (answer : Option (Result (Unit {0}) ConnectionFailure))
      → subscriber_of number old.subscribers ≡ Some port
      → AtSubscriber number (subscribing.UpdatesOne may old.publisher_list) (Some port) old answer new → AsMuchLives old new
  pub has_samples : (number : ℕ) (port : SubscriberPort) (old new : ServicePorts T U) (answer : Option (Result Bool ConnectionFailure))
      → subscriber_of number old.subscribers ≡ Some port
      → AtSubscriber number (HasSamplesOne may old.publisher_list) (Some port) old answer new → AsMuchLives old new
  pub receive : (number : ℕ) (port : SubscriberPort) (old new : ServicePorts T U) (answer : Option (Result (Option Taken) ReceiveError))
      → subscriber_of number old.subscribers ≡ Some port
      → port.held + 1 < 2 ^ 64 → AtSubscriber number (ReceivesOne may old.publisher_list) (Some port) old answer new
      → ReceivingAdds port.owner.number answer old new
  pub release : (number : ℕ) (sample : Taken) (port : SubscriberPort) (old new : ServicePorts T U)
      → subscriber_of number old.subscribers ≡ Some port → 0 < port.held
      → Releases number sample old true new → OneLessLives port.owner.number old new
  pub leave : (number : ℕ) (port : SubscriberPort) (old new : ServicePorts T U) → subscriber_of number old.subscribers ≡ Some port
      → subscribing.LeavesAt number (Some port) old true new → OneLessLives port.owner.number old new

-- A port that is created, under a new number, adds one.
pub record CreatingSteps (T U : Type 0) (overrides : ℕ → ℕ → Type 0) (may : DegradationInfo → DegradationAction → Type 0) : Type 0 where
  pub publisher : (config : PublisherConfig) (user_header : U) (needed place : Option ℕ) (number : ℕ) (old new : ServicePorts T U)
      → port_of old.next_port old.publishers ≡ None
      → CreatesPublisher overrides may config user_header needed place old (Ok number) new → OneMoreLives config.owner.number old new
  pub subscriber : (owner : PortOwner) (buffer_size : Result ℕ SubscriberCreateError) (place : Option ℕ) (number : ℕ)
      (old new : ServicePorts T U) → subscriber_of old.next_port old.subscribers ≡ None
      → CreatesSubscriber may owner buffer_size place old (Ok number) new → OneMoreLives owner.number old new
