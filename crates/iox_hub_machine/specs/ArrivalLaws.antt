-- Theorems: at a command that creates a port, a hub does what the machine does.
use Rattle.std.specs.Prelude.{ℕ, ◌+◌, ◌-◌, ◌^◌, ◌<◌, ◌≤◌, ◌≡◌, true, min, List, Option, Some}
use Rattle.std.specs.Option.{unwrap_or}
use Rattle.iox_command.specs.DomainValues.Actions.{decision_of}
use Rattle.iox_command.specs.DomainValues.declared.backpressure.BackpressureAction.{BackpressureAction}
use Rattle.iox_command.specs.DomainValues.declared.backpressure.BackpressureDecision.{BackpressureDecision}
use Rattle.iox_command.specs.DomainValues.declared.backpressure.BackpressureInfo.{BackpressureInfo}
use Rattle.iox_command.specs.DomainValues.declared.backpressure_strategy.BackpressureStrategy.{BackpressureStrategy}
use Rattle.iox_command.specs.DomainValues.declared.backpressure_strategy.BackpressureStrategy.TheVariants.{RetryUntilDelivered}
use Rattle.iox_command.specs.DomainValues.declared.degradation.DegradationAction.{DegradationAction}
use Rattle.iox_command.specs.DomainValues.declared.degradation.DegradationAction.TheVariants.{Warn}
use Rattle.iox_command.specs.DomainValues.declared.degradation.DegradationCause.{DegradationCause}
use Rattle.iox_command.specs.DomainValues.declared.degradation.DegradationCause.TheVariants.{FailedToEstablishConnection}
use Rattle.iox_command.specs.DomainValues.declared.degradation.DegradationInfo.{DegradationInfo}
use Rattle.iox_command.specs.declared.command.Command.TheVariants as command
use Rattle.iox_command.specs.declared.port.PublisherOptions.{PublisherOptions}
use Rattle.iox_command.specs.declared.port.SubscriberOptions.{SubscriberOptions}
use Rattle.iox_command.specs.declared.reply.Reply.TheVariants as reply
use Rattle.iox_domain.specs.Rolls.{may_change}
use Rattle.iox_domain.specs.declared.domain_id.DomainId.{DomainId}
use Rattle.iox_domain.specs.declared.ports.service_ports.ServicePorts.{ServicePorts}
use Rattle.iox_hub_base.specs.AsHome.{hub_ports}
use Rattle.iox_hub_commands.specs.Agreements.{AreOfOneAgreement}
use Rattle.iox_hub_commands.specs.Grown.{HaveGrown}
use Rattle.iox_hub_commands.specs.Naming.{publisher_handlers, subscriber_handler}
use Rattle.iox_hub_commands.specs.declared.numbered_hub.NumberedHub.{NumberedHub}
use Rattle.iox_hub_commands.specs.Terms.{Terms}
use Rattle.iox_hub_machine.specs.ServiceLaws.{FollowsIf}
use Rattle.iox_machine.specs.Choices.{Choices}

-- Handlers that are made of an action answer this action at a failed connection.
abbrev pub AnswersAsFixed : {D : Type 0} → (DegradationAction → D)
    → (D → DegradationCause → DegradationInfo → DegradationAction → Type 0) → Type 0
AnswersAsFixed fixed degrades = (named answered : DegradationAction) (info : DegradationInfo)
    → degrades (fixed named) FailedToEstablishConnection info answered → answered ≡ named

-- Handlers that are made of a strategy and of actions decide by these at a full mailbox, and answer the action for it at a failed
-- connection.
pub record DecidesAsFixed {B : Type 0} (fixed : BackpressureStrategy → Option BackpressureAction → DegradationAction → B)
    (degrades : B → DegradationCause → DegradationInfo → DegradationAction → Type 0)
    (decides : B → BackpressureInfo → BackpressureDecision → Type 0) : Type 0 where
  pub failed : (strategy : BackpressureStrategy) (handler : Option BackpressureAction) (named answered : DegradationAction)
      (info : DegradationInfo)
      → degrades (fixed strategy handler named) FailedToEstablishConnection info answered → answered ≡ named
  pub full : (strategy : BackpressureStrategy) (handler : Option BackpressureAction) (named : DegradationAction) (info : BackpressureInfo)
      (decision : BackpressureDecision)
      → decides (fixed strategy handler named) info decision → decision ≡ decision_of strategy handler

-- Whatever the handler `who` may answer at a failed connection may be chosen for the subscriber with this number, created with these
-- options.
abbrev pub AnswersAsChosen : {T D : Type 0} → Choices T → (D → DegradationCause → DegradationInfo → DegradationAction → Type 0) → D
    → (subscriber : ℕ) → SubscriberOptions → Type 0
AnswersAsChosen choices degrades who subscriber options = (info : DegradationInfo) (action : DegradationAction)
    → degrades who FailedToEstablishConnection info action
    → choices.subscriber_acts subscriber (unwrap_or options.degradation_handler Warn) action

-- Whatever the handlers `who` may answer at a failed connection, and decide at a full mailbox, may be chosen for the publisher with this
-- number, created with these options. They are asked with the machine's number of retries, or with 2^64 - 1 if there were more.
pub record DecidesAsChosen {T B : Type 0} (choices : Choices T)
    (degrades : B → DegradationCause → DegradationInfo → DegradationAction → Type 0)
    (decides : B → BackpressureInfo → BackpressureDecision → Type 0) (who : B) (publisher : ℕ) (options : PublisherOptions) : Type 0 where
  pub failed : (info : DegradationInfo) (action : DegradationAction) → degrades who FailedToEstablishConnection info action
      → choices.publisher_acts publisher (unwrap_or options.degradation_handler Warn) action
  pub full : (info : BackpressureInfo) (decision : BackpressureDecision) (retries : ℕ) → decides who info decision
      → info.retries ≡ min retries (2 ^ 64 - 1)
      → choices.publisher_decides publisher retries info.elapsed_time
      (decision_of (unwrap_or options.backpressure_strategy RetryUntilDelivered) options.backpressure_handler) decision

-- For each port that is created later, what was named may be chosen.
abbrev pub MayBeNamedLater : {T U B D : Type 0} → Choices T → NumberedHub T U B D → Type 0
MayBeNamedLater choices hub =
    ((publisher retries elapsed : ℕ) (named : BackpressureDecision) → hub.made.publishers.next ≤ publisher
    → choices.publisher_decides publisher retries elapsed named named)
    × ((publisher : ℕ) (named : DegradationAction) → hub.made.publishers.next ≤ publisher → choices.publisher_acts publisher named named)
    × ((subscriber : ℕ) (named : DegradationAction) → hub.made.subscribers.next ≤ subscriber
    → choices.subscriber_acts subscriber named named)

-- The service can count one more port, and one more change of each of its port lists.
abbrev pub CanBeCounted : {T U : Type 0} → ServicePorts T U → Type 0
CanBeCounted ports = (ports.next_port + 1 < 2 ^ 64) × (may_change ports.publisher_list ≡ true) × (may_change ports.subscriber_list ≡ true)

-- A port can be created in the hub: its domains have grown by calls of ports, each service has one agreement, and the port can be counted.
pub record MayCome {T U B D : Type 0} (hub : NumberedHub T U B D) : Type 0 where
  pub grown : HaveGrown hub.hub.services.domains
  pub agreed : AreOfOneAgreement hub.factories.made hub.hub
  pub counted : (id : DomainId) (ports : ServicePorts T U) → hub_ports id hub.hub ≡ Some ports → CanBeCounted ports

-- The parameters: the terms of the hub, and the choices; the default values are those of the choices.
module _ {T U B D : Type 0} (terms : Terms T U B D) (choices : Choices T) where
  -- The machine does the same when a subscriber of a factory's service is created, or refused, or when the command is skipped. This
  -- requires that whatever its handler may answer may be chosen for the subscriber with the number that it gets.
  abbrev pub SubscriberComingIsFollowed : Type 0
  SubscriberComingIsFollowed = (names : List (List ℕ)) (factory : ℕ) (options : SubscriberOptions)
      → FollowsIf terms choices names (command.Subscriber factory options)
      (λ old answer. MayCome old × (answer ≡ reply.SubscriberMade old.made.subscribers.next
      → AnswersAsChosen choices terms.reader_degrades (subscriber_handler terms.fixed_reader options) old.made.subscribers.next options))

  -- The machine does the same when a publisher of a factory's service is created, or refused, or when the command is skipped. This requires
  -- that whatever its handlers may answer and decide may be chosen for the publisher with the number that it gets.
  abbrev pub PublisherComingIsFollowed : Type 0
  PublisherComingIsFollowed = (names : List (List ℕ)) (factory : ℕ) (options : PublisherOptions)
      → FollowsIf terms choices names (command.Publisher factory options)
      (λ old answer. MayCome old × (answer ≡ reply.PublisherMade old.made.publishers.next
      → DecidesAsChosen choices terms.degrades terms.decides (publisher_handlers terms.fixed options) old.made.publishers.next options))
