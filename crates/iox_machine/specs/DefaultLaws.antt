-- Which settings a service has that aren't named, for each pattern; and that a port is as it was named.
use Rattle.std.specs.Prelude.{ℕ, ◌≡◌, ◌≤◌, ◌⊎◌, true, max, List, [], ◌∷◌, Option, None, Some, unwrap_or}
use Rattle.std.specs.List.{AllByRecursion}
use Rattle.iox_machine.specs.Asked.{settings_of}
use Rattle.iox_machine.specs.Choices.{Choices}
use Rattle.iox_machine.specs.Phase.{Own, Published}
use Rattle.iox_machine.specs.Run.{Runs, Step}
use Rattle.iox_machine.specs.RunLaws.{CameAs}
use Rattle.iox_machine.specs.Service.{Publisher, Service, Subscriber}
use Rattle.iox_machine.specs.ServiceReplyLaws.{AreNamedOrDefault, IsNamedOr}
use Rattle.iox_machine.specs.State.{State, new_state}
use Rattle.iox_machine.specs.Table.{at}
use Rattle.iox_command.specs.DomainValues.declared.backpressure_strategy.BackpressureStrategy.TheVariants.{RetryUntilDelivered}
use Rattle.iox_command.specs.DomainValues.declared.data_segment.AllocationStrategy.TheVariants.{Static}
use Rattle.iox_command.specs.DomainValues.declared.degradation.DegradationAction.TheVariants.{Warn}
use Rattle.iox_command.specs.NegotiateBase.DescribeBase.declared.attribute.Attribute.{Attribute}
use Rattle.iox_command.specs.NegotiateBase.DescribeBase.declared.message_type.MessageTypeDetails.{MessageTypeDetails}
use Rattle.iox_command.specs.NegotiateBase.DescribeSettings.declared.static_config.Settings.{Settings}
use Rattle.iox_command.specs.NegotiateBase.DescribeSettings.declared.static_config.Settings.TheVariants as settings
use Rattle.iox_command.specs.NegotiateBase.DescribeSettings.declared.static_config.event.StaticConfig.{StaticConfig as EventConfig}
use Rattle.iox_command.specs.NegotiateBase.DescribeSettings.declared.static_config.publish_subscribe.StaticConfig.{StaticConfig}
use Rattle.iox_command.specs.NegotiateBase.DescribeSettings.declared.static_config.request_response.StaticConfig.{
  StaticConfig as RequestResponseConfig,
}
use Rattle.iox_command.specs.Patterns.{pattern_of}
use Rattle.iox_command.specs.declared.command.Command.{Command}
use Rattle.iox_command.specs.declared.command.Command.TheVariants as command
use Rattle.iox_command.specs.declared.port.PublisherOptions.{PublisherOptions}
use Rattle.iox_command.specs.declared.port.SubscriberOptions.{SubscriberOptions}
use Rattle.iox_command.specs.declared.reply.Reply.{Reply}
use Rattle.iox_command.specs.declared.reply.Reply.TheVariants as reply
use Rattle.iox_command.specs.declared.service.EventOptions.{EventOptions}
use Rattle.iox_command.specs.declared.service.NumberOrOff.{NumberOrOff}
use Rattle.iox_command.specs.declared.service.NumberOrOff.TheVariants.{Number}
use Rattle.iox_command.specs.declared.service.RequestResponseOptions.{RequestResponseOptions}
use Rattle.iox_command.specs.declared.service.ServiceOptions.{ServiceOptions}
use Rattle.iox_command.specs.declared.service.ServiceOptions.TheVariants as options
use Rattle.iox_command.specs.declared.step.StepBefore.{StepBefore}

-- ---- settings

-- The setting is the number that was named for it. It is off if that was named, or nothing.
abbrev pub IsNamedOrOff : Option NumberOrOff → Option ℕ → Type 0
IsNamedOrOff (Some (Number number)) given = given ≡ Some number
IsNamedOrOff other given = given ≡ None

-- These settings of an event are as named. What isn't named has its default: 16 notifiers, 16 listeners and 36 nodes; event ids up to
-- 2^32 - 1; and neither a deadline nor events of its own when a notifier is created, dropped or dead.
abbrev pub AreEventNamedOrDefault : EventOptions → EventConfig → Type 0
AreEventNamedOrDefault named given =
    IsNamedOrOff named.deadline given.deadline
    × IsNamedOr 16 named.max_notifiers given.max_notifiers × IsNamedOr 16 named.max_listeners given.max_listeners
    × (given.event_id_max_value ≡ unwrap_or named.event_id_max_value 4294967295)
    × IsNamedOrOff named.notifier_created_event given.notifier_created_event
    × IsNamedOrOff named.notifier_dropped_event given.notifier_dropped_event
    × IsNamedOrOff named.notifier_dead_event given.notifier_dead_event
    × IsNamedOr 36 named.max_nodes given.max_nodes

-- These settings of a request-response service are as named. What isn't named has its default: 2 servers, 8 clients and 20 nodes; 2 loaned
-- requests, 4 active requests, 2 waiting responses and 2 borrowed ones; safe overflow both ways; and requests without responses.
abbrev pub AreRequestResponseNamedOrDefault : MessageTypeDetails → RequestResponseOptions → RequestResponseConfig → Type 0
AreRequestResponseNamedOrDefault types named given =
    (given.request_types ≡ types) × (given.response_types ≡ types)
    × (given.enable_safe_overflow_for_requests ≡ unwrap_or named.enable_safe_overflow_for_requests true)
    × (given.enable_safe_overflow_for_responses ≡ unwrap_or named.enable_safe_overflow_for_responses true)
    × (given.enable_fire_and_forget_requests ≡ unwrap_or named.enable_fire_and_forget_requests true)
    × IsNamedOr 2 named.max_loaned_requests given.max_loaned_requests
    × IsNamedOr 4 named.max_active_requests_per_client given.max_active_requests_per_client
    × IsNamedOr 2 named.max_response_buffer_size given.max_response_buffer_size
    × IsNamedOr 2 named.max_servers given.max_servers × IsNamedOr 8 named.max_clients given.max_clients
    × IsNamedOr 2 named.max_borrowed_responses_per_pending_response given.max_borrowed_responses_per_pending_response
    × IsNamedOr 20 named.max_nodes given.max_nodes

-- These settings are of the pattern for which they are asked, and as named. What isn't named has its default.
abbrev pub AreAsked : MessageTypeDetails → ServiceOptions → Settings → Type 0
AreAsked types (options.PublishSubscribe named) (settings.PublishSubscribe given) = AreNamedOrDefault types named given
AreAsked types (options.Event named) (settings.Event given) = AreEventNamedOrDefault named given
AreAsked types (options.RequestResponse named) (settings.RequestResponse given) = AreRequestResponseNamedOrDefault types named given
AreAsked types named other = ⊥

-- The settings that a command asks for are as named, or have their defaults, for each pattern.
abbrev pub SettingsAreAsked : Type 0
SettingsAreAsked = (types : MessageTypeDetails) (named : ServiceOptions) → AreAsked types named (settings_of types named)

-- ---- ports

-- A publisher has the strategy, the handler's action, the action at a failed connection and the strategy to grow that were named for it. If
-- none was named, it retries until a message is delivered, warns at a failed connection, and doesn't grow. Its first segment has the
-- initial slice length that was named, or 1.
abbrev pub IsNamedAs : {T : Type 0} → PublisherOptions → Publisher T → Type 0
IsNamedAs named publisher =
    (publisher.strategy ≡ unwrap_or named.backpressure_strategy RetryUntilDelivered)
    × (publisher.handler ≡ named.backpressure_handler)
    × (publisher.degradation ≡ unwrap_or named.degradation_handler Warn)
    × (publisher.allocation ≡ unwrap_or named.allocation_strategy Static)
    × (1 ≤ publisher.segments)
    × (publisher.segments ≡ 1 → publisher.room ≡ unwrap_or named.initial_max_slice_len 1)

-- A subscriber has the buffer and the action at a failed connection that were named for it. If none was named, it has the buffer that its
-- service allows, and warns. A buffer of 0 counts as 1.
abbrev pub IsSubscriberNamedAs : SubscriberOptions → StaticConfig → Subscriber → Type 0
IsSubscriberNamedAs named settings subscriber =
    (subscriber.buffer_size ≡ max 1 (unwrap_or named.buffer_size settings.subscriber_max_buffer_size))
    × (subscriber.degradation ≡ unwrap_or named.degradation_handler Warn)

-- The command created the subscriber with this number, and named these options for it.
abbrev pub ComesAsSubscriber : {T : Type 0} → ℕ → SubscriberOptions → Command T → Reply T → Type 0
ComesAsSubscriber number options (command.Subscriber factory named) answer = (named ≡ options) × (answer ≡ reply.SubscriberMade number)
ComesAsSubscriber number options other answer = ⊥

module _ {T : Type 0} (types : MessageTypeDetails) (choices : Choices T) (buffer : ℕ) where
  -- In the run, the subscriber with this number was created, and these options were named for it.
  abbrev pub SubscriberCameAs : ℕ → SubscriberOptions → (asked : List (Command T)) (old : State T) (answers : List (Reply T))
      (new : State T) → Runs types choices buffer asked old answers new → Type 0
  SubscriberCameAs number options [] old answers new run = ⊥
  SubscriberCameAs number options (one ∷ more) old answers new run =
      ComesAsSubscriber number options one run.0 ⊎ SubscriberCameAs number options more run.1 run.2 new run.4

module _ {T : Type 0} (choices : Choices T) where
  -- A service that a node creates, of whatever pattern, has the settings that the command names, and defaults where it names none; also if
  -- other nodes act meanwhile.
  abbrev pub CreatesAsAsked : Type 0
  CreatesAsAsked = (types : MessageTypeDetails) (buffer node : ℕ) (name : List ℕ) (named : ServiceOptions) (attributes : List Attribute)
      (steps : List StepBefore) (old : State T) (number : ℕ) (new : State T)
      → Step types choices buffer (command.Create node name named attributes steps) old (reply.FactoryMade number) new
      → (life : ℕ) × (given : Settings)
      × (new.phases (pattern_of named) name
      ≡ Published life (record { settings = given; attributes = attributes }) ((Own node, 1) ∷ []))
      × AreAsked types named given

  -- In every run of a new machine, each publisher is as its command named it, for as long as its service lasts.
  abbrev pub PublishersAreAsNamed : Type 0
  PublishersAreAsNamed = (types : MessageTypeDetails) (buffer : ℕ) (asked : List (Command T)) (answers : List (Reply T)) (new : State T)
      (run : Runs types choices buffer asked new_state answers new)
      → AllByRecursion (λ (service : Service T). AllByRecursion (λ (entry : ℕ × Publisher T). (named : PublisherOptions)
      × CameAs types choices buffer entry.0 named asked new_state answers new run × IsNamedAs named entry.1) service.publishers)
      new.services

  -- In every run of a new machine, each subscriber is as its command named it, for as long as its service lasts.
  abbrev pub SubscribersAreAsNamed : Type 0
  SubscribersAreAsNamed = (types : MessageTypeDetails) (buffer : ℕ) (asked : List (Command T)) (answers : List (Reply T)) (new : State T)
      (run : Runs types choices buffer asked new_state answers new)
      → AllByRecursion (λ (service : Service T). (number : ℕ) (one : Subscriber) → at number service.subscribers ≡ Some one
      → (named : SubscriberOptions) × SubscriberCameAs types choices buffer number named asked new_state answers new run
      × IsSubscriberNamedAs named service.settings one) new.services
