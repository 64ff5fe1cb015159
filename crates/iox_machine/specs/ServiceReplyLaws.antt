-- What a creation and an opening answer while no other node acts, by the phase of the pattern and name; and which settings aren't named.
use Rattle.std.specs.Prelude.{ℕ, ◌+◌, ◌≡◌, ◌≤◌, ◌⊎◌, true, false, ◌||◌, nat_lt, List, [], ◌∷◌, length, Option, None, Some, unwrap_or}
use Rattle.std.specs.Prelude.{MatchBool}
use Rattle.std.specs.Prelude.{MatchOption, MatchResult}
use Rattle.iox_machine.specs.Agreement.{unfit, verdict}
use Rattle.iox_machine.specs.Asked.{settings_of}
use Rattle.iox_machine.specs.Choices.{Choices}
use Rattle.iox_machine.specs.OnceLaws.{is_skipped}
use Rattle.iox_machine.specs.Phase.{Own, Phase, Absent, BeingMade, Published, Emptied, is_in}
use Rattle.iox_machine.specs.Run.{Step}
use Rattle.iox_machine.specs.State.{State}
use Rattle.iox_command.specs.NegotiateBase.DescribeBase.Attributes.{Required}
use Rattle.iox_command.specs.NegotiateBase.DescribeBase.declared.attribute.Attribute.{Attribute}
use Rattle.iox_command.specs.NegotiateBase.DescribeBase.declared.message_type.MessageTypeDetails.{MessageTypeDetails}
use Rattle.iox_command.specs.NegotiateBase.DescribeBase.declared.pattern.MessagingPattern.TheVariants as pattern
use Rattle.iox_command.specs.NegotiateBase.DescribeSettings.Agreement.{max_nodes_of}
use Rattle.iox_command.specs.NegotiateBase.DescribeSettings.declared.static_config.Settings.TheVariants as settings
use Rattle.iox_command.specs.NegotiateBase.DescribeSettings.declared.static_config.publish_subscribe.StaticConfig.{StaticConfig}
use Rattle.iox_command.specs.NegotiateBase.declared.errors.event.EventCreateError.{EventCreateError}
use Rattle.iox_command.specs.NegotiateBase.declared.errors.event.EventCreateError.TheVariants as event_create
use Rattle.iox_command.specs.NegotiateBase.declared.errors.event.EventOpenError.{EventOpenError}
use Rattle.iox_command.specs.NegotiateBase.declared.errors.event.EventOpenError.TheVariants as event_open
use Rattle.iox_command.specs.NegotiateBase.declared.errors.event.EventOpenOrCreateError.TheVariants as event_either
use Rattle.iox_command.specs.NegotiateBase.declared.errors.publish_subscribe.PublishSubscribeCreateError.{PublishSubscribeCreateError}
use Rattle.iox_command.specs.NegotiateBase.declared.errors.publish_subscribe.PublishSubscribeCreateError.TheVariants as
    publish_subscribe_create
use Rattle.iox_command.specs.NegotiateBase.declared.errors.publish_subscribe.PublishSubscribeOpenError.{PublishSubscribeOpenError}
use Rattle.iox_command.specs.NegotiateBase.declared.errors.publish_subscribe.PublishSubscribeOpenError.TheVariants as publish_subscribe_open
use Rattle.iox_command.specs.NegotiateBase.declared.errors.publish_subscribe.PublishSubscribeOpenOrCreateError.TheVariants as
    publish_subscribe_either
use Rattle.iox_command.specs.NegotiateBase.declared.errors.request_response.RequestResponseCreateError.{RequestResponseCreateError}
use Rattle.iox_command.specs.NegotiateBase.declared.errors.request_response.RequestResponseCreateError.TheVariants as
    request_response_create
use Rattle.iox_command.specs.NegotiateBase.declared.errors.request_response.RequestResponseOpenError.{RequestResponseOpenError}
use Rattle.iox_command.specs.NegotiateBase.declared.errors.request_response.RequestResponseOpenError.TheVariants as request_response_open
use Rattle.iox_command.specs.NegotiateBase.declared.errors.request_response.RequestResponseOpenOrCreateError.TheVariants as
    request_response_either
use Rattle.iox_command.specs.NegotiateBase.declared.failure.CreateFailure.{CreateFailure}
use Rattle.iox_command.specs.NegotiateBase.declared.failure.CreateFailure.TheVariants.{InternalFailure}
use Rattle.iox_command.specs.Patterns.{pattern_of}
use Rattle.iox_command.specs.declared.command.Command.TheVariants as command
use Rattle.iox_command.specs.declared.refusal.Refusal.{Refusal}
use Rattle.iox_command.specs.declared.refusal.Refusal.TheVariants as refusal
use Rattle.iox_command.specs.declared.reply.Reply.{Reply}
use Rattle.iox_command.specs.declared.reply.Reply.TheVariants as reply
use Rattle.iox_command.specs.declared.service.PublishSubscribeOptions.{PublishSubscribeOptions}
use Rattle.iox_command.specs.declared.service.ServiceOptions.{ServiceOptions}
use Rattle.iox_command.specs.declared.service.ServiceOptions.TheVariants as options

-- The refusal of a creation by the error of its pattern.
abbrev pub create_told : ServiceOptions → PublishSubscribeCreateError → EventCreateError → RequestResponseCreateError → Refusal
create_told (options.PublishSubscribe named) one two three = refusal.PublishSubscribeCreate one
create_told (options.Event named) one two three = refusal.EventCreate two
create_told (options.RequestResponse named) one two three = refusal.RequestResponseCreate three

-- The refusal of an opening by the error of its pattern.
abbrev pub open_told : ServiceOptions → PublishSubscribeOpenError → EventOpenError → RequestResponseOpenError → Refusal
open_told (options.PublishSubscribe named) one two three = refusal.PublishSubscribeOpen one
open_told (options.Event named) one two three = refusal.EventOpen two
open_told (options.RequestResponse named) one two three = refusal.RequestResponseOpen three

-- The refusal of settings that are impossible: a number isn't within its limit, or the buffer is shorter than the history.
abbrev pub unfit_told : ServiceOptions → CreateFailure → Refusal
unfit_told named InternalFailure =
    create_told named publish_subscribe_create.InternalFailure event_create.InternalFailure request_response_create.InternalFailure
unfit_told named other = refusal.PublishSubscribeCreate publish_subscribe_create.SubscriberBufferMustBeLargerThanHistorySize

module _ {T : Type 0} (answer : Reply T) (number : ℕ) (named : ServiceOptions) where
  -- What a creation answers to possible settings, if memory suffices: the number of the factory if the phase is absent; that the service
  -- hangs in creation if a node makes it; and that the service exists if it is published or emptied.
  abbrev pub CreationAnswers : Phase → Type 0
  CreationAnswers (Absent lives) = answer ≡ reply.FactoryMade number
  CreationAnswers (BeingMade life by) =
      answer ≡ reply.Refused (create_told named publish_subscribe_create.HangsInCreation event_create.HangsInCreation
      request_response_create.HangsInCreation)
  CreationAnswers found =
      answer ≡ reply.Refused (create_told named publish_subscribe_create.AlreadyExists event_create.AlreadyExists
      request_response_create.AlreadyExists)

  -- What an opening by this node answers, if memory suffices: that the service doesn't exist where the phase is absent, and that it hangs
  -- in creation where a node makes it. Otherwise the first clause that isn't met; or if all are met, that the service is marked for
  -- destruction where it is emptied, that too many nodes are in where the node isn't in and no place is free, or the number of the factory.
  abbrev pub OpeningAnswers : MessageTypeDetails → Required → ℕ → Phase → Type 0
  OpeningAnswers types required node (Absent lives) =
      answer ≡ reply.Refused (open_told named publish_subscribe_open.DoesNotExist event_open.DoesNotExist
      request_response_open.DoesNotExist)
  OpeningAnswers types required node (BeingMade life by) =
      answer ≡ reply.Refused (open_told named publish_subscribe_open.HangsInCreation event_open.HangsInCreation
      request_response_open.HangsInCreation)
  OpeningAnswers types required node (Published life agreed nodes) =
      MatchResult (verdict types named required agreed)
      (λ met. MatchBool (is_in (Own node) nodes || nat_lt (length nodes) (max_nodes_of agreed.settings))
      (answer ≡ reply.FactoryMade number)
      (answer ≡ reply.Refused (open_told named publish_subscribe_open.ExceedsMaxNumberOfNodes event_open.ExceedsMaxNumberOfNodes
      request_response_open.ExceedsMaxNumberOfNodes)))
      (λ unmet. answer ≡ reply.Refused unmet)
  OpeningAnswers types required node (Emptied life agreed by) =
      MatchResult (verdict types named required agreed)
      (λ met. answer ≡ reply.Refused (open_told named publish_subscribe_open.IsMarkedForDestruction event_open.IsMarkedForDestruction
      request_response_open.IsMarkedForDestruction))
      (λ unmet. answer ≡ reply.Refused unmet)

-- A reply to `open_or_create` that reports what one to an opening would report: a refusal is within the error of its pattern for both.
abbrev pub told_within : {T : Type 0} → Reply T → Reply T
told_within (reply.Refused (refusal.PublishSubscribeOpen error)) =
    reply.Refused (refusal.PublishSubscribeOpenOrCreate (publish_subscribe_either.PublishSubscribeOpenError error))
told_within (reply.Refused (refusal.EventOpen error)) = reply.Refused (refusal.EventOpenOrCreate (event_either.EventOpenError error))
told_within (reply.Refused (refusal.RequestResponseOpen error)) =
    reply.Refused (refusal.RequestResponseOpenOrCreate (request_response_either.RequestResponseOpenError error))
told_within (reply.Refused (refusal.PublishSubscribeCreate error)) =
    reply.Refused (refusal.PublishSubscribeOpenOrCreate (publish_subscribe_either.PublishSubscribeCreateError error))
told_within (reply.Refused (refusal.EventCreate error)) = reply.Refused (refusal.EventOpenOrCreate (event_either.EventCreateError error))
told_within (reply.Refused (refusal.RequestResponseCreate error)) =
    reply.Refused (refusal.RequestResponseOpenOrCreate (request_response_either.RequestResponseCreateError error))
told_within other = other

-- What `open_or_create` answers, but for memory at the lookup: where the phase is absent, why its settings are impossible, or what a
-- creation answers; otherwise what an opening answers. `told` is the reply, worded as that of a creation or of an opening.
abbrev pub EitherAnswers : {T : Type 0} → Reply T → ℕ → ServiceOptions → MessageTypeDetails → Required → ℕ → Phase → Type 0
EitherAnswers told number named types required node (Absent lives) =
    MatchOption (unfit (settings_of types named))
    ((told ≡ reply.FactoryMade number)
    ⊎ (told ≡ reply.Refused (create_told named publish_subscribe_create.OutOfMemory event_create.OutOfMemory
    request_response_create.OutOfMemory)))
    (λ failure. told ≡ reply.Refused (unfit_told named failure))
EitherAnswers told number named types required node phase = OpeningAnswers told number named types required node phase

-- The number of a setting is the named one, where 0 counts as 1, or the default, if none was named.
abbrev pub IsNamedOr : ℕ → Option ℕ → ℕ → Type 0
IsNamedOr default None value = value ≡ default
IsNamedOr default (Some named) value = ((1 ≤ named) × (value ≡ named)) ⊎ ((named ≡ 0) × (value ≡ 1))

-- These settings are as named. What isn't named has its default: 2 publishers, 8 subscribers and 20 nodes; safe overflow, with no history,
-- a buffer of 2 messages and 2 borrowed samples; and no sequence numbers.
abbrev pub AreNamedOrDefault : MessageTypeDetails → PublishSubscribeOptions → StaticConfig → Type 0
AreNamedOrDefault types named given =
    (given.types ≡ types) × (given.enable_safe_overflow ≡ unwrap_or named.enable_safe_overflow true)
    × IsNamedOr 2 named.max_publishers given.max_publishers × IsNamedOr 8 named.max_subscribers given.max_subscribers
    × (given.sequence_numbers ≡ unwrap_or named.sequence_numbers false)
    × IsNamedOr 2 named.subscriber_max_buffer_size given.subscriber_max_buffer_size
    × (given.history_size ≡ unwrap_or named.history_size 0)
    × IsNamedOr 2 named.subscriber_max_borrowed_samples given.subscriber_max_borrowed_samples
    × IsNamedOr 20 named.max_nodes given.max_nodes

module _ {T : Type 0} (choices : Choices T) where
  -- What a creation answers that isn't skipped, while no other node acts: why its settings are impossible; otherwise that memory ran out,
  -- or what the phase says.
  abbrev pub CreationsAnswerSo : Type 0
  CreationsAnswerSo = (types : MessageTypeDetails) (buffer node : ℕ) (name : List ℕ) (named : ServiceOptions) (attributes : List Attribute)
      (old : State T) (answer : Reply T) (new : State T) → is_skipped answer ≡ false
      → Step types choices buffer (command.Create node name named attributes []) old answer new
      → MatchOption (unfit (settings_of types named))
      ((answer ≡ reply.Refused (create_told named publish_subscribe_create.OutOfMemory event_create.OutOfMemory
      request_response_create.OutOfMemory))
      ⊎ CreationAnswers answer (old.made.factories + 1) named (old.phases (pattern_of named) name))
      (λ failure. answer ≡ reply.Refused (unfit_told named failure))

  -- What an opening answers that isn't skipped, while no other node acts: that memory ran out, or what the phase says.
  abbrev pub OpeningsAnswerSo : Type 0
  OpeningsAnswerSo = (types : MessageTypeDetails) (buffer node : ℕ) (name : List ℕ) (named : ServiceOptions) (required : Required)
      (old : State T) (answer : Reply T) (new : State T) → is_skipped answer ≡ false
      → Step types choices buffer (command.Open node name named required []) old answer new
      → (answer ≡ reply.Refused (open_told named publish_subscribe_open.OutOfMemory event_open.OutOfMemory
      request_response_open.OutOfMemory))
      ⊎ OpeningAnswers answer (old.made.factories + 1) named types required node (old.phases (pattern_of named) name)

  -- What `open_or_create` answers that isn't skipped, while no other node acts: that memory ran out, or what the phase says. A refusal is
  -- within the error of the pattern for both.
  abbrev pub EitherAnswersSo : Type 0
  EitherAnswersSo = (types : MessageTypeDetails) (buffer node : ℕ) (name : List ℕ) (named : ServiceOptions) (required : Required)
      (old : State T) (answer : Reply T) (new : State T) → is_skipped answer ≡ false
      → Step types choices buffer (command.OpenOrCreate node name named required []) old answer new
      → (told : Reply T) × (answer ≡ told_within told)
      × ((told ≡ reply.Refused (open_told named publish_subscribe_open.OutOfMemory event_open.OutOfMemory
      request_response_open.OutOfMemory))
      ⊎ EitherAnswers told (old.made.factories + 1) named types required node (old.phases (pattern_of named) name))

  -- A publish-subscribe service that a node creates has the settings that the command names, and defaults where it names none.
  abbrev pub DefaultsAreKnown : Type 0
  DefaultsAreKnown = (types : MessageTypeDetails) (buffer node : ℕ) (name : List ℕ) (named : PublishSubscribeOptions)
      (attributes : List Attribute) (old : State T) (number : ℕ) (new : State T)
      → Step types choices buffer (command.Create node name (options.PublishSubscribe named) attributes []) old
      (reply.FactoryMade number) new
      → (life : ℕ) × (given : StaticConfig)
      × (new.phases pattern.PublishSubscribe name
      ≡ Published life (record { settings = settings.PublishSubscribe given; attributes = attributes }) ((Own node, 1) ∷ []))
      × AreNamedOrDefault types named given
