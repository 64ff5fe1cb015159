-- What the nodes of a service agree on, whether it is possible, and whether it meets what an opening asks for.
use Rattle.std.specs.Prelude.{ℕ, ◌^◌, Bool, true, false, not, ◌&&◌, ◌==◌, bytes_eq, nat_lt, nat_le, List, [], ◌∷◌, Option, None, Some}
use Rattle.std.specs.Prelude.{Result, Ok, Err, if◌then◌else◌}
use Rattle.std.specs.List.{list_any, list_all}
use Rattle.iox_command.specs.NegotiateBase.DescribeBase.Attributes.{Required}
use Rattle.iox_command.specs.NegotiateBase.DescribeBase.Compatible.{same_variant}
use Rattle.iox_command.specs.NegotiateBase.DescribeBase.declared.attribute.Attribute.{Attribute}
use Rattle.iox_command.specs.NegotiateBase.DescribeBase.declared.message_type.MessageTypeDetails.{MessageTypeDetails}
use Rattle.iox_command.specs.NegotiateBase.DescribeSettings.declared.static_config.Settings.{Settings}
use Rattle.iox_command.specs.NegotiateBase.DescribeSettings.declared.static_config.Settings.TheVariants as settings
use Rattle.iox_command.specs.NegotiateBase.declared.errors.event.EventOpenError.TheVariants as event
use Rattle.iox_command.specs.NegotiateBase.declared.errors.publish_subscribe.PublishSubscribeOpenError.TheVariants as publish_subscribe
use Rattle.iox_command.specs.NegotiateBase.declared.errors.request_response.RequestResponseOpenError.TheVariants as request_response
use Rattle.iox_command.specs.NegotiateBase.declared.failure.CreateFailure.{CreateFailure}
use Rattle.iox_command.specs.NegotiateBase.declared.failure.CreateFailure.TheVariants.{InternalFailure}
use Rattle.iox_command.specs.NegotiateBase.declared.failure.CreateFailure.TheVariants.{SubscriberBufferMustBeLargerThanHistorySize}
use Rattle.iox_command.specs.declared.refusal.Refusal.{Refusal}
use Rattle.iox_command.specs.declared.refusal.Refusal.TheVariants as refusal
use Rattle.iox_command.specs.declared.service.NumberOrOff.{NumberOrOff}
use Rattle.iox_command.specs.declared.service.NumberOrOff.TheVariants.{Number, Off}
use Rattle.iox_command.specs.declared.service.ServiceOptions.{ServiceOptions}
use Rattle.iox_command.specs.declared.service.ServiceOptions.TheVariants as options

-- What the nodes of a service agree on: its settings, with its types, and its attributes.
pub record Agreement : Type 0 where
  pub settings : Settings
  pub attributes : List Attribute

-- Whether all numbers of the settings are within their limits.
abbrev pub are_within_limits : Settings → Bool
are_within_limits (settings.PublishSubscribe c) =
    nat_lt c.max_nodes (2 ^ 24) && (nat_lt c.max_publishers (2 ^ 24) && (nat_lt c.max_subscribers (2 ^ 24)
    && (nat_lt c.subscriber_max_buffer_size (2 ^ 32) &&
    (nat_lt c.subscriber_max_borrowed_samples (2 ^ 32) && nat_lt c.history_size (2 ^ 32)))))
are_within_limits (settings.Event c) = nat_lt c.max_nodes (2 ^ 24)
are_within_limits (settings.RequestResponse c) = nat_lt c.max_nodes (2 ^ 24)

-- Why no service with these settings can be created, whatever exists already: a number isn't within its limit; or, without safe overflow,
-- the subscribers' buffer is shorter than the history. None if the settings are possible.
abbrev pub unfit : Settings → Option CreateFailure
unfit (settings.PublishSubscribe c) =
    if not (are_within_limits (settings.PublishSubscribe c)) then Some InternalFailure
    else (if not c.enable_safe_overflow && nat_lt c.subscriber_max_buffer_size c.history_size
    then Some SubscriberBufferMustBeLargerThanHistorySize else None)
unfit other = if are_within_limits other then None else Some InternalFailure

-- Whether a number is at least the one that was named, or none was named.
abbrev pub is_enough : Option ℕ → ℕ → Bool
is_enough None given = true
is_enough (Some least) given = nat_le least given

-- Whether a switch is as it was named, or wasn't named.
abbrev pub is_switched : Option Bool → Bool → Bool
is_switched None given = true
is_switched (Some true) given = given
is_switched (Some false) given = not given

-- Whether a setting that can be off is as it was named, or wasn't named.
abbrev pub is_as_named : Option NumberOrOff → Option ℕ → Bool
is_as_named None given = true
is_as_named (Some (Number number)) (Some given) = number == given
is_as_named (Some Off) None = true
is_as_named named given = false

-- Whether the attributes have each required pair, and each required key with some value.
abbrev pub have_required : Required → List Attribute → Bool
have_required required attributes =
    list_all (λ pair. list_any (λ one. bytes_eq one.key pair.key && bytes_eq one.value pair.value) attributes)
    required.pairs
    && list_all (λ key. list_any (λ one. bytes_eq one.key key) attributes) required.keys

-- Whether the types that are asked for agree with the given ones: all is equal, except that the given payload alignment may be larger.
abbrev pub types_agree : MessageTypeDetails → MessageTypeDetails → Bool
types_agree asked given =
    (same_variant asked.header.variant given.header.variant
    && (bytes_eq asked.header.name given.header.name
    && ((asked.header.size == given.header.size) && (asked.header.alignment == given.header.alignment))))
    && (same_variant asked.user_header.variant given.user_header.variant
    && (bytes_eq asked.user_header.name given.user_header.name
    && ((asked.user_header.size == given.user_header.size) && (asked.user_header.alignment == given.user_header.alignment))))
    && same_variant asked.payload.variant given.payload.variant
    && bytes_eq asked.payload.name given.payload.name
    && (asked.payload.size == given.payload.size)
    && nat_le asked.payload.alignment given.payload.alignment

-- The verdict on clauses, each with whether it is met: success if all are met, or else the error of the first that isn't.
abbrev pub verdict_on : {E : Type 0} → (E → Refusal) → List (Bool × E) → Result (Unit {0}) Refusal
verdict_on told [] = Ok tt
verdict_on told (clause ∷ more) = if clause.0 then verdict_on told more else Err (told clause.1)

-- Whether a service meets what an opening asks for, or the error of the first clause that it doesn't meet; the pattern comes first.
abbrev pub verdict : MessageTypeDetails → ServiceOptions → Required → Agreement → Result (Unit {0}) Refusal
verdict types (options.PublishSubscribe named) required agreed =
    elim agreed.settings [
      | settings.PublishSubscribe c ↦ verdict_on refusal.PublishSubscribeOpen (
          (types_agree types c.types, publish_subscribe.IncompatibleTypes)
          ∷ (have_required required agreed.attributes, publish_subscribe.IncompatibleAttributes)
          ∷ (is_switched named.enable_safe_overflow c.enable_safe_overflow, publish_subscribe.IncompatibleOverflowBehavior)
          ∷ (is_switched named.sequence_numbers c.sequence_numbers, publish_subscribe.IncompatibleSequenceNumbers)
          ∷ (is_enough named.max_publishers c.max_publishers, publish_subscribe.DoesNotSupportRequestedAmountOfPublishers)
          ∷ (is_enough named.max_subscribers c.max_subscribers, publish_subscribe.DoesNotSupportRequestedAmountOfSubscribers)
          ∷ (
            is_enough named.subscriber_max_buffer_size c.subscriber_max_buffer_size,
            publish_subscribe.DoesNotSupportRequestedMinBufferSize,
          )
          ∷ (is_enough named.history_size c.history_size, publish_subscribe.DoesNotSupportRequestedMinHistorySize)
          ∷ (
            is_enough named.subscriber_max_borrowed_samples c.subscriber_max_borrowed_samples,
            publish_subscribe.DoesNotSupportRequestedMinSubscriberBorrowedSamples,
          )
          ∷ (is_enough named.max_nodes c.max_nodes, publish_subscribe.DoesNotSupportRequestedAmountOfNodes) ∷ [])
      | settings.Event c ↦ Err (refusal.PublishSubscribeOpen publish_subscribe.IncompatibleMessagingPattern)
      | settings.RequestResponse c ↦ Err (refusal.PublishSubscribeOpen publish_subscribe.IncompatibleMessagingPattern)
    ]
verdict types (options.Event named) required agreed =
    elim agreed.settings [
      | settings.PublishSubscribe c ↦ Err (refusal.EventOpen event.IncompatibleMessagingPattern)
      | settings.Event c ↦ verdict_on refusal.EventOpen (
          (have_required required agreed.attributes, event.IncompatibleAttributes)
          ∷ (is_as_named named.deadline c.deadline, event.IncompatibleDeadline)
          ∷ (is_enough named.max_notifiers c.max_notifiers, event.DoesNotSupportRequestedAmountOfNotifiers)
          ∷ (is_enough named.max_listeners c.max_listeners, event.DoesNotSupportRequestedAmountOfListeners)
          ∷ (is_enough named.event_id_max_value c.event_id_max_value, event.DoesNotSupportRequestedMaxEventId)
          ∷ (is_as_named named.notifier_created_event c.notifier_created_event, event.IncompatibleNotifierCreatedEvent)
          ∷ (is_as_named named.notifier_dropped_event c.notifier_dropped_event, event.IncompatibleNotifierDroppedEvent)
          ∷ (is_as_named named.notifier_dead_event c.notifier_dead_event, event.IncompatibleNotifierDeadEvent)
          ∷ (is_enough named.max_nodes c.max_nodes, event.DoesNotSupportRequestedAmountOfNodes) ∷ [])
      | settings.RequestResponse c ↦ Err (refusal.EventOpen event.IncompatibleMessagingPattern)
    ]
verdict types (options.RequestResponse named) required agreed =
    elim agreed.settings [
      | settings.PublishSubscribe c ↦ Err (refusal.RequestResponseOpen request_response.IncompatibleMessagingPattern)
      | settings.Event c ↦ Err (refusal.RequestResponseOpen request_response.IncompatibleMessagingPattern)
      | settings.RequestResponse c ↦ verdict_on refusal.RequestResponseOpen (
          (types_agree types c.request_types, request_response.IncompatibleRequestType)
          ∷ (types_agree types c.response_types, request_response.IncompatibleResponseType)
          ∷ (have_required required agreed.attributes, request_response.IncompatibleAttributes)
          ∷ (
            is_switched named.enable_safe_overflow_for_requests c.enable_safe_overflow_for_requests,
            request_response.IncompatibleOverflowBehaviorForRequests,
          )
          ∷ (
            is_switched named.enable_safe_overflow_for_responses c.enable_safe_overflow_for_responses,
            request_response.IncompatibleOverflowBehaviorForResponses,
          )
          ∷ (
            is_switched named.enable_fire_and_forget_requests c.enable_fire_and_forget_requests,
            request_response.IncompatibleBehaviorForFireAndForgetRequests,
          )
          ∷ (
            is_enough named.max_loaned_requests c.max_loaned_requests,
            request_response.DoesNotSupportRequestedAmountOfClientRequestLoans,
          )
          ∷ (
            is_enough named.max_active_requests_per_client c.max_active_requests_per_client,
            request_response.DoesNotSupportRequestedAmountOfActiveRequestsPerClient,
          )
          ∷ (
            is_enough named.max_response_buffer_size c.max_response_buffer_size,
            request_response.DoesNotSupportRequestedResponseBufferSize,
          )
          ∷ (is_enough named.max_servers c.max_servers, request_response.DoesNotSupportRequestedAmountOfServers)
          ∷ (is_enough named.max_clients c.max_clients, request_response.DoesNotSupportRequestedAmountOfClients)
          ∷ (
            is_enough named.max_borrowed_responses_per_pending_response c.max_borrowed_responses_per_pending_response,
            request_response.DoesNotSupportRequestedAmountOfBorrowedResponsesPerPendingResponse,
          )
          ∷ (is_enough named.max_nodes c.max_nodes, request_response.DoesNotSupportRequestedAmountOfNodes) ∷ [])
    ]
