-- Which settings are possible, and which clause an opening is refused for, in the words of the agreement.
use Rattle.std.specs.Prelude.{ℕ, ◌^◌, ◌≡◌, ◌≤◌, ◌<◌, ◌⊎◌, ⊤, Bool, false, List, Option, None, Some, Result, Ok, Err}
use Rattle.std.specs.List.{AllByRecursion}
use Rattle.iox_machine.specs.Agreement.{unfit, verdict}
use Rattle.iox_machine.specs.AgreementLaws.{HasOne}
use Rattle.iox_command.specs.NegotiateBase.DescribeBase.Attributes.{Required}
use Rattle.iox_command.specs.NegotiateBase.DescribeBase.Detail.{Detail}
use Rattle.iox_command.specs.NegotiateBase.DescribeBase.declared.attribute.Attribute.{Attribute}
use Rattle.iox_command.specs.NegotiateBase.DescribeBase.declared.message_type.MessageTypeDetails.{MessageTypeDetails}
use Rattle.iox_command.specs.NegotiateBase.DescribeSettings.declared.static_config.Settings.{Settings}
use Rattle.iox_command.specs.NegotiateBase.DescribeSettings.declared.static_config.Settings.TheVariants as settings
use Rattle.iox_command.specs.NegotiateBase.declared.errors.event.EventOpenError.TheVariants as event
use Rattle.iox_command.specs.NegotiateBase.declared.errors.publish_subscribe.PublishSubscribeOpenError.TheVariants as publish_subscribe
use Rattle.iox_command.specs.NegotiateBase.declared.errors.request_response.RequestResponseOpenError.TheVariants as request_response
use Rattle.iox_command.specs.NegotiateBase.declared.failure.CreateFailure.{CreateFailure}
use Rattle.iox_command.specs.NegotiateBase.declared.failure.CreateFailure.TheVariants.{InternalFailure}
use Rattle.iox_command.specs.NegotiateBase.declared.failure.CreateFailure.TheVariants.{SubscriberBufferMustBeLargerThanHistorySize}
use Rattle.iox_command.specs.declared.refusal.Refusal.{Refusal}
use Rattle.iox_command.specs.declared.refusal.Refusal.TheVariants as refusal
use Rattle.iox_command.specs.declared.service.NumberOrOff.{NumberOrOff}
use Rattle.iox_command.specs.declared.service.NumberOrOff.TheVariants.{Number, Off}
use Rattle.iox_command.specs.declared.service.ServiceOptions.{ServiceOptions}
use Rattle.iox_command.specs.declared.service.ServiceOptions.TheVariants as options

-- ---- settings

-- All numbers of the settings are within their limits: nodes and ports below 2^24, messages of a subscriber and of the history below 2^32.
abbrev pub AreWithinLimits : Settings → Type 0
AreWithinLimits (settings.PublishSubscribe c) =
    (c.max_nodes < 2 ^ 24) × (c.max_publishers < 2 ^ 24) × (c.max_subscribers < 2 ^ 24)
    × (c.subscriber_max_buffer_size < 2 ^ 32) × (c.subscriber_max_borrowed_samples < 2 ^ 32) × (c.history_size < 2 ^ 32)
AreWithinLimits (settings.Event c) = c.max_nodes < 2 ^ 24
AreWithinLimits (settings.RequestResponse c) = c.max_nodes < 2 ^ 24

-- The buffer of a publish-subscribe service without safe overflow is shorter than its history.
abbrev pub IsTooShort : Settings → Type 0
IsTooShort (settings.PublishSubscribe c) = (c.enable_safe_overflow ≡ false) × (c.subscriber_max_buffer_size < c.history_size)
IsTooShort other = ⊥

-- Why no service with these settings can be created: a number isn't within its limit; or else the buffer is too short. None if neither.
abbrev pub IsUnfitFor : Settings → Option CreateFailure → Type 0
IsUnfitFor given found =
    ((AreWithinLimits given → ⊥) × (found ≡ Some InternalFailure))
    ⊎ ((AreWithinLimits given × IsTooShort given × (found ≡ Some SubscriberBufferMustBeLargerThanHistorySize))
    ⊎ (AreWithinLimits given × (IsTooShort given → ⊥) × (found ≡ None)))

-- Settings are refused exactly if a number isn't within its limit, or else if the buffer is too short, each by its name.
abbrev pub SettingsAreRefusedSo : Type 0
SettingsAreRefusedSo = (given : Settings) → IsUnfitFor given (unfit given)

-- ---- clauses

-- The service has at least the number that was named, or none was named.
abbrev pub IsEnough : Option ℕ → ℕ → Type 0
IsEnough None given = ⊤
IsEnough (Some least) given = least ≤ given

-- The switch of the service is as it was named, or wasn't named.
abbrev pub IsSwitched : Option Bool → Bool → Type 0
IsSwitched None given = ⊤
IsSwitched (Some named) given = given ≡ named

-- The setting of the service is the number that was named, or is off if that was named, or wasn't named.
abbrev pub IsAsNamed : Option NumberOrOff → Option ℕ → Type 0
IsAsNamed None given = ⊤
IsAsNamed (Some (Number number)) given = given ≡ Some number
IsAsNamed (Some Off) given = given ≡ None

-- The attributes have each required pair, and each required key with some value.
abbrev pub HasRequired : Required → List Attribute → Type 0
HasRequired required attributes =
    AllByRecursion (λ pair. HasOne (λ one. (one.key ≡ pair.key) × (one.value ≡ pair.value)) attributes) required.pairs
    × AllByRecursion (λ key. HasOne (λ one. one.key ≡ key) attributes) required.keys

-- Two types have the same variant, name, size and alignment.
abbrev pub AreSame : Detail → Detail → Type 0
AreSame one other =
    (one.variant ≡ other.variant) × (one.name ≡ other.name) × (one.size ≡ other.size) × (one.alignment ≡ other.alignment)

-- The types that are asked for are those of the service, except that the alignment of its payload may be larger.
abbrev pub AreCompatible : MessageTypeDetails → MessageTypeDetails → Type 0
AreCompatible asked given =
    AreSame asked.header given.header × AreSame asked.user_header given.user_header
    × (asked.payload.variant ≡ given.payload.variant) × (asked.payload.name ≡ given.payload.name)
    × (asked.payload.size ≡ given.payload.size) × (asked.payload.alignment ≤ given.payload.alignment)

-- A clause is tested, and then the rest: the clause isn't met, and the verdict is this error; or it is met, and the rest decides.
abbrev pub Tests : Type 0 → Refusal → (Result (Unit {0}) Refusal → Type 0) → Result (Unit {0}) Refusal → Type 0
Tests Clause error Rest found = (Clause × Rest found) ⊎ ((Clause → ⊥) × (found ≡ Err error))

-- No clause is left: all are met.
abbrev pub AllMet : Result (Unit {0}) Refusal → Type 0
AllMet found = found ≡ Ok tt

-- The verdict on a service of these attributes and settings, by what an opening names: the error of the first clause that isn't met, in
-- this order, or success. A service of another pattern is refused for its pattern.
abbrev pub IsVerdict : MessageTypeDetails → Required → List Attribute → ServiceOptions → Settings → Result (Unit {0}) Refusal → Type 0
IsVerdict types required attributes (options.PublishSubscribe named) (settings.PublishSubscribe c) found =
    Tests (AreCompatible types c.types) (refusal.PublishSubscribeOpen publish_subscribe.IncompatibleTypes)
    (Tests (HasRequired required attributes) (refusal.PublishSubscribeOpen publish_subscribe.IncompatibleAttributes)
    (Tests (IsSwitched named.enable_safe_overflow c.enable_safe_overflow)
    (refusal.PublishSubscribeOpen publish_subscribe.IncompatibleOverflowBehavior)
    (Tests (IsSwitched named.sequence_numbers c.sequence_numbers)
    (refusal.PublishSubscribeOpen publish_subscribe.IncompatibleSequenceNumbers)
    (Tests (IsEnough named.max_publishers c.max_publishers)
    (refusal.PublishSubscribeOpen publish_subscribe.DoesNotSupportRequestedAmountOfPublishers)
    (Tests (IsEnough named.max_subscribers c.max_subscribers)
    (refusal.PublishSubscribeOpen publish_subscribe.DoesNotSupportRequestedAmountOfSubscribers)
    (Tests (IsEnough named.subscriber_max_buffer_size c.subscriber_max_buffer_size)
    (refusal.PublishSubscribeOpen publish_subscribe.DoesNotSupportRequestedMinBufferSize)
    (Tests (IsEnough named.history_size c.history_size)
    (refusal.PublishSubscribeOpen publish_subscribe.DoesNotSupportRequestedMinHistorySize)
    (Tests (IsEnough named.subscriber_max_borrowed_samples c.subscriber_max_borrowed_samples)
    (refusal.PublishSubscribeOpen publish_subscribe.DoesNotSupportRequestedMinSubscriberBorrowedSamples)
    (Tests (IsEnough named.max_nodes c.max_nodes) (refusal.PublishSubscribeOpen publish_subscribe.DoesNotSupportRequestedAmountOfNodes)
    AllMet))))))))) found
IsVerdict types required attributes (options.Event named) (settings.Event c) found =
    Tests (HasRequired required attributes) (refusal.EventOpen event.IncompatibleAttributes)
    (Tests (IsAsNamed named.deadline c.deadline) (refusal.EventOpen event.IncompatibleDeadline)
    (Tests (IsEnough named.max_notifiers c.max_notifiers) (refusal.EventOpen event.DoesNotSupportRequestedAmountOfNotifiers)
    (Tests (IsEnough named.max_listeners c.max_listeners) (refusal.EventOpen event.DoesNotSupportRequestedAmountOfListeners)
    (Tests (IsEnough named.event_id_max_value c.event_id_max_value) (refusal.EventOpen event.DoesNotSupportRequestedMaxEventId)
    (Tests (IsAsNamed named.notifier_created_event c.notifier_created_event) (refusal.EventOpen event.IncompatibleNotifierCreatedEvent)
    (Tests (IsAsNamed named.notifier_dropped_event c.notifier_dropped_event) (refusal.EventOpen event.IncompatibleNotifierDroppedEvent)
    (Tests (IsAsNamed named.notifier_dead_event c.notifier_dead_event) (refusal.EventOpen event.IncompatibleNotifierDeadEvent)
    (Tests (IsEnough named.max_nodes c.max_nodes) (refusal.EventOpen event.DoesNotSupportRequestedAmountOfNodes)
    AllMet)))))))) found
IsVerdict types required attributes (options.RequestResponse named) (settings.RequestResponse c) found =
    Tests (AreCompatible types c.request_types) (refusal.RequestResponseOpen request_response.IncompatibleRequestType)
    (Tests (AreCompatible types c.response_types) (refusal.RequestResponseOpen request_response.IncompatibleResponseType)
    (Tests (HasRequired required attributes) (refusal.RequestResponseOpen request_response.IncompatibleAttributes)
    (Tests (IsSwitched named.enable_safe_overflow_for_requests c.enable_safe_overflow_for_requests)
    (refusal.RequestResponseOpen request_response.IncompatibleOverflowBehaviorForRequests)
    (Tests (IsSwitched named.enable_safe_overflow_for_responses c.enable_safe_overflow_for_responses)
    (refusal.RequestResponseOpen request_response.IncompatibleOverflowBehaviorForResponses)
    (Tests (IsSwitched named.enable_fire_and_forget_requests c.enable_fire_and_forget_requests)
    (refusal.RequestResponseOpen request_response.IncompatibleBehaviorForFireAndForgetRequests)
    (Tests (IsEnough named.max_loaned_requests c.max_loaned_requests)
    (refusal.RequestResponseOpen request_response.DoesNotSupportRequestedAmountOfClientRequestLoans)
    (Tests (IsEnough named.max_active_requests_per_client c.max_active_requests_per_client)
    (refusal.RequestResponseOpen request_response.DoesNotSupportRequestedAmountOfActiveRequestsPerClient)
    (Tests (IsEnough named.max_response_buffer_size c.max_response_buffer_size)
    (refusal.RequestResponseOpen request_response.DoesNotSupportRequestedResponseBufferSize)
    (Tests (IsEnough named.max_servers c.max_servers)
    (refusal.RequestResponseOpen request_response.DoesNotSupportRequestedAmountOfServers)
    (Tests (IsEnough named.max_clients c.max_clients)
    (refusal.RequestResponseOpen request_response.DoesNotSupportRequestedAmountOfClients)
    (Tests (IsEnough named.max_borrowed_responses_per_pending_response c.max_borrowed_responses_per_pending_response)
    (refusal.RequestResponseOpen request_response.DoesNotSupportRequestedAmountOfBorrowedResponsesPerPendingResponse)
    (Tests (IsEnough named.max_nodes c.max_nodes) (refusal.RequestResponseOpen request_response.DoesNotSupportRequestedAmountOfNodes)
    AllMet)))))))))))) found
IsVerdict types required attributes (options.PublishSubscribe named) other found =
    found ≡ Err (refusal.PublishSubscribeOpen publish_subscribe.IncompatibleMessagingPattern)
IsVerdict types required attributes (options.Event named) other found =
    found ≡ Err (refusal.EventOpen event.IncompatibleMessagingPattern)
IsVerdict types required attributes (options.RequestResponse named) other found =
    found ≡ Err (refusal.RequestResponseOpen request_response.IncompatibleMessagingPattern)

-- The verdict on a service is the error of the first clause that isn't met, or success.
abbrev pub VerdictsAreSo : Type 0
VerdictsAreSo = (types : MessageTypeDetails) (named : ServiceOptions) (required : Required) (attributes : List Attribute) (given : Settings)
    → IsVerdict types required attributes named given
    (verdict types named required (record { settings = given; attributes = attributes }))
