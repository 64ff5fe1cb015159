-- The text of each refusal: the error's type and its variant, with an inner error in parentheses.
use Rattle.std.specs.Prelude.{ℕ, List, codes}
use Rattle.iox_command.specs.NegotiateBase.declared.errors.publish_subscribe.PublishSubscribeCreateError.TheVariants as
    publish_subscribe_create
use Rattle.iox_command.specs.NegotiateBase.declared.errors.publish_subscribe.PublishSubscribeOpenError.TheVariants as publish_subscribe_open
use Rattle.iox_command.specs.NegotiateBase.declared.errors.publish_subscribe.PublishSubscribeOpenOrCreateError.TheVariants as
    publish_subscribe_either
use Rattle.iox_command.specs.NegotiateBase.declared.errors.event.EventCreateError.TheVariants as event_create
use Rattle.iox_command.specs.NegotiateBase.declared.errors.event.EventOpenError.TheVariants as event_open
use Rattle.iox_command.specs.NegotiateBase.declared.errors.event.EventOpenOrCreateError.TheVariants as event_either
use Rattle.iox_command.specs.NegotiateBase.declared.errors.request_response.RequestResponseCreateError.TheVariants as
    request_response_create
use Rattle.iox_command.specs.NegotiateBase.declared.errors.request_response.RequestResponseOpenError.TheVariants as request_response_open
use Rattle.iox_command.specs.NegotiateBase.declared.errors.request_response.RequestResponseOpenOrCreateError.TheVariants as
    request_response_either
use Rattle.iox_command.specs.NegotiateBase.declared.errors.close.CloseError.TheVariants as close
use Rattle.iox_command.specs.DomainValues.declared.connection_failure.ConnectionFailure.TheVariants as connection
use Rattle.iox_command.specs.DomainValues.declared.connection_failure.ZeroCopyCreationError.TheVariants as zero_copy
use Rattle.iox_command.specs.DomainValues.declared.create_error.PublisherCreateError.TheVariants as publisher
use Rattle.iox_command.specs.DomainValues.declared.create_error.SubscriberCreateError.TheVariants as subscriber
use Rattle.iox_command.specs.DomainValues.declared.port_error.LoanError.TheVariants as loan
use Rattle.iox_command.specs.DomainValues.declared.port_error.ReceiveError.TheVariants as receive
use Rattle.iox_command.specs.DomainValues.declared.port_error.SendError.TheVariants as send
use Rattle.iox_command.specs.declared.refusal.HubError.TheVariants as hub
use Rattle.iox_command.specs.declared.refusal.Refusal.{Refusal}
use Rattle.iox_command.specs.declared.refusal.Refusal.TheVariants as refusal

-- The text of a refusal after `err `: the error's type and its variant, with an inner error in parentheses.
abbrev pub refusal_text : Refusal → List ℕ
refusal_text (refusal.Hub hub.OutOfMemory) = codes "HubError::OutOfMemory"
refusal_text (refusal.PublishSubscribeCreate publish_subscribe_create.AlreadyExists) = codes "PublishSubscribeCreateError::AlreadyExists"
refusal_text (refusal.PublishSubscribeCreate publish_subscribe_create.InsufficientPermissions)
    = codes "PublishSubscribeCreateError::InsufficientPermissions"
refusal_text (refusal.PublishSubscribeCreate publish_subscribe_create.InternalFailure)
    = codes "PublishSubscribeCreateError::InternalFailure"
refusal_text (refusal.PublishSubscribeCreate publish_subscribe_create.IsBeingCreatedByAnotherInstance)
    = codes "PublishSubscribeCreateError::IsBeingCreatedByAnotherInstance"
refusal_text (refusal.PublishSubscribeCreate publish_subscribe_create.HangsInCreation)
    = codes "PublishSubscribeCreateError::HangsInCreation"
refusal_text (refusal.PublishSubscribeCreate publish_subscribe_create.ServiceInCorruptedState)
    = codes "PublishSubscribeCreateError::ServiceInCorruptedState"
refusal_text (refusal.PublishSubscribeCreate publish_subscribe_create.SubscriberBufferMustBeLargerThanHistorySize)
    = codes "PublishSubscribeCreateError::SubscriberBufferMustBeLargerThanHistorySize"
refusal_text (refusal.PublishSubscribeCreate publish_subscribe_create.OutOfMemory) = codes "PublishSubscribeCreateError::OutOfMemory"
refusal_text (refusal.PublishSubscribeOpen publish_subscribe_open.IncompatibleMessagingPattern)
    = codes "PublishSubscribeOpenError::IncompatibleMessagingPattern"
refusal_text (refusal.PublishSubscribeOpen publish_subscribe_open.IncompatibleTypes) = codes "PublishSubscribeOpenError::IncompatibleTypes"
refusal_text (refusal.PublishSubscribeOpen publish_subscribe_open.IncompatibleAttributes)
    = codes "PublishSubscribeOpenError::IncompatibleAttributes"
refusal_text (refusal.PublishSubscribeOpen publish_subscribe_open.IncompatibleOverflowBehavior)
    = codes "PublishSubscribeOpenError::IncompatibleOverflowBehavior"
refusal_text (refusal.PublishSubscribeOpen publish_subscribe_open.IncompatibleSequenceNumbers)
    = codes "PublishSubscribeOpenError::IncompatibleSequenceNumbers"
refusal_text (refusal.PublishSubscribeOpen publish_subscribe_open.DoesNotSupportRequestedAmountOfPublishers)
    = codes "PublishSubscribeOpenError::DoesNotSupportRequestedAmountOfPublishers"
refusal_text (refusal.PublishSubscribeOpen publish_subscribe_open.DoesNotSupportRequestedAmountOfSubscribers)
    = codes "PublishSubscribeOpenError::DoesNotSupportRequestedAmountOfSubscribers"
refusal_text (refusal.PublishSubscribeOpen publish_subscribe_open.DoesNotSupportRequestedMinBufferSize)
    = codes "PublishSubscribeOpenError::DoesNotSupportRequestedMinBufferSize"
refusal_text (refusal.PublishSubscribeOpen publish_subscribe_open.DoesNotSupportRequestedMinHistorySize)
    = codes "PublishSubscribeOpenError::DoesNotSupportRequestedMinHistorySize"
refusal_text (refusal.PublishSubscribeOpen publish_subscribe_open.DoesNotSupportRequestedMinSubscriberBorrowedSamples)
    = codes "PublishSubscribeOpenError::DoesNotSupportRequestedMinSubscriberBorrowedSamples"
refusal_text (refusal.PublishSubscribeOpen publish_subscribe_open.DoesNotSupportRequestedAmountOfNodes)
    = codes "PublishSubscribeOpenError::DoesNotSupportRequestedAmountOfNodes"
refusal_text (refusal.PublishSubscribeOpen publish_subscribe_open.DoesNotExist) = codes "PublishSubscribeOpenError::DoesNotExist"
refusal_text (refusal.PublishSubscribeOpen publish_subscribe_open.InsufficientPermissions)
    = codes "PublishSubscribeOpenError::InsufficientPermissions"
refusal_text (refusal.PublishSubscribeOpen publish_subscribe_open.ServiceInCorruptedState)
    = codes "PublishSubscribeOpenError::ServiceInCorruptedState"
refusal_text (refusal.PublishSubscribeOpen publish_subscribe_open.InternalFailure) = codes "PublishSubscribeOpenError::InternalFailure"
refusal_text (refusal.PublishSubscribeOpen publish_subscribe_open.HangsInCreation) = codes "PublishSubscribeOpenError::HangsInCreation"
refusal_text (refusal.PublishSubscribeOpen publish_subscribe_open.ExceedsMaxNumberOfNodes)
    = codes "PublishSubscribeOpenError::ExceedsMaxNumberOfNodes"
refusal_text (refusal.PublishSubscribeOpen publish_subscribe_open.IsMarkedForDestruction)
    = codes "PublishSubscribeOpenError::IsMarkedForDestruction"
refusal_text (refusal.PublishSubscribeOpen publish_subscribe_open.OutOfMemory) = codes "PublishSubscribeOpenError::OutOfMemory"
refusal_text (refusal.PublishSubscribeOpenOrCreate
    (publish_subscribe_either.PublishSubscribeOpenError publish_subscribe_open.IncompatibleMessagingPattern))
    = codes "PublishSubscribeOpenOrCreateError::PublishSubscribeOpenError(IncompatibleMessagingPattern)"
refusal_text (refusal.PublishSubscribeOpenOrCreate
    (publish_subscribe_either.PublishSubscribeOpenError publish_subscribe_open.IncompatibleTypes))
    = codes "PublishSubscribeOpenOrCreateError::PublishSubscribeOpenError(IncompatibleTypes)"
refusal_text (refusal.PublishSubscribeOpenOrCreate
    (publish_subscribe_either.PublishSubscribeOpenError publish_subscribe_open.IncompatibleAttributes))
    = codes "PublishSubscribeOpenOrCreateError::PublishSubscribeOpenError(IncompatibleAttributes)"
refusal_text (refusal.PublishSubscribeOpenOrCreate
    (publish_subscribe_either.PublishSubscribeOpenError publish_subscribe_open.IncompatibleOverflowBehavior))
    = codes "PublishSubscribeOpenOrCreateError::PublishSubscribeOpenError(IncompatibleOverflowBehavior)"
refusal_text (refusal.PublishSubscribeOpenOrCreate
    (publish_subscribe_either.PublishSubscribeOpenError publish_subscribe_open.IncompatibleSequenceNumbers))
    = codes "PublishSubscribeOpenOrCreateError::PublishSubscribeOpenError(IncompatibleSequenceNumbers)"
refusal_text (refusal.PublishSubscribeOpenOrCreate
    (publish_subscribe_either.PublishSubscribeOpenError publish_subscribe_open.DoesNotSupportRequestedAmountOfPublishers))
    = codes "PublishSubscribeOpenOrCreateError::PublishSubscribeOpenError(DoesNotSupportRequestedAmountOfPublishers)"
refusal_text (refusal.PublishSubscribeOpenOrCreate
    (publish_subscribe_either.PublishSubscribeOpenError publish_subscribe_open.DoesNotSupportRequestedAmountOfSubscribers))
    = codes "PublishSubscribeOpenOrCreateError::PublishSubscribeOpenError(DoesNotSupportRequestedAmountOfSubscribers)"
refusal_text (refusal.PublishSubscribeOpenOrCreate
    (publish_subscribe_either.PublishSubscribeOpenError publish_subscribe_open.DoesNotSupportRequestedMinBufferSize))
    = codes "PublishSubscribeOpenOrCreateError::PublishSubscribeOpenError(DoesNotSupportRequestedMinBufferSize)"
refusal_text (refusal.PublishSubscribeOpenOrCreate
    (publish_subscribe_either.PublishSubscribeOpenError publish_subscribe_open.DoesNotSupportRequestedMinHistorySize))
    = codes "PublishSubscribeOpenOrCreateError::PublishSubscribeOpenError(DoesNotSupportRequestedMinHistorySize)"
refusal_text (refusal.PublishSubscribeOpenOrCreate
    (publish_subscribe_either.PublishSubscribeOpenError publish_subscribe_open.DoesNotSupportRequestedMinSubscriberBorrowedSamples))
    = codes "PublishSubscribeOpenOrCreateError::PublishSubscribeOpenError(DoesNotSupportRequestedMinSubscriberBorrowedSamples)"
refusal_text (refusal.PublishSubscribeOpenOrCreate
    (publish_subscribe_either.PublishSubscribeOpenError publish_subscribe_open.DoesNotSupportRequestedAmountOfNodes))
    = codes "PublishSubscribeOpenOrCreateError::PublishSubscribeOpenError(DoesNotSupportRequestedAmountOfNodes)"
refusal_text (refusal.PublishSubscribeOpenOrCreate (publish_subscribe_either.PublishSubscribeOpenError publish_subscribe_open.DoesNotExist))
    = codes "PublishSubscribeOpenOrCreateError::PublishSubscribeOpenError(DoesNotExist)"
refusal_text (refusal.PublishSubscribeOpenOrCreate
    (publish_subscribe_either.PublishSubscribeOpenError publish_subscribe_open.InsufficientPermissions))
    = codes "PublishSubscribeOpenOrCreateError::PublishSubscribeOpenError(InsufficientPermissions)"
refusal_text (refusal.PublishSubscribeOpenOrCreate
    (publish_subscribe_either.PublishSubscribeOpenError publish_subscribe_open.ServiceInCorruptedState))
    = codes "PublishSubscribeOpenOrCreateError::PublishSubscribeOpenError(ServiceInCorruptedState)"
refusal_text (refusal.PublishSubscribeOpenOrCreate
    (publish_subscribe_either.PublishSubscribeOpenError publish_subscribe_open.InternalFailure))
    = codes "PublishSubscribeOpenOrCreateError::PublishSubscribeOpenError(InternalFailure)"
refusal_text (refusal.PublishSubscribeOpenOrCreate
    (publish_subscribe_either.PublishSubscribeOpenError publish_subscribe_open.HangsInCreation))
    = codes "PublishSubscribeOpenOrCreateError::PublishSubscribeOpenError(HangsInCreation)"
refusal_text (refusal.PublishSubscribeOpenOrCreate
    (publish_subscribe_either.PublishSubscribeOpenError publish_subscribe_open.ExceedsMaxNumberOfNodes))
    = codes "PublishSubscribeOpenOrCreateError::PublishSubscribeOpenError(ExceedsMaxNumberOfNodes)"
refusal_text (refusal.PublishSubscribeOpenOrCreate
    (publish_subscribe_either.PublishSubscribeOpenError publish_subscribe_open.IsMarkedForDestruction))
    = codes "PublishSubscribeOpenOrCreateError::PublishSubscribeOpenError(IsMarkedForDestruction)"
refusal_text (refusal.PublishSubscribeOpenOrCreate (publish_subscribe_either.PublishSubscribeOpenError publish_subscribe_open.OutOfMemory))
    = codes "PublishSubscribeOpenOrCreateError::PublishSubscribeOpenError(OutOfMemory)"
refusal_text (refusal.PublishSubscribeOpenOrCreate
    (publish_subscribe_either.PublishSubscribeCreateError publish_subscribe_create.AlreadyExists))
    = codes "PublishSubscribeOpenOrCreateError::PublishSubscribeCreateError(AlreadyExists)"
refusal_text (refusal.PublishSubscribeOpenOrCreate
    (publish_subscribe_either.PublishSubscribeCreateError publish_subscribe_create.InsufficientPermissions))
    = codes "PublishSubscribeOpenOrCreateError::PublishSubscribeCreateError(InsufficientPermissions)"
refusal_text (refusal.PublishSubscribeOpenOrCreate
    (publish_subscribe_either.PublishSubscribeCreateError publish_subscribe_create.InternalFailure))
    = codes "PublishSubscribeOpenOrCreateError::PublishSubscribeCreateError(InternalFailure)"
refusal_text (refusal.PublishSubscribeOpenOrCreate
    (publish_subscribe_either.PublishSubscribeCreateError publish_subscribe_create.IsBeingCreatedByAnotherInstance))
    = codes "PublishSubscribeOpenOrCreateError::PublishSubscribeCreateError(IsBeingCreatedByAnotherInstance)"
refusal_text (refusal.PublishSubscribeOpenOrCreate
    (publish_subscribe_either.PublishSubscribeCreateError publish_subscribe_create.HangsInCreation))
    = codes "PublishSubscribeOpenOrCreateError::PublishSubscribeCreateError(HangsInCreation)"
refusal_text (refusal.PublishSubscribeOpenOrCreate
    (publish_subscribe_either.PublishSubscribeCreateError publish_subscribe_create.ServiceInCorruptedState))
    = codes "PublishSubscribeOpenOrCreateError::PublishSubscribeCreateError(ServiceInCorruptedState)"
refusal_text (refusal.PublishSubscribeOpenOrCreate
    (publish_subscribe_either.PublishSubscribeCreateError publish_subscribe_create.SubscriberBufferMustBeLargerThanHistorySize))
    = codes "PublishSubscribeOpenOrCreateError::PublishSubscribeCreateError(SubscriberBufferMustBeLargerThanHistorySize)"
refusal_text (refusal.PublishSubscribeOpenOrCreate
    (publish_subscribe_either.PublishSubscribeCreateError publish_subscribe_create.OutOfMemory))
    = codes "PublishSubscribeOpenOrCreateError::PublishSubscribeCreateError(OutOfMemory)"
refusal_text (refusal.PublishSubscribeOpenOrCreate publish_subscribe_either.SystemInFlux)
    = codes "PublishSubscribeOpenOrCreateError::SystemInFlux"
refusal_text (refusal.EventCreate event_create.AlreadyExists) = codes "EventCreateError::AlreadyExists"
refusal_text (refusal.EventCreate event_create.InsufficientPermissions) = codes "EventCreateError::InsufficientPermissions"
refusal_text (refusal.EventCreate event_create.InternalFailure) = codes "EventCreateError::InternalFailure"
refusal_text (refusal.EventCreate event_create.IsBeingCreatedByAnotherInstance) = codes "EventCreateError::IsBeingCreatedByAnotherInstance"
refusal_text (refusal.EventCreate event_create.HangsInCreation) = codes "EventCreateError::HangsInCreation"
refusal_text (refusal.EventCreate event_create.ServiceInCorruptedState) = codes "EventCreateError::ServiceInCorruptedState"
refusal_text (refusal.EventCreate event_create.OutOfMemory) = codes "EventCreateError::OutOfMemory"
refusal_text (refusal.EventOpen event_open.IncompatibleMessagingPattern) = codes "EventOpenError::IncompatibleMessagingPattern"
refusal_text (refusal.EventOpen event_open.IncompatibleAttributes) = codes "EventOpenError::IncompatibleAttributes"
refusal_text (refusal.EventOpen event_open.IncompatibleDeadline) = codes "EventOpenError::IncompatibleDeadline"
refusal_text (refusal.EventOpen event_open.DoesNotSupportRequestedAmountOfNotifiers)
    = codes "EventOpenError::DoesNotSupportRequestedAmountOfNotifiers"
refusal_text (refusal.EventOpen event_open.DoesNotSupportRequestedAmountOfListeners)
    = codes "EventOpenError::DoesNotSupportRequestedAmountOfListeners"
refusal_text (refusal.EventOpen event_open.DoesNotSupportRequestedMaxEventId) = codes "EventOpenError::DoesNotSupportRequestedMaxEventId"
refusal_text (refusal.EventOpen event_open.IncompatibleNotifierCreatedEvent) = codes "EventOpenError::IncompatibleNotifierCreatedEvent"
refusal_text (refusal.EventOpen event_open.IncompatibleNotifierDroppedEvent) = codes "EventOpenError::IncompatibleNotifierDroppedEvent"
refusal_text (refusal.EventOpen event_open.IncompatibleNotifierDeadEvent) = codes "EventOpenError::IncompatibleNotifierDeadEvent"
refusal_text (refusal.EventOpen event_open.DoesNotSupportRequestedAmountOfNodes)
    = codes "EventOpenError::DoesNotSupportRequestedAmountOfNodes"
refusal_text (refusal.EventOpen event_open.DoesNotExist) = codes "EventOpenError::DoesNotExist"
refusal_text (refusal.EventOpen event_open.InsufficientPermissions) = codes "EventOpenError::InsufficientPermissions"
refusal_text (refusal.EventOpen event_open.ServiceInCorruptedState) = codes "EventOpenError::ServiceInCorruptedState"
refusal_text (refusal.EventOpen event_open.InternalFailure) = codes "EventOpenError::InternalFailure"
refusal_text (refusal.EventOpen event_open.HangsInCreation) = codes "EventOpenError::HangsInCreation"
refusal_text (refusal.EventOpen event_open.ExceedsMaxNumberOfNodes) = codes "EventOpenError::ExceedsMaxNumberOfNodes"
refusal_text (refusal.EventOpen event_open.IsMarkedForDestruction) = codes "EventOpenError::IsMarkedForDestruction"
refusal_text (refusal.EventOpen event_open.OutOfMemory) = codes "EventOpenError::OutOfMemory"
refusal_text (refusal.EventOpenOrCreate (event_either.EventOpenError event_open.IncompatibleMessagingPattern))
    = codes "EventOpenOrCreateError::EventOpenError(IncompatibleMessagingPattern)"
refusal_text (refusal.EventOpenOrCreate (event_either.EventOpenError event_open.IncompatibleAttributes))
    = codes "EventOpenOrCreateError::EventOpenError(IncompatibleAttributes)"
refusal_text (refusal.EventOpenOrCreate (event_either.EventOpenError event_open.IncompatibleDeadline))
    = codes "EventOpenOrCreateError::EventOpenError(IncompatibleDeadline)"
refusal_text (refusal.EventOpenOrCreate (event_either.EventOpenError event_open.DoesNotSupportRequestedAmountOfNotifiers))
    = codes "EventOpenOrCreateError::EventOpenError(DoesNotSupportRequestedAmountOfNotifiers)"
refusal_text (refusal.EventOpenOrCreate (event_either.EventOpenError event_open.DoesNotSupportRequestedAmountOfListeners))
    = codes "EventOpenOrCreateError::EventOpenError(DoesNotSupportRequestedAmountOfListeners)"
refusal_text (refusal.EventOpenOrCreate (event_either.EventOpenError event_open.DoesNotSupportRequestedMaxEventId))
    = codes "EventOpenOrCreateError::EventOpenError(DoesNotSupportRequestedMaxEventId)"
refusal_text (refusal.EventOpenOrCreate (event_either.EventOpenError event_open.IncompatibleNotifierCreatedEvent))
    = codes "EventOpenOrCreateError::EventOpenError(IncompatibleNotifierCreatedEvent)"
refusal_text (refusal.EventOpenOrCreate (event_either.EventOpenError event_open.IncompatibleNotifierDroppedEvent))
    = codes "EventOpenOrCreateError::EventOpenError(IncompatibleNotifierDroppedEvent)"
refusal_text (refusal.EventOpenOrCreate (event_either.EventOpenError event_open.IncompatibleNotifierDeadEvent))
    = codes "EventOpenOrCreateError::EventOpenError(IncompatibleNotifierDeadEvent)"
refusal_text (refusal.EventOpenOrCreate (event_either.EventOpenError event_open.DoesNotSupportRequestedAmountOfNodes))
    = codes "EventOpenOrCreateError::EventOpenError(DoesNotSupportRequestedAmountOfNodes)"
refusal_text (refusal.EventOpenOrCreate (event_either.EventOpenError event_open.DoesNotExist))
    = codes "EventOpenOrCreateError::EventOpenError(DoesNotExist)"
refusal_text (refusal.EventOpenOrCreate (event_either.EventOpenError event_open.InsufficientPermissions))
    = codes "EventOpenOrCreateError::EventOpenError(InsufficientPermissions)"
refusal_text (refusal.EventOpenOrCreate (event_either.EventOpenError event_open.ServiceInCorruptedState))
    = codes "EventOpenOrCreateError::EventOpenError(ServiceInCorruptedState)"
refusal_text (refusal.EventOpenOrCreate (event_either.EventOpenError event_open.InternalFailure))
    = codes "EventOpenOrCreateError::EventOpenError(InternalFailure)"
refusal_text (refusal.EventOpenOrCreate (event_either.EventOpenError event_open.HangsInCreation))
    = codes "EventOpenOrCreateError::EventOpenError(HangsInCreation)"
refusal_text (refusal.EventOpenOrCreate (event_either.EventOpenError event_open.ExceedsMaxNumberOfNodes))
    = codes "EventOpenOrCreateError::EventOpenError(ExceedsMaxNumberOfNodes)"
refusal_text (refusal.EventOpenOrCreate (event_either.EventOpenError event_open.IsMarkedForDestruction))
    = codes "EventOpenOrCreateError::EventOpenError(IsMarkedForDestruction)"
refusal_text (refusal.EventOpenOrCreate (event_either.EventOpenError event_open.OutOfMemory))
    = codes "EventOpenOrCreateError::EventOpenError(OutOfMemory)"
refusal_text (refusal.EventOpenOrCreate (event_either.EventCreateError event_create.AlreadyExists))
    = codes "EventOpenOrCreateError::EventCreateError(AlreadyExists)"
refusal_text (refusal.EventOpenOrCreate (event_either.EventCreateError event_create.InsufficientPermissions))
    = codes "EventOpenOrCreateError::EventCreateError(InsufficientPermissions)"
refusal_text (refusal.EventOpenOrCreate (event_either.EventCreateError event_create.InternalFailure))
    = codes "EventOpenOrCreateError::EventCreateError(InternalFailure)"
refusal_text (refusal.EventOpenOrCreate (event_either.EventCreateError event_create.IsBeingCreatedByAnotherInstance))
    = codes "EventOpenOrCreateError::EventCreateError(IsBeingCreatedByAnotherInstance)"
refusal_text (refusal.EventOpenOrCreate (event_either.EventCreateError event_create.HangsInCreation))
    = codes "EventOpenOrCreateError::EventCreateError(HangsInCreation)"
refusal_text (refusal.EventOpenOrCreate (event_either.EventCreateError event_create.ServiceInCorruptedState))
    = codes "EventOpenOrCreateError::EventCreateError(ServiceInCorruptedState)"
refusal_text (refusal.EventOpenOrCreate (event_either.EventCreateError event_create.OutOfMemory))
    = codes "EventOpenOrCreateError::EventCreateError(OutOfMemory)"
refusal_text (refusal.EventOpenOrCreate event_either.SystemInFlux) = codes "EventOpenOrCreateError::SystemInFlux"
refusal_text (refusal.RequestResponseCreate request_response_create.AlreadyExists) = codes "RequestResponseCreateError::AlreadyExists"
refusal_text (refusal.RequestResponseCreate request_response_create.InsufficientPermissions)
    = codes "RequestResponseCreateError::InsufficientPermissions"
refusal_text (refusal.RequestResponseCreate request_response_create.InternalFailure) = codes "RequestResponseCreateError::InternalFailure"
refusal_text (refusal.RequestResponseCreate request_response_create.IsBeingCreatedByAnotherInstance)
    = codes "RequestResponseCreateError::IsBeingCreatedByAnotherInstance"
refusal_text (refusal.RequestResponseCreate request_response_create.HangsInCreation) = codes "RequestResponseCreateError::HangsInCreation"
refusal_text (refusal.RequestResponseCreate request_response_create.ServiceInCorruptedState)
    = codes "RequestResponseCreateError::ServiceInCorruptedState"
refusal_text (refusal.RequestResponseCreate request_response_create.OutOfMemory) = codes "RequestResponseCreateError::OutOfMemory"
refusal_text (refusal.RequestResponseOpen request_response_open.IncompatibleMessagingPattern)
    = codes "RequestResponseOpenError::IncompatibleMessagingPattern"
refusal_text (refusal.RequestResponseOpen request_response_open.IncompatibleRequestType)
    = codes "RequestResponseOpenError::IncompatibleRequestType"
refusal_text (refusal.RequestResponseOpen request_response_open.IncompatibleResponseType)
    = codes "RequestResponseOpenError::IncompatibleResponseType"
refusal_text (refusal.RequestResponseOpen request_response_open.IncompatibleAttributes)
    = codes "RequestResponseOpenError::IncompatibleAttributes"
refusal_text (refusal.RequestResponseOpen request_response_open.IncompatibleOverflowBehaviorForRequests)
    = codes "RequestResponseOpenError::IncompatibleOverflowBehaviorForRequests"
refusal_text (refusal.RequestResponseOpen request_response_open.IncompatibleOverflowBehaviorForResponses)
    = codes "RequestResponseOpenError::IncompatibleOverflowBehaviorForResponses"
refusal_text (refusal.RequestResponseOpen request_response_open.IncompatibleBehaviorForFireAndForgetRequests)
    = codes "RequestResponseOpenError::IncompatibleBehaviorForFireAndForgetRequests"
refusal_text (refusal.RequestResponseOpen request_response_open.DoesNotSupportRequestedAmountOfClientRequestLoans)
    = codes "RequestResponseOpenError::DoesNotSupportRequestedAmountOfClientRequestLoans"
refusal_text (refusal.RequestResponseOpen request_response_open.DoesNotSupportRequestedAmountOfActiveRequestsPerClient)
    = codes "RequestResponseOpenError::DoesNotSupportRequestedAmountOfActiveRequestsPerClient"
refusal_text (refusal.RequestResponseOpen request_response_open.DoesNotSupportRequestedResponseBufferSize)
    = codes "RequestResponseOpenError::DoesNotSupportRequestedResponseBufferSize"
refusal_text (refusal.RequestResponseOpen request_response_open.DoesNotSupportRequestedAmountOfServers)
    = codes "RequestResponseOpenError::DoesNotSupportRequestedAmountOfServers"
refusal_text (refusal.RequestResponseOpen request_response_open.DoesNotSupportRequestedAmountOfClients)
    = codes "RequestResponseOpenError::DoesNotSupportRequestedAmountOfClients"
refusal_text (refusal.RequestResponseOpen request_response_open.DoesNotSupportRequestedAmountOfBorrowedResponsesPerPendingResponse)
    = codes "RequestResponseOpenError::DoesNotSupportRequestedAmountOfBorrowedResponsesPerPendingResponse"
refusal_text (refusal.RequestResponseOpen request_response_open.DoesNotSupportRequestedAmountOfNodes)
    = codes "RequestResponseOpenError::DoesNotSupportRequestedAmountOfNodes"
refusal_text (refusal.RequestResponseOpen request_response_open.DoesNotExist) = codes "RequestResponseOpenError::DoesNotExist"
refusal_text (refusal.RequestResponseOpen request_response_open.InsufficientPermissions)
    = codes "RequestResponseOpenError::InsufficientPermissions"
refusal_text (refusal.RequestResponseOpen request_response_open.ServiceInCorruptedState)
    = codes "RequestResponseOpenError::ServiceInCorruptedState"
refusal_text (refusal.RequestResponseOpen request_response_open.InternalFailure) = codes "RequestResponseOpenError::InternalFailure"
refusal_text (refusal.RequestResponseOpen request_response_open.HangsInCreation) = codes "RequestResponseOpenError::HangsInCreation"
refusal_text (refusal.RequestResponseOpen request_response_open.ExceedsMaxNumberOfNodes)
    = codes "RequestResponseOpenError::ExceedsMaxNumberOfNodes"
refusal_text (refusal.RequestResponseOpen request_response_open.IsMarkedForDestruction)
    = codes "RequestResponseOpenError::IsMarkedForDestruction"
refusal_text (refusal.RequestResponseOpen request_response_open.OutOfMemory) = codes "RequestResponseOpenError::OutOfMemory"
refusal_text (refusal.RequestResponseOpenOrCreate
    (request_response_either.RequestResponseOpenError request_response_open.IncompatibleMessagingPattern))
    = codes "RequestResponseOpenOrCreateError::RequestResponseOpenError(IncompatibleMessagingPattern)"
refusal_text (refusal.RequestResponseOpenOrCreate
    (request_response_either.RequestResponseOpenError request_response_open.IncompatibleRequestType))
    = codes "RequestResponseOpenOrCreateError::RequestResponseOpenError(IncompatibleRequestType)"
refusal_text (refusal.RequestResponseOpenOrCreate
    (request_response_either.RequestResponseOpenError request_response_open.IncompatibleResponseType))
    = codes "RequestResponseOpenOrCreateError::RequestResponseOpenError(IncompatibleResponseType)"
refusal_text (refusal.RequestResponseOpenOrCreate
    (request_response_either.RequestResponseOpenError request_response_open.IncompatibleAttributes))
    = codes "RequestResponseOpenOrCreateError::RequestResponseOpenError(IncompatibleAttributes)"
refusal_text (refusal.RequestResponseOpenOrCreate
    (request_response_either.RequestResponseOpenError request_response_open.IncompatibleOverflowBehaviorForRequests))
    = codes "RequestResponseOpenOrCreateError::RequestResponseOpenError(IncompatibleOverflowBehaviorForRequests)"
refusal_text (refusal.RequestResponseOpenOrCreate
    (request_response_either.RequestResponseOpenError request_response_open.IncompatibleOverflowBehaviorForResponses))
    = codes "RequestResponseOpenOrCreateError::RequestResponseOpenError(IncompatibleOverflowBehaviorForResponses)"
refusal_text (refusal.RequestResponseOpenOrCreate
    (request_response_either.RequestResponseOpenError request_response_open.IncompatibleBehaviorForFireAndForgetRequests))
    = codes "RequestResponseOpenOrCreateError::RequestResponseOpenError(IncompatibleBehaviorForFireAndForgetRequests)"
refusal_text (refusal.RequestResponseOpenOrCreate
    (request_response_either.RequestResponseOpenError request_response_open.DoesNotSupportRequestedAmountOfClientRequestLoans))
    = codes "RequestResponseOpenOrCreateError::RequestResponseOpenError(DoesNotSupportRequestedAmountOfClientRequestLoans)"
refusal_text (refusal.RequestResponseOpenOrCreate
    (request_response_either.RequestResponseOpenError request_response_open.DoesNotSupportRequestedAmountOfActiveRequestsPerClient))
    = codes "RequestResponseOpenOrCreateError::RequestResponseOpenError(DoesNotSupportRequestedAmountOfActiveRequestsPerClient)"
refusal_text (refusal.RequestResponseOpenOrCreate
    (request_response_either.RequestResponseOpenError request_response_open.DoesNotSupportRequestedResponseBufferSize))
    = codes "RequestResponseOpenOrCreateError::RequestResponseOpenError(DoesNotSupportRequestedResponseBufferSize)"
refusal_text (refusal.RequestResponseOpenOrCreate
    (request_response_either.RequestResponseOpenError request_response_open.DoesNotSupportRequestedAmountOfServers))
    = codes "RequestResponseOpenOrCreateError::RequestResponseOpenError(DoesNotSupportRequestedAmountOfServers)"
refusal_text (refusal.RequestResponseOpenOrCreate
    (request_response_either.RequestResponseOpenError request_response_open.DoesNotSupportRequestedAmountOfClients))
    = codes "RequestResponseOpenOrCreateError::RequestResponseOpenError(DoesNotSupportRequestedAmountOfClients)"
refusal_text (refusal.RequestResponseOpenOrCreate
    (request_response_either.RequestResponseOpenError
    request_response_open.DoesNotSupportRequestedAmountOfBorrowedResponsesPerPendingResponse))
    = codes "RequestResponseOpenOrCreateError::RequestResponseOpenError(DoesNotSupportRequestedAmountOfBorrowedResponsesPerPendingResponse)"
refusal_text (refusal.RequestResponseOpenOrCreate
    (request_response_either.RequestResponseOpenError request_response_open.DoesNotSupportRequestedAmountOfNodes))
    = codes "RequestResponseOpenOrCreateError::RequestResponseOpenError(DoesNotSupportRequestedAmountOfNodes)"
refusal_text (refusal.RequestResponseOpenOrCreate (request_response_either.RequestResponseOpenError request_response_open.DoesNotExist))
    = codes "RequestResponseOpenOrCreateError::RequestResponseOpenError(DoesNotExist)"
refusal_text (refusal.RequestResponseOpenOrCreate
    (request_response_either.RequestResponseOpenError request_response_open.InsufficientPermissions))
    = codes "RequestResponseOpenOrCreateError::RequestResponseOpenError(InsufficientPermissions)"
refusal_text (refusal.RequestResponseOpenOrCreate
    (request_response_either.RequestResponseOpenError request_response_open.ServiceInCorruptedState))
    = codes "RequestResponseOpenOrCreateError::RequestResponseOpenError(ServiceInCorruptedState)"
refusal_text (refusal.RequestResponseOpenOrCreate (request_response_either.RequestResponseOpenError request_response_open.InternalFailure))
    = codes "RequestResponseOpenOrCreateError::RequestResponseOpenError(InternalFailure)"
refusal_text (refusal.RequestResponseOpenOrCreate (request_response_either.RequestResponseOpenError request_response_open.HangsInCreation))
    = codes "RequestResponseOpenOrCreateError::RequestResponseOpenError(HangsInCreation)"
refusal_text (refusal.RequestResponseOpenOrCreate
    (request_response_either.RequestResponseOpenError request_response_open.ExceedsMaxNumberOfNodes))
    = codes "RequestResponseOpenOrCreateError::RequestResponseOpenError(ExceedsMaxNumberOfNodes)"
refusal_text (refusal.RequestResponseOpenOrCreate
    (request_response_either.RequestResponseOpenError request_response_open.IsMarkedForDestruction))
    = codes "RequestResponseOpenOrCreateError::RequestResponseOpenError(IsMarkedForDestruction)"
refusal_text (refusal.RequestResponseOpenOrCreate (request_response_either.RequestResponseOpenError request_response_open.OutOfMemory))
    = codes "RequestResponseOpenOrCreateError::RequestResponseOpenError(OutOfMemory)"
refusal_text (refusal.RequestResponseOpenOrCreate
    (request_response_either.RequestResponseCreateError request_response_create.AlreadyExists))
    = codes "RequestResponseOpenOrCreateError::RequestResponseCreateError(AlreadyExists)"
refusal_text (refusal.RequestResponseOpenOrCreate
    (request_response_either.RequestResponseCreateError request_response_create.InsufficientPermissions))
    = codes "RequestResponseOpenOrCreateError::RequestResponseCreateError(InsufficientPermissions)"
refusal_text (refusal.RequestResponseOpenOrCreate
    (request_response_either.RequestResponseCreateError request_response_create.InternalFailure))
    = codes "RequestResponseOpenOrCreateError::RequestResponseCreateError(InternalFailure)"
refusal_text (refusal.RequestResponseOpenOrCreate
    (request_response_either.RequestResponseCreateError request_response_create.IsBeingCreatedByAnotherInstance))
    = codes "RequestResponseOpenOrCreateError::RequestResponseCreateError(IsBeingCreatedByAnotherInstance)"
refusal_text (refusal.RequestResponseOpenOrCreate
    (request_response_either.RequestResponseCreateError request_response_create.HangsInCreation))
    = codes "RequestResponseOpenOrCreateError::RequestResponseCreateError(HangsInCreation)"
refusal_text (refusal.RequestResponseOpenOrCreate
    (request_response_either.RequestResponseCreateError request_response_create.ServiceInCorruptedState))
    = codes "RequestResponseOpenOrCreateError::RequestResponseCreateError(ServiceInCorruptedState)"
refusal_text (refusal.RequestResponseOpenOrCreate (request_response_either.RequestResponseCreateError request_response_create.OutOfMemory))
    = codes "RequestResponseOpenOrCreateError::RequestResponseCreateError(OutOfMemory)"
refusal_text (refusal.RequestResponseOpenOrCreate request_response_either.SystemInFlux)
    = codes "RequestResponseOpenOrCreateError::SystemInFlux"
refusal_text (refusal.Close close.NotThisStorage) = codes "CloseError::NotThisStorage"
refusal_text (refusal.Close close.UnableToRemoveDescription) = codes "CloseError::UnableToRemoveDescription"
refusal_text (refusal.Close close.UnableToRemoveSegment) = codes "CloseError::UnableToRemoveSegment"
refusal_text (refusal.Close close.StillInUse) = codes "CloseError::StillInUse"
refusal_text (refusal.Publisher publisher.ExceedsMaxSupportedPublishers) = codes "PublisherCreateError::ExceedsMaxSupportedPublishers"
refusal_text (refusal.Publisher publisher.UnableToCreateDataSegment) = codes "PublisherCreateError::UnableToCreateDataSegment"
refusal_text (refusal.Publisher publisher.FailedToDeployThreadsafetyPolicy) = codes "PublisherCreateError::FailedToDeployThreadsafetyPolicy"
refusal_text (refusal.Publisher publisher.UnableToCreatePortTag) = codes "PublisherCreateError::UnableToCreatePortTag"
refusal_text (refusal.Subscriber subscriber.ExceedsMaxSupportedSubscribers) = codes "SubscriberCreateError::ExceedsMaxSupportedSubscribers"
refusal_text (refusal.Subscriber subscriber.BufferSizeExceedsMaxSupportedBufferSizeOfService)
    = codes "SubscriberCreateError::BufferSizeExceedsMaxSupportedBufferSizeOfService"
refusal_text (refusal.Subscriber subscriber.FailedToDeployThreadsafetyPolicy)
    = codes "SubscriberCreateError::FailedToDeployThreadsafetyPolicy"
refusal_text (refusal.Subscriber subscriber.UnableToCreatePortTag) = codes "SubscriberCreateError::UnableToCreatePortTag"
refusal_text (refusal.Subscriber subscriber.OutOfMemory) = codes "SubscriberCreateError::OutOfMemory"
refusal_text (refusal.Loan loan.OutOfMemory) = codes "LoanError::OutOfMemory"
refusal_text (refusal.Loan loan.ExceedsMaxLoans) = codes "LoanError::ExceedsMaxLoans"
refusal_text (refusal.Loan loan.ExceedsMaxLoanSize) = codes "LoanError::ExceedsMaxLoanSize"
refusal_text (refusal.Loan loan.InternalFailure) = codes "LoanError::InternalFailure"
refusal_text (refusal.Send send.ConnectionBrokenSinceSenderNoLongerExists) = codes "SendError::ConnectionBrokenSinceSenderNoLongerExists"
refusal_text (refusal.Send send.ConnectionCorrupted) = codes "SendError::ConnectionCorrupted"
refusal_text (refusal.Send (send.LoanError loan.OutOfMemory)) = codes "SendError::LoanError(OutOfMemory)"
refusal_text (refusal.Send (send.LoanError loan.ExceedsMaxLoans)) = codes "SendError::LoanError(ExceedsMaxLoans)"
refusal_text (refusal.Send (send.LoanError loan.ExceedsMaxLoanSize)) = codes "SendError::LoanError(ExceedsMaxLoanSize)"
refusal_text (refusal.Send (send.LoanError loan.InternalFailure)) = codes "SendError::LoanError(InternalFailure)"
refusal_text (refusal.Send (send.ConnectionError (connection.FailedToEstablishConnection zero_copy.OutOfMemory)))
    = codes "SendError::ConnectionError(FailedToEstablishConnection(OutOfMemory))"
refusal_text (refusal.Send (send.ConnectionError (connection.FailedToEstablishConnection zero_copy.ExpiredConnectionBufferFull)))
    = codes "SendError::ConnectionError(FailedToEstablishConnection(ExpiredConnectionBufferFull))"
refusal_text (refusal.Send (send.ConnectionError (connection.FailedToEstablishConnection zero_copy.IncompatibleBufferSize)))
    = codes "SendError::ConnectionError(FailedToEstablishConnection(IncompatibleBufferSize))"
refusal_text (refusal.Send (send.ConnectionError connection.UnableToMapSendersDataSegment))
    = codes "SendError::ConnectionError(UnableToMapSendersDataSegment)"
refusal_text (refusal.Send send.UnableToDeliver) = codes "SendError::UnableToDeliver"
refusal_text (refusal.Send send.InternalError) = codes "SendError::InternalError"
refusal_text (refusal.Receive receive.ExceedsMaxBorrows) = codes "ReceiveError::ExceedsMaxBorrows"
refusal_text (refusal.Receive (receive.ConnectionFailure (connection.FailedToEstablishConnection zero_copy.OutOfMemory)))
    = codes "ReceiveError::ConnectionFailure(FailedToEstablishConnection(OutOfMemory))"
refusal_text (refusal.Receive (receive.ConnectionFailure (connection.FailedToEstablishConnection zero_copy.ExpiredConnectionBufferFull)))
    = codes "ReceiveError::ConnectionFailure(FailedToEstablishConnection(ExpiredConnectionBufferFull))"
refusal_text (refusal.Receive (receive.ConnectionFailure (connection.FailedToEstablishConnection zero_copy.IncompatibleBufferSize)))
    = codes "ReceiveError::ConnectionFailure(FailedToEstablishConnection(IncompatibleBufferSize))"
refusal_text (refusal.Receive (receive.ConnectionFailure connection.UnableToMapSendersDataSegment))
    = codes "ReceiveError::ConnectionFailure(UnableToMapSendersDataSegment)"
refusal_text (refusal.Connection (connection.FailedToEstablishConnection zero_copy.OutOfMemory))
    = codes "ConnectionFailure::FailedToEstablishConnection(OutOfMemory)"
refusal_text (refusal.Connection (connection.FailedToEstablishConnection zero_copy.ExpiredConnectionBufferFull))
    = codes "ConnectionFailure::FailedToEstablishConnection(ExpiredConnectionBufferFull)"
refusal_text (refusal.Connection (connection.FailedToEstablishConnection zero_copy.IncompatibleBufferSize))
    = codes "ConnectionFailure::FailedToEstablishConnection(IncompatibleBufferSize)"
refusal_text (refusal.Connection connection.UnableToMapSendersDataSegment) = codes "ConnectionFailure::UnableToMapSendersDataSegment"
