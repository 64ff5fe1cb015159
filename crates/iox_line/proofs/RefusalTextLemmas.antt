-- What is written of a refusal is what it displays as.
use Rattle.std.proofs.Common.{◌≡◌, ◌++◌, codes, refl}
use Rattle.iox_command.specs.RefusalText as command
use Rattle.iox_command.specs.DomainValues.ErrorTexts as domain
use Rattle.iox_command.specs.NegotiateBase.CloseText.{close_name}
use Rattle.iox_command.specs.NegotiateBase.EventTexts as event
use Rattle.iox_command.specs.NegotiateBase.PublishSubscribeTexts as publish_subscribe
use Rattle.iox_command.specs.NegotiateBase.RequestResponseTexts as request_response
use Rattle.iox_command.specs.NegotiateBase.declared.errors.publish_subscribe.PublishSubscribeCreateError.{PublishSubscribeCreateError}
use Rattle.iox_command.specs.NegotiateBase.declared.errors.publish_subscribe.PublishSubscribeCreateError.TheVariants as
    publish_subscribe_create
use Rattle.iox_command.specs.NegotiateBase.declared.errors.publish_subscribe.PublishSubscribeOpenError.{PublishSubscribeOpenError}
use Rattle.iox_command.specs.NegotiateBase.declared.errors.publish_subscribe.PublishSubscribeOpenError.TheVariants as publish_subscribe_open
use Rattle.iox_command.specs.NegotiateBase.declared.errors.publish_subscribe.PublishSubscribeOpenOrCreateError.TheVariants as
    publish_subscribe_either
use Rattle.iox_command.specs.NegotiateBase.declared.errors.event.EventCreateError.{EventCreateError}
use Rattle.iox_command.specs.NegotiateBase.declared.errors.event.EventCreateError.TheVariants as event_create
use Rattle.iox_command.specs.NegotiateBase.declared.errors.event.EventOpenError.{EventOpenError}
use Rattle.iox_command.specs.NegotiateBase.declared.errors.event.EventOpenError.TheVariants as event_open
use Rattle.iox_command.specs.NegotiateBase.declared.errors.event.EventOpenOrCreateError.TheVariants as event_either
use Rattle.iox_command.specs.NegotiateBase.declared.errors.request_response.RequestResponseCreateError.{RequestResponseCreateError}
use Rattle.iox_command.specs.NegotiateBase.declared.errors.request_response.RequestResponseCreateError.TheVariants as
    request_response_create
use Rattle.iox_command.specs.NegotiateBase.declared.errors.request_response.RequestResponseOpenError.{RequestResponseOpenError}
use Rattle.iox_command.specs.NegotiateBase.declared.errors.request_response.RequestResponseOpenError.TheVariants as request_response_open
use Rattle.iox_command.specs.NegotiateBase.declared.errors.request_response.RequestResponseOpenOrCreateError.TheVariants as
    request_response_either
use Rattle.iox_command.specs.NegotiateBase.declared.errors.close.CloseError.{CloseError}
use Rattle.iox_command.specs.NegotiateBase.declared.errors.close.CloseError.TheVariants as close
use Rattle.iox_command.specs.DomainValues.declared.connection_failure.ConnectionFailure.{ConnectionFailure}
use Rattle.iox_command.specs.DomainValues.declared.connection_failure.ConnectionFailure.TheVariants as connection
use Rattle.iox_command.specs.DomainValues.declared.connection_failure.ZeroCopyCreationError.TheVariants as zero_copy
use Rattle.iox_command.specs.DomainValues.declared.create_error.PublisherCreateError.{PublisherCreateError}
use Rattle.iox_command.specs.DomainValues.declared.create_error.PublisherCreateError.TheVariants as publisher
use Rattle.iox_command.specs.DomainValues.declared.create_error.SubscriberCreateError.{SubscriberCreateError}
use Rattle.iox_command.specs.DomainValues.declared.create_error.SubscriberCreateError.TheVariants as subscriber
use Rattle.iox_command.specs.DomainValues.declared.port_error.LoanError.{LoanError}
use Rattle.iox_command.specs.DomainValues.declared.port_error.LoanError.TheVariants as loan
use Rattle.iox_command.specs.DomainValues.declared.port_error.ReceiveError.{ReceiveError}
use Rattle.iox_command.specs.DomainValues.declared.port_error.ReceiveError.TheVariants as receive
use Rattle.iox_command.specs.DomainValues.declared.port_error.SendError.{SendError}
use Rattle.iox_command.specs.DomainValues.declared.port_error.SendError.TheVariants as send
use Rattle.iox_command.specs.declared.refusal.HubError.TheVariants as hub
use Rattle.iox_command.specs.declared.refusal.Refusal.{Refusal}
use Rattle.iox_command.specs.declared.refusal.Refusal.TheVariants as refusal
use Rattle.iox_line.specs.RefusalText.{refusal_text}

publish_subscribe_create_text : (error : PublishSubscribeCreateError) → refusal_text (refusal.PublishSubscribeCreate error)
    ≡ codes "PublishSubscribeCreateError::" ++ publish_subscribe.create_name error
publish_subscribe_create_text publish_subscribe_create.AlreadyExists = refl
publish_subscribe_create_text publish_subscribe_create.InsufficientPermissions = refl
publish_subscribe_create_text publish_subscribe_create.InternalFailure = refl
publish_subscribe_create_text publish_subscribe_create.IsBeingCreatedByAnotherInstance = refl
publish_subscribe_create_text publish_subscribe_create.HangsInCreation = refl
publish_subscribe_create_text publish_subscribe_create.ServiceInCorruptedState = refl
publish_subscribe_create_text publish_subscribe_create.SubscriberBufferMustBeLargerThanHistorySize = refl
publish_subscribe_create_text publish_subscribe_create.OutOfMemory = refl

publish_subscribe_open_text : (error : PublishSubscribeOpenError) → refusal_text (refusal.PublishSubscribeOpen error)
    ≡ codes "PublishSubscribeOpenError::" ++ publish_subscribe.open_name error
publish_subscribe_open_text publish_subscribe_open.IncompatibleMessagingPattern = refl
publish_subscribe_open_text publish_subscribe_open.IncompatibleTypes = refl
publish_subscribe_open_text publish_subscribe_open.IncompatibleAttributes = refl
publish_subscribe_open_text publish_subscribe_open.IncompatibleOverflowBehavior = refl
publish_subscribe_open_text publish_subscribe_open.IncompatibleSequenceNumbers = refl
publish_subscribe_open_text publish_subscribe_open.DoesNotSupportRequestedAmountOfPublishers = refl
publish_subscribe_open_text publish_subscribe_open.DoesNotSupportRequestedAmountOfSubscribers = refl
publish_subscribe_open_text publish_subscribe_open.DoesNotSupportRequestedMinBufferSize = refl
publish_subscribe_open_text publish_subscribe_open.DoesNotSupportRequestedMinHistorySize = refl
publish_subscribe_open_text publish_subscribe_open.DoesNotSupportRequestedMinSubscriberBorrowedSamples = refl
publish_subscribe_open_text publish_subscribe_open.DoesNotSupportRequestedAmountOfNodes = refl
publish_subscribe_open_text publish_subscribe_open.DoesNotExist = refl
publish_subscribe_open_text publish_subscribe_open.InsufficientPermissions = refl
publish_subscribe_open_text publish_subscribe_open.ServiceInCorruptedState = refl
publish_subscribe_open_text publish_subscribe_open.InternalFailure = refl
publish_subscribe_open_text publish_subscribe_open.HangsInCreation = refl
publish_subscribe_open_text publish_subscribe_open.ExceedsMaxNumberOfNodes = refl
publish_subscribe_open_text publish_subscribe_open.IsMarkedForDestruction = refl
publish_subscribe_open_text publish_subscribe_open.OutOfMemory = refl

publish_subscribe_either_create_text : (error : PublishSubscribeCreateError)
    → refusal_text (refusal.PublishSubscribeOpenOrCreate (publish_subscribe_either.PublishSubscribeCreateError error))
    ≡ publish_subscribe.open_or_create_text (publish_subscribe_either.PublishSubscribeCreateError error)
publish_subscribe_either_create_text publish_subscribe_create.AlreadyExists = refl
publish_subscribe_either_create_text publish_subscribe_create.InsufficientPermissions = refl
publish_subscribe_either_create_text publish_subscribe_create.InternalFailure = refl
publish_subscribe_either_create_text publish_subscribe_create.IsBeingCreatedByAnotherInstance = refl
publish_subscribe_either_create_text publish_subscribe_create.HangsInCreation = refl
publish_subscribe_either_create_text publish_subscribe_create.ServiceInCorruptedState = refl
publish_subscribe_either_create_text publish_subscribe_create.SubscriberBufferMustBeLargerThanHistorySize = refl
publish_subscribe_either_create_text publish_subscribe_create.OutOfMemory = refl

publish_subscribe_either_open_text : (error : PublishSubscribeOpenError)
    → refusal_text (refusal.PublishSubscribeOpenOrCreate (publish_subscribe_either.PublishSubscribeOpenError error))
    ≡ publish_subscribe.open_or_create_text (publish_subscribe_either.PublishSubscribeOpenError error)
publish_subscribe_either_open_text publish_subscribe_open.IncompatibleMessagingPattern = refl
publish_subscribe_either_open_text publish_subscribe_open.IncompatibleTypes = refl
publish_subscribe_either_open_text publish_subscribe_open.IncompatibleAttributes = refl
publish_subscribe_either_open_text publish_subscribe_open.IncompatibleOverflowBehavior = refl
publish_subscribe_either_open_text publish_subscribe_open.IncompatibleSequenceNumbers = refl
publish_subscribe_either_open_text publish_subscribe_open.DoesNotSupportRequestedAmountOfPublishers = refl
publish_subscribe_either_open_text publish_subscribe_open.DoesNotSupportRequestedAmountOfSubscribers = refl
publish_subscribe_either_open_text publish_subscribe_open.DoesNotSupportRequestedMinBufferSize = refl
publish_subscribe_either_open_text publish_subscribe_open.DoesNotSupportRequestedMinHistorySize = refl
publish_subscribe_either_open_text publish_subscribe_open.DoesNotSupportRequestedMinSubscriberBorrowedSamples = refl
publish_subscribe_either_open_text publish_subscribe_open.DoesNotSupportRequestedAmountOfNodes = refl
publish_subscribe_either_open_text publish_subscribe_open.DoesNotExist = refl
publish_subscribe_either_open_text publish_subscribe_open.InsufficientPermissions = refl
publish_subscribe_either_open_text publish_subscribe_open.ServiceInCorruptedState = refl
publish_subscribe_either_open_text publish_subscribe_open.InternalFailure = refl
publish_subscribe_either_open_text publish_subscribe_open.HangsInCreation = refl
publish_subscribe_either_open_text publish_subscribe_open.ExceedsMaxNumberOfNodes = refl
publish_subscribe_either_open_text publish_subscribe_open.IsMarkedForDestruction = refl
publish_subscribe_either_open_text publish_subscribe_open.OutOfMemory = refl

event_create_text : (error : EventCreateError) → refusal_text (refusal.EventCreate error)
    ≡ codes "EventCreateError::" ++ event.create_name error
event_create_text event_create.AlreadyExists = refl
event_create_text event_create.InsufficientPermissions = refl
event_create_text event_create.InternalFailure = refl
event_create_text event_create.IsBeingCreatedByAnotherInstance = refl
event_create_text event_create.HangsInCreation = refl
event_create_text event_create.ServiceInCorruptedState = refl
event_create_text event_create.OutOfMemory = refl

event_open_text : (error : EventOpenError) → refusal_text (refusal.EventOpen error) ≡ codes "EventOpenError::" ++ event.open_name error
event_open_text event_open.IncompatibleMessagingPattern = refl
event_open_text event_open.IncompatibleAttributes = refl
event_open_text event_open.IncompatibleDeadline = refl
event_open_text event_open.DoesNotSupportRequestedAmountOfNotifiers = refl
event_open_text event_open.DoesNotSupportRequestedAmountOfListeners = refl
event_open_text event_open.DoesNotSupportRequestedMaxEventId = refl
event_open_text event_open.IncompatibleNotifierCreatedEvent = refl
event_open_text event_open.IncompatibleNotifierDroppedEvent = refl
event_open_text event_open.IncompatibleNotifierDeadEvent = refl
event_open_text event_open.DoesNotSupportRequestedAmountOfNodes = refl
event_open_text event_open.DoesNotExist = refl
event_open_text event_open.InsufficientPermissions = refl
event_open_text event_open.ServiceInCorruptedState = refl
event_open_text event_open.InternalFailure = refl
event_open_text event_open.HangsInCreation = refl
event_open_text event_open.ExceedsMaxNumberOfNodes = refl
event_open_text event_open.IsMarkedForDestruction = refl
event_open_text event_open.OutOfMemory = refl

event_either_create_text : (error : EventCreateError) → refusal_text (refusal.EventOpenOrCreate (event_either.EventCreateError error))
    ≡ event.open_or_create_text (event_either.EventCreateError error)
event_either_create_text event_create.AlreadyExists = refl
event_either_create_text event_create.InsufficientPermissions = refl
event_either_create_text event_create.InternalFailure = refl
event_either_create_text event_create.IsBeingCreatedByAnotherInstance = refl
event_either_create_text event_create.HangsInCreation = refl
event_either_create_text event_create.ServiceInCorruptedState = refl
event_either_create_text event_create.OutOfMemory = refl

event_either_open_text : (error : EventOpenError) → refusal_text (refusal.EventOpenOrCreate (event_either.EventOpenError error))
    ≡ event.open_or_create_text (event_either.EventOpenError error)
event_either_open_text event_open.IncompatibleMessagingPattern = refl
event_either_open_text event_open.IncompatibleAttributes = refl
event_either_open_text event_open.IncompatibleDeadline = refl
event_either_open_text event_open.DoesNotSupportRequestedAmountOfNotifiers = refl
event_either_open_text event_open.DoesNotSupportRequestedAmountOfListeners = refl
event_either_open_text event_open.DoesNotSupportRequestedMaxEventId = refl
event_either_open_text event_open.IncompatibleNotifierCreatedEvent = refl
event_either_open_text event_open.IncompatibleNotifierDroppedEvent = refl
event_either_open_text event_open.IncompatibleNotifierDeadEvent = refl
event_either_open_text event_open.DoesNotSupportRequestedAmountOfNodes = refl
event_either_open_text event_open.DoesNotExist = refl
event_either_open_text event_open.InsufficientPermissions = refl
event_either_open_text event_open.ServiceInCorruptedState = refl
event_either_open_text event_open.InternalFailure = refl
event_either_open_text event_open.HangsInCreation = refl
event_either_open_text event_open.ExceedsMaxNumberOfNodes = refl
event_either_open_text event_open.IsMarkedForDestruction = refl
event_either_open_text event_open.OutOfMemory = refl

request_response_create_text : (error : RequestResponseCreateError) → refusal_text (refusal.RequestResponseCreate error)
    ≡ codes "RequestResponseCreateError::" ++ request_response.create_name error
request_response_create_text request_response_create.AlreadyExists = refl
request_response_create_text request_response_create.InsufficientPermissions = refl
request_response_create_text request_response_create.InternalFailure = refl
request_response_create_text request_response_create.IsBeingCreatedByAnotherInstance = refl
request_response_create_text request_response_create.HangsInCreation = refl
request_response_create_text request_response_create.ServiceInCorruptedState = refl
request_response_create_text request_response_create.OutOfMemory = refl

request_response_open_text : (error : RequestResponseOpenError) → refusal_text (refusal.RequestResponseOpen error)
    ≡ codes "RequestResponseOpenError::" ++ request_response.open_name error
request_response_open_text request_response_open.IncompatibleMessagingPattern = refl
request_response_open_text request_response_open.IncompatibleRequestType = refl
request_response_open_text request_response_open.IncompatibleResponseType = refl
request_response_open_text request_response_open.IncompatibleAttributes = refl
request_response_open_text request_response_open.IncompatibleOverflowBehaviorForRequests = refl
request_response_open_text request_response_open.IncompatibleOverflowBehaviorForResponses = refl
request_response_open_text request_response_open.IncompatibleBehaviorForFireAndForgetRequests = refl
request_response_open_text request_response_open.DoesNotSupportRequestedAmountOfClientRequestLoans = refl
request_response_open_text request_response_open.DoesNotSupportRequestedAmountOfActiveRequestsPerClient = refl
request_response_open_text request_response_open.DoesNotSupportRequestedResponseBufferSize = refl
request_response_open_text request_response_open.DoesNotSupportRequestedAmountOfServers = refl
request_response_open_text request_response_open.DoesNotSupportRequestedAmountOfClients = refl
request_response_open_text request_response_open.DoesNotSupportRequestedAmountOfBorrowedResponsesPerPendingResponse = refl
request_response_open_text request_response_open.DoesNotSupportRequestedAmountOfNodes = refl
request_response_open_text request_response_open.DoesNotExist = refl
request_response_open_text request_response_open.InsufficientPermissions = refl
request_response_open_text request_response_open.ServiceInCorruptedState = refl
request_response_open_text request_response_open.InternalFailure = refl
request_response_open_text request_response_open.HangsInCreation = refl
request_response_open_text request_response_open.ExceedsMaxNumberOfNodes = refl
request_response_open_text request_response_open.IsMarkedForDestruction = refl
request_response_open_text request_response_open.OutOfMemory = refl

request_response_either_create_text : (error : RequestResponseCreateError)
    → refusal_text (refusal.RequestResponseOpenOrCreate (request_response_either.RequestResponseCreateError error))
    ≡ request_response.open_or_create_text (request_response_either.RequestResponseCreateError error)
request_response_either_create_text request_response_create.AlreadyExists = refl
request_response_either_create_text request_response_create.InsufficientPermissions = refl
request_response_either_create_text request_response_create.InternalFailure = refl
request_response_either_create_text request_response_create.IsBeingCreatedByAnotherInstance = refl
request_response_either_create_text request_response_create.HangsInCreation = refl
request_response_either_create_text request_response_create.ServiceInCorruptedState = refl
request_response_either_create_text request_response_create.OutOfMemory = refl

request_response_either_open_text : (error : RequestResponseOpenError)
    → refusal_text (refusal.RequestResponseOpenOrCreate (request_response_either.RequestResponseOpenError error))
    ≡ request_response.open_or_create_text (request_response_either.RequestResponseOpenError error)
request_response_either_open_text request_response_open.IncompatibleMessagingPattern = refl
request_response_either_open_text request_response_open.IncompatibleRequestType = refl
request_response_either_open_text request_response_open.IncompatibleResponseType = refl
request_response_either_open_text request_response_open.IncompatibleAttributes = refl
request_response_either_open_text request_response_open.IncompatibleOverflowBehaviorForRequests = refl
request_response_either_open_text request_response_open.IncompatibleOverflowBehaviorForResponses = refl
request_response_either_open_text request_response_open.IncompatibleBehaviorForFireAndForgetRequests = refl
request_response_either_open_text request_response_open.DoesNotSupportRequestedAmountOfClientRequestLoans = refl
request_response_either_open_text request_response_open.DoesNotSupportRequestedAmountOfActiveRequestsPerClient = refl
request_response_either_open_text request_response_open.DoesNotSupportRequestedResponseBufferSize = refl
request_response_either_open_text request_response_open.DoesNotSupportRequestedAmountOfServers = refl
request_response_either_open_text request_response_open.DoesNotSupportRequestedAmountOfClients = refl
request_response_either_open_text request_response_open.DoesNotSupportRequestedAmountOfBorrowedResponsesPerPendingResponse = refl
request_response_either_open_text request_response_open.DoesNotSupportRequestedAmountOfNodes = refl
request_response_either_open_text request_response_open.DoesNotExist = refl
request_response_either_open_text request_response_open.InsufficientPermissions = refl
request_response_either_open_text request_response_open.ServiceInCorruptedState = refl
request_response_either_open_text request_response_open.InternalFailure = refl
request_response_either_open_text request_response_open.HangsInCreation = refl
request_response_either_open_text request_response_open.ExceedsMaxNumberOfNodes = refl
request_response_either_open_text request_response_open.IsMarkedForDestruction = refl
request_response_either_open_text request_response_open.OutOfMemory = refl

close_text : (error : CloseError) → refusal_text (refusal.Close error) ≡ codes "CloseError::" ++ close_name error
close_text close.NotThisStorage = refl
close_text close.UnableToRemoveDescription = refl
close_text close.UnableToRemoveSegment = refl
close_text close.StillInUse = refl

publisher_text : (error : PublisherCreateError) → refusal_text (refusal.Publisher error)
    ≡ codes "PublisherCreateError::" ++ domain.publisher_create_name error
publisher_text publisher.ExceedsMaxSupportedPublishers = refl
publisher_text publisher.UnableToCreateDataSegment = refl
publisher_text publisher.FailedToDeployThreadsafetyPolicy = refl
publisher_text publisher.UnableToCreatePortTag = refl

subscriber_text : (error : SubscriberCreateError) → refusal_text (refusal.Subscriber error)
    ≡ codes "SubscriberCreateError::" ++ domain.subscriber_create_name error
subscriber_text subscriber.ExceedsMaxSupportedSubscribers = refl
subscriber_text subscriber.BufferSizeExceedsMaxSupportedBufferSizeOfService = refl
subscriber_text subscriber.FailedToDeployThreadsafetyPolicy = refl
subscriber_text subscriber.UnableToCreatePortTag = refl
subscriber_text subscriber.OutOfMemory = refl

loan_text : (error : LoanError) → refusal_text (refusal.Loan error) ≡ codes "LoanError::" ++ domain.loan_name error
loan_text loan.OutOfMemory = refl
loan_text loan.ExceedsMaxLoans = refl
loan_text loan.ExceedsMaxLoanSize = refl
loan_text loan.InternalFailure = refl

send_text : (error : SendError) → refusal_text (refusal.Send error) ≡ codes "SendError::" ++ domain.send_name error
send_text send.ConnectionBrokenSinceSenderNoLongerExists = refl
send_text send.ConnectionCorrupted = refl
send_text (send.LoanError loan.OutOfMemory) = refl
send_text (send.LoanError loan.ExceedsMaxLoans) = refl
send_text (send.LoanError loan.ExceedsMaxLoanSize) = refl
send_text (send.LoanError loan.InternalFailure) = refl
send_text (send.ConnectionError (connection.FailedToEstablishConnection zero_copy.OutOfMemory)) = refl
send_text (send.ConnectionError (connection.FailedToEstablishConnection zero_copy.ExpiredConnectionBufferFull)) = refl
send_text (send.ConnectionError (connection.FailedToEstablishConnection zero_copy.IncompatibleBufferSize)) = refl
send_text (send.ConnectionError connection.UnableToMapSendersDataSegment) = refl
send_text send.UnableToDeliver = refl
send_text send.InternalError = refl

receive_text : (error : ReceiveError) → refusal_text (refusal.Receive error) ≡ codes "ReceiveError::" ++ domain.receive_name error
receive_text receive.ExceedsMaxBorrows = refl
receive_text (receive.ConnectionFailure (connection.FailedToEstablishConnection zero_copy.OutOfMemory)) = refl
receive_text (receive.ConnectionFailure (connection.FailedToEstablishConnection zero_copy.ExpiredConnectionBufferFull)) = refl
receive_text (receive.ConnectionFailure (connection.FailedToEstablishConnection zero_copy.IncompatibleBufferSize)) = refl
receive_text (receive.ConnectionFailure connection.UnableToMapSendersDataSegment) = refl

connection_text : (error : ConnectionFailure) → refusal_text (refusal.Connection error)
    ≡ codes "ConnectionFailure::" ++ domain.connection_name error
connection_text (connection.FailedToEstablishConnection zero_copy.OutOfMemory) = refl
connection_text (connection.FailedToEstablishConnection zero_copy.ExpiredConnectionBufferFull) = refl
connection_text (connection.FailedToEstablishConnection zero_copy.IncompatibleBufferSize) = refl
connection_text connection.UnableToMapSendersDataSegment = refl

-- a refusal is written as it displays
pub written_as_displayed : (error : Refusal) → refusal_text error ≡ command.refusal_text error
written_as_displayed (refusal.Hub hub.OutOfMemory) = refl
written_as_displayed (refusal.PublishSubscribeCreate error) = publish_subscribe_create_text error
written_as_displayed (refusal.PublishSubscribeOpen error) = publish_subscribe_open_text error
written_as_displayed (refusal.PublishSubscribeOpenOrCreate (publish_subscribe_either.PublishSubscribeCreateError error))
    = publish_subscribe_either_create_text error
written_as_displayed (refusal.PublishSubscribeOpenOrCreate (publish_subscribe_either.PublishSubscribeOpenError error))
    = publish_subscribe_either_open_text error
written_as_displayed (refusal.PublishSubscribeOpenOrCreate publish_subscribe_either.SystemInFlux) = refl
written_as_displayed (refusal.EventCreate error) = event_create_text error
written_as_displayed (refusal.EventOpen error) = event_open_text error
written_as_displayed (refusal.EventOpenOrCreate (event_either.EventCreateError error)) = event_either_create_text error
written_as_displayed (refusal.EventOpenOrCreate (event_either.EventOpenError error)) = event_either_open_text error
written_as_displayed (refusal.EventOpenOrCreate event_either.SystemInFlux) = refl
written_as_displayed (refusal.RequestResponseCreate error) = request_response_create_text error
written_as_displayed (refusal.RequestResponseOpen error) = request_response_open_text error
written_as_displayed (refusal.RequestResponseOpenOrCreate (request_response_either.RequestResponseCreateError error))
    = request_response_either_create_text error
written_as_displayed (refusal.RequestResponseOpenOrCreate (request_response_either.RequestResponseOpenError error))
    = request_response_either_open_text error
written_as_displayed (refusal.RequestResponseOpenOrCreate request_response_either.SystemInFlux) = refl
written_as_displayed (refusal.Close error) = close_text error
written_as_displayed (refusal.Publisher error) = publisher_text error
written_as_displayed (refusal.Subscriber error) = subscriber_text error
written_as_displayed (refusal.Loan error) = loan_text error
written_as_displayed (refusal.Send error) = send_text error
written_as_displayed (refusal.Receive error) = receive_text error
written_as_displayed (refusal.Connection error) = connection_text error
