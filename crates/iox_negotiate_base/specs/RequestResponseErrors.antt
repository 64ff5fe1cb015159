-- The errors of request-response services, made from the failures of any pattern.
use Rattle.iox_negotiate_base.specs.DescribeVerdict.declared.requirement.request_response.ClauseError.{ClauseError}
use Rattle.iox_negotiate_base.specs.DescribeVerdict.declared.requirement.request_response.ClauseError.TheVariants as clause
use Rattle.iox_negotiate_base.specs.declared.failure.OpenFailure.{OpenFailure}
use Rattle.iox_negotiate_base.specs.declared.failure.OpenFailure.TheVariants as unopened
use Rattle.iox_negotiate_base.specs.declared.failure.CreateFailure.{CreateFailure}
use Rattle.iox_negotiate_base.specs.declared.failure.CreateFailure.TheVariants as uncreated
use Rattle.iox_negotiate_base.specs.declared.failure.OpenOrCreateFailure.{OpenOrCreateFailure}
use Rattle.iox_negotiate_base.specs.declared.failure.OpenOrCreateFailure.TheVariants as neither
use Rattle.iox_negotiate_base.specs.declared.errors.request_response.RequestResponseOpenError.{RequestResponseOpenError}
use Rattle.iox_negotiate_base.specs.declared.errors.request_response.RequestResponseOpenError.TheVariants as opening
use Rattle.iox_negotiate_base.specs.declared.errors.request_response.RequestResponseCreateError.{RequestResponseCreateError}
use Rattle.iox_negotiate_base.specs.declared.errors.request_response.RequestResponseCreateError.TheVariants as creating
use Rattle.iox_negotiate_base.specs.declared.errors.request_response.RequestResponseOpenOrCreateError.{RequestResponseOpenOrCreateError}
use Rattle.iox_negotiate_base.specs.declared.errors.request_response.RequestResponseOpenOrCreateError.TheVariants as either

-- The error of an unmet clause has the clause's name.
abbrev pub clause_error : ClauseError → RequestResponseOpenError
clause_error clause.IncompatibleMessagingPattern = opening.IncompatibleMessagingPattern
clause_error clause.IncompatibleRequestType = opening.IncompatibleRequestType
clause_error clause.IncompatibleResponseType = opening.IncompatibleResponseType
clause_error clause.IncompatibleAttributes = opening.IncompatibleAttributes
clause_error clause.IncompatibleOverflowBehaviorForRequests = opening.IncompatibleOverflowBehaviorForRequests
clause_error clause.IncompatibleOverflowBehaviorForResponses = opening.IncompatibleOverflowBehaviorForResponses
clause_error clause.IncompatibleBehaviorForFireAndForgetRequests = opening.IncompatibleBehaviorForFireAndForgetRequests
clause_error clause.DoesNotSupportRequestedAmountOfClientRequestLoans = opening.DoesNotSupportRequestedAmountOfClientRequestLoans
clause_error clause.DoesNotSupportRequestedAmountOfActiveRequestsPerClient = opening.DoesNotSupportRequestedAmountOfActiveRequestsPerClient
clause_error clause.DoesNotSupportRequestedResponseBufferSize = opening.DoesNotSupportRequestedResponseBufferSize
clause_error clause.DoesNotSupportRequestedAmountOfServers = opening.DoesNotSupportRequestedAmountOfServers
clause_error clause.DoesNotSupportRequestedAmountOfClients = opening.DoesNotSupportRequestedAmountOfClients
clause_error clause.DoesNotSupportRequestedAmountOfBorrowedResponsesPerPendingResponse
    = opening.DoesNotSupportRequestedAmountOfBorrowedResponsesPerPendingResponse
clause_error clause.DoesNotSupportRequestedAmountOfNodes = opening.DoesNotSupportRequestedAmountOfNodes

-- Any other error has the name of the failure.
abbrev pub open_error : OpenFailure ClauseError → RequestResponseOpenError
open_error (unopened.Clause unmet) = clause_error unmet
open_error unopened.DoesNotExist = opening.DoesNotExist
open_error unopened.InsufficientPermissions = opening.InsufficientPermissions
open_error unopened.ServiceInCorruptedState = opening.ServiceInCorruptedState
open_error unopened.InternalFailure = opening.InternalFailure
open_error unopened.HangsInCreation = opening.HangsInCreation
open_error unopened.ExceedsMaxNumberOfNodes = opening.ExceedsMaxNumberOfNodes
open_error unopened.IsMarkedForDestruction = opening.IsMarkedForDestruction
open_error unopened.OutOfMemory = opening.OutOfMemory

-- The error has the name of the failure. A request-response service has no history, so the failure about the history doesn't occur.
abbrev pub create_error : CreateFailure → RequestResponseCreateError
create_error uncreated.AlreadyExists = creating.AlreadyExists
create_error uncreated.InsufficientPermissions = creating.InsufficientPermissions
create_error uncreated.InternalFailure = creating.InternalFailure
create_error uncreated.IsBeingCreatedByAnotherInstance = creating.IsBeingCreatedByAnotherInstance
create_error uncreated.HangsInCreation = creating.HangsInCreation
create_error uncreated.ServiceInCorruptedState = creating.ServiceInCorruptedState
create_error uncreated.OutOfMemory = creating.OutOfMemory
create_error uncreated.SubscriberBufferMustBeLargerThanHistorySize = creating.InternalFailure

-- The error around the inner one.
abbrev pub open_or_create_error : OpenOrCreateFailure ClauseError → RequestResponseOpenOrCreateError
open_or_create_error (neither.Open failure) = either.RequestResponseOpenError (open_error failure)
open_or_create_error (neither.Create failure) = either.RequestResponseCreateError (create_error failure)
open_or_create_error neither.SystemInFlux = either.SystemInFlux
