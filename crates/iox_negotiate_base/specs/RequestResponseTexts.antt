-- The texts of the errors of request-response services: the name of the type, `::` and the variant, with an inner variant in parentheses.
use Rattle.std.specs.Prelude.{ℕ, List, ◌++◌, codes}
use Rattle.iox_negotiate_base.specs.declared.errors.request_response.RequestResponseOpenError.{RequestResponseOpenError}
use Rattle.iox_negotiate_base.specs.declared.errors.request_response.RequestResponseOpenError.TheVariants as opening
use Rattle.iox_negotiate_base.specs.declared.errors.request_response.RequestResponseCreateError.{RequestResponseCreateError}
use Rattle.iox_negotiate_base.specs.declared.errors.request_response.RequestResponseCreateError.TheVariants as creating
use Rattle.iox_negotiate_base.specs.declared.errors.request_response.RequestResponseOpenOrCreateError.{RequestResponseOpenOrCreateError}
use Rattle.iox_negotiate_base.specs.declared.errors.request_response.RequestResponseOpenOrCreateError.TheVariants as either

-- The name of the variant of an error of opening.
abbrev pub open_name : RequestResponseOpenError → List ℕ
open_name opening.IncompatibleMessagingPattern = codes "IncompatibleMessagingPattern"
open_name opening.IncompatibleRequestType = codes "IncompatibleRequestType"
open_name opening.IncompatibleResponseType = codes "IncompatibleResponseType"
open_name opening.IncompatibleAttributes = codes "IncompatibleAttributes"
open_name opening.IncompatibleOverflowBehaviorForRequests = codes "IncompatibleOverflowBehaviorForRequests"
open_name opening.IncompatibleOverflowBehaviorForResponses = codes "IncompatibleOverflowBehaviorForResponses"
open_name opening.IncompatibleBehaviorForFireAndForgetRequests = codes "IncompatibleBehaviorForFireAndForgetRequests"
open_name opening.DoesNotSupportRequestedAmountOfClientRequestLoans = codes "DoesNotSupportRequestedAmountOfClientRequestLoans"
open_name opening.DoesNotSupportRequestedAmountOfActiveRequestsPerClient = codes "DoesNotSupportRequestedAmountOfActiveRequestsPerClient"
open_name opening.DoesNotSupportRequestedResponseBufferSize = codes "DoesNotSupportRequestedResponseBufferSize"
open_name opening.DoesNotSupportRequestedAmountOfServers = codes "DoesNotSupportRequestedAmountOfServers"
open_name opening.DoesNotSupportRequestedAmountOfClients = codes "DoesNotSupportRequestedAmountOfClients"
open_name opening.DoesNotSupportRequestedAmountOfBorrowedResponsesPerPendingResponse
    = codes "DoesNotSupportRequestedAmountOfBorrowedResponsesPerPendingResponse"
open_name opening.DoesNotSupportRequestedAmountOfNodes = codes "DoesNotSupportRequestedAmountOfNodes"
open_name opening.DoesNotExist = codes "DoesNotExist"
open_name opening.InsufficientPermissions = codes "InsufficientPermissions"
open_name opening.ServiceInCorruptedState = codes "ServiceInCorruptedState"
open_name opening.InternalFailure = codes "InternalFailure"
open_name opening.HangsInCreation = codes "HangsInCreation"
open_name opening.ExceedsMaxNumberOfNodes = codes "ExceedsMaxNumberOfNodes"
open_name opening.IsMarkedForDestruction = codes "IsMarkedForDestruction"
open_name opening.OutOfMemory = codes "OutOfMemory"

-- The name of the variant of an error of creating.
abbrev pub create_name : RequestResponseCreateError → List ℕ
create_name creating.AlreadyExists = codes "AlreadyExists"
create_name creating.InsufficientPermissions = codes "InsufficientPermissions"
create_name creating.InternalFailure = codes "InternalFailure"
create_name creating.IsBeingCreatedByAnotherInstance = codes "IsBeingCreatedByAnotherInstance"
create_name creating.HangsInCreation = codes "HangsInCreation"
create_name creating.ServiceInCorruptedState = codes "ServiceInCorruptedState"
create_name creating.OutOfMemory = codes "OutOfMemory"

-- The text of an error of opening: the name of the type, `::` and the variant.
abbrev pub open_text : RequestResponseOpenError → List ℕ
open_text error = codes "RequestResponseOpenError::" ++ open_name error

-- The text of an error of creating: the name of the type, `::` and the variant.
abbrev pub create_text : RequestResponseCreateError → List ℕ
create_text error = codes "RequestResponseCreateError::" ++ create_name error

-- The text of an error of either: the name of the type, `::` and the variant, which has the name of the inner error.
abbrev pub open_or_create_text : RequestResponseOpenOrCreateError → List ℕ
open_or_create_text (either.RequestResponseOpenError error) = codes "RequestResponseOpenOrCreateError::RequestResponseOpenError("
    ++ open_name error ++ codes ")"
open_or_create_text (either.RequestResponseCreateError error) = codes "RequestResponseOpenOrCreateError::RequestResponseCreateError("
    ++ create_name error ++ codes ")"
open_or_create_text either.SystemInFlux = codes "RequestResponseOpenOrCreateError::SystemInFlux"
