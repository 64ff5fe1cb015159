-- The texts of the errors of publish-subscribe services: the name of the type, `::` and the variant, with an inner variant in parentheses.
use Rattle.std.specs.Prelude.{ℕ, List, ◌++◌, codes}
use Rattle.iox_negotiate_base.specs.declared.errors.publish_subscribe.PublishSubscribeOpenError.{PublishSubscribeOpenError}
use Rattle.iox_negotiate_base.specs.declared.errors.publish_subscribe.PublishSubscribeOpenError.TheVariants as opening
use Rattle.iox_negotiate_base.specs.declared.errors.publish_subscribe.PublishSubscribeCreateError.{PublishSubscribeCreateError}
use Rattle.iox_negotiate_base.specs.declared.errors.publish_subscribe.PublishSubscribeCreateError.TheVariants as creating
use Rattle.iox_negotiate_base.specs.declared.errors.publish_subscribe.PublishSubscribeOpenOrCreateError.{PublishSubscribeOpenOrCreateError}
use Rattle.iox_negotiate_base.specs.declared.errors.publish_subscribe.PublishSubscribeOpenOrCreateError.TheVariants as either

-- The name of the variant of an error of opening.
abbrev pub open_name : PublishSubscribeOpenError → List ℕ
open_name opening.IncompatibleMessagingPattern = codes "IncompatibleMessagingPattern"
open_name opening.IncompatibleTypes = codes "IncompatibleTypes"
open_name opening.IncompatibleAttributes = codes "IncompatibleAttributes"
open_name opening.IncompatibleOverflowBehavior = codes "IncompatibleOverflowBehavior"
open_name opening.IncompatibleSequenceNumbers = codes "IncompatibleSequenceNumbers"
open_name opening.DoesNotSupportRequestedAmountOfPublishers = codes "DoesNotSupportRequestedAmountOfPublishers"
open_name opening.DoesNotSupportRequestedAmountOfSubscribers = codes "DoesNotSupportRequestedAmountOfSubscribers"
open_name opening.DoesNotSupportRequestedMinBufferSize = codes "DoesNotSupportRequestedMinBufferSize"
open_name opening.DoesNotSupportRequestedMinHistorySize = codes "DoesNotSupportRequestedMinHistorySize"
open_name opening.DoesNotSupportRequestedMinSubscriberBorrowedSamples = codes "DoesNotSupportRequestedMinSubscriberBorrowedSamples"
open_name opening.DoesNotSupportRequestedAmountOfNodes = codes "DoesNotSupportRequestedAmountOfNodes"
open_name opening.DoesNotExist = codes "DoesNotExist"
open_name opening.InsufficientPermissions = codes "InsufficientPermissions"
open_name opening.ServiceInCorruptedState = codes "ServiceInCorruptedState"
open_name opening.InternalFailure = codes "InternalFailure"
open_name opening.HangsInCreation = codes "HangsInCreation"
open_name opening.ExceedsMaxNumberOfNodes = codes "ExceedsMaxNumberOfNodes"
open_name opening.IsMarkedForDestruction = codes "IsMarkedForDestruction"
open_name opening.OutOfMemory = codes "OutOfMemory"

-- The name of the variant of an error of creating.
abbrev pub create_name : PublishSubscribeCreateError → List ℕ
create_name creating.AlreadyExists = codes "AlreadyExists"
create_name creating.InsufficientPermissions = codes "InsufficientPermissions"
create_name creating.InternalFailure = codes "InternalFailure"
create_name creating.IsBeingCreatedByAnotherInstance = codes "IsBeingCreatedByAnotherInstance"
create_name creating.HangsInCreation = codes "HangsInCreation"
create_name creating.ServiceInCorruptedState = codes "ServiceInCorruptedState"
create_name creating.SubscriberBufferMustBeLargerThanHistorySize = codes "SubscriberBufferMustBeLargerThanHistorySize"
create_name creating.OutOfMemory = codes "OutOfMemory"

-- The text of an error of opening: the name of the type, `::` and the variant.
abbrev pub open_text : PublishSubscribeOpenError → List ℕ
open_text error = codes "PublishSubscribeOpenError::" ++ open_name error

-- The text of an error of creating: the name of the type, `::` and the variant.
abbrev pub create_text : PublishSubscribeCreateError → List ℕ
create_text error = codes "PublishSubscribeCreateError::" ++ create_name error

-- The text of an error of either: the name of the type, `::` and the variant, which has the name of the inner error.
abbrev pub open_or_create_text : PublishSubscribeOpenOrCreateError → List ℕ
open_or_create_text (either.PublishSubscribeOpenError error) = codes "PublishSubscribeOpenOrCreateError::PublishSubscribeOpenError("
    ++ open_name error ++ codes ")"
open_or_create_text (either.PublishSubscribeCreateError error) = codes "PublishSubscribeOpenOrCreateError::PublishSubscribeCreateError("
    ++ create_name error ++ codes ")"
open_or_create_text either.SystemInFlux = codes "PublishSubscribeOpenOrCreateError::SystemInFlux"
