-- The texts of the errors of event services: the name of the type, `::` and the variant, with an inner variant in parentheses.
use Rattle.std.specs.Prelude.{ℕ, List, ◌++◌, codes}
use Rattle.iox_negotiate_base.specs.declared.errors.event.EventOpenError.{EventOpenError}
use Rattle.iox_negotiate_base.specs.declared.errors.event.EventOpenError.TheVariants as opening
use Rattle.iox_negotiate_base.specs.declared.errors.event.EventCreateError.{EventCreateError}
use Rattle.iox_negotiate_base.specs.declared.errors.event.EventCreateError.TheVariants as creating
use Rattle.iox_negotiate_base.specs.declared.errors.event.EventOpenOrCreateError.{EventOpenOrCreateError}
use Rattle.iox_negotiate_base.specs.declared.errors.event.EventOpenOrCreateError.TheVariants as either

-- The name of the variant of an error of opening.
abbrev pub open_name : EventOpenError → List ℕ
open_name opening.IncompatibleMessagingPattern = codes "IncompatibleMessagingPattern"
open_name opening.IncompatibleAttributes = codes "IncompatibleAttributes"
open_name opening.IncompatibleDeadline = codes "IncompatibleDeadline"
open_name opening.DoesNotSupportRequestedAmountOfNotifiers = codes "DoesNotSupportRequestedAmountOfNotifiers"
open_name opening.DoesNotSupportRequestedAmountOfListeners = codes "DoesNotSupportRequestedAmountOfListeners"
open_name opening.DoesNotSupportRequestedMaxEventId = codes "DoesNotSupportRequestedMaxEventId"
open_name opening.IncompatibleNotifierCreatedEvent = codes "IncompatibleNotifierCreatedEvent"
open_name opening.IncompatibleNotifierDroppedEvent = codes "IncompatibleNotifierDroppedEvent"
open_name opening.IncompatibleNotifierDeadEvent = codes "IncompatibleNotifierDeadEvent"
open_name opening.DoesNotSupportRequestedAmountOfNodes = codes "DoesNotSupportRequestedAmountOfNodes"
open_name opening.DoesNotExist = codes "DoesNotExist"
open_name opening.InsufficientPermissions = codes "InsufficientPermissions"
open_name opening.ServiceInCorruptedState = codes "ServiceInCorruptedState"
open_name opening.InternalFailure = codes "InternalFailure"
open_name opening.HangsInCreation = codes "HangsInCreation"
open_name opening.ExceedsMaxNumberOfNodes = codes "ExceedsMaxNumberOfNodes"
open_name opening.IsMarkedForDestruction = codes "IsMarkedForDestruction"
open_name opening.OutOfMemory = codes "OutOfMemory"

-- The name of the variant of an error of creating.
abbrev pub create_name : EventCreateError → List ℕ
create_name creating.AlreadyExists = codes "AlreadyExists"
create_name creating.InsufficientPermissions = codes "InsufficientPermissions"
create_name creating.InternalFailure = codes "InternalFailure"
create_name creating.IsBeingCreatedByAnotherInstance = codes "IsBeingCreatedByAnotherInstance"
create_name creating.HangsInCreation = codes "HangsInCreation"
create_name creating.ServiceInCorruptedState = codes "ServiceInCorruptedState"
create_name creating.OutOfMemory = codes "OutOfMemory"

-- The text of an error of opening: the name of the type, `::` and the variant.
abbrev pub open_text : EventOpenError → List ℕ
open_text error = codes "EventOpenError::" ++ open_name error

-- The text of an error of creating: the name of the type, `::` and the variant.
abbrev pub create_text : EventCreateError → List ℕ
create_text error = codes "EventCreateError::" ++ create_name error

-- The text of an error of either: the name of the type, `::` and the variant, which has the name of the inner error.
abbrev pub open_or_create_text : EventOpenOrCreateError → List ℕ
open_or_create_text (either.EventOpenError error) = codes "EventOpenOrCreateError::EventOpenError(" ++ open_name error ++ codes ")"
open_or_create_text (either.EventCreateError error) = codes "EventOpenOrCreateError::EventCreateError(" ++ create_name error ++ codes ")"
open_or_create_text either.SystemInFlux = codes "EventOpenOrCreateError::SystemInFlux"
