-- The errors of event services, made from the failures of any pattern.
use Rattle.iox_negotiate_base.specs.DescribeVerdict.declared.requirement.event.ClauseError.{ClauseError}
use Rattle.iox_negotiate_base.specs.DescribeVerdict.declared.requirement.event.ClauseError.TheVariants as clause
use Rattle.iox_negotiate_base.specs.declared.failure.OpenFailure.{OpenFailure}
use Rattle.iox_negotiate_base.specs.declared.failure.OpenFailure.TheVariants as unopened
use Rattle.iox_negotiate_base.specs.declared.failure.CreateFailure.{CreateFailure}
use Rattle.iox_negotiate_base.specs.declared.failure.CreateFailure.TheVariants as uncreated
use Rattle.iox_negotiate_base.specs.declared.failure.OpenOrCreateFailure.{OpenOrCreateFailure}
use Rattle.iox_negotiate_base.specs.declared.failure.OpenOrCreateFailure.TheVariants as neither
use Rattle.iox_negotiate_base.specs.declared.errors.event.EventOpenError.{EventOpenError}
use Rattle.iox_negotiate_base.specs.declared.errors.event.EventOpenError.TheVariants as opening
use Rattle.iox_negotiate_base.specs.declared.errors.event.EventCreateError.{EventCreateError}
use Rattle.iox_negotiate_base.specs.declared.errors.event.EventCreateError.TheVariants as creating
use Rattle.iox_negotiate_base.specs.declared.errors.event.EventOpenOrCreateError.{EventOpenOrCreateError}
use Rattle.iox_negotiate_base.specs.declared.errors.event.EventOpenOrCreateError.TheVariants as either

-- The error of an unmet clause has the clause's name.
abbrev pub clause_error : ClauseError → EventOpenError
clause_error clause.IncompatibleMessagingPattern = opening.IncompatibleMessagingPattern
clause_error clause.IncompatibleAttributes = opening.IncompatibleAttributes
clause_error clause.IncompatibleDeadline = opening.IncompatibleDeadline
clause_error clause.DoesNotSupportRequestedAmountOfNotifiers = opening.DoesNotSupportRequestedAmountOfNotifiers
clause_error clause.DoesNotSupportRequestedAmountOfListeners = opening.DoesNotSupportRequestedAmountOfListeners
clause_error clause.DoesNotSupportRequestedMaxEventId = opening.DoesNotSupportRequestedMaxEventId
clause_error clause.IncompatibleNotifierCreatedEvent = opening.IncompatibleNotifierCreatedEvent
clause_error clause.IncompatibleNotifierDroppedEvent = opening.IncompatibleNotifierDroppedEvent
clause_error clause.IncompatibleNotifierDeadEvent = opening.IncompatibleNotifierDeadEvent
clause_error clause.DoesNotSupportRequestedAmountOfNodes = opening.DoesNotSupportRequestedAmountOfNodes

-- Any other error has the name of the failure.
abbrev pub open_error : OpenFailure ClauseError → EventOpenError
open_error (unopened.Clause unmet) = clause_error unmet
open_error unopened.DoesNotExist = opening.DoesNotExist
open_error unopened.InsufficientPermissions = opening.InsufficientPermissions
open_error unopened.ServiceInCorruptedState = opening.ServiceInCorruptedState
open_error unopened.InternalFailure = opening.InternalFailure
open_error unopened.HangsInCreation = opening.HangsInCreation
open_error unopened.ExceedsMaxNumberOfNodes = opening.ExceedsMaxNumberOfNodes
open_error unopened.IsMarkedForDestruction = opening.IsMarkedForDestruction
open_error unopened.OutOfMemory = opening.OutOfMemory

-- The error has the name of the failure. An event service has no history, so the failure about the history doesn't occur.
abbrev pub create_error : CreateFailure → EventCreateError
create_error uncreated.AlreadyExists = creating.AlreadyExists
create_error uncreated.InsufficientPermissions = creating.InsufficientPermissions
create_error uncreated.InternalFailure = creating.InternalFailure
create_error uncreated.IsBeingCreatedByAnotherInstance = creating.IsBeingCreatedByAnotherInstance
create_error uncreated.HangsInCreation = creating.HangsInCreation
create_error uncreated.ServiceInCorruptedState = creating.ServiceInCorruptedState
create_error uncreated.OutOfMemory = creating.OutOfMemory
create_error uncreated.SubscriberBufferMustBeLargerThanHistorySize = creating.InternalFailure

-- The error around the inner one.
abbrev pub open_or_create_error : OpenOrCreateFailure ClauseError → EventOpenOrCreateError
open_or_create_error (neither.Open failure) = either.EventOpenError (open_error failure)
open_or_create_error (neither.Create failure) = either.EventCreateError (create_error failure)
open_or_create_error neither.SystemInFlux = either.SystemInFlux
