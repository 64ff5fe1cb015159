-- The errors of publish-subscribe services, made from the failures of any pattern.
use Rattle.iox_negotiate_base.specs.DescribeVerdict.declared.requirement.publish_subscribe.ClauseError.{ClauseError}
use Rattle.iox_negotiate_base.specs.DescribeVerdict.declared.requirement.publish_subscribe.ClauseError.TheVariants as clause
use Rattle.iox_negotiate_base.specs.declared.failure.OpenFailure.{OpenFailure}
use Rattle.iox_negotiate_base.specs.declared.failure.OpenFailure.TheVariants as unopened
use Rattle.iox_negotiate_base.specs.declared.failure.CreateFailure.{CreateFailure}
use Rattle.iox_negotiate_base.specs.declared.failure.CreateFailure.TheVariants as uncreated
use Rattle.iox_negotiate_base.specs.declared.failure.OpenOrCreateFailure.{OpenOrCreateFailure}
use Rattle.iox_negotiate_base.specs.declared.failure.OpenOrCreateFailure.TheVariants as neither
use Rattle.iox_negotiate_base.specs.declared.errors.publish_subscribe.PublishSubscribeOpenError.{PublishSubscribeOpenError}
use Rattle.iox_negotiate_base.specs.declared.errors.publish_subscribe.PublishSubscribeOpenError.TheVariants as opening
use Rattle.iox_negotiate_base.specs.declared.errors.publish_subscribe.PublishSubscribeCreateError.{PublishSubscribeCreateError}
use Rattle.iox_negotiate_base.specs.declared.errors.publish_subscribe.PublishSubscribeCreateError.TheVariants as creating
use Rattle.iox_negotiate_base.specs.declared.errors.publish_subscribe.PublishSubscribeOpenOrCreateError.{PublishSubscribeOpenOrCreateError}
use Rattle.iox_negotiate_base.specs.declared.errors.publish_subscribe.PublishSubscribeOpenOrCreateError.TheVariants as either

-- The error of an unmet clause has the clause's name.
abbrev pub clause_error : ClauseError → PublishSubscribeOpenError
clause_error clause.IncompatibleMessagingPattern = opening.IncompatibleMessagingPattern
clause_error clause.IncompatibleTypes = opening.IncompatibleTypes
clause_error clause.IncompatibleAttributes = opening.IncompatibleAttributes
clause_error clause.IncompatibleOverflowBehavior = opening.IncompatibleOverflowBehavior
clause_error clause.IncompatibleSequenceNumbers = opening.IncompatibleSequenceNumbers
clause_error clause.DoesNotSupportRequestedAmountOfPublishers = opening.DoesNotSupportRequestedAmountOfPublishers
clause_error clause.DoesNotSupportRequestedAmountOfSubscribers = opening.DoesNotSupportRequestedAmountOfSubscribers
clause_error clause.DoesNotSupportRequestedMinBufferSize = opening.DoesNotSupportRequestedMinBufferSize
clause_error clause.DoesNotSupportRequestedMinHistorySize = opening.DoesNotSupportRequestedMinHistorySize
clause_error clause.DoesNotSupportRequestedMinSubscriberBorrowedSamples = opening.DoesNotSupportRequestedMinSubscriberBorrowedSamples
clause_error clause.DoesNotSupportRequestedAmountOfNodes = opening.DoesNotSupportRequestedAmountOfNodes

-- Any other error has the name of the failure.
abbrev pub open_error : OpenFailure ClauseError → PublishSubscribeOpenError
open_error (unopened.Clause unmet) = clause_error unmet
open_error unopened.DoesNotExist = opening.DoesNotExist
open_error unopened.InsufficientPermissions = opening.InsufficientPermissions
open_error unopened.ServiceInCorruptedState = opening.ServiceInCorruptedState
open_error unopened.InternalFailure = opening.InternalFailure
open_error unopened.HangsInCreation = opening.HangsInCreation
open_error unopened.ExceedsMaxNumberOfNodes = opening.ExceedsMaxNumberOfNodes
open_error unopened.IsMarkedForDestruction = opening.IsMarkedForDestruction
open_error unopened.OutOfMemory = opening.OutOfMemory

-- The error has the name of the failure.
abbrev pub create_error : CreateFailure → PublishSubscribeCreateError
create_error uncreated.AlreadyExists = creating.AlreadyExists
create_error uncreated.InsufficientPermissions = creating.InsufficientPermissions
create_error uncreated.InternalFailure = creating.InternalFailure
create_error uncreated.IsBeingCreatedByAnotherInstance = creating.IsBeingCreatedByAnotherInstance
create_error uncreated.HangsInCreation = creating.HangsInCreation
create_error uncreated.ServiceInCorruptedState = creating.ServiceInCorruptedState
create_error uncreated.SubscriberBufferMustBeLargerThanHistorySize = creating.SubscriberBufferMustBeLargerThanHistorySize
create_error uncreated.OutOfMemory = creating.OutOfMemory

-- The error around the inner one.
abbrev pub open_or_create_error : OpenOrCreateFailure ClauseError → PublishSubscribeOpenOrCreateError
open_or_create_error (neither.Open failure) = either.PublishSubscribeOpenError (open_error failure)
open_or_create_error (neither.Create failure) = either.PublishSubscribeCreateError (create_error failure)
open_or_create_error neither.SystemInFlux = either.SystemInFlux
