-- How failures to create and to open a service are reported.
use Rattle.iox_command.specs.NegotiateBase.declared.errors.publish_subscribe.PublishSubscribeCreateError.TheVariants as
    publish_subscribe_create
use Rattle.iox_command.specs.NegotiateBase.declared.errors.publish_subscribe.PublishSubscribeOpenError.TheVariants as publish_subscribe_open
use Rattle.iox_command.specs.NegotiateBase.declared.errors.publish_subscribe.PublishSubscribeOpenOrCreateError.TheVariants as
    publish_subscribe_either
use Rattle.iox_command.specs.NegotiateBase.declared.errors.event.EventCreateError.TheVariants as event_create
use Rattle.iox_command.specs.NegotiateBase.declared.errors.event.EventOpenError.TheVariants as event_open
use Rattle.iox_command.specs.NegotiateBase.declared.errors.event.EventOpenOrCreateError.TheVariants as event_either
use Rattle.iox_command.specs.NegotiateBase.declared.errors.request_response.RequestResponseCreateError.TheVariants as
    request_response_create
use Rattle.iox_command.specs.NegotiateBase.declared.errors.request_response.RequestResponseOpenError.TheVariants as request_response_open
use Rattle.iox_command.specs.NegotiateBase.declared.errors.request_response.RequestResponseOpenOrCreateError.TheVariants as
    request_response_either
use Rattle.iox_command.specs.NegotiateBase.declared.failure.CreateFailure.{CreateFailure}
use Rattle.iox_command.specs.NegotiateBase.declared.failure.CreateFailure.TheVariants as uncreated
use Rattle.iox_command.specs.NegotiateBase.declared.failure.OpenFailure.{OpenFailure}
use Rattle.iox_command.specs.NegotiateBase.declared.failure.OpenFailure.TheVariants as unopened
use Rattle.iox_command.specs.NegotiateBase.declared.failure.OpenOrCreateFailure.{OpenOrCreateFailure}
use Rattle.iox_command.specs.NegotiateBase.declared.failure.OpenOrCreateFailure.TheVariants as neither
use Rattle.iox_command.specs.declared.refusal.Refusal.{Refusal}
use Rattle.iox_command.specs.declared.refusal.Refusal.TheVariants as refusal
use Rattle.iox_command.specs.declared.service.ServiceOptions.{ServiceOptions}
use Rattle.iox_command.specs.declared.service.ServiceOptions.TheVariants as options

-- The refusal that reports a failed creation, by the service's pattern. Only publish-subscribe has a history, so only its buffer can be
-- shorter than the history.
abbrev pub create_refusal : ServiceOptions → CreateFailure → Refusal
create_refusal (options.PublishSubscribe named) uncreated.AlreadyExists
    = refusal.PublishSubscribeCreate publish_subscribe_create.AlreadyExists
create_refusal (options.PublishSubscribe named) uncreated.InsufficientPermissions
    = refusal.PublishSubscribeCreate publish_subscribe_create.InsufficientPermissions
create_refusal (options.PublishSubscribe named) uncreated.InternalFailure
    = refusal.PublishSubscribeCreate publish_subscribe_create.InternalFailure
create_refusal (options.PublishSubscribe named) uncreated.IsBeingCreatedByAnotherInstance
    = refusal.PublishSubscribeCreate publish_subscribe_create.IsBeingCreatedByAnotherInstance
create_refusal (options.PublishSubscribe named) uncreated.HangsInCreation
    = refusal.PublishSubscribeCreate publish_subscribe_create.HangsInCreation
create_refusal (options.PublishSubscribe named) uncreated.ServiceInCorruptedState
    = refusal.PublishSubscribeCreate publish_subscribe_create.ServiceInCorruptedState
create_refusal (options.PublishSubscribe named) uncreated.SubscriberBufferMustBeLargerThanHistorySize
    = refusal.PublishSubscribeCreate publish_subscribe_create.SubscriberBufferMustBeLargerThanHistorySize
create_refusal (options.PublishSubscribe named) uncreated.OutOfMemory = refusal.PublishSubscribeCreate publish_subscribe_create.OutOfMemory
create_refusal (options.Event named) uncreated.AlreadyExists = refusal.EventCreate event_create.AlreadyExists
create_refusal (options.Event named) uncreated.InsufficientPermissions = refusal.EventCreate event_create.InsufficientPermissions
create_refusal (options.Event named) uncreated.InternalFailure = refusal.EventCreate event_create.InternalFailure
create_refusal (options.Event named) uncreated.IsBeingCreatedByAnotherInstance
    = refusal.EventCreate event_create.IsBeingCreatedByAnotherInstance
create_refusal (options.Event named) uncreated.HangsInCreation = refusal.EventCreate event_create.HangsInCreation
create_refusal (options.Event named) uncreated.ServiceInCorruptedState = refusal.EventCreate event_create.ServiceInCorruptedState
create_refusal (options.Event named) uncreated.SubscriberBufferMustBeLargerThanHistorySize
    = refusal.EventCreate event_create.InternalFailure
create_refusal (options.Event named) uncreated.OutOfMemory = refusal.EventCreate event_create.OutOfMemory
create_refusal (options.RequestResponse named) uncreated.AlreadyExists = refusal.RequestResponseCreate request_response_create.AlreadyExists
create_refusal (options.RequestResponse named) uncreated.InsufficientPermissions
    = refusal.RequestResponseCreate request_response_create.InsufficientPermissions
create_refusal (options.RequestResponse named) uncreated.InternalFailure
    = refusal.RequestResponseCreate request_response_create.InternalFailure
create_refusal (options.RequestResponse named) uncreated.IsBeingCreatedByAnotherInstance
    = refusal.RequestResponseCreate request_response_create.IsBeingCreatedByAnotherInstance
create_refusal (options.RequestResponse named) uncreated.HangsInCreation
    = refusal.RequestResponseCreate request_response_create.HangsInCreation
create_refusal (options.RequestResponse named) uncreated.ServiceInCorruptedState
    = refusal.RequestResponseCreate request_response_create.ServiceInCorruptedState
create_refusal (options.RequestResponse named) uncreated.SubscriberBufferMustBeLargerThanHistorySize
    = refusal.RequestResponseCreate request_response_create.InternalFailure
create_refusal (options.RequestResponse named) uncreated.OutOfMemory = refusal.RequestResponseCreate request_response_create.OutOfMemory

-- The refusal that reports a failed opening, by the service's pattern; a clause that isn't met is reported as the verdict says.
abbrev pub open_refusal : ServiceOptions → OpenFailure Refusal → Refusal
open_refusal named (unopened.Clause unmet) = unmet
open_refusal (options.PublishSubscribe named) unopened.DoesNotExist = refusal.PublishSubscribeOpen publish_subscribe_open.DoesNotExist
open_refusal (options.PublishSubscribe named) unopened.InsufficientPermissions
    = refusal.PublishSubscribeOpen publish_subscribe_open.InsufficientPermissions
open_refusal (options.PublishSubscribe named) unopened.ServiceInCorruptedState
    = refusal.PublishSubscribeOpen publish_subscribe_open.ServiceInCorruptedState
open_refusal (options.PublishSubscribe named) unopened.InternalFailure = refusal.PublishSubscribeOpen publish_subscribe_open.InternalFailure
open_refusal (options.PublishSubscribe named) unopened.HangsInCreation = refusal.PublishSubscribeOpen publish_subscribe_open.HangsInCreation
open_refusal (options.PublishSubscribe named) unopened.ExceedsMaxNumberOfNodes
    = refusal.PublishSubscribeOpen publish_subscribe_open.ExceedsMaxNumberOfNodes
open_refusal (options.PublishSubscribe named) unopened.IsMarkedForDestruction
    = refusal.PublishSubscribeOpen publish_subscribe_open.IsMarkedForDestruction
open_refusal (options.PublishSubscribe named) unopened.OutOfMemory = refusal.PublishSubscribeOpen publish_subscribe_open.OutOfMemory
open_refusal (options.Event named) unopened.DoesNotExist = refusal.EventOpen event_open.DoesNotExist
open_refusal (options.Event named) unopened.InsufficientPermissions = refusal.EventOpen event_open.InsufficientPermissions
open_refusal (options.Event named) unopened.ServiceInCorruptedState = refusal.EventOpen event_open.ServiceInCorruptedState
open_refusal (options.Event named) unopened.InternalFailure = refusal.EventOpen event_open.InternalFailure
open_refusal (options.Event named) unopened.HangsInCreation = refusal.EventOpen event_open.HangsInCreation
open_refusal (options.Event named) unopened.ExceedsMaxNumberOfNodes = refusal.EventOpen event_open.ExceedsMaxNumberOfNodes
open_refusal (options.Event named) unopened.IsMarkedForDestruction = refusal.EventOpen event_open.IsMarkedForDestruction
open_refusal (options.Event named) unopened.OutOfMemory = refusal.EventOpen event_open.OutOfMemory
open_refusal (options.RequestResponse named) unopened.DoesNotExist = refusal.RequestResponseOpen request_response_open.DoesNotExist
open_refusal (options.RequestResponse named) unopened.InsufficientPermissions
    = refusal.RequestResponseOpen request_response_open.InsufficientPermissions
open_refusal (options.RequestResponse named) unopened.ServiceInCorruptedState
    = refusal.RequestResponseOpen request_response_open.ServiceInCorruptedState
open_refusal (options.RequestResponse named) unopened.InternalFailure = refusal.RequestResponseOpen request_response_open.InternalFailure
open_refusal (options.RequestResponse named) unopened.HangsInCreation = refusal.RequestResponseOpen request_response_open.HangsInCreation
open_refusal (options.RequestResponse named) unopened.ExceedsMaxNumberOfNodes
    = refusal.RequestResponseOpen request_response_open.ExceedsMaxNumberOfNodes
open_refusal (options.RequestResponse named) unopened.IsMarkedForDestruction
    = refusal.RequestResponseOpen request_response_open.IsMarkedForDestruction
open_refusal (options.RequestResponse named) unopened.OutOfMemory = refusal.RequestResponseOpen request_response_open.OutOfMemory

-- The refusal of `open_or_create`, which contains that of `open` or of `create`.
abbrev pub within_either : Refusal → Refusal
within_either (refusal.PublishSubscribeOpen error)
    = refusal.PublishSubscribeOpenOrCreate (publish_subscribe_either.PublishSubscribeOpenError error)
within_either (refusal.PublishSubscribeCreate error)
    = refusal.PublishSubscribeOpenOrCreate (publish_subscribe_either.PublishSubscribeCreateError error)
within_either (refusal.EventOpen error) = refusal.EventOpenOrCreate (event_either.EventOpenError error)
within_either (refusal.EventCreate error) = refusal.EventOpenOrCreate (event_either.EventCreateError error)
within_either (refusal.RequestResponseOpen error)
    = refusal.RequestResponseOpenOrCreate (request_response_either.RequestResponseOpenError error)
within_either (refusal.RequestResponseCreate error)
    = refusal.RequestResponseOpenOrCreate (request_response_either.RequestResponseCreateError error)
within_either other = other

-- The refusal that reports a failed `open_or_create`, by the service's pattern.
abbrev pub either_refusal : ServiceOptions → OpenOrCreateFailure Refusal → Refusal
either_refusal named (neither.Open failure) = within_either (open_refusal named failure)
either_refusal named (neither.Create failure) = within_either (create_refusal named failure)
either_refusal (options.PublishSubscribe named) neither.SystemInFlux
    = refusal.PublishSubscribeOpenOrCreate publish_subscribe_either.SystemInFlux
either_refusal (options.Event named) neither.SystemInFlux = refusal.EventOpenOrCreate event_either.SystemInFlux
either_refusal (options.RequestResponse named) neither.SystemInFlux
    = refusal.RequestResponseOpenOrCreate request_response_either.SystemInFlux
