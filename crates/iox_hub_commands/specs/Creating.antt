-- How a service is created as options ask, and its factory gets a number.
use Rattle.std.specs.Prelude.{ℕ, ◌≡◌, Bool, true, false, List, Option, None, Some, Result, Ok, Err}
use Rattle.std.specs.declared.alloc.AllocError.{AllocError}
use Rattle.iox_command.specs.declared.refusal.Refusal.{Refusal}
use Rattle.iox_command.specs.declared.refusal.Refusal.TheVariants as refusal
use Rattle.iox_command.specs.declared.service.ServiceOptions.{ServiceOptions}
use Rattle.iox_command.specs.declared.service.ServiceOptions.TheVariants as options
use Rattle.iox_command.specs.declared.step.StepBefore.{StepBefore}
use Rattle.iox_hub_base.specs.DescribeBase.Detail.{Detail}
use Rattle.iox_hub_base.specs.DescribeBase.declared.attribute.Attribute.{Attribute}
use Rattle.iox_hub_base.specs.DescribeBase.declared.hash.ServiceHash.{ServiceHash}
use Rattle.iox_hub_base.specs.DescribeBase.declared.message_type.MessageTypeDetails.{MessageTypeDetails}
use Rattle.iox_hub_base.specs.DescribeBase.declared.pattern.MessagingPattern.TheVariants as pattern
use Rattle.iox_hub_base.specs.DescribeSettings.Agreement.{Agreement, AreWithinLimits, HasNoRoomForHistory}
use Rattle.iox_hub_base.specs.Opening.{Made, OpensInHub}
use Rattle.iox_hub_base.specs.declared.hub.Hub.{Hub}
use Rattle.iox_hub_base.specs.Negotiate.Negotiation.{Creates}
use Rattle.iox_command.specs.NegotiateBase.EventErrors as event
use Rattle.iox_command.specs.NegotiateBase.PublishSubscribeErrors as publish_subscribe
use Rattle.iox_command.specs.NegotiateBase.RequestResponseErrors as request_response
use Rattle.iox_command.specs.NegotiateBase.declared.errors.event.EventCreateError.TheVariants as event_error
use Rattle.iox_command.specs.NegotiateBase.declared.errors.publish_subscribe.PublishSubscribeCreateError.TheVariants as
    publish_subscribe_error
use Rattle.iox_command.specs.NegotiateBase.declared.errors.request_response.RequestResponseCreateError.TheVariants as
    request_response_error
use Rattle.iox_command.specs.NegotiateBase.declared.failure.CreateFailure.{CreateFailure}
use Rattle.iox_command.specs.NegotiateBase.declared.failure.CreateFailure.TheVariants.{OutOfMemory}
use Rattle.iox_machine.specs.Asked.{settings_of}
use Rattle.iox_negotiate_table.specs.Stepped.{SteppedSight}
use Rattle.iox_negotiate_table.specs.declared.step.ForeignStep.{ForeignStep}
use Rattle.iox_hub_commands.specs.Asking.{hash_of, agreed_of}
use Rattle.iox_hub_commands.specs.Refusing.{IsRefusedFirst, IsUncreated, create_refused, first_look}
use Rattle.iox_hub_commands.specs.ServicesNumbering.{Prepares, GetsNumber, IsRefusedAtOnce, IsSkipped, IsRefusedWith}
use Rattle.iox_hub_commands.specs.ServicesTables.{FactoryTable}
use Rattle.iox_hub_commands.specs.declared.services.asked.ServiceAsked.{ServiceAsked}

-- A node creates the service of this hash, with this agreement. A failure is reported by `error`.
abbrev pub CreatesAgreed : {T U B D E : Type 0} → Detail → Detail → (CreateFailure → E) → ServiceHash → ℕ → Agreement
    → List (List ForeignStep) → Hub T U B D → Result Made E → Hub T U B D → Type 0
CreatesAgreed payload user_header error hash node agreed lists old opened new =
    OpensInHub payload user_header (IsUncreated agreed.settings None) (λ was_new. error OutOfMemory)
    (λ before came after. Creates SteppedSight before.table.id hash node agreed (AreWithinLimits agreed.settings)
    (HasNoRoomForHistory agreed.settings) error before came after)
    lists old opened new

-- A service is created as these options ask, with these attributes, and its factory gets a number. A failure is reported as the error of
-- the pattern.
abbrev pub CreatesAs : {T U B D : Type 0} → ServiceOptions → Detail → Detail → MessageTypeDetails → ℕ → List ℕ → List Attribute
    → List (List ForeignStep) → FactoryTable → Hub T U B D → Result ℕ Refusal → FactoryTable → Hub T U B D → Type 0
CreatesAs (options.PublishSubscribe named) payload user_header types node name attributes lists table old answer after new =
    GetsNumber pattern.PublishSubscribe refusal.PublishSubscribeCreate
    (CreatesAgreed payload user_header publish_subscribe.create_error (hash_of name (options.PublishSubscribe named)) node
    (agreed_of name (options.PublishSubscribe named) types attributes) lists) table old answer after new
CreatesAs (options.Event named) payload user_header types node name attributes lists table old answer after new =
    GetsNumber pattern.Event refusal.EventCreate
    (CreatesAgreed payload user_header event.create_error (hash_of name (options.Event named)) node
    (agreed_of name (options.Event named) types attributes) lists) table old answer after new
CreatesAs (options.RequestResponse named) payload user_header types node name attributes lists table old answer after new =
    GetsNumber pattern.RequestResponse refusal.RequestResponseCreate
    (CreatesAgreed payload user_header request_response.create_error (hash_of name (options.RequestResponse named)) node
    (agreed_of name (options.RequestResponse named) types attributes) lists) table old answer after new

-- The refusal if memory runs out before the first storage operation.
abbrev pub create_lacking : ServiceOptions → Refusal
create_lacking (options.PublishSubscribe named) = refusal.PublishSubscribeCreate publish_subscribe_error.OutOfMemory
create_lacking (options.Event named) = refusal.EventCreate event_error.OutOfMemory
create_lacking (options.RequestResponse named) = refusal.RequestResponseCreate request_response_error.OutOfMemory

-- What follows after the lists of actions and the capacity were made, or memory ran out for them.
abbrev pub CreatesPrepared : {T U B D : Type 0} → Result (List (List ForeignStep)) AllocError → Detail → Detail → MessageTypeDetails
    → ServiceAsked → List Attribute → FactoryTable → Hub T U B D → Result ℕ Refusal → FactoryTable → Hub T U B D → Type 0
CreatesPrepared (Err lacking) payload user_header types asked attributes table old answer after new
    = IsRefusedWith (create_lacking asked.options) table old answer after new
CreatesPrepared (Ok lists) payload user_header types asked attributes table old answer after new
    = CreatesAs asked.options payload user_header types asked.node asked.name attributes lists table old answer after new

-- What follows after it is known whether the creation is refused before anything is allocated. If it is, the refusal is the reply, and
-- nothing else happens. Otherwise the service is created, with these actions of other nodes before the storage operations, after their
-- lists and the capacity were made.
abbrev pub CreatesUnlessRefused : {T U B D : Type 0} → Option CreateFailure → Detail → Detail → MessageTypeDetails → ServiceAsked
    → List Attribute → List StepBefore → FactoryTable → Hub T U B D → Option (Result ℕ Refusal) → FactoryTable → Hub T U B D → Type 0
CreatesUnlessRefused (Some failure) payload user_header types asked attributes steps table old answer after new
    = IsRefusedAtOnce (create_refused asked.options failure) table old answer after new
CreatesUnlessRefused None payload user_header types asked attributes steps table old answer after new =
    (prepared : Result (List (List ForeignStep)) AllocError) × (roomier : FactoryTable) × (reply : Result ℕ Refusal)
    × Prepares asked.name types steps table prepared roomier
    × CreatesPrepared prepared payload user_header types asked attributes roomier old reply after new × (answer ≡ Some reply)

-- The service that is asked for is created with these attributes, with these actions of other nodes before the storage operations, and its
-- factory gets a number. The creation is refused before anything is allocated if the settings are impossible; or if they are possible and
-- the first lookup finds that the service exists, or that another node is about to create it. Otherwise the creation is carried out.
-- Nothing happens if the node wasn't made.
abbrev pub CreatesNumbered : {T U B D : Type 0} → Bool → Detail → Detail → MessageTypeDetails → ServiceAsked → List Attribute
    → List StepBefore → FactoryTable → Hub T U B D → Option (Result ℕ Refusal) → FactoryTable → Hub T U B D → Type 0
CreatesNumbered false payload user_header types asked attributes steps table old answer after new = IsSkipped table old answer after new
CreatesNumbered true payload user_header types asked attributes steps table old answer after new =
    (refused : Option CreateFailure) × IsRefusedFirst (settings_of types asked.options) (first_look asked steps old) refused
    × CreatesUnlessRefused refused payload user_header types asked attributes steps table old answer after new
