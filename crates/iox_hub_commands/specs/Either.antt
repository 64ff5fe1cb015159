-- How a service is opened or created as options ask, and its factory gets a number.
use Rattle.std.specs.Prelude.{ℕ, ◌≡◌, ◌⊎◌, Bool, true, false, List, Option, Some, Result, Ok, Err}
use Rattle.std.specs.declared.alloc.AllocError.{AllocError}
use Rattle.iox_command.specs.declared.refusal.Refusal.{Refusal}
use Rattle.iox_command.specs.declared.refusal.Refusal.TheVariants as refusal
use Rattle.iox_command.specs.declared.service.ServiceOptions.{ServiceOptions}
use Rattle.iox_command.specs.declared.service.ServiceOptions.TheVariants as options
use Rattle.iox_command.specs.declared.step.StepBefore.{StepBefore}
use Rattle.iox_hub_base.specs.DescribeBase.Attributes.{Required}
use Rattle.iox_hub_base.specs.DescribeBase.Detail.{Detail}
use Rattle.iox_hub_base.specs.DescribeBase.declared.hash.ServiceHash.{ServiceHash}
use Rattle.iox_hub_base.specs.DescribeBase.declared.message_type.MessageTypeDetails.{MessageTypeDetails}
use Rattle.iox_hub_base.specs.DescribeBase.declared.pattern.MessagingPattern.TheVariants as pattern
use Rattle.iox_hub_base.specs.DescribeSettings.Agreement.{Agreement, AreWithinLimits, HasNoRoomForHistory}
use Rattle.iox_negotiate_table.specs.DescribeVerdict.EventClauses as event_clauses
use Rattle.iox_negotiate_table.specs.DescribeVerdict.PublishSubscribeClauses as publish_subscribe_clauses
use Rattle.iox_negotiate_table.specs.DescribeVerdict.RequestResponseClauses as request_response_clauses
use Rattle.iox_negotiate_table.specs.DescribeVerdict.Verdict.{first_unmet}
use Rattle.iox_hub_base.specs.FirstLook.{MayBeEither, acts_first, found_first}
use Rattle.iox_hub_base.specs.Opening.{Made, OpensInHub, lacking_either}
use Rattle.iox_hub_base.specs.declared.hub.Hub.{Hub}
use Rattle.iox_hub_base.specs.Negotiate.Negotiation.{Either}
use Rattle.iox_command.specs.NegotiateBase.EventErrors as event
use Rattle.iox_command.specs.NegotiateBase.PublishSubscribeErrors as publish_subscribe
use Rattle.iox_command.specs.NegotiateBase.RequestResponseErrors as request_response
use Rattle.iox_command.specs.NegotiateBase.declared.errors.event.EventOpenError.TheVariants as event_unopened
use Rattle.iox_command.specs.NegotiateBase.declared.errors.event.EventOpenOrCreateError.TheVariants.{EventOpenError}
use Rattle.iox_command.specs.NegotiateBase.declared.errors.publish_subscribe.PublishSubscribeOpenError.TheVariants as
    publish_subscribe_unopened
use Rattle.iox_command.specs.NegotiateBase.declared.errors.publish_subscribe.PublishSubscribeOpenOrCreateError.TheVariants as
    publish_subscribe_either
use Rattle.iox_command.specs.NegotiateBase.declared.errors.request_response.RequestResponseOpenError.TheVariants as
    request_response_unopened
use Rattle.iox_command.specs.NegotiateBase.declared.errors.request_response.RequestResponseOpenOrCreateError.TheVariants as
    request_response_either
use Rattle.iox_command.specs.NegotiateBase.declared.failure.CreateFailure.{CreateFailure}
use Rattle.iox_command.specs.NegotiateBase.declared.failure.OpenOrCreateFailure.{OpenOrCreateFailure}
use Rattle.iox_machine.specs.Asked.{settings_of}
use Rattle.iox_negotiate_table.specs.Stepped.{SteppedSight}
use Rattle.iox_negotiate_table.specs.declared.step.ForeignStep.{ForeignStep}
use Rattle.iox_hub_commands.specs.Asked.{required_event, required_publish_subscribe, required_request_response}
use Rattle.iox_hub_commands.specs.Asking.{agreed_of, hash_of}
use Rattle.iox_hub_commands.specs.Refusing.{IsUncreated, either_told, first_look}
use Rattle.iox_hub_commands.specs.ServicesNumbering.{Prepares, GetsNumber, IsRefusedAtOnce, IsSkipped, IsRefusedWith}
use Rattle.iox_hub_commands.specs.ServicesTables.{FactoryTable}
use Rattle.iox_hub_commands.specs.declared.services.asked.ServiceAsked.{ServiceAsked}

-- A node opens the service of this hash, if its agreement passes the verdict, or creates it with this agreement. A failure is reported by
-- `error`. Memory for the service's entry runs out only if what the first lookup finds doesn't decide the call.
abbrev pub EitherJudged : {T U B D V E : Type 0} → Detail → Detail → (OpenOrCreateFailure V → E) → ServiceHash → ℕ
    → (Agreement → Result (Unit {0}) V) → Agreement → List (List ForeignStep) → Hub T U B D → Result Made E → Hub T U B D → Type 0
EitherJudged payload user_header error hash node verdict agreed lists old opened new =
    OpensInHub payload user_header
    (MayBeEither (AreWithinLimits agreed.settings) (HasNoRoomForHistory agreed.settings) (found_first (acts_first lists) hash old))
    (λ was_new. error (lacking_either was_new))
    (λ before came after. Either SteppedSight before.table.id hash node verdict agreed (AreWithinLimits agreed.settings)
    (HasNoRoomForHistory agreed.settings) error before came after)
    lists old opened new

-- A service is opened if it is as these options ask and has these attributes; if it doesn't exist, it is created with them. Its factory
-- gets a number. A failure is reported as the error of the pattern.
abbrev pub EitherAs : {T U B D : Type 0} → ServiceOptions → Detail → Detail → MessageTypeDetails → ℕ → List ℕ → Required
    → List (List ForeignStep) → FactoryTable → Hub T U B D → Result ℕ Refusal → FactoryTable → Hub T U B D → Type 0
EitherAs (options.PublishSubscribe named) payload user_header types node name attributes lists table old answer after new =
    GetsNumber pattern.PublishSubscribe refusal.PublishSubscribeOpenOrCreate
    (EitherJudged payload user_header publish_subscribe.open_or_create_error (hash_of name (options.PublishSubscribe named)) node
    (λ given. first_unmet (publish_subscribe_clauses.clauses (required_publish_subscribe named types attributes) given))
    (agreed_of name (options.PublishSubscribe named) types attributes.pairs) lists) table old answer after new
EitherAs (options.Event named) payload user_header types node name attributes lists table old answer after new =
    GetsNumber pattern.Event refusal.EventOpenOrCreate
    (EitherJudged payload user_header event.open_or_create_error (hash_of name (options.Event named)) node
    (λ given. first_unmet (event_clauses.clauses (required_event named attributes) given))
    (agreed_of name (options.Event named) types attributes.pairs) lists) table old answer after new
EitherAs (options.RequestResponse named) payload user_header types node name attributes lists table old answer after new =
    GetsNumber pattern.RequestResponse refusal.RequestResponseOpenOrCreate
    (EitherJudged payload user_header request_response.open_or_create_error (hash_of name (options.RequestResponse named)) node
    (λ given. first_unmet (request_response_clauses.clauses (required_request_response named types attributes) given))
    (agreed_of name (options.RequestResponse named) types attributes.pairs) lists) table old answer after new

-- The refusal if memory runs out before the first storage operation: the same as at the first lookup.
abbrev pub either_lacking : ServiceOptions → Refusal
either_lacking (options.PublishSubscribe named)
    = refusal.PublishSubscribeOpenOrCreate (publish_subscribe_either.PublishSubscribeOpenError publish_subscribe_unopened.OutOfMemory)
either_lacking (options.Event named) = refusal.EventOpenOrCreate (EventOpenError event_unopened.OutOfMemory)
either_lacking (options.RequestResponse named)
    = refusal.RequestResponseOpenOrCreate (request_response_either.RequestResponseOpenError request_response_unopened.OutOfMemory)

-- What follows after the lists of actions and the capacity were made, or memory ran out for them.
abbrev pub EitherPrepared : {T U B D : Type 0} → Result (List (List ForeignStep)) AllocError → Detail → Detail → MessageTypeDetails
    → ServiceAsked → Required → FactoryTable → Hub T U B D → Result ℕ Refusal → FactoryTable → Hub T U B D → Type 0
EitherPrepared (Err lacking) payload user_header types asked attributes table old answer after new
    = IsRefusedWith (either_lacking asked.options) table old answer after new
EitherPrepared (Ok lists) payload user_header types asked attributes table old answer after new
    = EitherAs asked.options payload user_header types asked.node asked.name attributes lists table old answer after new

-- The service that is asked for is opened if it has these attributes, or created with the required pairs, with these actions of other nodes
-- before the storage operations, and its factory gets a number. Or the call is refused at once, since its first lookup decides it: the
-- service doesn't exist, and can't be created with these settings; or another node is about to create it. Nothing happens if the node
-- wasn't made.
abbrev pub EitherNumbered : {T U B D : Type 0} → Bool → Detail → Detail → MessageTypeDetails → ServiceAsked → Required → List StepBefore
    → FactoryTable → Hub T U B D → Option (Result ℕ Refusal) → FactoryTable → Hub T U B D → Type 0
EitherNumbered false payload user_header types asked attributes steps table old answer after new = IsSkipped table old answer after new
EitherNumbered true payload user_header types asked attributes steps table old answer after new =
    ((refused : Option CreateFailure) × (told : Refusal) × IsUncreated (settings_of types asked.options) refused
    × (either_told asked.options refused (first_look asked steps old) ≡ Some told) × IsRefusedAtOnce told table old answer after new)
    ⊎ ((prepared : Result (List (List ForeignStep)) AllocError) × (roomier : FactoryTable) × (reply : Result ℕ Refusal)
    × Prepares asked.name types steps table prepared roomier
    × EitherPrepared prepared payload user_header types asked attributes roomier old reply after new × (answer ≡ Some reply))
