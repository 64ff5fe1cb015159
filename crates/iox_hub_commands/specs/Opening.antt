-- How a service is opened as options ask, and its factory gets a number.
use Rattle.std.specs.Prelude.{ℕ, ◌≡◌, ◌⊎◌, Bool, true, false, List, Option, Some, Result, Ok, Err}
use Rattle.std.specs.declared.alloc.AllocError.{AllocError}
use Rattle.iox_command.specs.declared.refusal.Refusal.{Refusal}
use Rattle.iox_command.specs.declared.refusal.Refusal.TheVariants as refusal
use Rattle.iox_command.specs.declared.service.ServiceOptions.{ServiceOptions}
use Rattle.iox_command.specs.declared.service.ServiceOptions.TheVariants as options
use Rattle.iox_command.specs.declared.step.StepBefore.{StepBefore}
use Rattle.iox_hub_base.specs.DescribeBase.Attributes.{Required}
use Rattle.iox_hub_base.specs.DescribeBase.Detail.{Detail}
use Rattle.iox_hub_base.specs.DescribeBase.declared.message_type.MessageTypeDetails.{MessageTypeDetails}
use Rattle.iox_hub_base.specs.DescribeBase.declared.pattern.MessagingPattern.TheVariants as pattern
use Rattle.iox_negotiate_table.specs.DescribeVerdict.EventClauses as event_clauses
use Rattle.iox_negotiate_table.specs.DescribeVerdict.PublishSubscribeClauses as publish_subscribe_clauses
use Rattle.iox_negotiate_table.specs.DescribeVerdict.RequestResponseClauses as request_response_clauses
use Rattle.iox_negotiate_table.specs.DescribeVerdict.Verdict.{first_unmet}
use Rattle.iox_hub_base.specs.OfPattern.{OpensJudged}
use Rattle.iox_hub_base.specs.declared.hub.Hub.{Hub}
use Rattle.iox_command.specs.NegotiateBase.EventErrors as event
use Rattle.iox_command.specs.NegotiateBase.PublishSubscribeErrors as publish_subscribe
use Rattle.iox_command.specs.NegotiateBase.RequestResponseErrors as request_response
use Rattle.iox_command.specs.NegotiateBase.declared.errors.event.EventOpenError.TheVariants as event_error
use Rattle.iox_command.specs.NegotiateBase.declared.errors.publish_subscribe.PublishSubscribeOpenError.TheVariants as
    publish_subscribe_error
use Rattle.iox_command.specs.NegotiateBase.declared.errors.request_response.RequestResponseOpenError.TheVariants as
    request_response_error
use Rattle.iox_negotiate_table.specs.declared.step.ForeignStep.{ForeignStep}
use Rattle.iox_hub_commands.specs.Asked.{required_event, required_publish_subscribe, required_request_response}
use Rattle.iox_hub_commands.specs.Asking.{hash_of}
use Rattle.iox_hub_commands.specs.Refusing.{first_look, open_told}
use Rattle.iox_hub_commands.specs.ServicesNumbering.{Prepares, GetsNumber, IsRefusedAtOnce, IsSkipped, IsRefusedWith}
use Rattle.iox_hub_commands.specs.ServicesTables.{FactoryTable}
use Rattle.iox_hub_commands.specs.declared.services.asked.ServiceAsked.{ServiceAsked}

-- A service is opened if it is as these options ask and has these attributes, and its factory gets a number. A failure is reported as the
-- error of the pattern.
abbrev pub OpensAs : {T U B D : Type 0} → ServiceOptions → Detail → Detail → MessageTypeDetails → ℕ → List ℕ → Required
    → List (List ForeignStep) → FactoryTable → Hub T U B D → Result ℕ Refusal → FactoryTable → Hub T U B D → Type 0
OpensAs (options.PublishSubscribe named) payload user_header types node name attributes lists table old answer after new =
    GetsNumber pattern.PublishSubscribe refusal.PublishSubscribeOpen
    (OpensJudged payload user_header publish_subscribe.open_error (hash_of name (options.PublishSubscribe named)) node
    (λ given. first_unmet (publish_subscribe_clauses.clauses (required_publish_subscribe named types attributes) given)) lists)
    table old answer after new
OpensAs (options.Event named) payload user_header types node name attributes lists table old answer after new =
    GetsNumber pattern.Event refusal.EventOpen
    (OpensJudged payload user_header event.open_error (hash_of name (options.Event named)) node
    (λ given. first_unmet (event_clauses.clauses (required_event named attributes) given)) lists) table old answer after new
OpensAs (options.RequestResponse named) payload user_header types node name attributes lists table old answer after new =
    GetsNumber pattern.RequestResponse refusal.RequestResponseOpen
    (OpensJudged payload user_header request_response.open_error (hash_of name (options.RequestResponse named)) node
    (λ given. first_unmet (request_response_clauses.clauses (required_request_response named types attributes) given)) lists) table
    old answer after new

-- The refusal if memory runs out before the first storage operation.
abbrev pub open_lacking : ServiceOptions → Refusal
open_lacking (options.PublishSubscribe named) = refusal.PublishSubscribeOpen publish_subscribe_error.OutOfMemory
open_lacking (options.Event named) = refusal.EventOpen event_error.OutOfMemory
open_lacking (options.RequestResponse named) = refusal.RequestResponseOpen request_response_error.OutOfMemory

-- What follows after the lists of actions and the capacity were made, or memory ran out for them.
abbrev pub OpensPrepared : {T U B D : Type 0} → Result (List (List ForeignStep)) AllocError → Detail → Detail → MessageTypeDetails
    → ServiceAsked → Required → FactoryTable → Hub T U B D → Result ℕ Refusal → FactoryTable → Hub T U B D → Type 0
OpensPrepared (Err lacking) payload user_header types asked attributes table old answer after new
    = IsRefusedWith (open_lacking asked.options) table old answer after new
OpensPrepared (Ok lists) payload user_header types asked attributes table old answer after new
    = OpensAs asked.options payload user_header types asked.node asked.name attributes lists table old answer after new

-- The service that is asked for is opened if it has these attributes, with these actions of other nodes before the storage operations, and
-- its factory gets a number. Or the opening is refused at once, since its first lookup decides it: the service doesn't exist, or another
-- node is about to create it. Nothing happens if the node wasn't made.
abbrev pub OpensNumbered : {T U B D : Type 0} → Bool → Detail → Detail → MessageTypeDetails → ServiceAsked → Required → List StepBefore
    → FactoryTable → Hub T U B D → Option (Result ℕ Refusal) → FactoryTable → Hub T U B D → Type 0
OpensNumbered false payload user_header types asked attributes steps table old answer after new = IsSkipped table old answer after new
OpensNumbered true payload user_header types asked attributes steps table old answer after new =
    ((told : Refusal) × (open_told asked.options (first_look asked steps old) ≡ Some told)
    × IsRefusedAtOnce told table old answer after new)
    ⊎ ((prepared : Result (List (List ForeignStep)) AllocError) × (roomier : FactoryTable) × (reply : Result ℕ Refusal)
    × Prepares asked.name types steps table prepared roomier
    × OpensPrepared prepared payload user_header types asked attributes roomier old reply after new × (answer ≡ Some reply))
