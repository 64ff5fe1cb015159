-- What a builder of a pattern does, as options ask of it, is what a call is said to do with the settings that options name.
use Rattle.std.proofs.Common.{ℕ, List, Result}
use Rattle.iox_command.specs.NegotiateBase.EventErrors as event
use Rattle.iox_command.specs.NegotiateBase.PublishSubscribeErrors as publish_subscribe
use Rattle.iox_command.specs.NegotiateBase.RequestResponseErrors as request_response
use Rattle.iox_command.specs.NegotiateBase.declared.failure.CreateFailure.{CreateFailure}
use Rattle.iox_command.specs.NegotiateBase.declared.failure.OpenOrCreateFailure.{OpenOrCreateFailure}
use Rattle.iox_command.specs.declared.refusal.Refusal.{Refusal}
use Rattle.iox_command.specs.declared.refusal.Refusal.TheVariants as refusal
use Rattle.iox_command.specs.declared.service.ServiceOptions.{ServiceOptions}
use Rattle.iox_command.specs.declared.service.ServiceOptions.TheVariants as options
use Rattle.iox_hub_base.specs.DescribeBase.Attributes.{Required}
use Rattle.iox_hub_base.specs.DescribeBase.Detail.{Detail}
use Rattle.iox_hub_base.specs.DescribeBase.declared.message_type.MessageTypeDetails.{MessageTypeDetails}
use Rattle.iox_hub_base.specs.DescribeBase.declared.pattern.MessagingPattern.{MessagingPattern}
use Rattle.iox_hub_base.specs.DescribeBase.declared.pattern.MessagingPattern.TheVariants as pattern
use Rattle.iox_hub_base.specs.DescribeSettings.Agreement.{Agreement, agreement}
use Rattle.iox_hub_base.specs.declared.hub.Hub.{Hub}
use Rattle.iox_hub_commands.proofs.Ruled.{by_rules, creates_by_rules, either_by_rules, ruled_settings}
use Rattle.iox_hub_commands.specs.Asked.{required_event, required_publish_subscribe, required_request_response}
use Rattle.iox_hub_commands.specs.Asking.{hash_of}
use Rattle.iox_hub_commands.specs.Creating.{CreatesAgreed}
use Rattle.iox_hub_commands.specs.Either.{EitherJudged}
use Rattle.iox_hub_commands.specs.Opening.{OpensAs}
use Rattle.iox_hub_commands.specs.OpeningCalls.{ByCall, OpensByCall}
use Rattle.iox_hub_commands.specs.ServicesNumbering.{GetsNumber}
use Rattle.iox_hub_commands.specs.ServicesTables.{FactoryTable}
use Rattle.iox_hub_commands.specs.declared.services.opening_call.OpeningCall.{OpeningCall}
use Rattle.iox_hub_commands.specs.declared.services.opening_call.OpeningCall.TheVariants as opening
use Rattle.iox_negotiate_table.specs.DescribeVerdict.EventClauses as event_clauses
use Rattle.iox_negotiate_table.specs.DescribeVerdict.PublishSubscribeClauses as publish_subscribe_clauses
use Rattle.iox_negotiate_table.specs.DescribeVerdict.RequestResponseClauses as request_response_clauses
use Rattle.iox_negotiate_table.specs.DescribeVerdict.Verdict.{first_unmet}
use Rattle.iox_negotiate_table.specs.declared.step.ForeignStep.{ForeignStep}

module _ {T U B D : Type 0} (payload user_header : Detail) (types : MessageTypeDetails) (node : ℕ) (name : List ℕ)
    (lists : List (List ForeignStep)) (table : FactoryTable) (old : Hub T U B D) (answer : Result ℕ Refusal) (after : FactoryTable)
    (new : Hub T U B D) where
  -- what a builder of a pattern does that asks for these options, and gets the settings by their rules
  abbrev Builds : {C V E : Type 0} → MessagingPattern → ServiceOptions → (C → Refusal) → (CreateFailure → C) → (E → Refusal)
      → (OpenOrCreateFailure V → E) → (Required → Agreement → Result (Unit {0}) V) → OpeningCall → Type 0
  Builds kind named created create_error either either_error judged call = ByCall call
      (λ attributes. GetsNumber kind created (CreatesAgreed payload user_header create_error (hash_of name named) node
      (agreement name (hash_of name named) (by_rules types named) attributes) lists) table old answer after new)
      (λ attributes. OpensAs named payload user_header types node name attributes lists table old answer after new)
      (λ attributes. GetsNumber kind either (EitherJudged payload user_header either_error (hash_of name named) node (judged attributes)
      (agreement name (hash_of name named) (ruled_settings types attributes named) attributes.pairs) lists) table old answer after new)

  -- so it is of each pattern
  abbrev pub BuildsAs : OpeningCall → ServiceOptions → Type 0
  BuildsAs call (options.PublishSubscribe named) =
      Builds pattern.PublishSubscribe (options.PublishSubscribe named) refusal.PublishSubscribeCreate publish_subscribe.create_error
      refusal.PublishSubscribeOpenOrCreate publish_subscribe.open_or_create_error
      (λ attributes given. first_unmet (publish_subscribe_clauses.clauses (required_publish_subscribe named types attributes) given)) call
  BuildsAs call (options.Event named) =
      Builds pattern.Event (options.Event named) refusal.EventCreate event.create_error refusal.EventOpenOrCreate
      event.open_or_create_error (λ attributes given. first_unmet (event_clauses.clauses (required_event named attributes) given)) call
  BuildsAs call (options.RequestResponse named) =
      Builds pattern.RequestResponse (options.RequestResponse named) refusal.RequestResponseCreate request_response.create_error
      refusal.RequestResponseOpenOrCreate request_response.open_or_create_error
      (λ attributes given. first_unmet (request_response_clauses.clauses (required_request_response named types attributes) given)) call

  pub opens_by_rules : (call : OpeningCall) (named : ServiceOptions) → BuildsAs call named
      → OpensByCall call named payload user_header types node name lists table old answer after new
  opens_by_rules (opening.Create attributes) (options.PublishSubscribe named) (opened, does, numbers) = (
    opened,
    creates_by_rules types (options.PublishSubscribe named) payload user_header node name lists old new opened
        publish_subscribe.create_error attributes.now does,
    numbers,
  )
  opens_by_rules (opening.Create attributes) (options.Event named) (opened, does, numbers) = (
    opened,
    creates_by_rules types (options.Event named) payload user_header node name lists old new opened event.create_error attributes.now does,
    numbers,
  )
  opens_by_rules (opening.Create attributes) (options.RequestResponse named) (opened, does, numbers) = (
    opened,
    creates_by_rules types (options.RequestResponse named) payload user_header node name lists old new opened
        request_response.create_error attributes.now does,
    numbers,
  )
  opens_by_rules (opening.Open attributes) (options.PublishSubscribe named) does = does
  opens_by_rules (opening.Open attributes) (options.Event named) does = does
  opens_by_rules (opening.Open attributes) (options.RequestResponse named) does = does
  opens_by_rules (opening.OpenOrCreate attributes) (options.PublishSubscribe named) (opened, does, numbers) = (
    opened,
    either_by_rules types (options.PublishSubscribe named) payload user_header node name lists old new opened
        publish_subscribe.open_or_create_error _ attributes does,
    numbers,
  )
  opens_by_rules (opening.OpenOrCreate attributes) (options.Event named) (opened, does, numbers) = (
    opened,
    either_by_rules types (options.Event named) payload user_header node name lists old new opened event.open_or_create_error _
        attributes does,
    numbers,
  )
  opens_by_rules (opening.OpenOrCreate attributes) (options.RequestResponse named) (opened, does, numbers) = (
    opened,
    either_by_rules types (options.RequestResponse named) payload user_header node name lists old new opened
        request_response.open_or_create_error _ attributes does,
    numbers,
  )
