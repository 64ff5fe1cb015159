-- The settings that a builder creates a service with are those of the machine: each as it is named or by default, by the rules of settings.
use Rattle.std.proofs.Common.{◌≡◌, ◌∙◌, ℕ, List, [], Option, None, Some, Result, refl, ap, subst, arith}
use Rattle.std.specs.Prelude.{max, option_map, unwrap_or}
use Rattle.iox_command.specs.NegotiateBase.declared.failure.CreateFailure.{CreateFailure}
use Rattle.iox_command.specs.NegotiateBase.declared.failure.OpenOrCreateFailure.{OpenOrCreateFailure}
use Rattle.iox_command.specs.declared.service.NumberOrOff.{NumberOrOff}
use Rattle.iox_command.specs.declared.service.NumberOrOff.TheVariants.{Number, Off}
use Rattle.iox_command.specs.declared.service.ServiceOptions.{ServiceOptions}
use Rattle.iox_command.specs.declared.service.ServiceOptions.TheVariants as options
use Rattle.iox_describe_verdict.proofs.EventAsked as event_asked
use Rattle.iox_describe_verdict.proofs.PublishSubscribeAsked as publish_subscribe_asked
use Rattle.iox_describe_verdict.proofs.RequestResponseAsked as request_response_asked
use Rattle.iox_hub_base.specs.DescribeBase.Attributes.{Required, required}
use Rattle.iox_hub_base.specs.DescribeBase.Detail.{Detail}
use Rattle.iox_hub_base.specs.DescribeBase.declared.attribute.Attribute.{Attribute}
use Rattle.iox_hub_base.specs.DescribeBase.declared.message_type.MessageTypeDetails.{MessageTypeDetails}
use Rattle.iox_hub_base.specs.DescribeSettings.Agreement.{Agreement, agreement}
use Rattle.iox_hub_base.specs.DescribeSettings.EventSettings as event_settings
use Rattle.iox_hub_base.specs.DescribeSettings.PublishSubscribeSettings as publish_subscribe_settings
use Rattle.iox_hub_base.specs.DescribeSettings.RequestResponseSettings as request_response_settings
use Rattle.iox_hub_base.specs.DescribeSettings.declared.static_config.Settings.{Settings}
use Rattle.iox_hub_base.specs.DescribeSettings.declared.static_config.Settings.TheVariants as settings
use Rattle.iox_hub_base.specs.Opening.{Made}
use Rattle.iox_hub_base.specs.declared.hub.Hub.{Hub}
use Rattle.iox_hub_commands.specs.Asked.{required_event, required_publish_subscribe, required_request_response, set_to}
use Rattle.iox_hub_commands.specs.Asking.{agreed_of, hash_of}
use Rattle.iox_hub_commands.specs.Creating.{CreatesAgreed}
use Rattle.iox_hub_commands.specs.Either.{EitherJudged}
use Rattle.iox_hub_commands.specs.Refusing.{IsUncreated}
use Rattle.iox_machine.specs.Asked.{number_unless_off, settings_of}
use Rattle.iox_negotiate_table.specs.DescribeVerdict.EventClauses as event_clauses
use Rattle.iox_negotiate_table.specs.DescribeVerdict.PublishSubscribeClauses as publish_subscribe_clauses
use Rattle.iox_negotiate_table.specs.DescribeVerdict.RequestResponseClauses as request_response_clauses
use Rattle.iox_negotiate_table.specs.declared.step.ForeignStep.{ForeignStep}

-- what a builder creates a service with that asks for these attributes
abbrev pub ruled_settings : MessageTypeDetails → Required → ServiceOptions → Settings
ruled_settings types attributes (options.PublishSubscribe named) =
    settings.PublishSubscribe (publish_subscribe_settings.adjusted
    (publish_subscribe_clauses.asked (required_publish_subscribe named types attributes)))
ruled_settings types attributes (options.Event named) =
    settings.Event (event_settings.adjusted (event_clauses.asked (required_event named attributes)))
ruled_settings types attributes (options.RequestResponse named) =
    settings.RequestResponse (request_response_settings.adjusted
    (request_response_clauses.asked (required_request_response named types attributes)))

not_raised : (n : ℕ) → max n 0 ≡ n
not_raised n = omega arith

set_or_off : (named : Option NumberOrOff) → unwrap_or (option_map set_to named) None ≡ number_unless_off named
set_or_off None = refl
set_or_off (Some (Number number)) = refl
set_or_off (Some Off) = refl

pub settings_are : (types : MessageTypeDetails) (attributes : Required) (named : ServiceOptions)
    → ruled_settings types attributes named ≡ settings_of types named
settings_are types attributes (options.PublishSubscribe named) =
    let asked = required_publish_subscribe named types attributes in
    let fields = publish_subscribe_settings.adjusted (publish_subscribe_clauses.asked_fields asked) in
    ap (λ c. settings.PublishSubscribe (publish_subscribe_settings.adjusted c)) (publish_subscribe_asked.fields asked)
    ∙ ap (λ (size : ℕ). settings.PublishSubscribe (record fields { history_size = size })) (not_raised (unwrap_or named.history_size 0))
settings_are types attributes (options.Event named) =
    let asked = required_event named attributes in
    let fields = event_settings.adjusted (event_clauses.asked_fields asked) in
    let by = λ (deadline : Option ℕ) (most : ℕ) (created dropped dead : Option ℕ). settings.Event (record fields {
      deadline = deadline;
      event_id_max_value = most;
      notifier_created_event = created;
      notifier_dropped_event = dropped;
      notifier_dead_event = dead;
    }) in
    ap (λ c. settings.Event (event_settings.adjusted c)) (event_asked.fields asked)
    ∙ ap (λ (it : Option ℕ). by it fields.event_id_max_value fields.notifier_created_event fields.notifier_dropped_event
    fields.notifier_dead_event) (set_or_off named.deadline)
    ∙ ap (λ (it : ℕ). by (number_unless_off named.deadline) it fields.notifier_created_event fields.notifier_dropped_event
    fields.notifier_dead_event) (not_raised (unwrap_or named.event_id_max_value 4294967295))
    ∙ ap (λ (it : Option ℕ). by (number_unless_off named.deadline) (unwrap_or named.event_id_max_value 4294967295) it
    fields.notifier_dropped_event fields.notifier_dead_event) (set_or_off named.notifier_created_event)
    ∙ ap (λ (it : Option ℕ). by (number_unless_off named.deadline) (unwrap_or named.event_id_max_value 4294967295)
    (number_unless_off named.notifier_created_event) it fields.notifier_dead_event) (set_or_off named.notifier_dropped_event)
    ∙ ap (λ (it : Option ℕ). by (number_unless_off named.deadline) (unwrap_or named.event_id_max_value 4294967295)
    (number_unless_off named.notifier_created_event) (number_unless_off named.notifier_dropped_event) it)
    (set_or_off named.notifier_dead_event)
settings_are types attributes (options.RequestResponse named) =
    ap (λ c. settings.RequestResponse (request_response_settings.adjusted c))
    (request_response_asked.fields (required_request_response named types attributes))

module _ (types : MessageTypeDetails) (named : ServiceOptions) where
  -- what a builder creates a service with that asks for no attributes
  abbrev pub by_rules : Settings
  by_rules = ruled_settings types (required [] []) named

  pub settings_by_rules : (given : Settings) → given ≡ by_rules → given ≡ settings_of types named
  settings_by_rules given is = is ∙ settings_are types (required [] []) named

  -- why no service is created with them
  pub refused_by_rules : (failure : Option CreateFailure) → IsUncreated by_rules failure → IsUncreated (settings_of types named) failure
  refused_by_rules failure is =
      subst (λ (given : Settings). IsUncreated given failure) (settings_are types (required [] []) named) is

  module _ {T U B D E : Type 0} (payload user_header : Detail) (node : ℕ) (name : List ℕ) (lists : List (List ForeignStep))
      (old new : Hub T U B D) (opened : Result Made E) where
    -- what would be agreed of a service that is created with settings
    abbrev agreed_with : List Attribute → Settings → Agreement
    agreed_with attributes given = agreement name (hash_of name named) given attributes

    -- a service that is created with them
    pub creates_by_rules : (error : CreateFailure → E) (attributes : List Attribute)
        → CreatesAgreed payload user_header error (hash_of name named) node (agreed_with attributes by_rules) lists old opened new
        → CreatesAgreed payload user_header error (hash_of name named) node (agreed_of name named types attributes) lists old opened new
    creates_by_rules error attributes does =
        subst (λ (given : Settings). CreatesAgreed payload user_header error (hash_of name named) node (agreed_with attributes given) lists
        old opened new) (settings_are types (required [] []) named) does

    -- a service that is opened, or created with what a builder asks for
    pub either_by_rules : {V : Type 0} (error : OpenOrCreateFailure V → E) (verdict : Agreement → Result (Unit {0}) V)
        (attributes : Required)
        → EitherJudged payload user_header error (hash_of name named) node verdict
        (agreed_with attributes.pairs (ruled_settings types attributes named)) lists old opened new
        → EitherJudged payload user_header error (hash_of name named) node verdict (agreed_of name named types attributes.pairs) lists old
        opened new
    either_by_rules error verdict attributes does =
        subst (λ (given : Settings). EitherJudged payload user_header error (hash_of name named) node verdict
        (agreed_with attributes.pairs given) lists old opened new) (settings_are types attributes named) does
