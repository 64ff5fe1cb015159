-- What an opener asks of a service in a hub is what it asks in a machine: clause by clause, what the machine says of settings that stand is
-- what a builder says.
use Rattle.std.proofs.Common.{◌≡◌, ◌∙◌, ℕ, Bool, true, false, cond, not, ◌&&◌, List, [], ◌∷◌, Option, None, Some, Result, Err, refl, ap}
use Rattle.std.specs.Prelude.{is_none, map, option_map}
use Rattle.std.specs.List.{find, list_all}
use Rattle.std.specs.Result.{result_map_both}
use Rattle.iox_command.specs.NegotiateBase.DescribeBase.Attributes.{Required, has_key, has_pair, has_required, key_or, unmet_lone_key}
use Rattle.iox_command.specs.NegotiateBase.DescribeBase.Attributes.{unmet_pair}
use Rattle.iox_command.specs.NegotiateBase.DescribeBase.declared.attribute.Attribute.{Attribute}
use Rattle.iox_command.specs.NegotiateBase.DescribeBase.declared.message_type.MessageTypeDetails.{MessageTypeDetails}
use Rattle.iox_command.specs.NegotiateBase.DescribeBase.declared.pattern.MessagingPattern.TheVariants as pattern
use Rattle.iox_command.specs.NegotiateBase.DescribeSettings.declared.setting.SettingValue.TheVariants as value
use Rattle.iox_command.specs.NegotiateBase.DescribeSettings.declared.static_config.Settings.{Settings}
use Rattle.iox_command.specs.NegotiateBase.DescribeSettings.declared.static_config.Settings.TheVariants as settings
use Rattle.iox_command.specs.NegotiateBase.DescribeVerdict.EventClauses as event_clauses
use Rattle.iox_command.specs.NegotiateBase.DescribeVerdict.PublishSubscribeClauses as publish_subscribe_clauses
use Rattle.iox_command.specs.NegotiateBase.DescribeVerdict.RequestResponseClauses as request_response_clauses
use Rattle.iox_command.specs.NegotiateBase.DescribeVerdict.Verdict.{first_unmet, is_met, unmet_clause, verdict_at}
use Rattle.iox_command.specs.NegotiateBase.DescribeVerdict.declared.requirement.event.ClauseError.{ClauseError as EventClause}
use Rattle.iox_command.specs.NegotiateBase.DescribeVerdict.declared.requirement.publish_subscribe.ClauseError as publish_subscribe_clause
use Rattle.iox_command.specs.NegotiateBase.DescribeVerdict.declared.requirement.request_response.ClauseError as request_response_clause
use Rattle.iox_command.specs.NegotiateBase.EventErrors as event_errors
use Rattle.iox_command.specs.NegotiateBase.PublishSubscribeErrors as publish_subscribe_errors
use Rattle.iox_command.specs.NegotiateBase.RequestResponseErrors as request_response_errors
use Rattle.iox_command.specs.declared.refusal.Refusal.{Refusal}
use Rattle.iox_command.specs.declared.refusal.Refusal.TheVariants as refusal
use Rattle.iox_command.specs.declared.service.EventOptions.{EventOptions}
use Rattle.iox_command.specs.declared.service.NumberOrOff.{NumberOrOff}
use Rattle.iox_command.specs.declared.service.NumberOrOff.TheVariants.{Number, Off}
use Rattle.iox_command.specs.declared.service.PublishSubscribeOptions.{PublishSubscribeOptions}
use Rattle.iox_command.specs.declared.service.RequestResponseOptions.{RequestResponseOptions}
use Rattle.iox_command.specs.declared.service.ServiceOptions.{ServiceOptions}
use Rattle.iox_command.specs.declared.service.ServiceOptions.TheVariants as options
use Rattle.iox_hub_commands.specs.Asked.{required_event, required_publish_subscribe, required_request_response, set_to}
use Rattle.iox_machine.specs.Agreement.{Agreement, have_required, is_as_named, is_enough, is_switched, verdict, verdict_on}
use Rattle.iox_machine.specs.Asked.{settings_of}
use Rattle.iox_negotiate_machine.proofs.Told as told_of
use Rattle.iox_negotiate_machine.specs.Standing.{description_of}

-- ---- single clauses

met_number : (named : Option ℕ) (given : ℕ) → is_met (option_map value.Number named) (value.Number given) ≡ is_enough named given
met_number None given = refl
met_number (Some least) given = refl

met_switch : (named : Option Bool) (given : Bool) → is_met (option_map value.Switch named) (value.Switch given) ≡ is_switched named given
met_switch None given = refl
met_switch (Some true) given = refl
met_switch (Some false) given = refl

met_unless_off : (named : Option NumberOrOff) (given : Option ℕ)
    → is_met (option_map value.OptionalNumber (option_map set_to named)) (value.OptionalNumber given) ≡ is_as_named named given
met_unless_off None given = refl
met_unless_off (Some (Number number)) None = refl
met_unless_off (Some (Number number)) (Some given) = refl
met_unless_off (Some Off) None = refl
met_unless_off (Some Off) (Some given) = refl

none_unmet : {X : Type 0} (test : X → Bool) (xs : List X) → is_none (find (λ x. not (test x)) xs) ≡ list_all test xs
none_unmet test [] = refl
none_unmet test (x ∷ more) = here (test x) (none_unmet test more)
  where
    here : (b : Bool) → is_none (find (λ y. not (test y)) more) ≡ list_all test more
        → is_none (cond (not b) (Some x) (find (λ y. not (test y)) more)) ≡ (b && list_all test more)
    here true rest = rest
    here false rest = refl

neither_unmet : (pair : Option Attribute) (key : Option (List ℕ)) → is_none (key_or pair key) ≡ (is_none pair && is_none key)
neither_unmet None key = refl
neither_unmet (Some pair) key = refl

have_attributes : (asked : Required) (attributes : List Attribute) → has_required asked attributes ≡ have_required asked attributes
have_attributes asked attributes =
    neither_unmet (unmet_pair asked.pairs attributes) (unmet_lone_key asked.keys attributes)
    ∙ ap (λ (b : Bool). b && is_none (unmet_lone_key asked.keys attributes)) (none_unmet (has_pair attributes) asked.pairs)
    ∙ ap (λ (b : Bool). list_all (has_pair attributes) asked.pairs && b) (none_unmet (has_key attributes) asked.keys)

-- ---- all clauses

-- a verdict by clauses, as it is told
abbrev pub told_by : {C : Type 0} → (C → Refusal) → Result (Unit {0}) C → Result (Unit {0}) Refusal
told_by told met = result_map_both (λ it. it) told met

-- clauses, with the errors that they are told as
abbrev with_errors : {C E : Type 0} → (C → E) → List (Bool × C) → List (Bool × E)
with_errors error clauses = map (λ clause. (clause.0, error clause.1)) clauses

verdict_is : {C E : Type 0} (told : E → Refusal) (error : C → E) (clauses : List (Bool × C))
    → told_by (λ unmet. told (error unmet)) (first_unmet clauses) ≡ verdict_on told (with_errors error clauses)
unfolding unmet_clause
verdict_is told error [] = refl
verdict_is {C} told error (clause ∷ more) = here clause.0 (verdict_is told error more)
  where
    here : (b : Bool) → told_by (λ unmet. told (error unmet)) (first_unmet more) ≡ verdict_on told (with_errors error more)
        → told_by (λ unmet. told (error unmet))
        (verdict_at (cond (not b) (Some clause) (find (λ (other : Bool × C). not other.0) more)))
        ≡ cond b (verdict_on told (with_errors error more)) (Err (told (error clause.1)))
    here true rest = rest
    here false rest = refl

-- a clause that is met or not as another is, before verdicts that are one
next : {E : Type 0} (first second : Bool) (error : E) (one other : Result (Unit {0}) E) → first ≡ second → one ≡ other
    → cond first one (Err error) ≡ cond second other (Err error)
next first second error one other same rest =
    ap (λ (b : Bool). cond b one (Err error)) same ∙ ap (λ (r : Result (Unit {0}) _). cond second r (Err error)) rest

module _ (types : MessageTypeDetails) (attributes : Required) (name : List ℕ) where
  -- what is asked of the description of what is agreed on, by pattern
  abbrev pub publish_subscribe_judge : PublishSubscribeOptions → Agreement → Result (Unit {0}) publish_subscribe_clause.ClauseError
  publish_subscribe_judge named agreed = first_unmet (publish_subscribe_clauses.clauses
      (required_publish_subscribe named types attributes) (description_of pattern.PublishSubscribe name agreed))

  abbrev pub event_judge : EventOptions → Agreement → Result (Unit {0}) EventClause
  event_judge named agreed = first_unmet (event_clauses.clauses
      (required_event named attributes) (description_of pattern.Event name agreed))

  abbrev pub request_response_judge : RequestResponseOptions → Agreement → Result (Unit {0}) request_response_clause.ClauseError
  request_response_judge named agreed = first_unmet (request_response_clauses.clauses
      (required_request_response named types attributes) (description_of pattern.RequestResponse name agreed))

  pub same_publish_subscribe_verdict : (named : PublishSubscribeOptions) (agreed : Agreement)
      → told_by told_of.publish_subscribe_clause (publish_subscribe_judge named agreed)
      ≡ verdict types (options.PublishSubscribe named) attributes agreed
  same_publish_subscribe_verdict named agreed =
      verdict_is refusal.PublishSubscribeOpen publish_subscribe_errors.clause_error
      (publish_subscribe_clauses.clauses_of (required_publish_subscribe named types attributes) agreed.attributes agreed.settings)
      ∙ by agreed.settings
    where
      by : (s : Settings)
          → verdict_on refusal.PublishSubscribeOpen
          (with_errors publish_subscribe_errors.clause_error
          (publish_subscribe_clauses.clauses_of (required_publish_subscribe named types attributes) agreed.attributes s))
          ≡ verdict types (options.PublishSubscribe named) attributes (record { settings = s; attributes = agreed.attributes })
      by (settings.Event c) = refl
      by (settings.RequestResponse c) = refl
      by (settings.PublishSubscribe c) =
          next _ _ _ _ _ refl
          (next _ _ _ _ _ (have_attributes attributes agreed.attributes)
          (next _ _ _ _ _ (met_switch named.enable_safe_overflow c.enable_safe_overflow)
          (next _ _ _ _ _ (met_switch named.sequence_numbers c.sequence_numbers)
          (next _ _ _ _ _ (met_number named.max_publishers c.max_publishers)
          (next _ _ _ _ _ (met_number named.max_subscribers c.max_subscribers)
          (next _ _ _ _ _ (met_number named.subscriber_max_buffer_size c.subscriber_max_buffer_size)
          (next _ _ _ _ _ (met_number named.history_size c.history_size)
          (next _ _ _ _ _ (met_number named.subscriber_max_borrowed_samples c.subscriber_max_borrowed_samples)
          (next _ _ _ _ _ (met_number named.max_nodes c.max_nodes) refl)))))))))

  pub same_event_verdict : (named : EventOptions) (agreed : Agreement)
      → told_by told_of.event_clause (event_judge named agreed) ≡ verdict types (options.Event named) attributes agreed
  same_event_verdict named agreed =
      verdict_is refusal.EventOpen event_errors.clause_error
      (event_clauses.clauses_of (required_event named attributes) agreed.attributes agreed.settings)
      ∙ by agreed.settings
    where
      by : (s : Settings) → verdict_on refusal.EventOpen
          (with_errors event_errors.clause_error
          (event_clauses.clauses_of (required_event named attributes) agreed.attributes s))
          ≡ verdict types (options.Event named) attributes (record { settings = s; attributes = agreed.attributes })
      by (settings.PublishSubscribe c) = refl
      by (settings.RequestResponse c) = refl
      by (settings.Event c) =
          next _ _ _ _ _ (have_attributes attributes agreed.attributes)
          (next _ _ _ _ _ (met_unless_off named.deadline c.deadline)
          (next _ _ _ _ _ (met_number named.max_notifiers c.max_notifiers)
          (next _ _ _ _ _ (met_number named.max_listeners c.max_listeners)
          (next _ _ _ _ _ (met_number named.event_id_max_value c.event_id_max_value)
          (next _ _ _ _ _ (met_unless_off named.notifier_created_event c.notifier_created_event)
          (next _ _ _ _ _ (met_unless_off named.notifier_dropped_event c.notifier_dropped_event)
          (next _ _ _ _ _ (met_unless_off named.notifier_dead_event c.notifier_dead_event)
          (next _ _ _ _ _ (met_number named.max_nodes c.max_nodes) refl))))))))

  pub same_request_response_verdict : (named : RequestResponseOptions) (agreed : Agreement)
      → told_by told_of.request_response_clause (request_response_judge named agreed)
      ≡ verdict types (options.RequestResponse named) attributes agreed
  same_request_response_verdict named agreed =
      verdict_is refusal.RequestResponseOpen request_response_errors.clause_error
      (request_response_clauses.clauses_of (required_request_response named types attributes) agreed.attributes agreed.settings)
      ∙ by agreed.settings
    where
      by : (s : Settings)
          → verdict_on refusal.RequestResponseOpen
          (with_errors request_response_errors.clause_error
          (request_response_clauses.clauses_of (required_request_response named types attributes) agreed.attributes s))
          ≡ verdict types (options.RequestResponse named) attributes (record { settings = s; attributes = agreed.attributes })
      by (settings.PublishSubscribe c) = refl
      by (settings.Event c) = refl
      by (settings.RequestResponse c) =
          next _ _ _ _ _ refl
          (next _ _ _ _ _ refl
          (next _ _ _ _ _ (have_attributes attributes agreed.attributes)
          (next _ _ _ _ _ (met_switch named.enable_safe_overflow_for_requests c.enable_safe_overflow_for_requests)
          (next _ _ _ _ _ (met_switch named.enable_safe_overflow_for_responses c.enable_safe_overflow_for_responses)
          (next _ _ _ _ _ (met_switch named.enable_fire_and_forget_requests c.enable_fire_and_forget_requests)
          (next _ _ _ _ _ (met_number named.max_loaned_requests c.max_loaned_requests)
          (next _ _ _ _ _ (met_number named.max_active_requests_per_client c.max_active_requests_per_client)
          (next _ _ _ _ _ (met_number named.max_response_buffer_size c.max_response_buffer_size)
          (next _ _ _ _ _ (met_number named.max_servers c.max_servers)
          (next _ _ _ _ _ (met_number named.max_clients c.max_clients)
          (next _ _ _ _ _ (met_number named.max_borrowed_responses_per_pending_response c.max_borrowed_responses_per_pending_response)
          (next _ _ _ _ _ (met_number named.max_nodes c.max_nodes) refl))))))))))))

  -- what is agreed on in a service that is created where none stands
  abbrev pub new_agreement : ServiceOptions → Agreement
  new_agreement named = record { settings = settings_of types named; attributes = attributes.pairs }
