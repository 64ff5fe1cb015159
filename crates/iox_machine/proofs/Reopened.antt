-- A service that was created can be opened by the same options.
use Rattle.std.proofs.Common.{◌≡◌, ◌⊎◌, ◌≤◌, ◌+◌, ℕ, Bool, true, false, ◌||◌, List, [], ◌∷◌, length, Option, None, Some, Result}
use Rattle.std.proofs.Common.{Ok, Err, refl, sym}
use Rattle.std.proofs.Common.{subst, inl, inr, arith, ◌∙◌, true≢false}
use Rattle.std.proofs.lemmas.Bool.{eq-eqb, ltb-false}
use Rattle.std.specs.List.{AllByRecursion}
use Rattle.std.specs.Prelude.{◌==◌, max, nat_lt, unwrap_or, MatchBool, MatchResult}
use Rattle.iox_machine.proofs.Called.{openings-answer-so}
use Rattle.iox_machine.proofs.Lists.{all-weaker}
use Rattle.iox_machine.proofs.Phases.{creates-as-described}
use Rattle.iox_machine.proofs.Verdicts.{verdicts-are-so}
use Rattle.iox_machine.specs.Agreement.{Agreement, verdict}
use Rattle.iox_machine.specs.AgreementLaws.{HasOne}
use Rattle.iox_machine.specs.Asked.{number_unless_off, settings_of}
use Rattle.iox_machine.specs.Choices.{Choices}
use Rattle.iox_machine.specs.Phase.{Node, Own, Phase, is_in}
use Rattle.iox_machine.specs.ReopeningLaws.{AskedMeetsItself, CreatedMayBeOpened, requiring}
use Rattle.iox_machine.specs.ServiceReplyLaws.{OpeningAnswers, open_told}
use Rattle.iox_machine.specs.VerdictLaws.{AreCompatible, HasRequired, IsAsNamed, IsEnough, IsSwitched}
use Rattle.iox_command.specs.NegotiateBase.DescribeBase.declared.attribute.Attribute.{Attribute}
use Rattle.iox_command.specs.NegotiateBase.DescribeBase.declared.message_type.MessageTypeDetails.{MessageTypeDetails}
use Rattle.iox_command.specs.NegotiateBase.DescribeSettings.Agreement.{max_nodes_of}
use Rattle.iox_command.specs.NegotiateBase.declared.errors.event.EventOpenError.TheVariants as event_open
use Rattle.iox_command.specs.NegotiateBase.declared.errors.publish_subscribe.PublishSubscribeOpenError.TheVariants as publish_subscribe_open
use Rattle.iox_command.specs.NegotiateBase.declared.errors.request_response.RequestResponseOpenError.TheVariants as request_response_open
use Rattle.iox_command.specs.declared.refusal.Refusal.{Refusal}
use Rattle.iox_command.specs.declared.reply.Reply.TheVariants as reply
use Rattle.iox_command.specs.declared.service.NumberOrOff.{NumberOrOff}
use Rattle.iox_command.specs.declared.service.NumberOrOff.TheVariants.{Number, Off}
use Rattle.iox_command.specs.declared.service.ServiceOptions.TheVariants as options

-- ---- clauses

-- a clause that is met leads to the next
passes : {Clause Rest Told : Type 0} → Clause → (Clause × Rest) ⊎ ((Clause → ⊥) × Told) → Rest
passes holds (inl met) = met.1
passes holds (inr unmet) = absurd (unmet.0 holds)

compatible : (types : MessageTypeDetails) → AreCompatible types types
compatible types = ((refl, refl, refl, refl), (refl, refl, refl, refl), refl, refl, refl, omega arith)

each-there : {X : Type 0} (Is : X → X → Type 0) → ((x : X) → Is x x) → (xs : List X)
    → AllByRecursion (λ (x : X). HasOne (λ (one : X). Is x one) xs) xs
each-there Is same [] = tt
each-there {X} Is same (x ∷ xs) = (
  inl (same x),
  all-weaker (λ (y : X). HasOne (λ (one : X). Is y one) xs) (λ (y : X). HasOne (λ (one : X). Is y one) (x ∷ xs)) (λ y has. inr has) xs
      (each-there Is same xs),
)

required : (attributes : List Attribute) → HasRequired (requiring attributes) attributes
required attributes =
    (each-there (λ (pair one : Attribute). (one.key ≡ pair.key) × (one.value ≡ pair.value)) (λ pair. (refl, refl)) attributes, tt)

switched : (named : Option Bool) (default : Bool) → IsSwitched named (unwrap_or named default)
switched None default = tt
switched (Some named) default = refl

as-named : (named : Option NumberOrOff) → IsAsNamed named (number_unless_off named)
as-named None = tt
as-named (Some (Number number)) = refl
as-named (Some Off) = refl

enough : (named : Option ℕ) (default : ℕ) → IsEnough named (unwrap_or named default)
enough None default = tt
enough (Some named) default = omega arith

enough-or-one : (named : Option ℕ) (default : ℕ) → IsEnough named (max (unwrap_or named default) 1)
enough-or-one None default = tt
enough-or-one (Some named) default = omega arith

pub asked-meets-itself : AskedMeetsItself
asked-meets-itself types (options.PublishSubscribe named) attributes =
    passes (enough-or-one named.max_nodes 20)
    (passes (enough-or-one named.subscriber_max_borrowed_samples 2)
    (passes (enough named.history_size 0)
    (passes (enough-or-one named.subscriber_max_buffer_size 2)
    (passes (enough-or-one named.max_subscribers 8)
    (passes (enough-or-one named.max_publishers 2)
    (passes (switched named.sequence_numbers false)
    (passes (switched named.enable_safe_overflow true)
    (passes (required attributes)
    (passes (compatible types)
    (verdicts-are-so types (options.PublishSubscribe named) (requiring attributes) attributes
    (settings_of types (options.PublishSubscribe named))))))))))))
asked-meets-itself types (options.Event named) attributes =
    passes (enough-or-one named.max_nodes 36)
    (passes (as-named named.notifier_dead_event)
    (passes (as-named named.notifier_dropped_event)
    (passes (as-named named.notifier_created_event)
    (passes (enough named.event_id_max_value 4294967295)
    (passes (enough-or-one named.max_listeners 16)
    (passes (enough-or-one named.max_notifiers 16)
    (passes (as-named named.deadline)
    (passes (required attributes)
    (verdicts-are-so types (options.Event named) (requiring attributes) attributes (settings_of types (options.Event named)))))))))))
asked-meets-itself types (options.RequestResponse named) attributes =
    passes (enough-or-one named.max_nodes 20)
    (passes (enough-or-one named.max_borrowed_responses_per_pending_response 2)
    (passes (enough-or-one named.max_clients 8)
    (passes (enough-or-one named.max_servers 2)
    (passes (enough-or-one named.max_response_buffer_size 2)
    (passes (enough-or-one named.max_active_requests_per_client 4)
    (passes (enough-or-one named.max_loaned_requests 2)
    (passes (switched named.enable_fire_and_forget_requests true)
    (passes (switched named.enable_safe_overflow_for_responses true)
    (passes (switched named.enable_safe_overflow_for_requests true)
    (passes (required attributes)
    (passes (compatible types)
    (passes (compatible types)
    (verdicts-are-so types (options.RequestResponse named) (requiring attributes) attributes
    (settings_of types (options.RequestResponse named)))))))))))))))

-- ---- the opening

pub created-may-be-opened : {T : Type 0} (choices : Choices T) → CreatedMayBeOpened choices
created-may-be-opened {T} choices types buffer node other name named attributes old number mid answer new created unskipped h =
    let came = creates-as-described choices types buffer node name named attributes [] old number mid created in
    elim (openings-answer-so choices types buffer other name named (requiring attributes) mid answer new unskipped h) [
      | inl lacks ↦ inr (inl lacks)
      | inr told ↦ found (verdict types named (requiring attributes) agreed) (asked-meets-itself types named attributes)
          (subst (λ (phase : Phase). OpeningAnswers answer (mid.made.factories + 1) named types (requiring attributes) other phase) came.2
          told)
    ]
  where
    agreed : Agreement
    agreed = record { settings = settings_of types named; attributes = attributes }

    Made : Type 0
    Made = answer ≡ reply.FactoryMade (mid.made.factories + 1)

    Full : Type 0
    Full =
        answer ≡ reply.Refused (open_told named publish_subscribe_open.ExceedsMaxNumberOfNodes event_open.ExceedsMaxNumberOfNodes
        request_response_open.ExceedsMaxNumberOfNodes)

    Lacks : Type 0
    Lacks =
        answer ≡ reply.Refused (open_told named publish_subscribe_open.OutOfMemory event_open.OutOfMemory
        request_response_open.OutOfMemory)

    one : List (Node × ℕ)
    one = (Own node, 1) ∷ []

    placed : (b c : Bool) → (node == other) ≡ b → nat_lt 1 (max_nodes_of agreed.settings) ≡ c → MatchBool ((b || false) || c) Made Full
        → Made ⊎ (Lacks ⊎ ((other ≡ node → ⊥) × (max_nodes_of agreed.settings ≤ 1) × Full))
    placed true c is fits made = inl made
    placed false true off fits made = inl made
    placed false false off fits full = inr (inr (
      (λ same. true≢false (sym (eq-eqb node other (sym same)) ∙ off)),
      ltb-false 1 (max_nodes_of agreed.settings) fits,
      full,
    ))

    found : (r : Result (Unit {0}) Refusal) → r ≡ Ok tt
        → MatchResult r
        (λ met. MatchBool (is_in (Own other) one || nat_lt (length one) (max_nodes_of agreed.settings)) Made Full)
        (λ unmet. answer ≡ reply.Refused unmet)
        → Made ⊎ (Lacks ⊎ ((other ≡ node → ⊥) × (max_nodes_of agreed.settings ≤ 1) × Full))
    found (Ok met) is told = placed (node == other) (nat_lt 1 (max_nodes_of agreed.settings)) refl refl told
    found (Err unmet) is told = absurd (differ is)
      where
        differ : ◌≡◌ {A = Result (Unit {0}) Refusal} (Err unmet) (Ok tt) → ⊥
        differ e = cc
