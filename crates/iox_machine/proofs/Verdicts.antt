-- What settings and openings are refused for, in the words of the agreement.
use Rattle.std.proofs.Common.{◌≡◌, ◌<◌, ◌^◌, ℕ, Bool, true, false, cond, not, ◌&&◌, List, [], ◌∷◌, Option, None, Some, Result}
use Rattle.std.proofs.Common.{refl}
use Rattle.std.proofs.Common.{sym, ap, inl, inr, ◌∙◌, true≢false}
use Rattle.std.proofs.lemmas.Bool.{eq-eqb, eqb-true, le-leb, leb-true, lt-ltb, ltb-true}
use Rattle.std.proofs.lemmas.Bool.Decides.{Decides-and}
use Rattle.std.proofs.lemmas.Slice.Eq.{bytes_eq-Decides}
use Rattle.std.specs.Bool.{Decides}
use Rattle.std.specs.List.{AllByRecursion, list_all, list_any}
use Rattle.std.specs.Prelude.{◌==◌, bytes_eq, nat_lt}
use Rattle.iox_machine.proofs.Cases.{never-some, same-some}
use Rattle.iox_machine.proofs.Closed.{one-any}
use Rattle.iox_machine.proofs.Waiting.{any-one}
use Rattle.iox_machine.specs.Agreement.{are_within_limits, have_required, is_as_named, is_enough, is_switched, types_agree}
use Rattle.iox_machine.specs.Agreement.{verdict_on}
use Rattle.iox_machine.specs.AgreementLaws.{HasOne}
use Rattle.iox_machine.specs.VerdictLaws.{AllMet, AreCompatible, AreSame, AreWithinLimits, HasRequired, IsAsNamed, IsEnough, IsSwitched}
use Rattle.iox_machine.specs.VerdictLaws.{IsUnfitFor, SettingsAreRefusedSo, Tests, VerdictsAreSo}
use Rattle.iox_command.specs.NegotiateBase.DescribeBase.Attributes.{Required}
use Rattle.iox_command.specs.NegotiateBase.DescribeBase.Compatible.{same_variant}
use Rattle.iox_command.specs.NegotiateBase.DescribeBase.Detail.{Detail}
use Rattle.iox_command.specs.NegotiateBase.DescribeBase.declared.attribute.Attribute.{Attribute}
use Rattle.iox_command.specs.NegotiateBase.DescribeBase.declared.message_type.MessageTypeDetails.{MessageTypeDetails}
use Rattle.iox_command.specs.NegotiateBase.DescribeBase.declared.type_detail.TypeVariant.{TypeVariant}
use Rattle.iox_command.specs.NegotiateBase.DescribeBase.declared.type_detail.TypeVariant.TheVariants.{Dynamic, FixedSize}
use Rattle.iox_command.specs.NegotiateBase.DescribeSettings.declared.static_config.Settings.TheVariants as settings
use Rattle.iox_command.specs.NegotiateBase.DescribeSettings.declared.static_config.event.StaticConfig.{StaticConfig as EventConfig}
use Rattle.iox_command.specs.NegotiateBase.DescribeSettings.declared.static_config.publish_subscribe.StaticConfig.{StaticConfig}
use Rattle.iox_command.specs.NegotiateBase.DescribeSettings.declared.static_config.request_response.StaticConfig.{
  StaticConfig as
      RequestResponseConfig,
}
use Rattle.iox_command.specs.NegotiateBase.declared.errors.event.EventOpenError.{EventOpenError}
use Rattle.iox_command.specs.NegotiateBase.declared.errors.event.EventOpenError.TheVariants as event
use Rattle.iox_command.specs.NegotiateBase.declared.errors.publish_subscribe.PublishSubscribeOpenError.{PublishSubscribeOpenError}
use Rattle.iox_command.specs.NegotiateBase.declared.errors.publish_subscribe.PublishSubscribeOpenError.TheVariants as publish_subscribe
use Rattle.iox_command.specs.NegotiateBase.declared.errors.request_response.RequestResponseOpenError.{RequestResponseOpenError}
use Rattle.iox_command.specs.NegotiateBase.declared.errors.request_response.RequestResponseOpenError.TheVariants as request_response
use Rattle.iox_command.specs.NegotiateBase.declared.failure.CreateFailure.TheVariants.{InternalFailure}
use Rattle.iox_command.specs.NegotiateBase.declared.failure.CreateFailure.TheVariants.{SubscriberBufferMustBeLargerThanHistorySize}
use Rattle.iox_command.specs.declared.refusal.Refusal.{Refusal}
use Rattle.iox_command.specs.declared.refusal.Refusal.TheVariants as refusal
use Rattle.iox_command.specs.declared.service.EventOptions.{EventOptions}
use Rattle.iox_command.specs.declared.service.NumberOrOff.{NumberOrOff}
use Rattle.iox_command.specs.declared.service.NumberOrOff.TheVariants.{Number, Off}
use Rattle.iox_command.specs.declared.service.PublishSubscribeOptions.{PublishSubscribeOptions}
use Rattle.iox_command.specs.declared.service.RequestResponseOptions.{RequestResponseOptions}
use Rattle.iox_command.specs.declared.service.ServiceOptions.TheVariants as options

-- ---- single clauses

enough : (named : Option ℕ) (given : ℕ) → Decides (is_enough named given) (IsEnough named given)
enough None given = ((λ e. tt), (λ h. refl))
enough (Some least) given = ((λ e. leb-true least given e), (λ h. le-leb least given h))

switched : (named : Option Bool) (given : Bool) → Decides (is_switched named given) (IsSwitched named given)
switched None given = ((λ e. tt), (λ h. refl))
switched (Some true) given = ((λ e. e), (λ h. h))
switched (Some false) true = ((λ e. sym e), (λ h. sym h))
switched (Some false) false = ((λ e. refl), (λ h. refl))

as-named : (named : Option NumberOrOff) (given : Option ℕ) → Decides (is_as_named named given) (IsAsNamed named given)
as-named None given = ((λ e. tt), (λ h. refl))
as-named (Some (Number number)) None = ((λ e. absurd (true≢false (sym e))), (λ h. never-some number h))
as-named (Some (Number number)) (Some given) = (
  (λ e. ap (λ (n : ℕ). Some n) (sym (eqb-true number given e))),
  (λ h. eq-eqb number given (sym (same-some given number h))),
)
as-named (Some Off) None = ((λ e. refl), (λ h. refl))
as-named (Some Off) (Some given) = ((λ e. absurd (true≢false (sym e))), (λ h. never-some given (sym h)))

all-so : {X : Type 0} (test : X → Bool) (Is : X → Type 0) → ((x : X) → Decides (test x) (Is x)) → (xs : List X)
    → Decides (list_all test xs) (AllByRecursion Is xs)
all-so test Is each [] = ((λ e. tt), (λ h. refl))
all-so test Is each (x ∷ xs) = Decides-and (test x) (list_all test xs) (each x) (all-so test Is each xs)

one-so : {X : Type 0} (test : X → Bool) (Is : X → Type 0) → ((x : X) → Decides (test x) (Is x)) → (xs : List X)
    → Decides (list_any test xs) (HasOne Is xs)
one-so test Is each xs = ((λ e. any-one Is test (λ x is. (each x).0 is) xs e), (λ h. one-any Is test (λ x is. (each x).1 is) xs h))

required-so : (required : Required) (attributes : List Attribute)
    → Decides (have_required required attributes) (HasRequired required attributes)
required-so required attributes =
    Decides-and
    (list_all (λ (pair : Attribute). list_any (λ (one : Attribute). bytes_eq one.key pair.key && bytes_eq one.value pair.value) attributes)
    required.pairs)
    (list_all (λ (key : List ℕ). list_any (λ (one : Attribute). bytes_eq one.key key) attributes) required.keys)
    (all-so
    (λ (pair : Attribute). list_any (λ (one : Attribute). bytes_eq one.key pair.key && bytes_eq one.value pair.value) attributes)
    (λ (pair : Attribute). HasOne (λ (one : Attribute). (one.key ≡ pair.key) × (one.value ≡ pair.value)) attributes)
    (λ pair. one-so (λ (one : Attribute). bytes_eq one.key pair.key && bytes_eq one.value pair.value)
    (λ (one : Attribute). (one.key ≡ pair.key) × (one.value ≡ pair.value))
    (λ one. Decides-and (bytes_eq one.key pair.key) (bytes_eq one.value pair.value) (bytes_eq-Decides one.key pair.key)
    (bytes_eq-Decides one.value pair.value)) attributes) required.pairs)
    (all-so (λ (key : List ℕ). list_any (λ (one : Attribute). bytes_eq one.key key) attributes)
    (λ (key : List ℕ). HasOne (λ (one : Attribute). one.key ≡ key) attributes)
    (λ key. one-so (λ (one : Attribute). bytes_eq one.key key) (λ (one : Attribute). one.key ≡ key)
    (λ one. bytes_eq-Decides one.key key) attributes) required.keys)

variants : (one other : TypeVariant) → Decides (same_variant one other) (one ≡ other)
variants FixedSize FixedSize = ((λ e. refl), (λ h. refl))
variants FixedSize Dynamic = ((λ e. absurd (true≢false (sym e))), (λ h. absurd (differ h)))
  where
    differ : FixedSize ≡ Dynamic → ⊥
    differ h = cc
variants Dynamic FixedSize = ((λ e. absurd (true≢false (sym e))), (λ h. absurd (differ h)))
  where
    differ : Dynamic ≡ FixedSize → ⊥
    differ h = cc
variants Dynamic Dynamic = ((λ e. refl), (λ h. refl))

numbers : (one other : ℕ) → Decides (one == other) (one ≡ other)
numbers one other = ((λ e. eqb-true one other e), (λ h. eq-eqb one other h))

limits : (one other : ℕ) → Decides (nat_lt one other) (one < other)
limits one other = ((λ e. ltb-true one other e), (λ h. lt-ltb one other h))

details : (one other : Detail)
    → Decides (same_variant one.variant other.variant
    && (bytes_eq one.name other.name && ((one.size == other.size) && (one.alignment == other.alignment)))) (AreSame one other)
details one other =
    let all = Decides-and (same_variant one.variant other.variant)
    (bytes_eq one.name other.name && ((one.size == other.size) && (one.alignment == other.alignment)))
    (variants one.variant other.variant)
    (Decides-and (bytes_eq one.name other.name) ((one.size == other.size) && (one.alignment == other.alignment))
    (bytes_eq-Decides one.name other.name)
    (Decides-and (one.size == other.size) (one.alignment == other.alignment) (numbers one.size other.size)
    (numbers one.alignment other.alignment))) in (
      (λ e.
          let p = all.0 e in (p.0, p.1.0, p.1.1.0, p.1.1.1)),
      (λ h. all.1 (h.0, (h.1, (h.2, h.3)))),
    )

types-agree : (asked given : MessageTypeDetails) → Decides (types_agree asked given) (AreCompatible asked given)
types-agree asked given =
    let all = Decides-and _ _
    (Decides-and _ _
    (Decides-and _ _
    (Decides-and _ _
    (Decides-and _ _ (details asked.header given.header) (details asked.user_header given.user_header))
    (variants asked.payload.variant given.payload.variant))
    (bytes_eq-Decides asked.payload.name given.payload.name))
    (numbers asked.payload.size given.payload.size))
    (enough (Some asked.payload.alignment) given.payload.alignment) in (
      (λ e.
          let p = all.0 e in (p.0.0.0.0.0, p.0.0.0.0.1, p.0.0.0.1, p.0.0.1, p.0.1, p.1)),
      (λ h. all.1 (((((h.0, h.1), h.2), h.3), h.4), h.5)),
    )

-- ---- verdicts

tests : {E : Type 0} (told : E → Refusal) (b : Bool) (error : E) (more : List (Bool × E)) (Clause : Type 0)
    (Rest : Result (Unit {0}) Refusal → Type 0) → Decides b Clause → Rest (verdict_on told more)
    → Tests Clause (told error) Rest (verdict_on told ((b, error) ∷ more))
tests told true error more Clause Rest decides rest = inl (decides.0 refl, rest)
tests told false error more Clause Rest decides rest = inr ((λ is. true≢false (sym (decides.1 is))), refl)

module _ (types : MessageTypeDetails) (required : Required) (attributes : List Attribute) (named : PublishSubscribeOptions)
    (c : StaticConfig) where
  abbrev publish_subscribe_left9 : List (Bool × PublishSubscribeOpenError)
  publish_subscribe_left9 = (
    is_enough named.max_nodes c.max_nodes,
    publish_subscribe.DoesNotSupportRequestedAmountOfNodes,
  )
      ∷ []

  abbrev PublishSubscribeRest9 : Result (Unit {0}) Refusal → Type 0
  PublishSubscribeRest9 = Tests (IsEnough named.max_nodes c.max_nodes)
      (refusal.PublishSubscribeOpen publish_subscribe.DoesNotSupportRequestedAmountOfNodes) AllMet

  abbrev publish_subscribe_left8 : List (Bool × PublishSubscribeOpenError)
  publish_subscribe_left8 = (
    is_enough named.subscriber_max_borrowed_samples c.subscriber_max_borrowed_samples,
    publish_subscribe.DoesNotSupportRequestedMinSubscriberBorrowedSamples,
  )
      ∷ publish_subscribe_left9

  abbrev PublishSubscribeRest8 : Result (Unit {0}) Refusal → Type 0
  PublishSubscribeRest8 = Tests (IsEnough named.subscriber_max_borrowed_samples c.subscriber_max_borrowed_samples)
      (refusal.PublishSubscribeOpen publish_subscribe.DoesNotSupportRequestedMinSubscriberBorrowedSamples) PublishSubscribeRest9

  abbrev publish_subscribe_left7 : List (Bool × PublishSubscribeOpenError)
  publish_subscribe_left7 = (
    is_enough named.history_size c.history_size,
    publish_subscribe.DoesNotSupportRequestedMinHistorySize,
  )
      ∷ publish_subscribe_left8

  abbrev PublishSubscribeRest7 : Result (Unit {0}) Refusal → Type 0
  PublishSubscribeRest7 = Tests (IsEnough named.history_size c.history_size)
      (refusal.PublishSubscribeOpen publish_subscribe.DoesNotSupportRequestedMinHistorySize) PublishSubscribeRest8

  abbrev publish_subscribe_left6 : List (Bool × PublishSubscribeOpenError)
  publish_subscribe_left6 = (
    is_enough named.subscriber_max_buffer_size c.subscriber_max_buffer_size,
    publish_subscribe.DoesNotSupportRequestedMinBufferSize,
  )
      ∷ publish_subscribe_left7

  abbrev PublishSubscribeRest6 : Result (Unit {0}) Refusal → Type 0
  PublishSubscribeRest6 = Tests (IsEnough named.subscriber_max_buffer_size c.subscriber_max_buffer_size)
      (refusal.PublishSubscribeOpen publish_subscribe.DoesNotSupportRequestedMinBufferSize) PublishSubscribeRest7

  abbrev publish_subscribe_left5 : List (Bool × PublishSubscribeOpenError)
  publish_subscribe_left5 = (
    is_enough named.max_subscribers c.max_subscribers,
    publish_subscribe.DoesNotSupportRequestedAmountOfSubscribers,
  )
      ∷ publish_subscribe_left6

  abbrev PublishSubscribeRest5 : Result (Unit {0}) Refusal → Type 0
  PublishSubscribeRest5 = Tests (IsEnough named.max_subscribers c.max_subscribers)
      (refusal.PublishSubscribeOpen publish_subscribe.DoesNotSupportRequestedAmountOfSubscribers) PublishSubscribeRest6

  abbrev publish_subscribe_left4 : List (Bool × PublishSubscribeOpenError)
  publish_subscribe_left4 = (
    is_enough named.max_publishers c.max_publishers,
    publish_subscribe.DoesNotSupportRequestedAmountOfPublishers,
  )
      ∷ publish_subscribe_left5

  abbrev PublishSubscribeRest4 : Result (Unit {0}) Refusal → Type 0
  PublishSubscribeRest4 = Tests (IsEnough named.max_publishers c.max_publishers)
      (refusal.PublishSubscribeOpen publish_subscribe.DoesNotSupportRequestedAmountOfPublishers) PublishSubscribeRest5

  abbrev publish_subscribe_left3 : List (Bool × PublishSubscribeOpenError)
  publish_subscribe_left3 = (
    is_switched named.sequence_numbers c.sequence_numbers,
    publish_subscribe.IncompatibleSequenceNumbers,
  )
      ∷ publish_subscribe_left4

  abbrev PublishSubscribeRest3 : Result (Unit {0}) Refusal → Type 0
  PublishSubscribeRest3 = Tests (IsSwitched named.sequence_numbers c.sequence_numbers)
      (refusal.PublishSubscribeOpen publish_subscribe.IncompatibleSequenceNumbers) PublishSubscribeRest4

  abbrev publish_subscribe_left2 : List (Bool × PublishSubscribeOpenError)
  publish_subscribe_left2 = (
    is_switched named.enable_safe_overflow c.enable_safe_overflow,
    publish_subscribe.IncompatibleOverflowBehavior,
  )
      ∷ publish_subscribe_left3

  abbrev PublishSubscribeRest2 : Result (Unit {0}) Refusal → Type 0
  PublishSubscribeRest2 = Tests (IsSwitched named.enable_safe_overflow c.enable_safe_overflow)
      (refusal.PublishSubscribeOpen publish_subscribe.IncompatibleOverflowBehavior) PublishSubscribeRest3

  abbrev publish_subscribe_left1 : List (Bool × PublishSubscribeOpenError)
  publish_subscribe_left1 = (
    have_required required attributes,
    publish_subscribe.IncompatibleAttributes,
  )
      ∷ publish_subscribe_left2

  abbrev PublishSubscribeRest1 : Result (Unit {0}) Refusal → Type 0
  PublishSubscribeRest1 = Tests (HasRequired required attributes)
      (refusal.PublishSubscribeOpen publish_subscribe.IncompatibleAttributes) PublishSubscribeRest2

  abbrev publish_subscribe_left0 : List (Bool × PublishSubscribeOpenError)
  publish_subscribe_left0 = (
    types_agree types c.types,
    publish_subscribe.IncompatibleTypes,
  )
      ∷ publish_subscribe_left1

  abbrev PublishSubscribeRest0 : Result (Unit {0}) Refusal → Type 0
  PublishSubscribeRest0 = Tests (AreCompatible types c.types)
      (refusal.PublishSubscribeOpen publish_subscribe.IncompatibleTypes) PublishSubscribeRest1

  publish-subscribe-so : PublishSubscribeRest0
      (verdict_on refusal.PublishSubscribeOpen publish_subscribe_left0)
  publish-subscribe-so =
      tests refusal.PublishSubscribeOpen
      (types_agree types c.types) publish_subscribe.IncompatibleTypes publish_subscribe_left1
      (AreCompatible types c.types) PublishSubscribeRest1
      (types-agree types c.types)
      (tests refusal.PublishSubscribeOpen
      (have_required required attributes) publish_subscribe.IncompatibleAttributes publish_subscribe_left2
      (HasRequired required attributes) PublishSubscribeRest2
      (required-so required attributes)
      (tests refusal.PublishSubscribeOpen
      (is_switched named.enable_safe_overflow c.enable_safe_overflow) publish_subscribe.IncompatibleOverflowBehavior publish_subscribe_left3
      (IsSwitched named.enable_safe_overflow c.enable_safe_overflow) PublishSubscribeRest3
      (switched named.enable_safe_overflow c.enable_safe_overflow)
      (tests refusal.PublishSubscribeOpen
      (is_switched named.sequence_numbers c.sequence_numbers) publish_subscribe.IncompatibleSequenceNumbers publish_subscribe_left4
      (IsSwitched named.sequence_numbers c.sequence_numbers) PublishSubscribeRest4
      (switched named.sequence_numbers c.sequence_numbers)
      (tests refusal.PublishSubscribeOpen
      (is_enough named.max_publishers c.max_publishers) publish_subscribe.DoesNotSupportRequestedAmountOfPublishers publish_subscribe_left5
      (IsEnough named.max_publishers c.max_publishers) PublishSubscribeRest5
      (enough named.max_publishers c.max_publishers)
      (tests refusal.PublishSubscribeOpen
      (is_enough named.max_subscribers c.max_subscribers)
      publish_subscribe.DoesNotSupportRequestedAmountOfSubscribers publish_subscribe_left6
      (IsEnough named.max_subscribers c.max_subscribers) PublishSubscribeRest6
      (enough named.max_subscribers c.max_subscribers)
      (tests refusal.PublishSubscribeOpen
      (is_enough named.subscriber_max_buffer_size c.subscriber_max_buffer_size)
      publish_subscribe.DoesNotSupportRequestedMinBufferSize publish_subscribe_left7
      (IsEnough named.subscriber_max_buffer_size c.subscriber_max_buffer_size) PublishSubscribeRest7
      (enough named.subscriber_max_buffer_size c.subscriber_max_buffer_size)
      (tests refusal.PublishSubscribeOpen
      (is_enough named.history_size c.history_size) publish_subscribe.DoesNotSupportRequestedMinHistorySize publish_subscribe_left8
      (IsEnough named.history_size c.history_size) PublishSubscribeRest8
      (enough named.history_size c.history_size)
      (tests refusal.PublishSubscribeOpen
      (is_enough named.subscriber_max_borrowed_samples c.subscriber_max_borrowed_samples)
      publish_subscribe.DoesNotSupportRequestedMinSubscriberBorrowedSamples publish_subscribe_left9
      (IsEnough named.subscriber_max_borrowed_samples c.subscriber_max_borrowed_samples) PublishSubscribeRest9
      (enough named.subscriber_max_borrowed_samples c.subscriber_max_borrowed_samples)
      (tests refusal.PublishSubscribeOpen
      (is_enough named.max_nodes c.max_nodes) publish_subscribe.DoesNotSupportRequestedAmountOfNodes []
      (IsEnough named.max_nodes c.max_nodes) AllMet
      (enough named.max_nodes c.max_nodes)
      refl)))))))))

module _ (types : MessageTypeDetails) (required : Required) (attributes : List Attribute) (named : EventOptions)
    (c : EventConfig) where
  abbrev event_left8 : List (Bool × EventOpenError)
  event_left8 = (
    is_enough named.max_nodes c.max_nodes,
    event.DoesNotSupportRequestedAmountOfNodes,
  )
      ∷ []

  abbrev EventRest8 : Result (Unit {0}) Refusal → Type 0
  EventRest8 = Tests (IsEnough named.max_nodes c.max_nodes)
      (refusal.EventOpen event.DoesNotSupportRequestedAmountOfNodes) AllMet

  abbrev event_left7 : List (Bool × EventOpenError)
  event_left7 = (
    is_as_named named.notifier_dead_event c.notifier_dead_event,
    event.IncompatibleNotifierDeadEvent,
  )
      ∷ event_left8

  abbrev EventRest7 : Result (Unit {0}) Refusal → Type 0
  EventRest7 = Tests (IsAsNamed named.notifier_dead_event c.notifier_dead_event)
      (refusal.EventOpen event.IncompatibleNotifierDeadEvent) EventRest8

  abbrev event_left6 : List (Bool × EventOpenError)
  event_left6 = (
    is_as_named named.notifier_dropped_event c.notifier_dropped_event,
    event.IncompatibleNotifierDroppedEvent,
  )
      ∷ event_left7

  abbrev EventRest6 : Result (Unit {0}) Refusal → Type 0
  EventRest6 = Tests (IsAsNamed named.notifier_dropped_event c.notifier_dropped_event)
      (refusal.EventOpen event.IncompatibleNotifierDroppedEvent) EventRest7

  abbrev event_left5 : List (Bool × EventOpenError)
  event_left5 = (
    is_as_named named.notifier_created_event c.notifier_created_event,
    event.IncompatibleNotifierCreatedEvent,
  )
      ∷ event_left6

  abbrev EventRest5 : Result (Unit {0}) Refusal → Type 0
  EventRest5 = Tests (IsAsNamed named.notifier_created_event c.notifier_created_event)
      (refusal.EventOpen event.IncompatibleNotifierCreatedEvent) EventRest6

  abbrev event_left4 : List (Bool × EventOpenError)
  event_left4 = (
    is_enough named.event_id_max_value c.event_id_max_value,
    event.DoesNotSupportRequestedMaxEventId,
  )
      ∷ event_left5

  abbrev EventRest4 : Result (Unit {0}) Refusal → Type 0
  EventRest4 = Tests (IsEnough named.event_id_max_value c.event_id_max_value)
      (refusal.EventOpen event.DoesNotSupportRequestedMaxEventId) EventRest5

  abbrev event_left3 : List (Bool × EventOpenError)
  event_left3 = (
    is_enough named.max_listeners c.max_listeners,
    event.DoesNotSupportRequestedAmountOfListeners,
  )
      ∷ event_left4

  abbrev EventRest3 : Result (Unit {0}) Refusal → Type 0
  EventRest3 = Tests (IsEnough named.max_listeners c.max_listeners)
      (refusal.EventOpen event.DoesNotSupportRequestedAmountOfListeners) EventRest4

  abbrev event_left2 : List (Bool × EventOpenError)
  event_left2 = (
    is_enough named.max_notifiers c.max_notifiers,
    event.DoesNotSupportRequestedAmountOfNotifiers,
  )
      ∷ event_left3

  abbrev EventRest2 : Result (Unit {0}) Refusal → Type 0
  EventRest2 = Tests (IsEnough named.max_notifiers c.max_notifiers)
      (refusal.EventOpen event.DoesNotSupportRequestedAmountOfNotifiers) EventRest3

  abbrev event_left1 : List (Bool × EventOpenError)
  event_left1 = (
    is_as_named named.deadline c.deadline,
    event.IncompatibleDeadline,
  )
      ∷ event_left2

  abbrev EventRest1 : Result (Unit {0}) Refusal → Type 0
  EventRest1 = Tests (IsAsNamed named.deadline c.deadline)
      (refusal.EventOpen event.IncompatibleDeadline) EventRest2

  abbrev event_left0 : List (Bool × EventOpenError)
  event_left0 = (
    have_required required attributes,
    event.IncompatibleAttributes,
  )
      ∷ event_left1

  abbrev EventRest0 : Result (Unit {0}) Refusal → Type 0
  EventRest0 = Tests (HasRequired required attributes)
      (refusal.EventOpen event.IncompatibleAttributes) EventRest1

  event-so : EventRest0 (verdict_on refusal.EventOpen event_left0)
  event-so =
      tests refusal.EventOpen
      (have_required required attributes) event.IncompatibleAttributes event_left1
      (HasRequired required attributes) EventRest1
      (required-so required attributes)
      (tests refusal.EventOpen
      (is_as_named named.deadline c.deadline) event.IncompatibleDeadline event_left2
      (IsAsNamed named.deadline c.deadline) EventRest2
      (as-named named.deadline c.deadline)
      (tests refusal.EventOpen
      (is_enough named.max_notifiers c.max_notifiers) event.DoesNotSupportRequestedAmountOfNotifiers event_left3
      (IsEnough named.max_notifiers c.max_notifiers) EventRest3
      (enough named.max_notifiers c.max_notifiers)
      (tests refusal.EventOpen
      (is_enough named.max_listeners c.max_listeners) event.DoesNotSupportRequestedAmountOfListeners event_left4
      (IsEnough named.max_listeners c.max_listeners) EventRest4
      (enough named.max_listeners c.max_listeners)
      (tests refusal.EventOpen
      (is_enough named.event_id_max_value c.event_id_max_value) event.DoesNotSupportRequestedMaxEventId event_left5
      (IsEnough named.event_id_max_value c.event_id_max_value) EventRest5
      (enough named.event_id_max_value c.event_id_max_value)
      (tests refusal.EventOpen
      (is_as_named named.notifier_created_event c.notifier_created_event) event.IncompatibleNotifierCreatedEvent event_left6
      (IsAsNamed named.notifier_created_event c.notifier_created_event) EventRest6
      (as-named named.notifier_created_event c.notifier_created_event)
      (tests refusal.EventOpen
      (is_as_named named.notifier_dropped_event c.notifier_dropped_event) event.IncompatibleNotifierDroppedEvent event_left7
      (IsAsNamed named.notifier_dropped_event c.notifier_dropped_event) EventRest7
      (as-named named.notifier_dropped_event c.notifier_dropped_event)
      (tests refusal.EventOpen
      (is_as_named named.notifier_dead_event c.notifier_dead_event) event.IncompatibleNotifierDeadEvent event_left8
      (IsAsNamed named.notifier_dead_event c.notifier_dead_event) EventRest8
      (as-named named.notifier_dead_event c.notifier_dead_event)
      (tests refusal.EventOpen
      (is_enough named.max_nodes c.max_nodes) event.DoesNotSupportRequestedAmountOfNodes []
      (IsEnough named.max_nodes c.max_nodes) AllMet
      (enough named.max_nodes c.max_nodes)
      refl))))))))

module _ (types : MessageTypeDetails) (required : Required) (attributes : List Attribute) (named : RequestResponseOptions)
    (c : RequestResponseConfig) where
  abbrev request_response_left12 : List (Bool × RequestResponseOpenError)
  request_response_left12 = (
    is_enough named.max_nodes c.max_nodes,
    request_response.DoesNotSupportRequestedAmountOfNodes,
  )
      ∷ []

  abbrev RequestResponseRest12 : Result (Unit {0}) Refusal → Type 0
  RequestResponseRest12 = Tests (IsEnough named.max_nodes c.max_nodes)
      (refusal.RequestResponseOpen request_response.DoesNotSupportRequestedAmountOfNodes) AllMet

  abbrev request_response_left11 : List (Bool × RequestResponseOpenError)
  request_response_left11 = (
    is_enough named.max_borrowed_responses_per_pending_response c.max_borrowed_responses_per_pending_response,
    request_response.DoesNotSupportRequestedAmountOfBorrowedResponsesPerPendingResponse,
  )
      ∷ request_response_left12

  abbrev RequestResponseRest11 : Result (Unit {0}) Refusal → Type 0
  RequestResponseRest11 = Tests (IsEnough named.max_borrowed_responses_per_pending_response c.max_borrowed_responses_per_pending_response)
      (refusal.RequestResponseOpen request_response.DoesNotSupportRequestedAmountOfBorrowedResponsesPerPendingResponse)
      RequestResponseRest12

  abbrev request_response_left10 : List (Bool × RequestResponseOpenError)
  request_response_left10 = (
    is_enough named.max_clients c.max_clients,
    request_response.DoesNotSupportRequestedAmountOfClients,
  )
      ∷ request_response_left11

  abbrev RequestResponseRest10 : Result (Unit {0}) Refusal → Type 0
  RequestResponseRest10 = Tests (IsEnough named.max_clients c.max_clients)
      (refusal.RequestResponseOpen request_response.DoesNotSupportRequestedAmountOfClients) RequestResponseRest11

  abbrev request_response_left9 : List (Bool × RequestResponseOpenError)
  request_response_left9 = (
    is_enough named.max_servers c.max_servers,
    request_response.DoesNotSupportRequestedAmountOfServers,
  )
      ∷ request_response_left10

  abbrev RequestResponseRest9 : Result (Unit {0}) Refusal → Type 0
  RequestResponseRest9 = Tests (IsEnough named.max_servers c.max_servers)
      (refusal.RequestResponseOpen request_response.DoesNotSupportRequestedAmountOfServers) RequestResponseRest10

  abbrev request_response_left8 : List (Bool × RequestResponseOpenError)
  request_response_left8 = (
    is_enough named.max_response_buffer_size c.max_response_buffer_size,
    request_response.DoesNotSupportRequestedResponseBufferSize,
  )
      ∷ request_response_left9

  abbrev RequestResponseRest8 : Result (Unit {0}) Refusal → Type 0
  RequestResponseRest8 = Tests (IsEnough named.max_response_buffer_size c.max_response_buffer_size)
      (refusal.RequestResponseOpen request_response.DoesNotSupportRequestedResponseBufferSize) RequestResponseRest9

  abbrev request_response_left7 : List (Bool × RequestResponseOpenError)
  request_response_left7 = (
    is_enough named.max_active_requests_per_client c.max_active_requests_per_client,
    request_response.DoesNotSupportRequestedAmountOfActiveRequestsPerClient,
  )
      ∷ request_response_left8

  abbrev RequestResponseRest7 : Result (Unit {0}) Refusal → Type 0
  RequestResponseRest7 = Tests (IsEnough named.max_active_requests_per_client c.max_active_requests_per_client)
      (refusal.RequestResponseOpen request_response.DoesNotSupportRequestedAmountOfActiveRequestsPerClient) RequestResponseRest8

  abbrev request_response_left6 : List (Bool × RequestResponseOpenError)
  request_response_left6 = (
    is_enough named.max_loaned_requests c.max_loaned_requests,
    request_response.DoesNotSupportRequestedAmountOfClientRequestLoans,
  )
      ∷ request_response_left7

  abbrev RequestResponseRest6 : Result (Unit {0}) Refusal → Type 0
  RequestResponseRest6 = Tests (IsEnough named.max_loaned_requests c.max_loaned_requests)
      (refusal.RequestResponseOpen request_response.DoesNotSupportRequestedAmountOfClientRequestLoans) RequestResponseRest7

  abbrev request_response_left5 : List (Bool × RequestResponseOpenError)
  request_response_left5 = (
    is_switched named.enable_fire_and_forget_requests c.enable_fire_and_forget_requests,
    request_response.IncompatibleBehaviorForFireAndForgetRequests,
  )
      ∷ request_response_left6

  abbrev RequestResponseRest5 : Result (Unit {0}) Refusal → Type 0
  RequestResponseRest5 = Tests (IsSwitched named.enable_fire_and_forget_requests c.enable_fire_and_forget_requests)
      (refusal.RequestResponseOpen request_response.IncompatibleBehaviorForFireAndForgetRequests) RequestResponseRest6

  abbrev request_response_left4 : List (Bool × RequestResponseOpenError)
  request_response_left4 = (
    is_switched named.enable_safe_overflow_for_responses c.enable_safe_overflow_for_responses,
    request_response.IncompatibleOverflowBehaviorForResponses,
  )
      ∷ request_response_left5

  abbrev RequestResponseRest4 : Result (Unit {0}) Refusal → Type 0
  RequestResponseRest4 = Tests (IsSwitched named.enable_safe_overflow_for_responses c.enable_safe_overflow_for_responses)
      (refusal.RequestResponseOpen request_response.IncompatibleOverflowBehaviorForResponses) RequestResponseRest5

  abbrev request_response_left3 : List (Bool × RequestResponseOpenError)
  request_response_left3 = (
    is_switched named.enable_safe_overflow_for_requests c.enable_safe_overflow_for_requests,
    request_response.IncompatibleOverflowBehaviorForRequests,
  )
      ∷ request_response_left4

  abbrev RequestResponseRest3 : Result (Unit {0}) Refusal → Type 0
  RequestResponseRest3 = Tests (IsSwitched named.enable_safe_overflow_for_requests c.enable_safe_overflow_for_requests)
      (refusal.RequestResponseOpen request_response.IncompatibleOverflowBehaviorForRequests) RequestResponseRest4

  abbrev request_response_left2 : List (Bool × RequestResponseOpenError)
  request_response_left2 = (
    have_required required attributes,
    request_response.IncompatibleAttributes,
  )
      ∷ request_response_left3

  abbrev RequestResponseRest2 : Result (Unit {0}) Refusal → Type 0
  RequestResponseRest2 = Tests (HasRequired required attributes)
      (refusal.RequestResponseOpen request_response.IncompatibleAttributes) RequestResponseRest3

  abbrev request_response_left1 : List (Bool × RequestResponseOpenError)
  request_response_left1 = (
    types_agree types c.response_types,
    request_response.IncompatibleResponseType,
  )
      ∷ request_response_left2

  abbrev RequestResponseRest1 : Result (Unit {0}) Refusal → Type 0
  RequestResponseRest1 = Tests (AreCompatible types c.response_types)
      (refusal.RequestResponseOpen request_response.IncompatibleResponseType) RequestResponseRest2

  abbrev request_response_left0 : List (Bool × RequestResponseOpenError)
  request_response_left0 = (
    types_agree types c.request_types,
    request_response.IncompatibleRequestType,
  )
      ∷ request_response_left1

  abbrev RequestResponseRest0 : Result (Unit {0}) Refusal → Type 0
  RequestResponseRest0 = Tests (AreCompatible types c.request_types)
      (refusal.RequestResponseOpen request_response.IncompatibleRequestType) RequestResponseRest1

  request-response-so : RequestResponseRest0
      (verdict_on refusal.RequestResponseOpen request_response_left0)
  request-response-so =
      tests refusal.RequestResponseOpen
      (types_agree types c.request_types) request_response.IncompatibleRequestType request_response_left1
      (AreCompatible types c.request_types) RequestResponseRest1
      (types-agree types c.request_types)
      (tests refusal.RequestResponseOpen
      (types_agree types c.response_types) request_response.IncompatibleResponseType request_response_left2
      (AreCompatible types c.response_types) RequestResponseRest2
      (types-agree types c.response_types)
      (tests refusal.RequestResponseOpen
      (have_required required attributes) request_response.IncompatibleAttributes request_response_left3
      (HasRequired required attributes) RequestResponseRest3
      (required-so required attributes)
      (tests refusal.RequestResponseOpen
      (is_switched named.enable_safe_overflow_for_requests c.enable_safe_overflow_for_requests)
      request_response.IncompatibleOverflowBehaviorForRequests request_response_left4
      (IsSwitched named.enable_safe_overflow_for_requests c.enable_safe_overflow_for_requests) RequestResponseRest4
      (switched named.enable_safe_overflow_for_requests c.enable_safe_overflow_for_requests)
      (tests refusal.RequestResponseOpen
      (is_switched named.enable_safe_overflow_for_responses c.enable_safe_overflow_for_responses)
      request_response.IncompatibleOverflowBehaviorForResponses request_response_left5
      (IsSwitched named.enable_safe_overflow_for_responses c.enable_safe_overflow_for_responses) RequestResponseRest5
      (switched named.enable_safe_overflow_for_responses c.enable_safe_overflow_for_responses)
      (tests refusal.RequestResponseOpen
      (is_switched named.enable_fire_and_forget_requests c.enable_fire_and_forget_requests)
      request_response.IncompatibleBehaviorForFireAndForgetRequests request_response_left6
      (IsSwitched named.enable_fire_and_forget_requests c.enable_fire_and_forget_requests) RequestResponseRest6
      (switched named.enable_fire_and_forget_requests c.enable_fire_and_forget_requests)
      (tests refusal.RequestResponseOpen
      (is_enough named.max_loaned_requests c.max_loaned_requests)
      request_response.DoesNotSupportRequestedAmountOfClientRequestLoans request_response_left7
      (IsEnough named.max_loaned_requests c.max_loaned_requests) RequestResponseRest7
      (enough named.max_loaned_requests c.max_loaned_requests)
      (tests refusal.RequestResponseOpen
      (is_enough named.max_active_requests_per_client c.max_active_requests_per_client)
      request_response.DoesNotSupportRequestedAmountOfActiveRequestsPerClient request_response_left8
      (IsEnough named.max_active_requests_per_client c.max_active_requests_per_client) RequestResponseRest8
      (enough named.max_active_requests_per_client c.max_active_requests_per_client)
      (tests refusal.RequestResponseOpen
      (is_enough named.max_response_buffer_size c.max_response_buffer_size)
      request_response.DoesNotSupportRequestedResponseBufferSize request_response_left9
      (IsEnough named.max_response_buffer_size c.max_response_buffer_size) RequestResponseRest9
      (enough named.max_response_buffer_size c.max_response_buffer_size)
      (tests refusal.RequestResponseOpen
      (is_enough named.max_servers c.max_servers) request_response.DoesNotSupportRequestedAmountOfServers request_response_left10
      (IsEnough named.max_servers c.max_servers) RequestResponseRest10
      (enough named.max_servers c.max_servers)
      (tests refusal.RequestResponseOpen
      (is_enough named.max_clients c.max_clients) request_response.DoesNotSupportRequestedAmountOfClients request_response_left11
      (IsEnough named.max_clients c.max_clients) RequestResponseRest11
      (enough named.max_clients c.max_clients)
      (tests refusal.RequestResponseOpen
      (is_enough named.max_borrowed_responses_per_pending_response c.max_borrowed_responses_per_pending_response)
      request_response.DoesNotSupportRequestedAmountOfBorrowedResponsesPerPendingResponse request_response_left12
      (IsEnough named.max_borrowed_responses_per_pending_response c.max_borrowed_responses_per_pending_response) RequestResponseRest12
      (enough named.max_borrowed_responses_per_pending_response c.max_borrowed_responses_per_pending_response)
      (tests refusal.RequestResponseOpen
      (is_enough named.max_nodes c.max_nodes) request_response.DoesNotSupportRequestedAmountOfNodes []
      (IsEnough named.max_nodes c.max_nodes) AllMet
      (enough named.max_nodes c.max_nodes)
      refl))))))))))))

pub verdicts-are-so : VerdictsAreSo
verdicts-are-so types (options.PublishSubscribe named) required attributes (settings.PublishSubscribe c) =
    publish-subscribe-so types required attributes named c
verdicts-are-so types (options.PublishSubscribe named) required attributes (settings.Event c) = refl
verdicts-are-so types (options.PublishSubscribe named) required attributes (settings.RequestResponse c) = refl
verdicts-are-so types (options.Event named) required attributes (settings.PublishSubscribe c) = refl
verdicts-are-so types (options.Event named) required attributes (settings.Event c) = event-so types required attributes named c
verdicts-are-so types (options.Event named) required attributes (settings.RequestResponse c) = refl
verdicts-are-so types (options.RequestResponse named) required attributes (settings.PublishSubscribe c) = refl
verdicts-are-so types (options.RequestResponse named) required attributes (settings.Event c) = refl
verdicts-are-so types (options.RequestResponse named) required attributes (settings.RequestResponse c) =
    request-response-so types required attributes named c

-- ---- settings

pub settings-are-refused-so : SettingsAreRefusedSo
settings-are-refused-so (settings.PublishSubscribe c) =
    here (are_within_limits (settings.PublishSubscribe c)) c.enable_safe_overflow (nat_lt c.subscriber_max_buffer_size c.history_size)
    refl refl refl
  where
    within : Decides (are_within_limits (settings.PublishSubscribe c)) (AreWithinLimits (settings.PublishSubscribe c))
    within =
        let all = Decides-and _ _ (limits c.max_nodes (2 ^ 24))
        (Decides-and _ _ (limits c.max_publishers (2 ^ 24))
        (Decides-and _ _ (limits c.max_subscribers (2 ^ 24))
        (Decides-and _ _ (limits c.subscriber_max_buffer_size (2 ^ 32))
        (Decides-and _ _ (limits c.subscriber_max_borrowed_samples (2 ^ 32)) (limits c.history_size (2 ^ 32)))))) in (
          (λ e.
              let p = all.0 e in (p.0, p.1.0, p.1.1.0, p.1.1.1.0, p.1.1.1.1.0, p.1.1.1.1.1)),
          (λ h. all.1 (h.0, (h.1, (h.2, (h.3, (h.4, h.5)))))),
        )

    here : (fits overflows short : Bool) → are_within_limits (settings.PublishSubscribe c) ≡ fits → c.enable_safe_overflow ≡ overflows
        → nat_lt c.subscriber_max_buffer_size c.history_size ≡ short
        → IsUnfitFor (settings.PublishSubscribe c) (cond (not fits) (Some InternalFailure)
        (cond (not overflows && short) (Some SubscriberBufferMustBeLargerThanHistorySize) None))
    here false overflows short f o s = inl ((λ is. true≢false (sym (within.1 is) ∙ f)), refl)
    here true true short f o s = inr (inr (within.0 f, (λ is. true≢false (sym o ∙ is.0)), refl))
    here true false true f o s =
        inr (inl (within.0 f, (o, (limits c.subscriber_max_buffer_size c.history_size).0 s), refl))
    here true false false f o s =
        inr (inr (
          within.0 f,
          (λ is. true≢false (sym ((limits c.subscriber_max_buffer_size c.history_size).1 is.1) ∙ s)),
          refl,
        ))
settings-are-refused-so (settings.Event c) = here (nat_lt c.max_nodes (2 ^ 24)) refl
  where
    here : (fits : Bool) → nat_lt c.max_nodes (2 ^ 24) ≡ fits
        → IsUnfitFor (settings.Event c) (cond fits None (Some InternalFailure))
    here true f = inr (inr ((limits c.max_nodes (2 ^ 24)).0 f, (λ is. is), refl))
    here false f = inl ((λ is. true≢false (sym ((limits c.max_nodes (2 ^ 24)).1 is) ∙ f)), refl)
settings-are-refused-so (settings.RequestResponse c) = here (nat_lt c.max_nodes (2 ^ 24)) refl
  where
    here : (fits : Bool) → nat_lt c.max_nodes (2 ^ 24) ≡ fits
        → IsUnfitFor (settings.RequestResponse c) (cond fits None (Some InternalFailure))
    here true f = inr (inr ((limits c.max_nodes (2 ^ 24)).0 f, (λ is. is), refl))
    here false f = inl ((λ is. true≢false (sym ((limits c.max_nodes (2 ^ 24)).1 is) ∙ f)), refl)
