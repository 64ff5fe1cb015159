-- Which ports are refused.
use Rattle.std.proofs.Common.{◌≡◌, ◌≤◌, ◌<◌, ◌⊎◌, ◌+◌, ◌^◌, ℕ, zero, suc, Bool, true, false, cond, ◌&&◌, ◌||◌, List, [], ◌∷◌, Option, None}
use Rattle.std.proofs.Common.{Some}
use Rattle.std.proofs.Common.{refl, sym, ap, inl, inr, ◌∙◌, true≢false}
use Rattle.std.proofs.lemmas.Bool.{le-leb, leb-true, ltb-false, ltb-true, or_cases, or_parts}
use Rattle.std.specs.List.{list_all}
use Rattle.std.specs.Option.{option_map_or}
use Rattle.std.specs.Prelude.{find, is_some, max, nat_le, nat_lt, slice_get, unwrap_or, MatchBool}
use Rattle.iox_machine.proofs.Cases.{both-true, by-bool, by-option, never-some, same-some}
use Rattle.iox_machine.proofs.Frames.{PublisherComes, SubscriberComes}
use Rattle.iox_machine.proofs.Moving.{at-one}
use Rattle.iox_machine.proofs.Shorthands.{IsRefused, IsSkipped}
use Rattle.iox_machine.proofs.Skipped.{find-alike}
use Rattle.iox_machine.specs.PortRefusalLaws.{HasFreePlace, IsFullyTaken, IsTooLarge, PublishersAreRefusedSo, SubscribersAreRefusedSo}
use Rattle.iox_machine.specs.Arriving.{PublisherArrives, SubscriberArrives, new_publisher, new_subscriber, worst_case}
use Rattle.iox_machine.specs.Choices.{Choices}
use Rattle.iox_machine.specs.OnceLaws.{is_skipped}
use Rattle.iox_machine.specs.Run.{AtFactory}
use Rattle.iox_machine.specs.Service.{Service}
use Rattle.iox_machine.specs.State.{AtOne, Factory, State, is_service_of}
use Rattle.iox_machine.specs.Table.{at}
use Rattle.iox_command.specs.DomainValues.declared.create_error.PublisherCreateError.TheVariants as publisher_error
use Rattle.iox_command.specs.DomainValues.declared.create_error.SubscriberCreateError.TheVariants as subscriber_error
use Rattle.iox_command.specs.NegotiateBase.DescribeBase.declared.message_type.MessageTypeDetails.{MessageTypeDetails}
use Rattle.iox_command.specs.declared.refusal.Refusal.TheVariants as refusal
use Rattle.iox_command.specs.declared.reply.Reply.{Reply}
use Rattle.iox_command.specs.declared.reply.Reply.TheVariants as reply

-- ---- places

fully-taken : (places : List (Option ℕ)) → list_all is_some places ≡ true → (place : ℕ) (port : Option ℕ)
    → slice_get places place ≡ Some port → is_some port ≡ true
fully-taken [] all place port is = never-some port is
fully-taken (one ∷ more) all zero port is =
    ap is_some (sym (same-some one port is)) ∙ (both-true (is_some one) (list_all is_some more) all).0
fully-taken (one ∷ more) all (suc place) port is =
    fully-taken more (both-true (is_some one) (list_all is_some more) all).1 place port is

pub free-place : (places : List (Option ℕ)) → list_all is_some places ≡ false → (place : ℕ) × (slice_get places place ≡ Some None)
free-place [] off = absurd (true≢false off)
free-place (one ∷ more) off = here one off (free-place more)
  where
    here : (o : Option ℕ) → (is_some o && list_all is_some more) ≡ false
        → (list_all is_some more ≡ false → (place : ℕ) × (slice_get more place ≡ Some None))
        → (place : ℕ) × (slice_get (o ∷ more) place ≡ Some None)
    here None off rest = (zero, refl)
    here (Some port) off rest = let found = rest off in (suc found.0, found.1)

module _ {T : Type 0} where
  -- the service of a factory, and what is done there
  at-factory-of : (types : MessageTypeDetails) (choices : Choices T) (buffer number : ℕ)
      (Does : Service T → Reply T → Service T → Type 0) (has : Service T → Bool) (old : State T) (answer : Reply T) (new : State T)
      → ((service : Service T) → has service
      ≡ option_map_or (λ (one : Factory). is_service_of one service) (at number old.factories) false)
      → is_skipped answer ≡ false → AtFactory types choices buffer number Does old answer new
      → (service : Service T) × (after : Service T) × (find has old.services ≡ Some service) × Does service answer after
  at-factory-of types choices buffer number Does has old answer new named unskipped h =
      elim (by-option (at number old.factories) (IsSkipped old answer new)
      (λ factory. AtOne (λ (service : Service T). cond (is_service_of factory service) (Some service) None)
      (λ (service : Service T). Does) old answer new) h) [
        | inl w ↦ absurd (true≢false (sym (ap is_skipped w.1.0) ∙ unskipped))
        | inr w ↦ elim (at-one (λ (service : Service T). cond (is_service_of w.0 service) (Some service) None)
            (λ (service : Service T). Does) old answer new w.2) [
              | inl k ↦ absurd (true≢false (sym (ap is_skipped k.0) ∙ unskipped))
              | inr k ↦ (
                k.0,
                k.2,
                find-alike has (λ (service : Service T). is_some (cond (is_service_of w.0 service) (Some service) None))
                    (λ service. named service
                    ∙ (ap (λ (o : Option Factory). option_map_or (λ (one : Factory). is_service_of one service) o false) w.1
                    ∙ some-if (is_service_of w.0 service) service)) old.services ∙ k.3,
                k.5,
              )
            ]
      ]
    where
      some-if : (b : Bool) (service : Service T) → b ≡ is_some (cond b (Some service) None)
      some-if true service = refl
      some-if false service = refl

pub publishers-are-refused-so : {T : Type 0} (choices : Choices T) → PublishersAreRefusedSo choices
publishers-are-refused-so {T} choices types buffer factory named old answer new unskipped h =
    let did = at-factory-of types choices buffer factory
    (λ (service : Service T). PublisherArrives (old.made.publishers + 1) (new_publisher factory named service.settings) service)
    (λ (service : Service T). option_map_or (λ (one : Factory). is_service_of one service) (at factory old.factories) false)
    old answer new (λ service. refl) unskipped h in
    (did.0, did.2, arrives did.0 did.1 did.3)
  where
    number : ℕ
    number = old.made.publishers + 1

    Answers : Service T → Type 0
    Answers service =
        (IsTooLarge named service.settings × (answer ≡ reply.Refused (refusal.Publisher publisher_error.UnableToCreateDataSegment)))
        ⊎ (((IsTooLarge named service.settings → ⊥) × IsFullyTaken service.publisher_list
        × (answer ≡ reply.Refused (refusal.Publisher publisher_error.ExceedsMaxSupportedPublishers)))
        ⊎ ((IsTooLarge named service.settings → ⊥) × HasFreePlace service.publisher_list
        × ((answer ≡ reply.PublisherMade number)
        ⊎ (answer ≡ reply.Refused (refusal.Publisher publisher_error.UnableToCreateDataSegment)))))

    arrives : (service after : Service T)
        → PublisherArrives number (new_publisher factory named service.settings) service answer after → Answers service
    arrives service after h =
        elim (by-bool (many || long) (IsRefused (refusal.Publisher publisher_error.UnableToCreateDataSegment) service answer after)
        (MatchBool (list_all is_some service.publisher_list.places)
        (IsRefused (refusal.Publisher publisher_error.ExceedsMaxSupportedPublishers) service answer after)
        (IsRefused (refusal.Publisher publisher_error.UnableToCreateDataSegment) service answer after
        ⊎ PublisherComes number (new_publisher factory named service.settings) service answer after)) h) [
          | inl w ↦ inl (large w.0, w.1.0)
          | inr w ↦ inr (further (small w.0) (list_all is_some service.publisher_list.places) refl w.1)
        ]
      where
        loans : ℕ
        loans = unwrap_or named.max_loaned_samples 2

        many : Bool
        many = nat_le (2 ^ 32) (worst_case service.settings loans)

        long : Bool
        long = nat_le (2 ^ 32) (unwrap_or named.initial_max_slice_len 1)

        large : (many || long) ≡ true → IsTooLarge named service.settings
        large e = elim (or_cases many long e) [
          | inl is ↦ inl (leb-true (2 ^ 32) (worst_case service.settings loans) is)
          | inr is ↦ inr (leb-true (2 ^ 32) (unwrap_or named.initial_max_slice_len 1) is)
        ]

        small : (many || long) ≡ false → IsTooLarge named service.settings → ⊥
        small e (inl much) =
            true≢false (sym (le-leb (2 ^ 32) (worst_case service.settings loans) much) ∙ (or_parts many long e).0)
        small e (inr much) =
            true≢false (sym (le-leb (2 ^ 32) (unwrap_or named.initial_max_slice_len 1) much) ∙ (or_parts many long e).1)

        further : (IsTooLarge named service.settings → ⊥) → (b : Bool) → list_all is_some service.publisher_list.places ≡ b
            → MatchBool b (IsRefused (refusal.Publisher publisher_error.ExceedsMaxSupportedPublishers) service answer after)
            (IsRefused (refusal.Publisher publisher_error.UnableToCreateDataSegment) service answer after
            ⊎ PublisherComes number (new_publisher factory named service.settings) service answer after)
            → ((IsTooLarge named service.settings → ⊥) × IsFullyTaken service.publisher_list
            × (answer ≡ reply.Refused (refusal.Publisher publisher_error.ExceedsMaxSupportedPublishers)))
            ⊎ ((IsTooLarge named service.settings → ⊥) × HasFreePlace service.publisher_list
            × ((answer ≡ reply.PublisherMade number)
            ⊎ (answer ≡ reply.Refused (refusal.Publisher publisher_error.UnableToCreateDataSegment))))
        further fits true is h = inl (fits, fully-taken service.publisher_list.places is, h.0)
        further fits false is (inl h) = inr (fits, free-place service.publisher_list.places is, inr h.0)
        further fits false is (inr h) = inr (fits, (h.0, h.1), inl h.5)

pub subscribers-are-refused-so : {T : Type 0} (choices : Choices T) → SubscribersAreRefusedSo choices
subscribers-are-refused-so {T} choices types buffer factory named old answer new unskipped h =
    let did = at-factory-of types choices buffer factory
    (λ (service : Service T). SubscriberArrives buffer (old.made.subscribers + 1) (new_subscriber factory named service.settings) service)
    (λ (service : Service T). option_map_or (λ (one : Factory). is_service_of one service) (at factory old.factories) false)
    old answer new (λ service. refl) unskipped h in
    (did.0, did.2, arrives did.0 did.1 did.3)
  where
    number : ℕ
    number = old.made.subscribers + 1

    large : Service T → ℕ
    large service = max 1 (unwrap_or named.buffer_size service.settings.subscriber_max_buffer_size)

    Further : Service T → Type 0
    Further service =
        ((large service ≤ service.settings.subscriber_max_buffer_size) × IsFullyTaken service.subscriber_list
        × (answer ≡ reply.Refused (refusal.Subscriber subscriber_error.ExceedsMaxSupportedSubscribers)))
        ⊎ ((large service ≤ service.settings.subscriber_max_buffer_size) × HasFreePlace service.subscriber_list
        × ((answer ≡ reply.SubscriberMade number) ⊎ (answer ≡ reply.Refused (refusal.Subscriber subscriber_error.OutOfMemory))))

    arrives : (service after : Service T)
        → SubscriberArrives buffer number (new_subscriber factory named service.settings) service answer after
        → ((service.settings.subscriber_max_buffer_size < large service)
        × (answer ≡ reply.Refused (refusal.Subscriber subscriber_error.BufferSizeExceedsMaxSupportedBufferSizeOfService)))
        ⊎ Further service
    arrives service after h =
        elim (by-bool (nat_lt service.settings.subscriber_max_buffer_size (large service))
        (IsRefused (refusal.Subscriber subscriber_error.BufferSizeExceedsMaxSupportedBufferSizeOfService) service answer after)
        (MatchBool (list_all is_some service.subscriber_list.places)
        (IsRefused (refusal.Subscriber subscriber_error.ExceedsMaxSupportedSubscribers) service answer after)
        (IsRefused (refusal.Subscriber subscriber_error.OutOfMemory) service answer after
        ⊎ SubscriberComes buffer number (new_subscriber factory named service.settings) service answer after)) h) [
          | inl w ↦ inl (ltb-true service.settings.subscriber_max_buffer_size (large service) w.0, w.1.0)
          | inr w ↦ inr (further (ltb-false service.settings.subscriber_max_buffer_size (large service) w.0)
              (list_all is_some service.subscriber_list.places) refl w.1)
        ]
      where
        further : large service ≤ service.settings.subscriber_max_buffer_size → (b : Bool)
            → list_all is_some service.subscriber_list.places ≡ b
            → MatchBool b (IsRefused (refusal.Subscriber subscriber_error.ExceedsMaxSupportedSubscribers) service answer after)
            (IsRefused (refusal.Subscriber subscriber_error.OutOfMemory) service answer after
            ⊎ SubscriberComes buffer number (new_subscriber factory named service.settings) service answer after)
            → Further service
        further fits true is h = inl (fits, fully-taken service.subscriber_list.places is, h.0)
        further fits false is (inl h) = inr (fits, free-place service.subscriber_list.places is, inr h.0)
        further fits false is (inr h) = inr (fits, (h.0, h.1), inl h.5)
