-- A service that is as it was asked for in the words of the code is so in those of the machine, and back.
use Rattle.std.proofs.Common.{◌≡◌, ◌∙◌, ◌≤◌, ℕ, true, List, Some, Result, Ok, Err, refl, sym, ap, subst, arith}
use Rattle.std.proofs.Common.{inl, inr}
use Rattle.std.specs.Prelude.{max}
use Rattle.iox_command.specs.declared.refusal.Refusal.{Refusal}
use Rattle.iox_command.specs.declared.service.PublishSubscribeOptions.{PublishSubscribeOptions}
use Rattle.iox_command.specs.declared.service.ServiceOptions.TheVariants as options
use Rattle.iox_command.specs.NegotiateBase.DescribeSettings.Agreement.{AreWithinLimits, agreement}
use Rattle.iox_command.specs.NegotiateBase.DescribeSettings.PublishSubscribeSettings as publish_subscribe
use Rattle.iox_command.specs.NegotiateBase.DescribeSettings.declared.static_config.Settings.{Settings}
use Rattle.iox_command.specs.NegotiateBase.DescribeSettings.declared.static_config.Settings.TheVariants as settings
use Rattle.iox_command.specs.NegotiateBase.DescribeSettings.declared.static_config.publish_subscribe.Setting.TheVariants.{MaxNodes}
use Rattle.iox_command.specs.NegotiateBase.DescribeSettings.declared.static_config.publish_subscribe.StaticConfig.{StaticConfig}
use Rattle.iox_hub_commands.specs.Asked.{required_publish_subscribe}
use Rattle.iox_hub_commands.specs.Asking.{agreed_of, hash_of}
use Rattle.iox_hub_commands.specs.DescribeBase.Attributes.{Required}
use Rattle.iox_hub_commands.specs.DescribeBase.declared.hash.ServiceHash.{ServiceHash}
use Rattle.iox_hub_commands.specs.DescribeBase.declared.attribute.Attribute.{Attribute}
use Rattle.iox_hub_commands.specs.DescribeBase.declared.message_type.MessageTypeDetails.{MessageTypeDetails}
use Rattle.iox_hub_machine.proofs.Verdicts.{same_publish_subscribe_verdict, told_by}
use Rattle.iox_machine.specs.Agreement.{are_within_limits, verdict}
use Rattle.iox_machine.specs.Asked.{settings_of}
use Rattle.iox_negotiate.specs.Laws.{IsMet}
use Rattle.iox_negotiate_base.specs.declared.request.Opened.{Opened}
use Rattle.iox_negotiate_machine.proofs.Limits.{limits-back, limits-within}
use Rattle.iox_negotiate_machine.proofs.Told.{publish_subscribe_clause}
use Rattle.iox_negotiate_table.specs.Describe.Within.{HasForm}
use Rattle.iox_negotiate_table.specs.DescribeVerdict.PublishSubscribeClauses as publish_subscribe_clauses
use Rattle.iox_negotiate_table.specs.DescribeVerdict.Verdict.{first_unmet}
use Rattle.iox_hub.specs.RecordedCalls.{IsAsAsked}
use Rattle.iox_hub.specs.RecordedLaws.{AsAskedIsMet, IsMetOrMade}
use Rattle.iox_hub.specs.Recording.{IsMadeAsAsked, IsMetAsAsked}

told_met : {C : Type 0} (told : C → Refusal) (met : Result (Unit {0}) C) → told_by told met ≡ Ok tt → met ≡ Ok tt
told_met told (Ok done) is = refl
told_met told (Err why) is = cc

raised : (n : ℕ) → 1 ≤ n → max n 1 ≡ n
raised n least = omega (arith, least)

five : {A : Type 0} (f : ℕ → ℕ → ℕ → ℕ → ℕ → A) (a b c d e u v w x y : ℕ) → a ≡ u → b ≡ v → c ≡ w → d ≡ x → e ≡ y
    → f a b c d e ≡ f u v w x y
five f a b c d e u v w x y first second third fourth last = cc

-- the options that name just these settings
abbrev naming : StaticConfig → PublishSubscribeOptions
naming c = record {
  max_subscribers = Some c.max_subscribers;
  max_publishers = Some c.max_publishers;
  max_nodes = Some c.max_nodes;
  subscriber_max_buffer_size = Some c.subscriber_max_buffer_size;
  subscriber_max_borrowed_samples = Some c.subscriber_max_borrowed_samples;
  history_size = Some c.history_size;
  enable_safe_overflow = Some c.enable_safe_overflow;
  sequence_numbers = Some c.sequence_numbers;
}

named_so : (c : StaticConfig) → publish_subscribe.IsWithinLimits c
    → settings.PublishSubscribe c ≡ settings_of c.types (options.PublishSubscribe (naming c))
named_so c within =
    sym (five (λ (publishers subscribers buffer borrowed nodes : ℕ). settings.PublishSubscribe (record c {
      max_publishers = publishers;
      max_subscribers = subscribers;
      subscriber_max_buffer_size = buffer;
      subscriber_max_borrowed_samples = borrowed;
      max_nodes = nodes;
    })) _ _ _ _ _ c.max_publishers c.max_subscribers c.subscriber_max_buffer_size c.subscriber_max_borrowed_samples c.max_nodes
    (raised c.max_publishers (within 3 MaxNodes (omega arith)).0)
    (raised c.max_subscribers (within 4 MaxNodes (omega arith)).0)
    (raised c.subscriber_max_buffer_size (within 7 MaxNodes (omega arith)).0)
    (raised c.subscriber_max_borrowed_samples (within 6 MaxNodes (omega arith)).0)
    (raised c.max_nodes (within 2 MaxNodes (omega arith)).0))

module _ (types : MessageTypeDetails) (name : List ℕ) (named : PublishSubscribeOptions) (required : Required) where
  abbrev Judged : Settings → List Attribute → Type 0
  Judged given attributes =
      verdict types (options.PublishSubscribe named) required (record { settings = given; attributes = attributes }) ≡ Ok tt

  limits_so : (given : Settings) (attributes : List Attribute) → Judged given attributes → AreWithinLimits given
      → (are_within_limits given ≡ true)
      × ((its : MessageTypeDetails) × (others : PublishSubscribeOptions) × (given ≡ settings_of its (options.PublishSubscribe others)))
  limits_so (settings.PublishSubscribe c) attributes met within =
      (limits-back (settings.PublishSubscribe c) within, (c.types, naming c, named_so c within))
  limits_so (settings.Event c) attributes met within = cc
  limits_so (settings.RequestResponse c) attributes met within = cc

  -- what meets what is asked
  met_so : (service : Opened)
      → IsMet (hash_of name (options.PublishSubscribe named))
      (λ given. first_unmet (publish_subscribe_clauses.clauses (required_publish_subscribe named types required) given)) service
      → (service.description.service_hash ≡ hash_of name (options.PublishSubscribe named))
      × Judged service.description.settings service.description.attributes × (are_within_limits service.description.settings ≡ true)
      × ((its : MessageTypeDetails) × (others : PublishSubscribeOptions)
      × (service.description.settings ≡ settings_of its (options.PublishSubscribe others)))
  met_so service (hash, met, within) =
      let judged : Judged service.description.settings service.description.attributes =
      sym (same_publish_subscribe_verdict types required name named
      (record { settings = service.description.settings; attributes = service.description.attributes }))
      ∙ ap (told_by publish_subscribe_clause) met in
      let (allowed, others) = limits_so service.description.settings service.description.attributes judged within.limits in
      (hash, judged, allowed, others)

  pub as_asked : (service : Opened) → IsMetOrMade types name named required service → IsAsAsked types name named required service
  as_asked service (inl met) = let (hash, judged, allowed, others) = met_so service met in (hash, inl (judged, allowed, others))
  as_asked service (inr made) = (
    ap (λ given. given.service_hash) made,
    inr (ap (λ given. given.name) made, ap (λ given. given.settings) made, ap (λ given. given.attributes) made),
  )

  -- a service that was opened
  pub met_as_asked : (service : Opened)
      → IsMet (hash_of name (options.PublishSubscribe named))
      (λ given. first_unmet (publish_subscribe_clauses.clauses (required_publish_subscribe named types required) given)) service
      → IsMetAsAsked types name named required service
  met_as_asked service met = let (hash, judged, allowed, others) = met_so service met in (hash, judged, allowed)

  as_met : (service : Opened) → HasForm service.description → IsAsAsked types name named required service
      → IsMetOrMade types name named required service
  as_met service form (hash, inl (met, allowed, (its, others, is))) = inl (
    hash,
    told_met publish_subscribe_clause _ (same_publish_subscribe_verdict types required name named
        (record { settings = service.description.settings; attributes = service.description.attributes }) ∙ met),
    record {
      name = form.name;
      service_hash = form.service_hash;
      settings = form.settings;
      limits = subst (λ (given : Settings). AreWithinLimits given) (sym is)
          (limits-within its (options.PublishSubscribe others)
          (subst (λ (given : Settings). are_within_limits given ≡ true) is allowed));
      attributes = form.attributes;
    },
  )
  as_met service form (hash, inr (same, given, pairs)) =
      inr (by service.description.name service.description.service_hash service.description.settings service.description.attributes same
      hash given pairs)
    where
      by : (its : List ℕ) (its_hash : ServiceHash) (given : Settings) (attributes : List Attribute) → its ≡ name
          → its_hash ≡ hash_of name (options.PublishSubscribe named) → given ≡ settings_of types (options.PublishSubscribe named)
          → attributes ≡ required.pairs
          → agreement its its_hash given attributes
          ≡ agreement name (hash_of name (options.PublishSubscribe named)) (settings_of types (options.PublishSubscribe named))
          required.pairs
      by its its_hash given attributes first second third fourth = cc

-- a service that was created
pub made_as_asked : (types : MessageTypeDetails) (name : List ℕ) (named : PublishSubscribeOptions) (attributes : List Attribute)
    (service : Opened) → service.description ≡ agreed_of name (options.PublishSubscribe named) types attributes
    → IsMadeAsAsked types name named attributes service
made_as_asked types name named attributes service same = (
  ap (λ given. given.service_hash) same,
  ap (λ given. given.name) same,
  ap (λ given. given.settings) same,
  ap (λ given. given.attributes) same,
)

pub as_asked_is_met : AsAskedIsMet
as_asked_is_met types name named required service form asked = as_met types name named required service form asked
