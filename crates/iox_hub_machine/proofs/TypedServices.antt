-- Each typed call by which a node or a port comes, or a factory is closed, is a step of the machine.
use Rattle.std.proofs.Common.{◌≡◌, ℕ, Bool, true, false, Option, None, Some, Result, Ok, Err, refl, sym, ap, subst, ◌∙◌, arith}
use Rattle.std.proofs.lemmas.Bool.Decides.{nat_tests}
use Rattle.std.specs.Option.{unwrap_or}
use Rattle.std.specs.Prelude.{nat_eq, max}
use Rattle.iox_command.specs.DomainValues.declared.degradation.DegradationAction.{DegradationAction}
use Rattle.iox_command.specs.DomainValues.declared.degradation.DegradationInfo.{DegradationInfo}
use Rattle.iox_command.specs.NegotiateBase.DescribeBase.declared.type_detail.TypeVariant.{TypeVariant}
use Rattle.iox_command.specs.DomainValues.declared.create_error.PublisherCreateError.{PublisherCreateError}
use Rattle.iox_command.specs.DomainValues.declared.create_error.SubscriberCreateError.{SubscriberCreateError}
use Rattle.iox_command.specs.DomainValues.declared.degradation.DegradationCause.TheVariants.{FailedToEstablishConnection}
use Rattle.iox_command.specs.NegotiateBase.declared.errors.close.CloseError.{CloseError}
use Rattle.iox_command.specs.NegotiateBase.declared.errors.close.CloseError.TheVariants.{StillInUse}
use Rattle.iox_command.specs.declared.command.Command.TheVariants as command
use Rattle.iox_command.specs.declared.port.PublisherOptions.{PublisherOptions}
use Rattle.iox_command.specs.declared.port.SubscriberOptions.{SubscriberOptions}
use Rattle.iox_command.specs.declared.refusal.Refusal.TheVariants as refusal
use Rattle.iox_command.specs.declared.reply.Reply.{Reply}
use Rattle.iox_command.specs.declared.reply.Reply.TheVariants as reply
use Rattle.iox_container.specs.NumberTable.{removed, value_at}
use Rattle.iox_domain.specs.AtHomes.{MakesAt}
use Rattle.iox_domain.specs.Making.{CreatesPublisher, publisher_place, slots_needed}
use Rattle.iox_domain.specs.Steps.{PublisherComes, SubscriberComes, why_no_publisher, why_no_subscriber}
use Rattle.iox_domain.specs.declared.ports.making.PublisherConfig.{PublisherConfig}
use Rattle.iox_domain.specs.declared.ports.service_ports.ServicePorts.{ServicePorts}
use Rattle.iox_hub_base.specs.AsHome.{hub_ports, with_hub_ports, with_hub_publisher, with_hub_subscriber}
use Rattle.iox_hub_base.specs.Closing.{ClosesIf, in_use, spent}
use Rattle.iox_hub_base.specs.Opening.{Made as Opened}
use Rattle.iox_hub_base.specs.declared.hub.Hub.{Hub}
use Rattle.iox_hub_commands.specs.Closing.{ClosesIfOf, ClosesNumbered, ClosesUnless}
use Rattle.iox_hub_commands.specs.Naming.{publisher_config, publisher_handlers, subscriber_config, subscriber_handler}
use Rattle.iox_hub_commands.specs.Replies.{closed_reply}
use Rattle.iox_hub_commands.specs.Services.{domain_of_factory, owner_of_factory}
use Rattle.iox_hub_commands.specs.Services as numbered
use Rattle.iox_hub_commands.specs.ServicesTables.{FactoryTable, parts_of, publish_subscribe_in}
use Rattle.iox_hub_commands.specs.Terms.{Terms}
use Rattle.iox_hub_commands.specs.declared.numbered_hub.NumberedHub.{NumberedHub}
use Rattle.iox_hub_commands.specs.declared.services.made.MadeFactory.{MadeFactory}
use Rattle.iox_hub_machine.proofs.TypedSteps.{Does, as_roomy, by_chosen_step, by_step}
use Rattle.iox_hub_machine.specs.ArrivalLaws.{AnswersAsChosen, DecidesAsChosen}
use Rattle.iox_hub_machine.specs.TypedServices.{CloseIsStep, NewNodeIsStep, PublisherIsStep, SubscriberIsStep, factories_then}
use Rattle.iox_hub_machine.specs.TypedServices.{having_publisher, having_subscriber, told_closed, told_node, told_publisher}
use Rattle.iox_hub_machine.specs.TypedServices.{told_subscriber}
use Rattle.iox_hub_machine.specs.TypedSteps.{hub_after_call}
use Rattle.iox_hub_machine.specs.TypedTerms.{asked_terms}
use Rattle.iox_machine.specs.Choices.{Choices}

-- ---- slots that are answered

module _ {T U : Type 0} (overrides named : ℕ → ℕ → Type 0) (names : (worst_case slots : ℕ) → overrides worst_case slots
    → named worst_case slots) (may : DegradationInfo → DegradationAction → Type 0) (config : PublisherConfig) (header : U) where
  creates_named : (needed place : Option ℕ) (old new : ServicePorts T U) (answer : Result ℕ PublisherCreateError)
      → CreatesPublisher overrides may config header needed place old answer new
      → CreatesPublisher named may config header needed place old answer new
  creates_named None place old new answer creates = creates
  creates_named (Some needed) None old new answer creates = creates
  creates_named (Some needed) (Some place) old new answer (slots, answers, outcome, adds, is) =
      (slots, names (max needed 1) slots answers, outcome, adds, is)

  -- a publisher that comes with an answer of some comes with what these name
  makes_named : {H : Type 0} (put : ServicePorts T U → H) (keeping : ℕ → H → H) (found : Option (ServicePorts T U)) (old new : H)
      (answer : Result ℕ PublisherCreateError)
      → MakesAt put keeping (PublisherComes overrides may config header) (why_no_publisher config) found old (Some answer) new
      → MakesAt put keeping (PublisherComes named may config header) (why_no_publisher config) found old (Some answer) new
  makes_named put keeping None old new answer makes = makes
  makes_named put keeping (Some ports) old new (Err why) makes = makes
  makes_named put keeping (Some ports) old new (Ok number) (after, comes, is) =
      (after, creates_named (slots_needed config ports) (publisher_place ports) ports after (Ok number) comes, is)

-- ---- factories that are closed

closed_so : {T : Type 0} (F : Type 0) (closed : Result (Unit {0}) CloseError)
    → told_closed {T = T} (spent {F = F} closed) ≡ closed_reply (Some closed)
closed_so F (Ok done) = refl
closed_so F (Err why) = refl

spent_so : (F : Type 0) (closed : Result (Unit {0}) CloseError) (number : ℕ) (table : FactoryTable)
    → factories_then (spent {F = F} closed) number table ≡ removed table number
spent_so F (Ok done) number table = refl
spent_so F (Err why) number table = refl

same_storage : (one other : ℕ) → one ≡ other → nat_eq one other ≡ true
same_storage one other same = grind (arith, nat_tests, same)

module _ {T U B D : Type 0} (variant : TypeVariant) (terms : Terms T U B D) (choices : Choices T) where
  -- the terms of a hub whose messages are values, or slices of them
  abbrev terms_so : Terms T U B D
  terms_so = asked_terms variant terms

  pub new_node_is_step : NewNodeIsStep terms_so choices
  new_node_is_step old hub answer is same =
      by_step variant terms choices command.Node tt old (hub_after_call old old.made hub) (told_node answer) (λ names most state it. (
        ap told_node is,
        ap (λ (hub : Hub T U B D). hub_after_call old old.made hub) same,
      ))

  -- ---- ports that come

  abbrev PublisherDoes : ℕ → PublisherOptions → Opened → NumberedHub T U B D → Hub T U B D → Result ℕ PublisherCreateError → Type 0
  PublisherDoes factory options opened old hub answer =
      Does variant terms choices (command.Publisher factory options) old (told_publisher answer old.made)
      (hub_after_call old (having_publisher (domain_of_factory opened) answer old.made) hub)

  publisher_does : (factory : ℕ) (options : PublisherOptions) (opened : Opened) (header : U) (old : NumberedHub T U B D)
      (hub : Hub T U B D) (answer : Result ℕ PublisherCreateError)
      → publish_subscribe_in (value_at old.factories.made factory) ≡ Some opened → terms.is_default_header header
      → MakesAt (λ after. with_hub_ports (domain_of_factory opened) after old.hub)
      (λ number. with_hub_publisher (domain_of_factory opened) number (publisher_handlers terms.fixed options))
      (PublisherComes (λ worst_case named. named ≡ unwrap_or options.preallocated_samples worst_case)
      (terms.degrades (publisher_handlers terms.fixed options) FailedToEstablishConnection) (publisher_config (owner_of_factory opened)
      options)
      header) (why_no_publisher (publisher_config (owner_of_factory opened) options)) (hub_ports (domain_of_factory opened) old.hub)
      old.hub (Some answer) hub
      → PublisherDoes factory options opened old hub answer
  publisher_does factory options opened header old hub (Ok number) there default makes =
      subst (λ (found : Option Opened). numbered.PublisherComes terms.is_default_header terms.fixed terms.degrades found options old
      (told_publisher (Ok number) old.made) (hub_after_call old (having_publisher (domain_of_factory opened) (Ok number) old.made) hub))
      (sym there) (
        (
          header,
          default,
          Some (Ok old.made.publishers.next),
          (old.made, as_roomy old.made, (Some (Ok number), makes, (refl, refl))),
          refl,
        ),
        refl,
      )
  publisher_does factory options opened header old hub (Err why) there default makes =
      subst (λ (found : Option Opened). numbered.PublisherComes terms.is_default_header terms.fixed terms.degrades found options old
      (told_publisher (Err why) old.made) (hub_after_call old (having_publisher (domain_of_factory opened) (Err why) old.made) hub))
      (sym there) (
        (
          header,
          default,
          Some (Err why),
          (old.made, as_roomy old.made, (Some (Err why), makes, (refl, refl))),
          refl,
        ),
        refl,
      )

  pub publisher_is_step : (overrides : ℕ → ℕ → Type 0) → PublisherIsStep terms_so choices overrides
  publisher_is_step overrides factory opened options header old hub answer there names default makes chosen =
      by_chosen_step variant terms choices (command.Publisher factory options) old _ _ (comes answer chosen)
      (λ some most state it. publisher_does factory options opened header old hub answer there default
      (makes_named overrides (λ worst_case named. named ≡ unwrap_or options.preallocated_samples worst_case) names
      (terms.degrades (publisher_handlers terms.fixed options) FailedToEstablishConnection) (publisher_config (owner_of_factory opened)
      options) header (λ after. with_hub_ports (domain_of_factory opened) after old.hub)
      (λ number. with_hub_publisher (domain_of_factory opened) number (publisher_handlers terms.fixed options))
      (hub_ports (domain_of_factory opened) old.hub) old.hub hub answer makes))
    where
      Chosen : Type 0
      Chosen = DecidesAsChosen choices terms.degrades terms.decides (publisher_handlers terms.fixed options) old.made.publishers.next
          options

      comes : (given : Result ℕ PublisherCreateError) → ((number : ℕ) → given ≡ Ok number → Chosen)
          → told_publisher {T = T} given old.made ≡ reply.PublisherMade old.made.publishers.next → Chosen
      comes (Ok number) on told = on number refl
      comes (Err why) on told = absurd (differ told)
        where
          differ : ◌≡◌ {A = Reply T} (reply.Refused (refusal.Publisher why)) (reply.PublisherMade old.made.publishers.next) → ⊥
          differ e = cc

  subscriber_does : (factory : ℕ) (options : SubscriberOptions) (opened : Opened) (old : NumberedHub T U B D) (hub : Hub T U B D)
      (answer : Result ℕ SubscriberCreateError) → publish_subscribe_in (value_at old.factories.made factory) ≡ Some opened
      → MakesAt (λ after. with_hub_ports (domain_of_factory opened) after old.hub)
      (λ number. with_hub_subscriber (domain_of_factory opened) number (subscriber_handler terms.fixed_reader options))
      (SubscriberComes (terms.reader_degrades (subscriber_handler terms.fixed_reader options) FailedToEstablishConnection)
      (subscriber_config (owner_of_factory opened) options))
      (why_no_subscriber (subscriber_config (owner_of_factory opened) options)) (hub_ports (domain_of_factory opened) old.hub) old.hub
      (Some answer) hub
      → Does variant terms choices (command.Subscriber factory options) old (told_subscriber answer old.made)
      (hub_after_call old (having_subscriber (domain_of_factory opened) answer old.made) hub)
  subscriber_does factory options opened old hub (Ok number) there makes =
      subst (λ (found : Option Opened). numbered.SubscriberComes terms.fixed_reader terms.reader_degrades found options old
      (told_subscriber (Ok number) old.made) (hub_after_call old (having_subscriber (domain_of_factory opened) (Ok number) old.made) hub))
      (sym there) (
        (
          Some (Ok old.made.subscribers.next),
          (old.made, as_roomy old.made, (Some (Ok number), makes, (refl, refl))),
          refl,
        ),
        refl,
      )
  subscriber_does factory options opened old hub (Err why) there makes =
      subst (λ (found : Option Opened). numbered.SubscriberComes terms.fixed_reader terms.reader_degrades found options old
      (told_subscriber (Err why) old.made) (hub_after_call old (having_subscriber (domain_of_factory opened) (Err why) old.made) hub))
      (sym there) (
        (
          Some (Err why),
          (old.made, as_roomy old.made, (Some (Err why), makes, (refl, refl))),
          refl,
        ),
        refl,
      )

  pub subscriber_is_step : SubscriberIsStep terms_so choices
  subscriber_is_step factory opened options old hub answer there makes chosen =
      by_chosen_step variant terms choices (command.Subscriber factory options) old _ _ (comes answer chosen)
      (λ names most state it. subscriber_does factory options opened old hub answer there makes)
    where
      Chosen : Type 0
      Chosen = AnswersAsChosen choices terms.reader_degrades (subscriber_handler terms.fixed_reader options) old.made.subscribers.next
          options

      comes : (given : Result ℕ SubscriberCreateError) → ((number : ℕ) → given ≡ Ok number → Chosen)
          → told_subscriber {T = T} given old.made ≡ reply.SubscriberMade old.made.subscribers.next → Chosen
      comes (Ok number) on told = on number refl
      comes (Err why) on told = absurd (differ told)
        where
          differ : ◌≡◌ {A = Reply T} (reply.Refused (refusal.Subscriber why)) (reply.SubscriberMade old.made.subscribers.next) → ⊥
          differ e = cc

  -- ---- factories

  module _ (F : Type 0) where
    module _ (number : ℕ) (made : MadeFactory) (factory : F) (old : NumberedHub T U B D) (hub : Hub T U B D) where
      closes_so : (answer : Result (Unit {0}) (CloseError × Option F)) (used : Bool)
          → ClosesIf used (parts_of made).0 factory old.hub answer hub
          → (closed : Option (Result (Unit {0}) CloseError))
          × ClosesUnless used number (parts_of made).0 old.factories.made old.hub closed
          (factories_then answer number old.factories.made) hub × (told_closed {T = T} answer ≡ closed_reply closed)
      closes_so answer true (is, same) = (
        Some (Err StillInUse),
        (refl, ap (λ (a : Result (Unit {0}) (CloseError × Option F)). factories_then a number old.factories.made) is, same),
        ap told_closed is,
      )
      closes_so answer false (closed, leaves, is, same) = (
        Some closed,
        (
          closed,
          (leaves, same),
          refl,
          ap (λ (a : Result (Unit {0}) (CloseError × Option F)). factories_then a number old.factories.made) is
              ∙ spent_so F closed number old.factories.made,
        ),
        ap told_closed is ∙ closed_so F closed,
      )

    pub close_is_step : CloseIsStep terms_so choices F
    close_is_step number made factory old hub answer there closes =
        by_step variant terms choices (command.Close number) tt old _ (told_closed answer) (λ names most state it.
        let used : Bool = in_use (parts_of made).0.service.number (parts_of made).1 old.hub in
        let (closed, does, told) = closes_so number made factory old hub answer used closes in
        let same = same_storage (parts_of made).0.storage old.hub.table.id (it.stands.factories.each number made there).storage in (
          closed,
          subst (λ (found : Option MadeFactory). ClosesNumbered number found old.factories.made old.hub closed
              (factories_then answer number old.factories.made) hub) (sym there)
              (subst (λ (b : Bool). ClosesIfOf b number made old.factories.made old.hub closed
              (factories_then answer number old.factories.made) hub) (sym same) does),
          refl,
          told,
        ))
