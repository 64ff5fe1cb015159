-- The typed calls that make a node, create a port, or close a factory, as steps of the machine.
use Rattle.std.specs.Prelude.{ℕ, ◌≡◌, true, Option, None, Some, Result, Ok, Err}
use Rattle.std.specs.Option.{unwrap_or}
use Rattle.iox_command.specs.DomainValues.declared.create_error.PublisherCreateError.{PublisherCreateError}
use Rattle.iox_command.specs.DomainValues.declared.create_error.SubscriberCreateError.{SubscriberCreateError}
use Rattle.iox_command.specs.DomainValues.declared.degradation.DegradationCause.TheVariants.{FailedToEstablishConnection}
use Rattle.iox_command.specs.NegotiateBase.declared.errors.close.CloseError.{CloseError}
use Rattle.iox_command.specs.declared.command.Command.TheVariants as command
use Rattle.iox_command.specs.declared.port.PublisherOptions.{PublisherOptions}
use Rattle.iox_command.specs.declared.port.SubscriberOptions.{SubscriberOptions}
use Rattle.iox_command.specs.declared.refusal.HubError.{HubError}
use Rattle.iox_command.specs.declared.refusal.Refusal.TheVariants as refusal
use Rattle.iox_command.specs.declared.reply.Reply.{Reply}
use Rattle.iox_command.specs.declared.reply.Reply.TheVariants as reply
use Rattle.iox_container.specs.NumberTable.{removed, value_at}
use Rattle.iox_domain.specs.AtHomes.{MakesAt}
use Rattle.iox_domain.specs.Steps.{PublisherComes, SubscriberComes, why_no_publisher, why_no_subscriber}
use Rattle.iox_domain.specs.declared.domain_id.DomainId.{DomainId}
use Rattle.iox_hub_base.specs.AsHome.{hub_ports, with_hub_ports, with_hub_publisher, with_hub_subscriber}
use Rattle.iox_hub_base.specs.Closing.{Closes}
use Rattle.iox_hub_base.specs.Hubs.{one_more}
use Rattle.iox_hub_base.specs.Opening.{Made as Opened}
use Rattle.iox_hub_base.specs.declared.hub.Hub.{Hub}
use Rattle.iox_hub_base.specs.declared.node.NodeHandle.{NodeHandle}
use Rattle.iox_hub_commands.specs.Making.{with_publisher, with_subscriber}
use Rattle.iox_hub_commands.specs.Naming.{publisher_config, publisher_handlers, subscriber_config, subscriber_handler}
use Rattle.iox_hub_commands.specs.Services.{domain_of_factory, owner_of_factory}
use Rattle.iox_hub_commands.specs.ServicesTables.{FactoryTable, parts_of, publish_subscribe_in}
use Rattle.iox_hub_commands.specs.Terms.{Terms}
use Rattle.iox_hub_commands.specs.declared.numbered_hub.NumberedHub.{NumberedHub}
use Rattle.iox_hub_commands.specs.declared.ports.made.Made.{Made}
use Rattle.iox_hub_commands.specs.declared.services.made.MadeFactory.{MadeFactory}
use Rattle.iox_hub_machine.specs.ArrivalLaws.{AnswersAsChosen, DecidesAsChosen}
use Rattle.iox_hub_machine.specs.TypedSteps.{IsStepBy, hub_after_call}
use Rattle.iox_machine.specs.Choices.{Choices}

module _ {T : Type 0} where
  -- The reply to making a node: the node's number.
  abbrev pub told_node : Result NodeHandle HubError → Reply T
  told_node (Ok node) = reply.NodeMade node.number
  told_node (Err why) = reply.Refused (refusal.Hub why)

  -- The reply to creating a publisher in a domain: the number that names it, or the refusal.
  abbrev pub told_publisher : Result ℕ PublisherCreateError → Made → Reply T
  told_publisher (Ok number) made = reply.PublisherMade made.publishers.next
  told_publisher (Err why) made = reply.Refused (refusal.Publisher why)

  -- The reply to creating a subscriber in a domain: the number that names it, or the refusal.
  abbrev pub told_subscriber : Result ℕ SubscriberCreateError → Made → Reply T
  told_subscriber (Ok number) made = reply.SubscriberMade made.subscribers.next
  told_subscriber (Err why) made = reply.Refused (refusal.Subscriber why)

  -- The reply to closing a factory.
  abbrev pub told_closed : {F : Type 0} → Result (Unit {0}) (CloseError × Option F) → Reply T
  told_closed (Ok done) = reply.Done
  told_closed (Err (why, factory)) = reply.Refused (refusal.Close why)

-- What a program holds after it asked for a publisher: a new one gets the next number. The machine's publishers loan as many values as are
-- asked for, and one of single values asks for one.
abbrev pub having_publisher : DomainId → Result ℕ PublisherCreateError → Made → Made
having_publisher domain (Ok number) made = with_publisher domain true number made
having_publisher domain (Err why) made = made

-- What a program holds after it asked for a subscriber: a new one gets the next number.
abbrev pub having_subscriber : DomainId → Result ℕ SubscriberCreateError → Made → Made
having_subscriber domain (Ok number) made = with_subscriber domain number made
having_subscriber domain (Err why) made = made

-- The factories that a program holds after it closed one: that factory is consumed, unless it was handed back.
abbrev pub factories_then : {F : Type 0} → Result (Unit {0}) (CloseError × Option F) → ℕ → FactoryTable → FactoryTable
factories_then (Ok done) number table = removed table number
factories_then (Err (why, None)) number table = removed table number
factories_then (Err (why, Some factory)) number table = table

-- The parameters: the terms of the hub.
module _ {T U B D : Type 0} (terms : Terms T U B D) (choices : Choices T) where
  -- Making a node is a step.
  abbrev pub NewNodeIsStep : Type 0
  NewNodeIsStep = (old : NumberedHub T U B D) (hub : Hub T U B D) (answer : Result NodeHandle HubError)
      → answer ≡ Ok (record { hub = old.hub.table.id; number = one_more old.hub.nodes })
      → hub ≡ record old.hub { nodes = one_more old.hub.nodes }
      → IsStepBy terms choices command.Node old (told_node answer) (hub_after_call old old.made hub)

  -- Creating a publisher for a publish-subscribe factory with these options is a step, if its handlers are made of the actions that the
  -- options name, and the override of its number of slots answers what the options name, or as many as the publisher needs.
  abbrev pub PublisherIsStep : (ℕ → ℕ → Type 0) → Type 0
  PublisherIsStep overrides = (factory : ℕ) (opened : Opened) (options : PublisherOptions) (header : U)
      (old : NumberedHub T U B D) (hub : Hub T U B D) (answer : Result ℕ PublisherCreateError)
      → publish_subscribe_in (value_at old.factories.made factory) ≡ Some opened
      → ((worst_case named : ℕ) → overrides worst_case named → named ≡ unwrap_or options.preallocated_samples worst_case)
      → terms.is_default_header header
      → MakesAt (λ after. with_hub_ports (domain_of_factory opened) after old.hub)
      (λ number. with_hub_publisher (domain_of_factory opened) number (publisher_handlers terms.fixed options))
      (PublisherComes overrides (terms.degrades (publisher_handlers terms.fixed options) FailedToEstablishConnection)
      (publisher_config (owner_of_factory opened) options) header)
      (why_no_publisher (publisher_config (owner_of_factory opened) options)) (hub_ports (domain_of_factory opened) old.hub) old.hub
      (Some answer) hub
      → ((number : ℕ) → answer ≡ Ok number → DecidesAsChosen choices terms.degrades terms.decides
      (publisher_handlers terms.fixed options) old.made.publishers.next options)
      → IsStepBy terms choices (command.Publisher factory options) old (told_publisher answer old.made)
      (hub_after_call old (having_publisher (domain_of_factory opened) answer old.made) hub)

  -- Creating a subscriber for a publish-subscribe factory with these options is a step, if its handler is made of the action that the
  -- options name.
  abbrev pub SubscriberIsStep : Type 0
  SubscriberIsStep = (factory : ℕ) (opened : Opened) (options : SubscriberOptions) (old : NumberedHub T U B D) (hub : Hub T U B D)
      (answer : Result ℕ SubscriberCreateError)
      → publish_subscribe_in (value_at old.factories.made factory) ≡ Some opened
      → MakesAt (λ after. with_hub_ports (domain_of_factory opened) after old.hub)
      (λ number. with_hub_subscriber (domain_of_factory opened) number (subscriber_handler terms.fixed_reader options))
      (SubscriberComes (terms.reader_degrades (subscriber_handler terms.fixed_reader options) FailedToEstablishConnection)
      (subscriber_config (owner_of_factory opened) options))
      (why_no_subscriber (subscriber_config (owner_of_factory opened) options)) (hub_ports (domain_of_factory opened) old.hub) old.hub
      (Some answer) hub
      → ((number : ℕ) → answer ≡ Ok number → AnswersAsChosen choices terms.reader_degrades
      (subscriber_handler terms.fixed_reader options) old.made.subscribers.next options)
      → IsStepBy terms choices (command.Subscriber factory options) old (told_subscriber answer old.made)
      (hub_after_call old (having_subscriber (domain_of_factory opened) answer old.made) hub)

  -- Closing a factory, whose type depends on the pattern of its service, is a step, and so is handing it back while it is in use.
  abbrev pub CloseIsStep : Type 0 → Type 0
  CloseIsStep F = (number : ℕ) (made : MadeFactory) (factory : F) (old : NumberedHub T U B D) (hub : Hub T U B D)
      (answer : Result (Unit {0}) (CloseError × Option F))
      → value_at old.factories.made number ≡ Some made
      → Closes (parts_of made).0 (parts_of made).1 factory old.hub answer hub
      → IsStepBy terms choices (command.Close number) old (told_closed answer)
      (record old { hub = hub; factories = record { made = factories_then answer number old.factories.made } })
