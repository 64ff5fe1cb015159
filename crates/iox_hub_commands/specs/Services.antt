-- What the commands on nodes and services do to a numbered hub.
use Rattle.std.specs.Prelude.{ℕ, ◌≡◌, List, Option, None, Some, Result}
use Rattle.iox_command.specs.declared.port.PublisherOptions.{PublisherOptions}
use Rattle.iox_command.specs.declared.port.SubscriberOptions.{SubscriberOptions}
use Rattle.iox_command.specs.declared.refusal.HubError.{HubError}
use Rattle.iox_command.specs.declared.refusal.Refusal.{Refusal}
use Rattle.iox_command.specs.declared.reply.Reply.{Reply}
use Rattle.iox_command.specs.declared.reply.Reply.TheVariants as reply
use Rattle.iox_command.specs.declared.step.ForeignStep.{ForeignStep}
use Rattle.iox_command.specs.declared.step.StepBefore.{StepBefore}
use Rattle.iox_delivery.specs.DescribeBase.Attributes.{Required}
use Rattle.iox_delivery.specs.DescribeBase.Detail.{Detail}
use Rattle.iox_delivery.specs.DescribeBase.declared.attribute.Attribute.{Attribute}
use Rattle.iox_delivery.specs.DescribeBase.declared.message_type.MessageTypeDetails.{MessageTypeDetails}
use Rattle.iox_delivery.specs.DescribeBase.declared.pattern.MessagingPattern.{MessagingPattern}
use Rattle.iox_delivery.specs.Domain.declared.domain_id.DomainId.{DomainId}
use Rattle.iox_command.specs.DomainValues.declared.backpressure.BackpressureAction.{BackpressureAction}
use Rattle.iox_command.specs.DomainValues.declared.backpressure_strategy.BackpressureStrategy.{BackpressureStrategy}
use Rattle.iox_command.specs.DomainValues.declared.degradation.DegradationAction.{DegradationAction}
use Rattle.iox_command.specs.DomainValues.declared.degradation.DegradationCause.{DegradationCause}
use Rattle.iox_command.specs.DomainValues.declared.degradation.DegradationInfo.{DegradationInfo}
use Rattle.iox_command.specs.DomainValues.declared.port_owner.PortOwner.{PortOwner}
use Rattle.iox_hub_base.specs.AsHome.{hub_ports, with_hub_ports, with_hub_publisher, with_hub_subscriber}
use Rattle.iox_hub_base.specs.Hubs.{is_node, one_more}
use Rattle.iox_hub_base.specs.Opening.{Made as Opened}
use Rattle.iox_hub_commands.specs.Arriving.{PublisherStep, SubscriberStep}
use Rattle.iox_hub_commands.specs.Naming.{publisher_config, publisher_handlers, subscriber_config, subscriber_handler}
use Rattle.iox_hub_commands.specs.Replies.{factory_reply, foreign_reply, closed_reply}
use Rattle.iox_hub_commands.specs.Closing.{ClosesNumbered}
use Rattle.iox_hub_commands.specs.Creating.{CreatesNumbered}
use Rattle.iox_hub_commands.specs.Either.{EitherNumbered}
use Rattle.iox_hub_commands.specs.Foreign.{ActsNamed}
use Rattle.iox_hub_commands.specs.Opening.{OpensNumbered}
use Rattle.iox_hub_commands.specs.ServicesTables.{publish_subscribe_in}
use Rattle.iox_hub_commands.specs.declared.services.asked.ServiceAsked.{ServiceAsked}
use Rattle.iox_negotiate.specs.NegotiateBase.declared.errors.close.CloseError.{CloseError}
use Rattle.iox_delivery.specs.Container.NumberTable.{value_at}
use Rattle.iox_hub_commands.specs.declared.numbered_hub.NumberedHub.{NumberedHub}

-- The id of the domain of the factory's service.
abbrev pub domain_of_factory : Opened → DomainId
domain_of_factory (member, owner) = record { hub = member.storage; service = member.service.number }

-- The owner of the factory's ports.
abbrev pub owner_of_factory : Opened → PortOwner
owner_of_factory (member, owner) = record { number = owner; node_id = member.node }

module _ {T U B D : Type 0} where
  -- A node is made.
  abbrev pub NodeMakes : NumberedHub T U B D → Reply T → NumberedHub T U B D → Type 0
  NodeMakes old answer new =
      (answer ≡ reply.NodeMade (one_more old.hub.nodes)) × (new ≡ record old { hub = record old.hub { nodes = one_more old.hub.nodes } })

  -- A service is created, and its factory gets the next number.
  abbrev pub Creates : Detail → Detail → MessageTypeDetails → ServiceAsked → List Attribute → List StepBefore → NumberedHub T U B D
      → Reply T → NumberedHub T U B D → Type 0
  Creates payload user_header types asked attributes steps old answer new =
      (made : Option (Result ℕ Refusal))
      × CreatesNumbered (is_node asked.node old.hub.nodes) payload user_header types asked attributes steps old.factories.made old.hub
      made new.factories.made new.hub
      × (new.made ≡ old.made) × (answer ≡ factory_reply made)

  -- A service is opened, and its factory gets the next number.
  abbrev pub Opens : Detail → Detail → MessageTypeDetails → ServiceAsked → Required → List StepBefore → NumberedHub T U B D → Reply T
      → NumberedHub T U B D → Type 0
  Opens payload user_header types asked attributes steps old answer new =
      (made : Option (Result ℕ Refusal))
      × OpensNumbered (is_node asked.node old.hub.nodes) payload user_header types asked attributes steps old.factories.made old.hub
      made new.factories.made new.hub
      × (new.made ≡ old.made) × (answer ≡ factory_reply made)

  -- A service is opened, or created if it doesn't exist, and its factory gets the next number.
  abbrev pub OpensOrCreates : Detail → Detail → MessageTypeDetails → ServiceAsked → Required → List StepBefore → NumberedHub T U B D
      → Reply T → NumberedHub T U B D → Type 0
  OpensOrCreates payload user_header types asked attributes steps old answer new =
      (made : Option (Result ℕ Refusal))
      × EitherNumbered (is_node asked.node old.hub.nodes) payload user_header types asked attributes steps old.factories.made old.hub
      made new.factories.made new.hub
      × (new.made ≡ old.made) × (answer ≡ factory_reply made)

  -- Other nodes do actions on a service.
  abbrev pub Acts : MessagingPattern → List ℕ → MessageTypeDetails → List ForeignStep → NumberedHub T U B D → Reply T
      → NumberedHub T U B D → Type 0
  Acts pattern name types steps old answer new =
      (acted : Result (Unit {0}) HubError) × ActsNamed pattern name types steps old.hub acted new.hub
      × (new ≡ record old { hub = new.hub }) × (answer ≡ foreign_reply acted)

  -- A factory is closed.
  abbrev pub Closes : ℕ → NumberedHub T U B D → Reply T → NumberedHub T U B D → Type 0
  Closes factory old answer new =
      (closed : Option (Result (Unit {0}) CloseError))
      × ClosesNumbered factory (value_at old.factories.made factory) old.factories.made old.hub closed new.factories.made new.hub
      × (new.made ≡ old.made) × (answer ≡ closed_reply closed)

  -- A publisher is created in a domain, with what is named and with these handlers.
  abbrev pub PublisherArrives : (U → Type 0) → (B → DegradationCause → DegradationInfo → DegradationAction → Type 0) → DomainId
      → PortOwner → PublisherOptions → B → NumberedHub T U B D → Reply T → NumberedHub T U B D → Type 0
  PublisherArrives is_default degrades domain owner options handlers old answer new =
      PublisherStep hub_ports with_hub_ports with_hub_publisher degrades is_default domain (publisher_config owner options)
      options.preallocated_samples handlers old.made old.hub answer new.made new.hub
      × (new.factories ≡ old.factories)

  -- A publisher is created for the service of a factory, if the service is publish-subscribe.
  abbrev pub PublisherComes : (U → Type 0) → (BackpressureStrategy → Option BackpressureAction → DegradationAction → B)
      → (B → DegradationCause → DegradationInfo → DegradationAction → Type 0)
      → Option Opened → PublisherOptions → NumberedHub T U B D → Reply T → NumberedHub T U B D → Type 0
  PublisherComes is_default fixed degrades None options old answer new = (answer ≡ reply.Skipped) × (new ≡ old)
  PublisherComes is_default fixed degrades (Some opened) options old answer new =
      PublisherArrives is_default degrades (domain_of_factory opened) (owner_of_factory opened) options
      (publisher_handlers fixed options) old answer new

  -- A publisher is created for the service of the factory with this number.
  abbrev pub MakesPublisher : (U → Type 0) → (BackpressureStrategy → Option BackpressureAction → DegradationAction → B)
      → (B → DegradationCause → DegradationInfo → DegradationAction → Type 0)
      → ℕ → PublisherOptions → NumberedHub T U B D → Reply T → NumberedHub T U B D → Type 0
  MakesPublisher is_default fixed degrades factory options old answer new
      = PublisherComes is_default fixed degrades (publish_subscribe_in (value_at old.factories.made factory)) options old answer new

  -- A subscriber is created in a domain, with what is named and with this handler.
  abbrev pub SubscriberArrives : (D → DegradationCause → DegradationInfo → DegradationAction → Type 0) → DomainId → PortOwner
      → SubscriberOptions → D → NumberedHub T U B D → Reply T → NumberedHub T U B D → Type 0
  SubscriberArrives degrades domain owner options handler old answer new =
      SubscriberStep hub_ports with_hub_ports with_hub_subscriber degrades domain (subscriber_config owner options) handler old.made
      old.hub answer new.made new.hub
      × (new.factories ≡ old.factories)

  -- A subscriber is created for the service of a factory, if the service is publish-subscribe.
  abbrev pub SubscriberComes : (DegradationAction → D) → (D → DegradationCause → DegradationInfo → DegradationAction → Type 0)
      → Option Opened → SubscriberOptions → NumberedHub T U B D → Reply T → NumberedHub T U B D → Type 0
  SubscriberComes fixed degrades None options old answer new = (answer ≡ reply.Skipped) × (new ≡ old)
  SubscriberComes fixed degrades (Some opened) options old answer new =
      SubscriberArrives degrades (domain_of_factory opened) (owner_of_factory opened) options (subscriber_handler fixed options) old
      answer new

  -- A subscriber is created for the service of the factory with this number.
  abbrev pub MakesSubscriber : (DegradationAction → D) → (D → DegradationCause → DegradationInfo → DegradationAction → Type 0) → ℕ
      → SubscriberOptions → NumberedHub T U B D → Reply T → NumberedHub T U B D → Type 0
  MakesSubscriber fixed degrades factory options old answer new
      = SubscriberComes fixed degrades (publish_subscribe_in (value_at old.factories.made factory)) options old answer new
