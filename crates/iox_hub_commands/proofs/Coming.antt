-- A port comes to the domain of the factory that was found, and room may be made before.
use Rattle.std.proofs.Common.{arith, ◌≡◌, ◌∙◌, ℕ, true, Option, None, Some, option_map, ap, sym, subst}
use Rattle.iox_command.specs.declared.port.PublisherOptions.{PublisherOptions}
use Rattle.iox_command.specs.declared.port.SubscriberOptions.{SubscriberOptions}
use Rattle.iox_command.specs.declared.reply.Reply.{Reply}
use Rattle.iox_delivery.specs.Domain.declared.domain_id.DomainId.{DomainId}
use Rattle.iox_command.specs.DomainValues.declared.backpressure.BackpressureAction.{BackpressureAction}
use Rattle.iox_command.specs.DomainValues.declared.backpressure_strategy.BackpressureStrategy.{BackpressureStrategy}
use Rattle.iox_command.specs.DomainValues.declared.degradation.DegradationAction.{DegradationAction}
use Rattle.iox_command.specs.DomainValues.declared.degradation.DegradationCause.{DegradationCause}
use Rattle.iox_command.specs.DomainValues.declared.degradation.DegradationInfo.{DegradationInfo}
use Rattle.iox_command.specs.DomainValues.declared.port_owner.PortOwner.{PortOwner}
use Rattle.iox_hub_base.specs.AsHome.{hub_ports, with_hub_ports, with_hub_publisher, with_hub_subscriber}
use Rattle.iox_hub_base.specs.Opening.{Made as Opened}
use Rattle.iox_hub_commands.specs.Arriving.{PublisherStep, SubscriberStep}
use Rattle.iox_delivery.specs.Domain.declared.ports.making.PublisherConfig.{PublisherConfig}
use Rattle.iox_delivery.specs.Domain.declared.ports.making.SubscriberConfig.{SubscriberConfig}
use Rattle.iox_hub_commands.specs.Making.{NumbersPort, with_publisher, with_subscriber}
use Rattle.iox_hub_commands.specs.Tables.{IsRoomier}
use Rattle.iox_hub_commands.specs.declared.ports.made.Made.{Made}
use Rattle.iox_hub_commands.specs.Naming.{publisher_config, publisher_handlers, subscriber_config, subscriber_handler}
use Rattle.iox_hub_commands.specs.Room.{OnlyRoomier}
use Rattle.iox_hub_commands.specs.Services.{PublisherComes, SubscriberComes, domain_of_factory, owner_of_factory}
use Rattle.iox_hub_commands.specs.declared.numbered_hub.NumberedHub.{NumberedHub}

-- where a factory's ports are, and whose
abbrev place_of : Opened → DomainId × PortOwner
place_of opened = (domain_of_factory opened, owner_of_factory opened)

-- room that is made twice is more room
roomier_twice : (made mid after : Made) → IsRoomier made mid → IsRoomier mid after → IsRoomier made after
roomier_twice made mid after ((p, p_next, p_room), (s, s_next, s_room), (l, l_next, l_room), (m, m_next, m_room))
    ((q, q_next, q_room), (r, r_next, r_room), (k, k_next, k_room), (n, n_next, n_room)) = (
      (q ∙ p, q_next ∙ p_next, omega (arith, p_room, q_room)),
      (r ∙ s, r_next ∙ s_next, omega (arith, s_room, r_room)),
      (k ∙ l, k_next ∙ l_next, omega (arith, l_room, k_room)),
      (n ∙ m, n_next ∙ m_next, omega (arith, m_room, n_room)),
    )

module _ {T U B D : Type 0} where
  -- a publisher that comes once there is more room
  pub publisher_in_room : (is_default : U → Type 0) (degrades : B → DegradationCause → DegradationInfo → DegradationAction → Type 0)
      (domain : DomainId) (config : PublisherConfig) (slots : Option ℕ) (handlers : B) (old mid new : NumberedHub T U B D)
      (answer : Reply T)
      → OnlyRoomier old mid → PublisherStep hub_ports with_hub_ports with_hub_publisher degrades is_default domain config slots handlers
      mid.made mid.hub answer new.made new.hub
      → PublisherStep hub_ports with_hub_ports with_hub_publisher degrades is_default domain config slots handlers old.made old.hub
      answer new.made new.hub
  publisher_in_room is_default degrades domain config slots handlers old mid new answer (first, same)
      (user_header, is_header, came, (roomier, is_roomier, (outcome, comes, numbers)), is) =
      subst (λ home. PublisherStep hub_ports with_hub_ports with_hub_publisher degrades is_default domain config slots handlers old.made
      home answer new.made new.hub) (ap (λ hub. hub.hub) same) (
        user_header,
        is_header,
        came,
        (
          roomier,
          roomier_twice old.made mid.made roomier first is_roomier,
          (outcome, comes, subst (λ next. NumbersPort (with_publisher domain true) next outcome roomier came new.made) first.0.1 numbers),
        ),
        is,
      )

  -- a subscriber
  pub subscriber_in_room : (degrades : D → DegradationCause → DegradationInfo → DegradationAction → Type 0) (domain : DomainId)
      (config : SubscriberConfig) (handler : D) (old mid new : NumberedHub T U B D) (answer : Reply T)
      → OnlyRoomier old mid → SubscriberStep hub_ports with_hub_ports with_hub_subscriber degrades domain config handler mid.made
      mid.hub answer new.made new.hub
      → SubscriberStep hub_ports with_hub_ports with_hub_subscriber degrades domain config handler old.made old.hub answer new.made new.hub
  subscriber_in_room degrades domain config handler old mid new answer (first, same)
      (came, (roomier, is_roomier, (outcome, comes, numbers)), is) =
      subst (λ home. SubscriberStep hub_ports with_hub_ports with_hub_subscriber degrades domain config handler old.made home answer
      new.made new.hub) (ap (λ hub. hub.hub) same) (
        came,
        (
          roomier,
          roomier_twice old.made mid.made roomier first is_roomier,
          (outcome, comes, subst (λ next. NumbersPort (with_subscriber domain) next outcome roomier came new.made) first.1.1 numbers),
        ),
        is,
      )

  pub publisher_comes : (is_default : U → Type 0) (fixed : BackpressureStrategy → Option BackpressureAction → DegradationAction → B)
      (degrades : B → DegradationCause → DegradationInfo → DegradationAction → Type 0) (found : Option Opened)
      (domain : DomainId) (owner : PortOwner) (options : PublisherOptions) (old new : NumberedHub T U B D) (answer : Reply T)
      → option_map place_of found ≡ Some (domain, owner)
      → PublisherStep hub_ports with_hub_ports with_hub_publisher degrades is_default domain (publisher_config owner options)
      options.preallocated_samples (publisher_handlers fixed options) old.made old.hub answer new.made new.hub
      → new.factories ≡ old.factories → PublisherComes is_default fixed degrades found options old answer new
  publisher_comes is_default fixed degrades None domain owner options old new answer is comes same = cc
  publisher_comes is_default fixed degrades (Some opened) domain owner options old new answer is comes same =
      let one : place_of opened ≡ (domain, owner) = cc in (
        subst
            (λ (place : DomainId × PortOwner). PublisherStep hub_ports with_hub_ports with_hub_publisher degrades is_default place.0
            (publisher_config place.1 options) options.preallocated_samples (publisher_handlers fixed options) old.made old.hub
            answer new.made new.hub)
            (sym one) comes,
        same,
      )

  pub subscriber_comes : (fixed : DegradationAction → D)
      (degrades : D → DegradationCause → DegradationInfo → DegradationAction → Type 0) (found : Option Opened) (domain : DomainId)
      (owner : PortOwner) (options : SubscriberOptions)
      (old new : NumberedHub T U B D) (answer : Reply T) → option_map place_of found ≡ Some (domain, owner)
      → SubscriberStep hub_ports with_hub_ports with_hub_subscriber degrades domain (subscriber_config owner options)
      (subscriber_handler fixed options) old.made old.hub answer new.made new.hub
      → new.factories ≡ old.factories → SubscriberComes fixed degrades found options old answer new
  subscriber_comes fixed degrades None domain owner options old new answer is comes same = cc
  subscriber_comes fixed degrades (Some opened) domain owner options old new answer is comes same =
      let one : place_of opened ≡ (domain, owner) = cc in (
        subst (λ (place : DomainId × PortOwner). SubscriberStep hub_ports with_hub_ports with_hub_subscriber degrades place.0
            (subscriber_config place.1 options) (subscriber_handler fixed options) old.made old.hub answer new.made new.hub) (sym one)
            comes,
        same,
      )
