-- What the commands that create ports do.
use Rattle.std.specs.Prelude.{ℕ, ◌≡◌, Bool, true, Option, None, Some, Result}
use Rattle.std.specs.Option.{unwrap_or}
use Rattle.iox_command.specs.declared.reply.Reply.{Reply}
use Rattle.iox_delivery.specs.Domain.AtHomes.{MakesAt}
use Rattle.iox_delivery.specs.Domain.Making.{refuses_publisher, refuses_subscriber}
use Rattle.iox_delivery.specs.Domain.Steps.{PublisherComes, SubscriberComes, why_no_publisher, why_no_subscriber}
use Rattle.iox_delivery.specs.Domain.declared.domain_id.DomainId.{DomainId}
use Rattle.iox_delivery.specs.Domain.declared.ports.making.PublisherConfig.{PublisherConfig}
use Rattle.iox_delivery.specs.Domain.declared.ports.making.SubscriberConfig.{SubscriberConfig}
use Rattle.iox_delivery.specs.Domain.declared.ports.service_ports.ServicePorts.{ServicePorts}
use Rattle.iox_command.specs.DomainValues.declared.create_error.PublisherCreateError.{PublisherCreateError}
use Rattle.iox_command.specs.DomainValues.declared.create_error.SubscriberCreateError.{SubscriberCreateError}
use Rattle.iox_command.specs.DomainValues.declared.degradation.DegradationAction.{DegradationAction}
use Rattle.iox_command.specs.DomainValues.declared.degradation.DegradationCause.{DegradationCause}
use Rattle.iox_command.specs.DomainValues.declared.degradation.DegradationCause.TheVariants.{FailedToEstablishConnection}
use Rattle.iox_command.specs.DomainValues.declared.degradation.DegradationInfo.{DegradationInfo}
use Rattle.iox_hub_commands.specs.Making.{MakesRoomFirst, with_publisher, with_subscriber}
use Rattle.iox_hub_commands.specs.declared.ports.made.Made.{Made}
use Rattle.iox_hub_commands.specs.Replies.{publisher_reply, subscriber_reply}

-- A publisher of slices is created in a domain, with this configuration and these handlers, and gets the next number. It has the named
-- number of slots, or as many as it needs in the worst case if none is named. A loan starts with a default user header.
abbrev pub PublisherStep : {T U H B : Type 0} → (DomainId → H → Option (ServicePorts T U)) → (DomainId → ServicePorts T U → H → H)
    → (DomainId → ℕ → B → H → H) → (B → DegradationCause → DegradationInfo → DegradationAction → Type 0) → (U → Type 0) → DomainId
    → PublisherConfig → Option ℕ → B → Made → H → Reply T → Made → H → Type 0
PublisherStep {T} {U} ports_of with_ports keeping degrades is_default domain config slots handlers made old answer made_after new =
    (user_header : U) × is_default user_header × (came : Option (Result ℕ PublisherCreateError))
    × MakesRoomFirst (MakesAt (λ after. with_ports domain after old) (λ number. keeping domain number handlers)
    (PublisherComes (λ worst_case named. named ≡ unwrap_or slots worst_case) (degrades handlers FailedToEstablishConnection) config
    user_header) (why_no_publisher config) (ports_of domain old)) (with_publisher domain true) made.publishers.next made old came
    made_after new
    × (answer ≡ publisher_reply came)

-- Whether a publisher with this configuration isn't created however much memory there is: it is refused, or its domain isn't there.
abbrev pub no_publisher_comes : {T U : Type 0} → PublisherConfig → Option (ServicePorts T U) → Bool
no_publisher_comes config None = true
no_publisher_comes config (Some ports) = refuses_publisher config ports

-- Whether a subscriber with this configuration isn't created however much memory there is: it is refused, or its domain isn't there.
abbrev pub no_subscriber_comes : {T U : Type 0} → SubscriberConfig → Option (ServicePorts T U) → Bool
no_subscriber_comes config None = true
no_subscriber_comes config (Some ports) = refuses_subscriber config.buffer_size ports

-- A subscriber is created in a domain, with this configuration and this handler, and gets the next number.
abbrev pub SubscriberStep : {T U H D : Type 0} → (DomainId → H → Option (ServicePorts T U)) → (DomainId → ServicePorts T U → H → H)
    → (DomainId → ℕ → D → H → H) → (D → DegradationCause → DegradationInfo → DegradationAction → Type 0) → DomainId → SubscriberConfig
    → D → Made → H → Reply T → Made → H → Type 0
SubscriberStep ports_of with_ports keeping degrades domain config handler made old answer made_after new =
    (came : Option (Result ℕ SubscriberCreateError))
    × MakesRoomFirst (MakesAt (λ after. with_ports domain after old) (λ number. keeping domain number handler)
    (SubscriberComes (degrades handler FailedToEstablishConnection) config) (why_no_subscriber config) (ports_of domain old))
    (with_subscriber domain) made.subscribers.next made old came made_after new
    × (answer ≡ subscriber_reply came)
