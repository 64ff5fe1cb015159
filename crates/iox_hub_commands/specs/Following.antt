-- What the commands that update ports, look for data and close ports do.
use Rattle.std.specs.Prelude.{ℕ, ◌≡◌, Bool, Option, Result}
use Rattle.iox_command.specs.declared.port.PortNumber.{PortNumber}
use Rattle.iox_command.specs.declared.port.PortNumber.TheVariants as port
use Rattle.iox_command.specs.declared.reply.Reply.{Reply}
use Rattle.iox_delivery.specs.Domain.declared.domain_id.DomainId.{DomainId}
use Rattle.iox_delivery.specs.Domain.declared.ports.service_ports.ServicePorts.{ServicePorts}
use Rattle.iox_command.specs.DomainValues.declared.connection_failure.ConnectionFailure.{ConnectionFailure}
use Rattle.iox_command.specs.DomainValues.declared.degradation.DegradationAction.{DegradationAction}
use Rattle.iox_command.specs.DomainValues.declared.degradation.DegradationInfo.{DegradationInfo}
use Rattle.iox_hub_commands.specs.Calls.{AtPort, AtPortIf, Follows, PublisherGoes, FollowsPublishers, Tells, SubscriberGoes}
use Rattle.iox_hub_commands.specs.Numbering.{removed_if}
use Rattle.iox_hub_commands.specs.Tables.{port_under, without_publisher, without_subscriber}
use Rattle.iox_hub_commands.specs.declared.ports.made.Made.{Made}
use Rattle.iox_delivery.specs.Container.NumberTable.{value_at}
use Rattle.iox_hub_commands.specs.Replies.{updated_reply, has_reply, done_reply}

-- A publisher or a subscriber updates its connections.
abbrev pub UpdateStep : {T U H : Type 0} → (DomainId → H → Option (ServicePorts T U)) → (DomainId → ServicePorts T U → H → H)
    → (DomainId → ℕ → H → DegradationInfo → DegradationAction → Type 0)
    → (DomainId → ℕ → H → DegradationInfo → DegradationAction → Type 0) → PortNumber → Made → H → Reply T → H → Type 0
UpdateStep ports_of with_ports degrades subscriber_degrades (port.Publisher number) made old answer new =
    (outcome : Option (Result (Unit {0}) ConnectionFailure))
    × AtPort (Follows ports_of with_ports degrades) (port_under (value_at made.publishers number)) old outcome new
    × (answer ≡ updated_reply outcome)
UpdateStep ports_of with_ports degrades subscriber_degrades (port.Subscriber number) made old answer new =
    (outcome : Option (Result (Unit {0}) ConnectionFailure))
    × AtPort (FollowsPublishers ports_of with_ports subscriber_degrades) (value_at made.subscribers number) old outcome new
    × (answer ≡ updated_reply outcome)

-- The reply says whether some connection of the subscriber has data.
abbrev pub HasStep : {T U H : Type 0} → (DomainId → H → Option (ServicePorts T U)) → (DomainId → ServicePorts T U → H → H)
    → (DomainId → ℕ → H → DegradationInfo → DegradationAction → Type 0) → ℕ → Made → H → Reply T → H → Type 0
HasStep ports_of with_ports degrades subscriber made old answer new =
    (outcome : Option (Result Bool ConnectionFailure))
    × AtPort (Tells ports_of with_ports degrades) (value_at made.subscribers subscriber) old outcome new
    × (answer ≡ has_reply outcome)

-- A publisher or a subscriber is closed, and its number names nothing any longer.
abbrev pub LeaveStep : {T U H : Type 0} → (DomainId → H → Option (ServicePorts T U)) → (DomainId → ServicePorts T U → H → H)
    → (DomainId → ℕ → H → H) → (DomainId → ℕ → H → H) → PortNumber → Made → H → Reply T → Made → H → Type 0
LeaveStep ports_of with_ports without without_reader (port.Publisher number) made old answer made_after new =
    (done : Bool) × AtPortIf (PublisherGoes ports_of with_ports without) (port_under (value_at made.publishers number)) old done new
    × (made_after ≡ removed_if done (without_publisher number) made) × (answer ≡ done_reply done)
LeaveStep ports_of with_ports without without_reader (port.Subscriber number) made old answer made_after new =
    (done : Bool) × AtPortIf (SubscriberGoes ports_of with_ports without_reader) (value_at made.subscribers number) old done new
    × (made_after ≡ removed_if done (without_subscriber number) made) × (answer ≡ done_reply done)
