-- The definitions that contracts of commands with handlers cite.
pub mod Places
pub mod Steps
pub mod Taking
pub mod Room
pub mod RunLaws
pub mod Turns
pub mod HandledAnswers
pub mod HandledLaws
pub mod HandledGoing
pub mod Recorded
pub mod RecordedCalls
pub mod RecordedNames
pub mod RecordedLaws
pub mod Recording
-- The definitions that contracts of re-exported names cite, by their crates.
pub use Rattle.iox_hub_commands.specs.Delivery as Delivery
pub use Rattle.iox_delivery_factories.specs as DeliveryFactories
pub use Rattle.iox_hub_commands.specs.DescribeBase as DescribeBase
pub use Rattle.iox_hub_commands.specs.DescribeSettings as DescribeSettings
pub use Rattle.iox_hub_commands.specs.Domain as Domain
pub use Rattle.iox_hub_commands.specs.DomainPorts as DomainPorts
pub use Rattle.iox_hub_commands.specs.DomainValues as DomainValues
pub use Rattle.iox_hub_commands.specs.HubBase as HubBase
pub use Rattle.iox_machine.specs as Machine
pub use Rattle.iox_negotiate.specs as Negotiate
pub use Rattle.iox_hub_commands.specs.NegotiateBase as NegotiateBase
pub use Rattle.iox_queues_base.specs as QueuesBase
