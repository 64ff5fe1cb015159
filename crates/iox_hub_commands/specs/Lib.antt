-- The definitions that contracts about commands cite.
pub mod Naming
pub mod Replies
pub mod Arriving
pub mod Lending
pub mod Messages
pub mod Receiving
pub mod Following
pub mod Tables
pub mod Calls
pub mod Numbering
pub mod Loans
pub mod Reading
pub mod Making
pub mod Growing
pub mod Laws
pub mod ServicesTables
pub mod ServicesNumbering
pub mod Asking
pub mod Refusing
pub mod Creating
pub mod Opening
pub mod Either
pub mod OpeningCalls
pub mod Closing
pub mod Foreign
pub mod FactoryLaws
pub mod Asked
pub mod Steps
pub mod Numbers
pub mod Services
pub mod Terms
pub mod CommandSteps
pub mod Runs
pub mod Room
pub mod PortRoom
pub mod RoomLaws
pub mod Lives
pub mod Grown
pub mod Agreements
pub mod AgreementLaws
pub use Rattle.iox_command.specs as Command
pub use Rattle.iox_hub_base.specs as HubBase
pub use Rattle.iox_command.specs.Ports as CommandPorts
pub use Rattle.iox_command.specs.DomainValues as DomainValues
pub use Rattle.iox_delivery.specs.DescribeBase as DescribeBase
pub use Rattle.iox_delivery.specs.DescribeSettings as DescribeSettings
pub use Rattle.iox_delivery.specs.Domain as Domain
pub use Rattle.iox_delivery.specs.DomainPorts as DomainPorts
pub use Rattle.iox_delivery.specs.Container as Container
pub use Rattle.iox_delivery.specs as Delivery
pub use Rattle.iox_negotiate_table.specs.DescribeVerdict as DescribeVerdict
pub use Rattle.iox_command.specs.NegotiateBase as NegotiateBase
