-- The definitions that contracts about the ports of a service cite.
pub mod Kept
pub mod Handling
pub mod States
pub mod Domains
pub mod Publishing
pub mod Subscribing
pub mod AsHome
pub mod Homes
pub mod HomesLaws
pub mod HomeLaws
pub mod Parts
pub mod PartsLaws
pub mod Rolls
pub mod Subscribers
pub mod SubscribersLends
pub mod Ports
pub mod PortsPublishing
pub mod PortsSubscribing
pub mod Making
pub mod Lending
pub mod LendingLends
pub mod Putting
pub mod Reading
pub mod Living
pub mod Steps
pub mod AtHomes
pub mod Sizes
pub mod Fitting
pub mod PortSettings
pub mod Laws
pub mod Calls
pub mod PortLawsLaws
pub mod LivingLaws
pub mod LivingSteps
pub mod NumberLaws
pub mod Order
pub mod Gaps
pub mod ServiceLaws
pub mod SizeLaws
pub mod Tries
pub mod Attaching
pub mod Loans
pub mod Roomy
pub mod SampleLaws
pub mod Samples
pub use Rattle.iox_domain_ports.specs.Container as Container
pub use Rattle.iox_describe_base.specs as DescribeBase
pub use Rattle.iox_domain_ports.specs as DomainPorts
pub use Rattle.iox_domain_ports.specs.DomainSlots as DomainSlots
pub use Rattle.iox_domain_ports.specs.DomainValues as DomainValues
pub use Rattle.iox_describe_settings.specs as DescribeSettings
