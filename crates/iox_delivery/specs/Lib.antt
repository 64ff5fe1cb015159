pub mod Holding
pub mod KindLaws
pub mod Publishing
pub mod Subscribing
pub mod Lent
pub mod Slices
pub mod Custom
pub use Rattle.iox_domain.specs.Container as Container
pub use Rattle.iox_domain.specs as Domain
pub use Rattle.iox_domain.specs.DomainPorts as DomainPorts
pub use Rattle.iox_domain.specs.DescribeBase as DescribeBase
pub use Rattle.iox_domain.specs.DescribeSettings as DescribeSettings
pub use Rattle.iox_domain.specs.DomainValues as DomainValues
