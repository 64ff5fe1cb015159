pub mod Elements
pub mod Factories
pub use Rattle.iox_domain.specs.DescribeBase as DescribeBase
pub use Rattle.iox_domain.specs.DescribeSettings as DescribeSettings
pub use Rattle.iox_domain.specs as Domain
pub use Rattle.iox_delivery.specs as Delivery
