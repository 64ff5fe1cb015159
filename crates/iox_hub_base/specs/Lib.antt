-- The definitions that contracts of a hub's calls cite.
pub mod Numbered
pub mod Texts
pub mod Agreeing
pub mod Open
pub mod Lends
pub mod ServicesOpening
pub mod Taking
pub mod ServicesAsHome
pub mod HomeLaws
pub mod Room
pub mod Laws
pub mod Hubs
pub mod Opening
pub mod FirstLook
pub mod OfPattern
pub mod Untouched
pub mod Closing
pub mod Foreign
pub mod AsHome
pub mod Builders
pub use Rattle.iox_delivery_factories.specs.DescribeBase as DescribeBase
pub use Rattle.iox_delivery_factories.specs.DescribeSettings as DescribeSettings
pub use Rattle.iox_negotiate.specs as Negotiate
pub use Rattle.iox_delivery_factories.specs.Domain as Domain
