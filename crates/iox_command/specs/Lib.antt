-- The definitions that contracts about commands and replies cite.
pub mod Patterns
pub mod Held
pub mod RefusalText
pub mod Ports
pub use Rattle.iox_negotiate_base.specs.DescribeBase as DescribeBase
pub use Rattle.iox_domain_values.specs as DomainValues
pub use Rattle.iox_negotiate_base.specs as NegotiateBase
