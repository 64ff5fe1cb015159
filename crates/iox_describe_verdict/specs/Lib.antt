-- The definitions that the contracts of requirements use.
pub mod Verdict
pub mod Earliest
pub mod PublishSubscribeClauses
pub mod EventClauses
pub mod RequestResponseClauses
pub mod VerdictLemmas
pub mod PublishSubscribeLaws
pub mod EventLaws
pub mod RequestResponseLaws
pub mod Patterns
pub use Rattle.iox_describe_settings.specs.DescribeBase as DescribeBase
pub use Rattle.iox_describe_settings.specs as DescribeSettings
pub use Rattle.iox_describe_settings.specs.Container as Container
