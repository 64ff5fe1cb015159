-- The definitions that the contracts of a service's settings use.
pub mod Versions
pub mod Setting
pub mod PublishSubscribeSettings
pub mod EventSettings
pub mod RequestResponseSettings
pub mod Agreement
pub mod SameAgreement
pub use Rattle.iox_describe_base.specs as DescribeBase
pub use Rattle.iox_describe_base.specs.Container as Container
pub use Rattle.iox_describe_base.proofs.CompatibleLemmas as CompatibleLemmas
