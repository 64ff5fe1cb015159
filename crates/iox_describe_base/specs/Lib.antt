-- The definitions that the contracts of names, types and attributes use.
pub mod Limits
pub mod Detail
pub mod Compatible
pub mod Hash
pub mod Few
pub mod Attributes
pub mod SameAttributes
pub use Rattle.iox_container.specs as Container
