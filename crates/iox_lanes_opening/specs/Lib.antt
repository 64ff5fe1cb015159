-- The definitions that the contracts of refusing and restoring a domain cite.
pub mod Texts
pub mod Listed
pub mod UpToDate
pub mod Deciding
pub mod Lingering
pub mod Slices
pub mod Sequences
pub mod Soundness
pub mod SharedSlots
pub mod Refusals
pub mod EachAsked
pub mod Middles
pub mod Leaving
pub mod Clearing
pub mod Restoring
pub mod Restored
pub use Rattle.iox_domain_ports.specs as DomainPorts
