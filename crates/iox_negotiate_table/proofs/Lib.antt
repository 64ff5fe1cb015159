pub mod Entries
pub mod Found
pub mod Opening
pub mod Owned
mod Shown
pub mod Staying
pub use Rattle.iox_negotiate_base.proofs.Describe as Describe
pub use Rattle.iox_negotiate_base.proofs as NegotiateBase
