pub mod Asked
pub mod Factory
pub mod Laws
pub mod Negotiation
pub mod Types
pub mod Histories
pub mod Lives
pub mod Factories
pub mod Calls
pub mod Closing
pub mod Rooms
pub mod Built
pub mod Refused
pub mod Counts
pub mod Agreements
pub use Rattle.iox_negotiate_base.specs as NegotiateBase
pub use Rattle.iox_negotiate_table.specs.Describe as Describe
pub use Rattle.iox_negotiate_table.specs as NegotiateTable
