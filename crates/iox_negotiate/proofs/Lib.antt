pub mod Meeting
mod Moving
pub mod Maps
pub mod Few
pub mod Seats
pub mod Tables
pub mod Rooms
pub mod Lines
pub mod Changes
pub mod Lives
pub mod Held
pub mod Standing
pub mod Stepping
pub mod Quiet
pub mod Ending
pub mod Calling
pub mod Closing
pub mod Rooming
pub mod Careful
mod Numbering
mod Refusing
pub mod CallRooms
mod Building
pub mod Gaining
pub mod Owning
pub mod Counting
pub mod CountingInside
pub mod Agreements
pub use Rattle.iox_negotiate_table.proofs.NegotiateBase as NegotiateBase
