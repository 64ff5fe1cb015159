-- The definitions that contracts about lanes cite.
pub mod Links
pub mod Rings
pub mod World
pub mod Kept
pub mod Apart
pub mod State
pub mod Made
pub mod Mailboxes
pub mod Resting
pub mod Receipts
pub mod Calls
pub mod Sends
pub mod Slots
pub mod Fixed
pub mod Told
pub mod Returns
pub mod Uses
pub mod Owned
pub mod Alone
pub mod Held
pub mod Left
pub mod WholeReads
pub mod Reads
pub mod Arrivals
pub mod Rooms
pub mod Loans
pub mod Paces
pub mod FullLoans
pub mod Opening
pub mod PermittedLoans
pub mod Queues
pub mod Fresh
pub mod Findings
pub mod TakenIn
pub mod LedgerUses
pub mod Stored
pub mod Sending
pub mod Borrowing
pub mod LedgerRooms
pub mod Pace
pub mod Together
pub use Rattle.iox_lanes_parties.specs.LanesBase as LanesBase
pub use Rattle.iox_lanes_parties.specs as LanesParties
pub use Rattle.iox_lanes_parties.specs.QueuesSteps as QueuesSteps
