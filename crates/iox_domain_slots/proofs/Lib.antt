pub mod Full
pub mod Freeing
pub mod Counts
pub mod Loaned
pub mod Moving
pub mod Linking
pub mod Offering
pub mod AllSlots
pub mod Publishing
pub mod Enough
pub mod Borrowing
pub mod Welcoming
pub use Rattle.iox_container.proofs as Container
