pub mod Waiting
pub mod Uses
pub mod Counting
pub mod Loans
pub mod Links
pub use Rattle.iox_container.specs as Container
pub mod Borrowed
