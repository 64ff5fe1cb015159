pub mod Counting
pub mod Doing
pub mod RoundLengths
mod RoundCounts
pub use Rattle.iox_describe.proofs as Describe
