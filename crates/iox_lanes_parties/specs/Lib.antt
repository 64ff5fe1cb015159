-- The definitions that contracts about publishers and subscribers with their calls cite.
pub mod Sequences
pub mod Parties
pub mod Within
pub mod Keeping
pub mod PublisherKeeping
pub mod UseCounts
pub mod Publishers
pub mod SendAnswers
pub mod Values
pub mod FewWords
pub use Rattle.iox_lanes_base.specs as LanesBase
pub use Rattle.iox_lanes_base.specs.QueuesSteps as QueuesSteps
