-- The lemmas on publishers and subscribers with their calls.
pub mod Rings
mod UseCounts
pub mod PublishersWithin
pub mod SubscribersWithin
pub use Rattle.iox_lanes_base.proofs as LanesBase
pub use Rattle.iox_lanes_base.proofs.QueuesSteps as QueuesSteps
