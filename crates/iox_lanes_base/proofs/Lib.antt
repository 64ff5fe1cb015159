-- The lemmas on shared words.
pub mod Rounds
pub mod Numbering
pub use Rattle.iox_queues_steps.proofs as QueuesSteps
