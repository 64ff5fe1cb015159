-- The definitions that contracts about shared words cite.
pub mod Words
pub mod Numbers
pub mod Table
pub mod Answers
pub mod Publishing
pub mod Routes
pub mod Subscribing
pub use Rattle.iox_queues_steps.specs as QueuesSteps
