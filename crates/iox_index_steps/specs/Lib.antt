-- The definitions that the contracts of index sets by steps use.
pub mod Steps
pub mod Changes
pub mod Told
pub mod Machine
pub mod OfCalls
pub mod Kept
pub mod State
pub mod AtomicSteps
pub mod AtomicTold
pub mod AtomicMachine
pub mod AtomicKept
pub mod AtomicView
