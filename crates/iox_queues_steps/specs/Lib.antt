-- The definitions that the contracts of steps and schedules use.
pub mod Access
pub mod Schedule
pub mod Order
pub mod Told
pub mod Recorded
pub mod Kept
pub mod Runs
pub mod Ends
pub mod RingMachine
pub mod Machine
pub mod Overflowing
pub mod OverflowingRing
pub mod Refusing
pub mod Moves
pub use Rattle.iox_queues_base.specs as QueuesBase
