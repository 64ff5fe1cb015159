-- The definitions that the contracts of ports in threads cite.
pub mod Ends
pub mod Ports
pub mod Known
pub mod Values
pub mod Courses
pub mod Strides
pub mod RingCalls
pub mod SlotParts
pub mod Pace
pub mod Paces
pub mod GivenBack
pub mod Counts
pub use Rattle.iox_lanes_threads_rule.specs as LanesThreadsRule
pub mod ReadLaw
pub mod OneValue
pub mod Holding
pub mod OtherLoans
