-- The definitions that the contracts of opening and ending cite.
pub mod Opening
pub mod Ports
pub mod Threads
pub mod Standing
pub mod Room
pub mod Ending
