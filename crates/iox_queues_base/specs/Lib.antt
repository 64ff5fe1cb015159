-- The definitions that the contracts of sequential queues and bit sets use.
pub mod Waiting
pub mod Bits
pub mod Coding
pub mod Each
pub mod Scalars
