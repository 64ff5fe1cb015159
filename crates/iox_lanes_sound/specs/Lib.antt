-- The definitions that the theorems on sound ports, and on what their lanes have, cite.
pub mod Standing
pub mod Having
pub mod Lanes
pub mod Sequences
pub mod Strays
pub mod Keeping
pub mod AgreedLimits
