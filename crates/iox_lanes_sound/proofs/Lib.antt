-- The proofs of the laws on sound ports, and on what their lanes have.
pub mod Sound
mod Having
mod Routes
mod Current
mod Joints
mod Lanes
mod Sequences
mod Waiting
mod Unfollowing
mod Untying
mod StrayLists
mod StrayCalls
mod Strays
mod Kept
mod KeptUpdates
mod KeptLists
mod KeptReading
mod KeptCalls
mod Unrefused
mod AgreedLimits
