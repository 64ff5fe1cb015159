-- Lemmas on what lanes leave.
mod Listing
mod Going
mod Slicing
pub mod Again
pub mod SlotWords
pub mod Losing
pub mod Left
pub mod Waits
pub mod Returning
pub mod Remembering
pub mod Filling
mod Marking
