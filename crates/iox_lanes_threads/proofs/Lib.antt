-- The lemmas on opening and ending.
pub mod Lists
pub mod Backing
pub mod Standing
pub mod Giving
pub mod Seating
pub mod Leaving
pub mod BackTogether
pub mod Owning
