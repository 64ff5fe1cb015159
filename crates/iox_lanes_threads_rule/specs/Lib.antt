-- The definitions that contracts about threads cite.
pub mod Service
pub mod Rule
pub mod Steps
pub mod Lanes
pub mod Acts
pub mod Slots
pub mod Gathered
pub mod Seats
pub mod Again
