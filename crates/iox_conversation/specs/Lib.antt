-- The definitions that contracts about conversations cite.
pub mod Lines
pub mod Conversation
pub mod Input
pub mod Output
pub mod Ending
