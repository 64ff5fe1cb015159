-- The definitions that contracts about scripts cite.
pub mod Conversation
pub mod Answered
