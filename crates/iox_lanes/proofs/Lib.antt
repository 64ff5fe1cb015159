-- Lemmas on publishers that forget their messages.
mod Laying
mod Listing
mod Following
mod PortsLeft
mod Numbers
mod JoinedLanes
mod Joint
mod Joins
pub mod Sound
mod Apart
mod Booked
mod Histories
mod Linked
mod Orders
mod Readers
mod Holds
mod Found
mod Behind
mod Alone
mod Built
mod Exact
mod Moving
mod Each
mod Settling
mod Saying
mod Wording
mod Placing
mod Whole
mod LaidPublishers
mod Ordered
mod Sizing
mod Counting
mod Failing
pub mod Presence
mod Rows
pub mod Tied
pub mod Forgetting
pub mod Missing
pub mod HeldByNone
pub mod Abandoned
pub mod ReadWhole
mod Owning
