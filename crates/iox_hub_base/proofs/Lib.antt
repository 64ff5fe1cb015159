pub mod Own
pub mod Takings
pub mod Same
pub mod Lawful
mod Placed
mod Searched
mod Counted
mod BoxedIn
mod Lacking
pub mod Negotiated
pub mod SameTable
pub mod Settled
mod Held
