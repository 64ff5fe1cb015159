pub mod Beginning
pub mod Seats
pub mod Told
pub mod Limits
pub mod Acting
pub mod Acted
mod Looking
mod Preceding
mod Seeing
mod Locking
mod Attempting
pub mod Refusing
mod Creating
pub mod CreateCalls
pub mod Meanwhile
pub mod OwnSeats
mod Registering
mod Rounds
mod Opening
mod Either
pub mod OpenCalls
pub mod Closing
mod Factories
