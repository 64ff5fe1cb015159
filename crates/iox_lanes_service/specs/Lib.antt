-- The definitions that the theorems on lanes and services of the machine cite.
pub mod Naming
pub mod Ports
pub mod Standing
pub mod Laws
pub mod NewLanes
pub mod TurnLaws
pub mod InTurn
pub mod Turning
