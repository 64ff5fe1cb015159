pub mod Arrived
mod Refused
mod Reserved
mod GrowingFor
pub mod Misfit
pub mod Answering
pub mod Written
mod Put
mod Skipping
mod Released
mod Loaned
mod Uncreated
pub mod Ruled
pub mod FirstLook
pub mod Unused
pub mod Found
pub mod Accesses
mod Formed
pub mod Coming
pub mod GoingOn
pub mod FactoryChanges
pub mod MadeChanges
pub mod StepChanges
pub mod Loosening
pub mod Agreeing
pub mod Grown
pub mod PortsMove
pub mod ServicesGo
pub mod ServicesMove
pub mod ServicesAgree
pub mod StepMoves
pub mod RunLemmas
pub mod Rooms
pub mod AsAgreed
pub mod OneAgreement
pub mod Measures
pub mod PortsCount
pub mod LoanMeasure
mod LoansFreed
pub mod SampleMeasure
pub mod StepKeeps
pub mod PortRooms
mod Sequences
pub use Rattle.iox_container.proofs as Container
