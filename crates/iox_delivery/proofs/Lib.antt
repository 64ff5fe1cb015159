pub mod Ready
pub mod Lent
pub mod Ending
pub mod Filled
pub use Rattle.iox_domain.proofs.Container as Container
pub use Rattle.iox_domain.proofs as Domain
