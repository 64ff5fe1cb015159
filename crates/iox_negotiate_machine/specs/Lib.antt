pub mod Standing
pub mod Laws
pub mod LookLaws
pub mod CallLaws
pub mod CloseLaws
pub mod FactoryLaws
