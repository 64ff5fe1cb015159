pub mod CompatibleLemmas
pub mod ArrayNames
