pub mod Shorthands
pub mod Rest
pub mod LineLemmas
pub mod WholeLineLemmas
pub mod Advancing
