pub mod Length
pub mod Plain
pub mod Adding
pub mod Trees
pub mod ReadBack
pub mod JsonValuesLength
