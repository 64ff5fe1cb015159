pub mod DrawingLemmas
pub mod FrameLemmas
pub mod GatewayLemmas
pub mod OnlyLemmas
pub mod PictureLemmas
pub mod RecordLemmas
pub mod ReplayLemmas
pub mod TraceLemmas
