pub mod Earliest
pub mod EventAsked
pub mod PublishSubscribeAsked
pub mod RequestResponseAsked
