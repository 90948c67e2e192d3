pub mod ReadyLaws
pub mod LoopLaws
pub mod Late
pub mod Accounts
pub mod Story
