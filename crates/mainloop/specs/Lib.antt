pub mod LoopRules
pub mod Late
pub mod Accounts
pub mod Story
