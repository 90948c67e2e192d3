pub mod Answers
pub mod AdvertRules
pub mod SyncRules
pub mod PollRules
pub mod OffRules
pub mod Distinct
