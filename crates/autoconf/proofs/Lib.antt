pub mod SyncLaws
pub mod PollLaws
pub mod AdvertLaws
pub mod OffLaws
pub mod Distinct
