pub mod ExpiryLaws
pub mod LookLaws
pub mod ProbeLaws
pub mod SweepLaws
pub mod Entries
