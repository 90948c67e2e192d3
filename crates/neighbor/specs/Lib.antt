pub mod Answers
pub mod NeighborRules
pub mod Ranks
pub mod CacheCalls
pub mod Distinct
pub mod Eviction
pub mod Scans
pub mod NeverRefused
