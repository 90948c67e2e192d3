pub mod LearnedLaws
pub mod ExpiryLaws
pub mod SlotLaws
pub mod DiscoveryLaws
