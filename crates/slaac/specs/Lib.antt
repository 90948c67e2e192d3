pub mod Fields
pub mod LearnedRules
pub mod Slots
pub mod ExpiryRules
pub mod DiscoveryRules
