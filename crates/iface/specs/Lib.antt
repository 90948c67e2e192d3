pub mod Answers
pub mod AddressRules
pub mod RouteRules
pub mod Distinct
