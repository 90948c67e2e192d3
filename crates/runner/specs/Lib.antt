pub mod OutputRules
pub mod RunRules
