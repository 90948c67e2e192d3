pub mod TimeRules
pub mod ClockRules
pub mod Forward
