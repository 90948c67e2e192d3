pub mod PrintedRules
pub mod CardRules
pub mod ReadingRules
pub mod StepRules
