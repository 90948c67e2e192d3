pub mod PrintedLaws
pub mod CardLaws
pub mod ReadingLaws
pub mod StepLaws
