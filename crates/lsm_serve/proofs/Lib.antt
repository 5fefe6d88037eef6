pub mod AskingLaws
pub mod ReadingLaws
pub mod TaggingLaws
pub mod MistakeLaws
pub mod Passing
pub mod AnsweringLaws
pub mod ServingLaws
pub mod CourseLaws
