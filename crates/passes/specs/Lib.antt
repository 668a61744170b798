pub mod Whole
pub mod Passes
pub mod Answers
pub mod RunFive
pub mod Claims
