pub mod Numbers
pub mod Arithmetic
pub mod Whole
pub mod OneNan
