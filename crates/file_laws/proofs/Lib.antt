pub mod Decodes
pub mod PostZero
pub mod Passing
