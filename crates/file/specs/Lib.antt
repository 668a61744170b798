pub mod Fields
pub mod Numbers
pub mod Records
pub mod Refusals
pub mod Limits
