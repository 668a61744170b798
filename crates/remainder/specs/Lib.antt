pub mod Remainder
pub mod Units
