pub mod Bills
pub mod Chunks
pub mod Lists
pub mod LastWords
pub mod Readings
