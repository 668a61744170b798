pub mod Decoding
pub mod Deciding
pub mod Computed
pub mod AsBefore
