pub mod Records
pub mod AsBefore
pub mod Counted
pub mod SetOut
