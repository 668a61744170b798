pub mod Page
pub mod Texts
pub mod Decimal
pub mod Status
pub mod Words
pub mod Known
