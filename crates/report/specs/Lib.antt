pub mod Words
pub mod Pieces
pub mod Cells
pub mod Outcomes
pub mod Account
pub mod Bill
