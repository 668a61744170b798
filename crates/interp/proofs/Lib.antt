pub mod Laws
pub mod Arms
pub mod Turns
pub mod Settle
