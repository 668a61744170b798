pub mod Laws
pub mod AsItWas
pub mod Codes
pub mod SetOut
