pub mod Modulo
pub mod Parts
pub mod Packing
pub mod Values
pub mod Cases
