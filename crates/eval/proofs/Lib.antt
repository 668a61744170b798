pub mod Stacks
pub mod Takes
pub mod Steps
pub mod Histories
pub mod Temps
pub mod Floats
