pub mod Stacks
pub mod Machine
pub mod Acts
pub mod Run
pub mod State
pub mod Takes
