pub mod Choices
pub mod Numbers
pub mod Opcodes
pub mod Ranges
pub mod Instructions
