pub mod Stored
pub mod OneNan
pub mod Hosts
pub mod Entrances
