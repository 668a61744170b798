pub mod Tests
pub mod Lists
pub mod Clean
pub mod Cells
pub mod Stands
pub mod Hosts
pub mod Entrances
