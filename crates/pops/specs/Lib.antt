pub mod Takes
pub mod Before
pub mod Runs
