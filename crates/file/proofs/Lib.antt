pub mod Numbers
pub mod Firsts
pub mod Ascending
pub mod Tags
pub mod Cuts
pub mod Accepted
pub mod Limits
