pub mod Nans
pub mod Signs
pub mod Rems
pub mod Posts
pub mod OneNan
pub mod Fractions
pub mod Whole
pub mod WholeLaws
