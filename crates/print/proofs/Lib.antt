pub mod Pages
pub mod Digits
pub mod Places
pub mod Nine
pub mod Forms
pub mod Known
