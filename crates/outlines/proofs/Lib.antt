pub mod Stores
pub mod Nexts
pub mod Shown
pub mod Roots
pub mod Ways
