pub mod Sizing
pub mod Filling
