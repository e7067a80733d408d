pub mod Linking
pub mod Order
pub mod Looking
pub mod Writing
