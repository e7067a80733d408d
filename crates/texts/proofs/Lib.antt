pub mod Lines
pub mod Cutting
pub mod Enough
pub mod Alike
pub mod Answering
pub mod Feeding
pub mod Sessions
pub mod Examples
