pub mod Alone
pub mod Outlines
pub mod Writes
pub mod Loading
