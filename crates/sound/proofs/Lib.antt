pub mod Quick
pub mod Documents
pub mod Passes
pub mod Verdict
pub mod Calm
pub mod Checks
pub mod Alone
pub mod Stands
