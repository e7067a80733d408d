-- What is right, by document 01: read in this order.
pub mod Below
pub mod Rows
pub mod Steps
pub mod Windows
pub mod Moves
pub mod Words
pub mod Sound
pub mod Asks
pub mod Saved
pub mod OldSaved
pub mod Contents
pub mod Places
pub mod Calls
pub mod Runs
