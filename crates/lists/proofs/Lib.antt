pub mod Alone
pub mod Among
pub mod Tallies
pub mod Answered
pub mod Listing
