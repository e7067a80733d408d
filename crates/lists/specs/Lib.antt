pub mod Answers
pub mod Listing
pub mod Tallies
