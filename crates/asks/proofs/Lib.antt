pub mod Climbs
pub mod Answered
pub mod Judged
