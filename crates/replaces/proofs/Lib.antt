pub mod Judges
pub mod Gaps
pub mod Named
