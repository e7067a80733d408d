pub mod Frames
pub mod Judges
