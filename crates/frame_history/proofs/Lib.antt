pub mod Bounds
pub mod Faces
