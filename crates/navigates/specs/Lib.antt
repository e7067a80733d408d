pub mod Answers
pub mod Packing
pub mod Sides
