pub mod Genuine
pub mod Shapes
