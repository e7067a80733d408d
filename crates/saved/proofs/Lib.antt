pub mod Reading
pub mod Rising
pub mod Lengths
pub mod Sketching
pub mod Parts
pub mod Saves
pub mod Walking
