pub mod Heads
pub mod Taken
pub mod Stands
pub mod Windowed
pub mod Returned
pub mod Among
pub mod Ranges
