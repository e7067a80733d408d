pub mod Store
pub mod Present
pub mod Freeing
pub mod Writes
pub mod Judged
