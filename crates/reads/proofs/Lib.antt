pub mod Scans
pub mod Nexts
pub mod Climbs
