pub mod Within
pub mod Found
pub mod Under
pub mod Nexts
