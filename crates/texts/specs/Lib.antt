pub mod Texts
pub mod Cuts
pub mod Feeds
