pub mod Places
pub mod Texts
pub mod Flagging
pub mod Ways
pub mod Among
