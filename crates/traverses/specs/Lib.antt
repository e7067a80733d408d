pub mod Answers
pub mod Goals
pub mod Places
pub mod Texts
