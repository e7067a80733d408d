pub mod Quick
pub mod Pass
pub mod Looks
pub mod Check
pub mod Survey
