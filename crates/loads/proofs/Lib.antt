pub mod Laying
pub mod Placing
pub mod Judging
