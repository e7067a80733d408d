-- What the demands say, in the customer's words and the paper's; `proofs` has each as a theorem. Read in this order.
pub mod Record
pub mod Windows
pub mod Standing
pub mod Past
pub mod Refuses
pub mod Hides
pub mod Links
pub mod Saving
pub mod Contents
pub mod Model
pub mod Follows
pub mod Note
pub mod Fundamental
pub mod Readings
pub mod Places
