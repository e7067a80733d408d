-- `determined`: each public call's promise determines its answer and lent words.
pub mod Injective
pub mod Shifts
pub mod Determined
