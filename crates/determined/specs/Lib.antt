-- That each public call's promise determines its answer and lent words.
pub mod Determined
