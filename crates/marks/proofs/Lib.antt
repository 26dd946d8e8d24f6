pub mod Needing
pub mod Marking
