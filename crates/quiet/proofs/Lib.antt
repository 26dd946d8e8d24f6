pub mod Sayings
pub mod Growing
pub mod Keeping
pub mod Waking
