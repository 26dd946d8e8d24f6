pub mod Answers
pub mod Constants
pub mod Letters
pub mod Parts
pub mod Returns
