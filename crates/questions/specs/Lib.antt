pub mod Answers
pub mod Kinds
pub mod Questions
