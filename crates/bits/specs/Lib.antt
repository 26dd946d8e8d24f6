pub mod Ones
pub mod Words
