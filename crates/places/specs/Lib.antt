pub mod Places
pub mod Alternatives
