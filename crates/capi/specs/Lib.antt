pub mod Contract
pub mod Ended
