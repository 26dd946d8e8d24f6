pub mod Offered
pub mod Picking
pub mod Slots
