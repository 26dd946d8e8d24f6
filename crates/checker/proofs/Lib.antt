pub mod Pairs
pub mod Holding
pub mod Lowest
pub mod Agreeing
