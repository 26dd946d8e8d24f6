pub mod Parts
pub mod Ascending
pub mod TwoBytes
pub mod Buffers
