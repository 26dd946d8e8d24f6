pub mod Contracted
pub mod Calling
pub mod CheckedCall
pub mod CheckCalling
pub mod Enough
