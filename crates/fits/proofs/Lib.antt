pub mod Listed
pub mod TableTests
pub mod Lowest
pub mod RowBits
pub mod FitLaws
